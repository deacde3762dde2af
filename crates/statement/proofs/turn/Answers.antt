-- The account's net and delivered lots are read before the answer; what is added by them is what the turn adds.
use Rattle.std.proofs.Common.{rules}
use mir.Syntax.{w32}
use mir.ValLaws.{to_z-of_z}
use Rattle.rules.specs.Book.{net_at}
use Rattle.columns.specs.Books.{lent_book}
use Rattle.spans.proofs.Cuts.{owed_most}
use Rattle.statement.proofs.Counted.{ready_stands, stepped}
use Rattle.statement.proofs.turn.Goals as goal

pub added-statement-requires : goal.added-statement-requires
added-statement-requires c =
    let a = c.args in
    let b = lent_book a.s a.columns.now in
    let s = ready_stands a.s a.columns.now a.out.now c.requires.1 in
    let bits = to_z-of_z w32 (net_at a.columns.now.nets.now a.issue a.account) (search rules) in
    (c.requires.3, rw bits (owed_most b s a.issue a.account))

pub returns-clause-done : goal.returns-clause-done
returns-clause-done c =
    let a = c.args in
    let b = lent_book a.s a.columns.now in
    let s = ready_stands a.s a.columns.now a.out.now c.requires.1 in
    let bits = to_z-of_z w32 (net_at a.columns.now.nets.now a.issue a.account) (search rules) in
    rw c.state_after-state.ensures
    (stepped a.words.now a.x a.issue a.account a.c b s c.requires.2 c.answer-answer.result _ _ bits _
    c.added-statement.ensures.0 c.added-statement.ensures.1 c.answer-answer.ensures.done)
