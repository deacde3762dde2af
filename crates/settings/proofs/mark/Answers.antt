-- With no 'no' the mark is set in the state.
use Rattle.std.proofs.Common.{refl, sym}
use Rattle.std.proofs.lemmas.Result.{err_from_is_err_and}
use Rattle.rules.specs.Book.{ledger_of}
use Rattle.rules.specs.Calls.{Mark}
use Rattle.laws.proofs.Sound.{sound_parts}
use Rattle.answers.specs.Turns.{within_use}
use Rattle.answers.proofs.Turning.{turn_no, turn_yes}
use Rattle.settings.proofs.Asking.{markable}
use Rattle.settings.proofs.Turned.{marked_on}
use Rattle.settings.proofs.mark.Goals as goal

pub mark_asks-requires : goal.mark_asks-requires
mark_asks-requires c =
    let b = within_use c.args.s c.args.nets.now c.args.issues.now c.requires.2.rest in
    ((sound_parts b c.requires.2.sound).ledger.count, c.requires.0, c.requires.1)

pub returns-in_err-mark_asks : goal.returns-in_err-mark_asks
returns-in_err-mark_asks c out b q =
    let a = c.args in
    let p = err_from_is_err_and c.from_residual.result c.from_residual.ensures.1 in
    rw (p.1, p.2)
    (turn_no (within_use a.s a.nets.now a.issues.now b) (Mark a.i a.m) out refl q _ (c.in_err-mark_asks.ensures b.froms b.tos b.lots b.days))

pub mark_in-requires : goal.mark_in-requires
mark_in-requires c =
    let b = within_use c.args.s c.args.nets.now c.args.issues.now c.requires.2.rest in
    markable b.nets (ledger_of b) c.args.i (sym (c.in_ok-mark_asks.ensures b.froms b.tos b.lots b.days))

pub returns : goal.returns
returns c out b q =
    let a = c.args in
    rw c.done.ensures
    (turn_yes (within_use a.s a.nets.now a.issues.now b) (Mark a.i a.m) out refl q 0 0 _ _ _
    (c.in_ok-mark_asks.ensures b.froms b.tos b.lots b.days)
    (marked_on a.s _ a.nets.now a.issues.now _ a.i a.m b out c.with_marks-next.ensures c.mark_in.ensures))
