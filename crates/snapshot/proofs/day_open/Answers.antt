-- The lengths first, and then what opening answers.
use Rattle.std.proofs.Common.{sym, ap, refl, ◌∙◌}
use Rattle.rules.specs.Book.{fresh}
use Rattle.columns.specs.Books.{lent_book}
use Rattle.host.specs.States.{numbers_of, lengths_right}
use Rattle.host.proofs.Holding.{lengths_right_lem}
use Rattle.snapshot.proofs.Hosts.{wrong, right}
use Rattle.snapshot.proofs.day_open.Goals as goal

pub returns-then-not-lengths_right : goal.returns-then-not-lengths_right
returns-then-not-lengths_right c =
    let lent = lent_book fresh.state c.args.columns.now in
    let told = sym (c.lengths_right.ensures fresh.state ∙ ap lengths_right (c.shared.ensures fresh.state)) ∙ c.if-not-lengths_right.true in
    rw c.refused.ensures (record { opened = wrong c.args.words.now lent fresh.state (numbers_of fresh.state) refl refl told; same = record { nets = refl; delivered = refl; lifts = refl; charges = refl; issues = refl; froms = refl; tos = refl; lots = refl; days = refl } })

pub open-requires : goal.open-requires
open-requires c =
    lengths_right_lem (lent_book fresh.state c.args.columns.now)
    (sym (c.lengths_right.ensures fresh.state ∙ ap lengths_right (c.shared.ensures fresh.state)) ∙ c.if-not-lengths_right.false)

pub returns-in-Ok : goal.returns-in-Ok
returns-in-Ok c =
    let lent = lent_book fresh.state c.args.columns.now in
    let told = sym (c.lengths_right.ensures fresh.state ∙ ap lengths_right (c.shared.ensures fresh.state)) ∙ c.if-not-lengths_right.false in
    record {
      opened = right c.args.words.now lent 0 (lent_book c.in-Ok.s c.open.new.columns) _ c.numbers_of.ensures told c.in-Ok.ensures.opens;
      same = c.in-Ok.ensures.same;
    }

pub returns-in-Err : goal.returns-in-Err
returns-in-Err c =
    let lent = lent_book fresh.state c.args.columns.now in
    let told = sym (c.lengths_right.ensures fresh.state ∙ ap lengths_right (c.shared.ensures fresh.state)) ∙ c.if-not-lengths_right.false in
    rw c.refused-in-Err.ensures
    (record {
      opened = right c.args.words.now lent _ (lent_book fresh.state c.open.new.columns) (numbers_of fresh.state) refl told c.in-Err.ensures.opens;
      same = c.in-Err.ensures.same;
    })
