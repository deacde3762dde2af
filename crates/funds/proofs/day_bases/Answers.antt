-- The questions, then the bases in a cleared output.
use Rattle.std.proofs.Common.{◌≡◌, sym, ap, ◌∙◌, true, le-leb}
use borrow.Author.Tests.{lt-leb}
use Rattle.contributions.specs.Funds.{participants_right, cleared, answered}
use Rattle.laws.proofs.Basics.{and_both}
use Rattle.laws.proofs.Scans.{and_false}
use Rattle.funds.proofs.Answers.{few_of, small_of, bases_refused, bases_done}
use Rattle.funds.proofs.day_bases.Goals as goal

pub returns-then-not-participants_right : goal.returns-then-not-participants_right
returns-then-not-participants_right c =
    let a = c.args in
    bases_refused a.averages.now a.tenths a.out.now (rw (sym c.participants_right.ensures ∙ c.if-not-participants_right.true))

pub returns-then-tenths-gt-MOST_AMOUNT : goal.returns-then-tenths-gt-MOST_AMOUNT
returns-then-tenths-gt-MOST_AMOUNT c =
    let a = c.args in
    bases_refused a.averages.now a.tenths a.out.now (simp (lt-leb _ _ c.if-tenths-gt-MOST_AMOUNT.true, and_false))

pub bases_of-requires : goal.bases_of-requires
bases_of-requires c =
    let a = c.args in
    let right : participants_right a.averages.now ≡ true = sym c.participants_right.ensures ∙ c.if-not-participants_right.false in
    record { small = small_of a.averages.now right; factor = c.if-tenths-gt-MOST_AMOUNT.false; room = few_of a.averages.now right }

pub returns : goal.returns
unfolding cleared
returns c =
    let a = c.args in
    let right : participants_right a.averages.now ≡ true = sym c.participants_right.ensures ∙ c.if-not-participants_right.false in
    ap (answered 0) c.bases_of.ensures
    ∙ bases_done a.averages.now a.tenths a.out.now (and_both _ _ right (le-leb _ _ c.if-tenths-gt-MOST_AMOUNT.false))
