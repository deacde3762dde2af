-- Question 24 in its parts; then question 25 and the shares.
use Rattle.std.proofs.Common.{◌≡◌, sym, ◌∙◌, true, eq-eqb, ne_eqb, le-leb}
use borrow.Author.Tests.{lt-leb}
use Rattle.contributions.specs.Funds.{participants_right}
use Rattle.laws.proofs.Basics.{and_both}
use Rattle.laws.proofs.Scans.{and_false}
use Rattle.funds.proofs.Answers.{few_of, shares_refused, shares_asked}
use Rattle.funds.proofs.day_shares.Goals as goal

pub returns-then-not-participants_right : goal.returns-then-not-participants_right
returns-then-not-participants_right c =
    let a = c.args in
    shares_refused a.averages.now a.bases.now a.funds a.out.now (rw (sym c.participants_right.ensures ∙ c.if-not-participants_right.true))

pub returns-then-bases-averages : goal.returns-then-bases-averages
returns-then-bases-averages c =
    let a = c.args in
    shares_refused a.averages.now a.bases.now a.funds a.out.now (simp (ne_eqb _ _ c.if-bases-averages.true, and_false))

pub returns-then-funds-gt-MOST_AMOUNT : goal.returns-then-funds-gt-MOST_AMOUNT
returns-then-funds-gt-MOST_AMOUNT c =
    let a = c.args in
    shares_refused a.averages.now a.bases.now a.funds a.out.now (simp (lt-leb _ _ c.if-funds-gt-MOST_AMOUNT.true, and_false))

pub cover-requires : goal.cover-requires
cover-requires c =
    let a = c.args in
    let right : participants_right a.averages.now ≡ true = sym c.participants_right.ensures ∙ c.if-not-participants_right.false in
    record { few = few_of a.averages.now right; columns = c.if-bases-averages.false }

pub returns : goal.returns
returns c =
    let a = c.args in
    let right : participants_right a.averages.now ≡ true = sym c.participants_right.ensures ∙ c.if-not-participants_right.false in
    c.cover.ensures
    ∙ shares_asked a.averages.now a.bases.now a.funds a.out.now
    (and_both _ _ (and_both _ _ right (eq-eqb _ _ c.if-bases-averages.false)) (le-leb _ _ c.if-funds-gt-MOST_AMOUNT.false))
