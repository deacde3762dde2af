-- Question 24 in its parts; then the bases, question 25 and the shares.
use Rattle.std.proofs.Common.{◌≡◌, length, sym, ◌∙◌, true, le-leb}
use borrow.Author.Tests.{lt-leb}
use Rattle.contributions.specs.Funds.{participants_right}
use Rattle.laws.proofs.Basics.{and_both}
use Rattle.laws.proofs.Scans.{and_false}
use Rattle.apportioning.proofs.Lists.{first_places}
use Rattle.funds.proofs.Answers.{few_of, small_of, funds_refused, funds_asked}
use Rattle.funds.proofs.day_funds.Goals as goal

pub returns-then-not-participants_right : goal.returns-then-not-participants_right
returns-then-not-participants_right c =
    let a = c.args in
    funds_refused a.averages.now a.tenths a.funds a.out.now (rw (sym c.participants_right.ensures ∙ c.if-not-participants_right.true))

pub returns-then-tenths-gt-MOST_AMOUNT : goal.returns-then-tenths-gt-MOST_AMOUNT
returns-then-tenths-gt-MOST_AMOUNT c =
    let a = c.args in
    funds_refused a.averages.now a.tenths a.funds a.out.now (simp (lt-leb _ _ c.if-tenths-gt-MOST_AMOUNT.true, and_false))

pub returns-then-funds-gt-MOST_AMOUNT : goal.returns-then-funds-gt-MOST_AMOUNT
returns-then-funds-gt-MOST_AMOUNT c =
    let a = c.args in
    funds_refused a.averages.now a.tenths a.funds a.out.now (simp (lt-leb _ _ c.if-funds-gt-MOST_AMOUNT.true, and_false))

pub slice_bounds-cover_from-end : goal.slice_bounds-cover_from-end
slice_bounds-cover_from-end c =
    let right : participants_right c.args.averages.now ≡ true = sym c.participants_right.ensures ∙ c.if-not-participants_right.false in
    first_places _ 64 (few_of c.args.averages.now right)

pub cover_from-requires : goal.cover_from-requires
cover_from-requires c =
    let a = c.args in
    let right : participants_right a.averages.now ≡ true = sym c.participants_right.ensures ∙ c.if-not-participants_right.false in
    record {
      few = few_of a.averages.now right;
      small = small_of a.averages.now right;
      factor = c.if-tenths-gt-MOST_AMOUNT.false;
      places = sym (first_places (length a.averages.now) 64 (few_of a.averages.now right));
    }

pub returns : goal.returns
returns c =
    let a = c.args in
    let right : participants_right a.averages.now ≡ true = sym c.participants_right.ensures ∙ c.if-not-participants_right.false in
    c.cover_from.ensures
    ∙ funds_asked a.averages.now a.tenths a.funds a.out.now
    (and_both _ _ (and_both _ _ right (le-leb _ _ c.if-tenths-gt-MOST_AMOUNT.false)) (le-leb _ _ c.if-funds-gt-MOST_AMOUNT.false))
