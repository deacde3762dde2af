-- The answers, by the questions: a 'no' changes nothing, and else the amounts stand by number in a cleared output.
use mathlib.Core.Path.{◌≡◌}
use mathlib.Core.Bool.{true, false, ◌&&◌}
use mathlib.Core.List.{List}
use Prim.Native.Nat.{ℕ, ◌≤◌, ◌<◌}
use lib.Dec.{leb, eqb}
use lib.ListN.{length}
use borrow.Author.Tests.{le-leb, lt-leb, leb-true}
use Rattle.rules.specs.Measures.{sum}
use Rattle.rules.specs.Book.{all}
use Rattle.rules.specs.Records.{over}
use Rattle.laws.proofs.Basics.{and_left, and_right}
use Rattle.contributions.specs.Bases.{bases_of}
use Rattle.contributions.specs.Funds.{most_participants, most_amount, participants_right, shares_of, cleared, answered, bases, shares, funds}
use Rattle.funds.specs.Steps.{covered_answer}

module _ (averages : List ℕ) (tenths : ℕ) (out : List ℕ) where
  pub bases_refused : participants_right averages && leb tenths most_amount ≡ false → answered 24 out ≡ bases averages tenths out
  unfolding bases
  bases_refused e = rw e

  pub bases_done : participants_right averages && leb tenths most_amount ≡ true →
      answered 0 (over (bases_of averages tenths) cleared) ≡ bases averages tenths out
  unfolding bases
  bases_done e = rw e

-- where question 24 is answered yes, question 25 is left
module _ (averages given : List ℕ) (amount : ℕ) (out : List ℕ) where
  pub uncovered_refused : sum given < amount → answered 25 out ≡ covered_answer averages given amount out
  unfolding covered_answer
  uncovered_refused h = rw (lt-leb amount (sum given) h)

  pub covered_done : amount ≤ sum given → answered 0 (over (shares_of averages given amount) cleared) ≡ covered_answer averages given amount out
  unfolding covered_answer
  covered_done h = rw (le-leb amount (sum given) h)

  pub shares_refused : participants_right averages && eqb (length given) (length averages) && leb amount most_amount ≡ false →
      answered 24 out ≡ shares averages given amount out
  unfolding shares
  shares_refused e = rw e

  pub shares_asked : participants_right averages && eqb (length given) (length averages) && leb amount most_amount ≡ true →
      covered_answer averages given amount out ≡ shares averages given amount out
  unfolding shares covered_answer
  shares_asked e = rw e

module _ (averages : List ℕ) (tenths amount : ℕ) (out : List ℕ) where
  pub funds_refused : participants_right averages && leb tenths most_amount && leb amount most_amount ≡ false →
      answered 24 out ≡ funds averages tenths amount out
  unfolding funds
  funds_refused e = rw e

  pub funds_asked : participants_right averages && leb tenths most_amount && leb amount most_amount ≡ true →
      covered_answer averages (bases_of averages tenths) amount out ≡ funds averages tenths amount out
  unfolding funds covered_answer
  funds_asked e = rw e

-- what question 24 says of the participants
pub few_of : (averages : List ℕ) → participants_right averages ≡ true → length averages ≤ most_participants
few_of averages e = leb-true _ _ (and_left (leb (length averages) most_participants) (all (λ a. leb a most_amount) averages) e)

pub small_of : (averages : List ℕ) → participants_right averages ≡ true → all (λ a. leb a most_amount) averages ≡ true
small_of averages e = and_right (leb (length averages) most_participants) (all (λ a. leb a most_amount) averages) e
