-- What the functions of this crate may count on, and what they leave.
use Rattle.std.specs.Prelude.{◌≡◌, true, List, [], ◌∷◌, ℕ, ◌≤◌, leb, length, replicate}
use Rattle.rules.specs.Measures.{sum}
use Rattle.rules.specs.Book.{all}
use Rattle.rules.specs.Questions.{first_no}
use Rattle.contributions.specs.Funds.{most_participants, most_amount, shares_of, ask_covered, FundsAnswer, funds_answer}

-- the funds within the bases, nothing given yet, and a place for each participant
pub record CanGive (averages bases order given out : List ℕ) (funds : ℕ) : Type 0 where
  pub columns : length bases ≡ length averages
  pub covered : funds ≤ sum bases
  pub places : length order ≡ length averages
  pub none : given ≡ replicate (length averages) 0
  pub room : length averages ≤ length out

-- participants that question 24 lets pass
pub record CanShare (averages bases : List ℕ) : Type 0 where
  pub few : length averages ≤ most_participants
  pub columns : length bases ≡ length averages

-- the same with a factor, and a place for each base
pub record CanCover (averages : List ℕ) (tenths : ℕ) (out : List ℕ) : Type 0 where
  pub few : length averages ≤ most_participants
  pub small : all (λ a. leb a most_amount) averages ≡ true
  pub factor : tenths ≤ most_amount
  pub places : length out ≡ length averages

-- what question 25 alone leaves to answer
unfoldable pub covered_answer : List ℕ → List ℕ → ℕ → List ℕ → FundsAnswer
covered_answer averages bases funds out = funds_answer (first_no (ask_covered bases funds ∷ [])) (shares_of averages bases funds) out
