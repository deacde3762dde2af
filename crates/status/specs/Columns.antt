-- What is told of a unit, from the columns of a sound book.
use Rattle.std.specs.Prelude.{◌≡◌, Bool, List, [], ◌∷◌, ℕ, ◌≤◌, ◌<◌, length, ℤ}
use Rattle.rules.specs.declared.Phase.{Phase}
use Rattle.rules.specs.Units.{AccountLots, sum_lots}
use Rattle.rules.specs.Book.{delivered_total, order_in}
use Rattle.rules.specs.Questions.{first_no}
use Rattle.runs.specs.Runs.{units_of_words}
use Rattle.told.specs.Status.{StatusAnswer, reason, ask_unit, status_asks, status_answer}

-- words that stand for units whose lots fit a word
pub record CanTell (runs : List ℕ) : Type 0 where
  pub few : length runs ≤ 144
  pub small : sum_lots (units_of_words runs) < 4294967296

-- question 16 of unit k, and the reason
unfoldable pub reason_at : Phase → List AccountLots → ℕ → ℕ → StatusAnswer
reason_at phase us d k = status_answer (first_no (ask_unit us k ∷ [])) (reason phase us d k)

-- the questions after soundness, and the reason, in the new order or the old
unfoldable pub status_of : Bool → Phase → List ℤ → List ℕ → List ℕ → ℕ → ℕ → StatusAnswer
status_of new phase nets delivered lifts i k =
    status_answer (first_no (status_asks phase (order_in new nets lifts) i k))
    (reason phase (order_in new nets lifts i) (delivered_total delivered i) k)

-- what is told is the same in both, since it goes by lots alone
abbrev pub InEither : (Bool → StatusAnswer) → StatusAnswer → Type 0
InEither f s = (new : Bool) → s ≡ f new
