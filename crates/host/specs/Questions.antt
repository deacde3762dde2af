-- The questions on a host's book, in plain numbers: of numbers and columns that can be a book's what the rules answer, of
-- any others the refusal by 2.
use Rattle.std.specs.Prelude.{◌≡◌, cond, List, [], ◌∷◌, ℕ}
use Rattle.rules.specs.declared.Book.{Book}
use Rattle.rules.specs.Calls.{UnitAnswer, one_unit, no_unit, unit_refused, unit}
use Rattle.told.specs.Status.{StatusAnswer, is_handed, waits_for, fails_partly, fails_wholly, status_refused, status}
use Rattle.desks.specs.Simulation.{Tried, refused, simulation}
use Rattle.host.specs.States.{holds, sound_at}

-- 1 sound, 0 not
abbrev pub sound_number : ℕ → Book → ℕ
sound_number phase b = cond (sound_at phase b) 1 0

-- The unit question

abbrev pub day_unit : ℕ → Book → ℕ → ℕ → UnitAnswer
day_unit phase b i k = cond (holds phase b) (unit b i k) (unit_refused 2)

-- its number, and 1, account, lots; or 0 throughout where there is no unit
abbrev pub unit_number : UnitAnswer → ℕ
unit_number (one_unit a x) = 0
unit_number no_unit = 0
unit_number (unit_refused r) = r

abbrev pub unit_words : UnitAnswer → List ℕ
unit_words (one_unit a x) = 1 ∷ a ∷ x ∷ []
unit_words no_unit = 0 ∷ 0 ∷ 0 ∷ []
unit_words (unit_refused r) = 0 ∷ 0 ∷ 0 ∷ []

pub record UnitIs (d : UnitAnswer) (number : ℕ) (answer : List ℕ) : Type 0 where
  pub refusal : number ≡ unit_number d
  pub words : answer ≡ unit_words d

-- Why a unit has not come

abbrev pub day_status : ℕ → Book → ℕ → ℕ → StatusAnswer
day_status phase b i k = cond (holds phase b) (status b i k) (status_refused 2)

-- its number; and the case and its lots: 1 handed, 2 waiting, 3 partly failed, 4 wholly failed, none on a refusal
abbrev pub status_number : StatusAnswer → ℕ
status_number is_handed = 0
status_number (waits_for n) = 0
status_number (fails_partly x) = 0
status_number fails_wholly = 0
status_number (status_refused r) = r

abbrev pub status_words : StatusAnswer → List ℕ
status_words is_handed = 1 ∷ 0 ∷ []
status_words (waits_for n) = 2 ∷ n ∷ []
status_words (fails_partly x) = 3 ∷ x ∷ []
status_words fails_wholly = 4 ∷ 0 ∷ []
status_words (status_refused r) = 0 ∷ 0 ∷ []

pub record StatusIs (d : StatusAnswer) (number : ℕ) (answer : List ℕ) : Type 0 where
  pub refusal : number ≡ status_number d
  pub words : answer ≡ status_words d

-- A simulated desk

abbrev pub day_simulation : ℕ → Book → List ℕ → List ℕ → ℕ → Tried
day_simulation phase b settles inventories size = cond (holds phase b) (simulation b settles inventories size) (refused 2)
