-- What a sound book gives of its nets, delivered lots and lifts.
use Rattle.std.specs.Prelude.{◌≡◌, true, false, List, ℕ, ◌≤◌, ◌<◌, length, ℤ}
use Rattle.rules.specs.Measures.{Every, most_lots}
use Rattle.rules.specs.Lifts.{Among}
use Rattle.rules.specs.Book.{all, row, within_size, balanced, within_owed, lift_number, count_at, lifts_at, order_in}

-- nets in bounds, and no more delivered than owed
pub record OwedCells (nets : List ℤ) (delivered : List ℕ) : Type 0 where
  pub cells : length nets ≡ 1024
  pub both : length delivered ≡ 1024
  pub size : all (within_size most_lots) nets ≡ true
  pub owed : within_owed nets delivered ≡ true

-- of a whole sound book
pub record SoundCells (nets : List ℤ) (delivered lifts : List ℕ) : Type 0 where
  pub cells : length nets ≡ 1024
  pub both : length delivered ≡ 1024
  pub lifted : length lifts ≡ 288
  -- each net lies in −20,000,000..20,000,000
  pub size : all (within_size most_lots) nets ≡ true
  -- each issue's nets sum to 0
  pub balance : (i : ℕ) → i < 16 → balanced (row i nets) ≡ true
  -- delivered lots are at most what is owed
  pub owed : within_owed nets delivered ≡ true
  -- each issue has at most eight lifts, at places of its units
  pub few : (i : ℕ) → i < 16 → lift_number lifts i ≤ 8
  pub places : (i : ℕ) → i < 16 → Every (Among (length (order_in false nets lifts i))) (lifts_at lifts i)
  -- one more delivery or lift can be counted
  pub counted : (i : ℕ) → i < 16 → count_at lifts i < 4294967295
