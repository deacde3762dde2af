-- Numbers of a list marked off, a window of them at a time: a bit for each number.
use Rattle.std.specs.Prelude.{◌≡◌, Bool, true, false, List, ℕ, zero, suc, ◌+◌, ◌-◌, ◌/◌, ◌%◌, ◌≤◌, ◌<◌, length, get_or}
use Rattle.reports.specs.Trust.{same, times}

-- bit b of a word, 1 or 0, from the lowest on
abbrev pub bit_of : ℕ → ℕ → ℕ
bit_of x zero = x % 2
bit_of x (suc b) = bit_of (x / 2) b

-- the mark of the d-th number of a window, 64 to a word
unfoldable pub mark_of : List ℕ → ℕ → ℕ
mark_of marks d = bit_of (get_or marks (d / 64) 0) (d % 64)

-- no number has a mark
pub record Unmarked (marks : List ℕ) : Type 0 where
  pub free : (d : ℕ) → mark_of marks d ≡ 0

-- the number j put to the window that starts at w: it is new, and has its mark if it lies there; or it has one already
pub record Marked (w j : ℕ) (marks after : List ℕ) (new : Bool) : Type 0 where
  pub places : length after ≡ length marks
  pub once : new ≡ true → (d : ℕ) → d / 64 < length marks → mark_of after d ≡ mark_of marks d + same (w + d) j
  pub again : new ≡ false → (w ≤ j) × ((j - w) / 64 < length marks) × (mark_of marks (j - w) ≡ 1)

-- is no number of the window, of so many words from w on, in the list twice?
pub record NoneTwice (w words : ℕ) (draw : List ℕ) (answer : Bool) : Type 0 where
  pub none : answer ≡ true → (d : ℕ) → d / 64 < words → times (w + d) draw ≤ 1
  pub some : answer ≡ false → ((k : ℕ) → times k draw ≤ 1) → ⊥
