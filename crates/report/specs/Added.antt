-- Text in a lent buffer.
use Rattle.std.specs.Prelude.{◌≡◌, List, ◌++◌, ℕ, ◌+◌, ◌≤◌, length, take}

-- bytes, no more than `most`, put behind the first `at` of a text; `end` is behind them
pub record Added (most : ℕ) (text text' : List ℕ) (at end : ℕ) (bytes : List ℕ) : Type 0 where
  pub few : end ≤ at + most
  pub ends : end ≡ at + length bytes
  pub front : take end text' ≡ take at text ++ bytes
