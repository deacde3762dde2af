-- A net that lots are added to or taken from.
use Rattle.std.specs.Prelude.{◌≡◌, ℕ, ◌+◌, ◌≤◌, ℤ, pos, nat_abs, ◌+ℤ◌, ◌-ℤ◌}
use Rattle.rules.specs.Measures.{most_lots, due_of, owed_of}

-- neither is above 20,000,000
pub record Small (n : ℤ) (x : ℕ) : Type 0 where
  pub net : nat_abs n ≤ most_lots
  pub lots : x ≤ most_lots

-- r is n less x lots, as a signed number and by what is due and owed
pub record Lowered (n : ℤ) (x : ℕ) (r : ℤ) : Type 0 where
  pub value : r ≡ n -ℤ pos x
  pub parts : due_of r + owed_of n + x ≡ due_of n + owed_of r

-- r is n and x lots
pub record Raised (n : ℤ) (x : ℕ) (r : ℤ) : Type 0 where
  pub value : r ≡ n +ℤ pos x
  pub parts : due_of r + owed_of n ≡ due_of n + owed_of r + x
