-- Signed equations from equations in natural numbers, through what is due and what is owed.
use mathlib.Core.Path.{◌≡◌}
use mathlib.Core.List.{List}
use Prim.Native.Nat.{ℕ, ◌+◌}
use native.Mathlib.Omega.{arith}
use lib.IntN.{ℤ, pos, ◌+ℤ◌, ◌-ℤ◌}
use Rattle.rules.specs.Measures.{total, due_of, owed_of}
use Rattle.rules.specs.Tally.{sumℤ}
use Rattle.laws.proofs.Signed.{rises, falls, same_sign, balanced_zero}
use Rattle.laws.proofs.Sound.{parts_balanced}

-- a sum with the same due and owed parts is 0
pub sum_zero : (ns : List ℤ) → total due_of ns ≡ total owed_of ns → sumℤ ns ≡ pos 0
sum_zero ns h = balanced_zero ns (parts_balanced ns h)

-- bought less sold
pub less : (n : ℤ) (s b : ℕ) → due_of n + s ≡ b + owed_of n → pos b -ℤ pos s ≡ n
less n s b h = same_sign (pos b -ℤ pos s) n (omega (arith, falls (pos b) s))

-- the balance, signed
pub signed : (b s h g t f : ℕ) → b + g + f ≡ s + h + t → pos b -ℤ pos s ≡ pos h -ℤ pos g +ℤ pos t -ℤ pos f
signed b s h g t f e =
    same_sign (pos b -ℤ pos s) (pos h -ℤ pos g +ℤ pos t -ℤ pos f)
    (omega (arith, falls (pos b) s, falls (pos h) g, rises (pos h -ℤ pos g) t, falls (pos h -ℤ pos g +ℤ pos t) f))
