-- Signed numbers: what a test, a cast and a sum of one say of what is due and what is owed.
use mathlib.Core.Path.{◌≡◌, refl}
use mathlib.Core.Bool.{Bool, true, false, cond}
use Prim.Native.Nat.{ℕ, zero, suc, ◌+◌, ◌-◌, ◌<◌, ◌^◌}
use native.Mathlib.Omega.{arith}
use lib.Dec.{ltb}
use lib.IntN.{ℤ, pos, negsuc, nat_abs, neg_ℤ, ◌+ℤ◌}
use lib.Signed.{mag}
use mir.Syntax.{Width}
use mir.Val.{SFits, to_z, of_z, hbits}

-- a number as it comes back from its bits
abbrev pub back : Width → ℤ → ℤ
back w z = to_z w (of_z w z)

-- a sum's range, at any width
cond_mag : (t : Bool) (x y N : ℕ) → x < N → y < N → mag (cond t (negsuc x) (pos y)) < N
cond_mag true x y N p q = p
cond_mag false x y N p q = q

pub sum_fits : (w : Width) (a b : ℤ) → nat_abs a + nat_abs b < 2 ^ hbits w → SFits w (a +ℤ b)
sum_fits w (pos a) (pos b) h = record { sfits = h }
sum_fits w (pos a) (negsuc b) h =
    record { sfits = cond_mag (ltb a (suc b)) (suc b - suc a) (a - suc b) (2 ^ hbits w) (omega arith) (omega arith) }
sum_fits w (negsuc a) (pos b) h =
    record { sfits = cond_mag (ltb b (suc a)) (suc a - suc b) (b - suc a) (2 ^ hbits w) (omega arith) (omega arith) }
sum_fits w (negsuc a) (negsuc b) h = record { sfits = omega arith }

pub abs_neg : (n : ℕ) → nat_abs (neg_ℤ (pos n)) ≡ n
abs_neg zero = refl
abs_neg (suc n) = refl
