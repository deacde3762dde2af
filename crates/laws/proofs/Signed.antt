-- Signed numbers by what is due and what is owed. A sum of signed numbers has the dues' sum on one side and the
-- oweds' on the other, so that it is 0 exactly when these are equal.
use mathlib.Core.Path.{◌≡◌, refl, ap}
use mathlib.Core.Bool.{true}
use mathlib.Core.List.{List, [], ◌∷◌, map}
use Prim.Native.Nat.{ℕ, zero, suc, ◌+◌, ◌≤◌}
use native.Mathlib.Omega.{arith}
use lib.Dec.{ltb}
use lib.IntN.{ℤ, pos, negsuc, ◌+ℤ◌, ◌-ℤ◌, nat_abs}
use borrow.Author.Tests.{ltb-true, ltb-false, lt-ltb, eqb-true, eq-eqb}
use Rattle.rules.specs.Measures.{sum, due_of, owed_of}
use Rattle.rules.specs.Book.{balanced}
use Rattle.rules.specs.Tally.{sumℤ}
use Rattle.laws.proofs.Basics.{by_test}

-- a rise by x
pub rises : (n : ℤ) (x : ℕ) → due_of (n +ℤ pos x) + owed_of n ≡ due_of n + x + owed_of (n +ℤ pos x)
rises (pos a) x = omega arith
rises (negsuc a) x =
    by_test (ltb x (suc a))
    (λ e. simp e (omega (arith, ltb-true x (suc a) e)))
    (λ e. simp e (omega (arith, ltb-false x (suc a) e)))

-- a fall by x
pub falls : (n : ℤ) (x : ℕ) → due_of (n -ℤ pos x) + owed_of n + x ≡ due_of n + owed_of (n -ℤ pos x)
falls (pos a) zero = omega arith
falls (negsuc a) zero = simp (lt-ltb 0 (suc a) (omega arith)) (omega arith)
falls (pos a) (suc x) =
    by_test (ltb a (suc x))
    (λ e. simp e (omega (arith, ltb-true a (suc x) e)))
    (λ e. simp e (omega (arith, ltb-false a (suc x) e)))
falls (negsuc a) (suc x) = omega arith

-- the size of a number is what is due or what is owed
pub size_of_lem : (n : ℤ) → nat_abs n ≡ due_of n + owed_of n
size_of_lem (pos a) = omega arith
size_of_lem (negsuc a) = omega arith

-- not both are above 0
pub one_side : (n : ℤ) → 1 ≤ due_of n → 1 ≤ owed_of n → ⊥
one_side (pos n) h k = omega arith
one_side (negsuc n) h k = omega arith

-- two numbers are equal where what is due less what is owed is
pub same_sign : (m n : ℤ) → due_of m + owed_of n ≡ due_of n + owed_of m → m ≡ n
same_sign (pos m) (pos n) h = ap pos (omega arith)
same_sign (pos m) (negsuc n) h = absurd (omega arith)
same_sign (negsuc m) (pos n) h = absurd (omega arith)
same_sign (negsuc m) (negsuc n) h = ap negsuc (omega arith)

pub plus : (m n : ℤ) → due_of (m +ℤ n) + owed_of m + owed_of n ≡ due_of m + due_of n + owed_of (m +ℤ n)
plus m (pos x) = omega (arith, rises m x)
plus m (negsuc x) = omega (arith, falls m (suc x))

-- the signed sum, by the sums of dues and of oweds
pub sum_sign : (ns : List ℤ) → due_of (sumℤ ns) + sum (map owed_of ns) ≡ sum (map due_of ns) + owed_of (sumℤ ns)
sum_sign [] = refl
sum_sign (n ∷ ns) = omega (arith, plus n (sumℤ ns), sum_sign ns)

-- numbers whose dues and oweds have one sum sum to 0, and back
pub balanced_zero : (ns : List ℤ) → balanced ns ≡ true → sumℤ ns ≡ pos 0
balanced_zero ns h =
    same_sign (sumℤ ns) (pos 0) (omega (arith, eqb-true (sum (map due_of ns)) (sum (map owed_of ns)) h, sum_sign ns))

pub zero_balanced : (ns : List ℤ) → sumℤ ns ≡ pos 0 → balanced ns ≡ true
zero_balanced ns h =
    eq-eqb (sum (map due_of ns)) (sum (map owed_of ns)) (omega (arith, sum_sign ns, ap due_of h, ap owed_of h))
