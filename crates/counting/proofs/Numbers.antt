-- By an instruction's number: a refused one adds nothing, and one that is done what it is.
use mathlib.Core.Path.{◌≡◌, refl, sym, ap}
use Prim.Native.Nat.{ℕ, zero, suc, ◌≤◌, ◌<◌}
use native.Mathlib.Omega.{arith}
use lib.IntN.{ℤ}
use mathlib.Core.Bool.{true, false, false≢true}
use Rattle.std.specs.Prelude.{Result, Ok, Err, is_err}
use Rattle.rules.specs.declared.Instruction.{Instruction}
use Rattle.rules.specs.declared.Refusal.{Refusal}
use Rattle.rules.specs.Refusals.{number_in}
use Rattle.laws.proofs.Refused.{above_0}
use Rattle.spans.specs.declared.Statement.{Statement}
use Rattle.counting.specs.Counting.{Grown, accepted_in, added_in}

pub refused_added : (c : Statement) (x : Instruction) (n : ℕ) (net : ℤ) (given i a : ℕ) → 0 < n → c ≡ added_in c x n net given i a
refused_added c x zero net given i a h = absurd (omega arith)
refused_added c x (suc n) net given i a h = refl

pub done_added : (c : Statement) (x y : Instruction) (n : ℕ) (net : ℤ) (given i a : ℕ) → n ≤ 0 → x ≡ y →
    accepted_in c y net given i a ≡ added_in c x n net given i a
done_added c x y zero net given i a h e = ap (λ (z : Instruction). accepted_in c z net given i a) (sym e)
done_added c x y (suc n) net given i a h e = absurd (omega arith)

-- a statement that stays as it is
pub stays : (c : Statement) → Grown c c
stays c = record { due = omega arith; delivered = omega arith; failed = omega arith; resolved = omega arith }

-- an answer that is no refusal has the number 0, and one that is has a number above it
pub none_refused : {A : Type 0} (r : Result A Refusal) → is_err r ≡ false → number_in r ≤ 0
none_refused (Ok a) e = omega arith
none_refused (Err r) e = absurd (false≢true (sym e))

pub one_refused : {A : Type 0} (r : Result A Refusal) → is_err r ≡ true → 0 < number_in r
one_refused (Ok a) e = absurd (false≢true e)
one_refused (Err r) e = above_0 r
