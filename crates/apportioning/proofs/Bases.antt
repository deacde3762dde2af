-- A base is 0, 50, or the largest multiple of 50 that is not above the product.
use mathlib.Core.Path.{◌≡◌}
use Prim.Native.Nat.{ℕ, ◌+◌, ◌*◌, ◌/◌, ◌%◌, ◌≤◌, ◌<◌}
use native.Mathlib.Omega.{arith}
use borrow.Author.Tests.{eq-eqb, ne_eqb, le-leb, lt-leb}
use Rattle.contributions.specs.Bases.{piece, piece_tenths, base_of}

pub base_none : (average tenths : ℕ) → average * tenths ≡ 0 → base_of average tenths ≡ 0
unfolding base_of
base_none average tenths h = simp (eq-eqb (average * tenths) 0 h)

pub base_least : (average tenths : ℕ) → 0 < average * tenths → average * tenths ≤ piece_tenths → base_of average tenths ≡ piece
unfolding base_of
base_least average tenths h k =
    simp (ne_eqb (average * tenths) 0 (λ e. omega arith), le-leb (average * tenths) piece_tenths k)

base_most : (average tenths : ℕ) → piece_tenths < average * tenths → base_of average tenths ≡ average * tenths / piece_tenths * piece
unfolding base_of
base_most average tenths h =
    simp (ne_eqb (average * tenths) 0 (λ e. omega arith), lt-leb (average * tenths) piece_tenths h)

-- not above the product, which is in tenths, and the next multiple is
pub record LargestMultiple (product base : ℕ) : Type 0 where
  pub multiple : base % piece ≡ 0
  pub most : base * 10 ≤ product
  pub next : product < (base + piece) * 10

multiple_of : (product : ℕ) → LargestMultiple product (product / piece_tenths * piece)
multiple_of product = record { multiple = omega arith; most = omega arith; next = omega arith }

pub base_multiple : (average tenths : ℕ) → piece_tenths < average * tenths → LargestMultiple (average * tenths) (base_of average tenths)
base_multiple average tenths h = rw (base_most average tenths h) (multiple_of (average * tenths))
