-- Of the issues up to here nothing is kept.
use mathlib.Core.Path.{◌≡◌}
use Prim.Native.Nat.{ℕ, ◌<◌}
use lib.ListN.{length}
use Rattle.delivery.specs.Deliver.{kept_at}
use Rattle.delivery.proofs.forget.Given as goal

abbrev pub invariant-loop-k : goal.invariant-loop-k
invariant-loop-k l = (length l.kept ≡ length l.fn.kept) × ((i : ℕ) → i < l.k-index → (kept_at l.kept i).number ≡ 0)
