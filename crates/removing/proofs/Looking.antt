-- The column of lots at one place more.
use mathlib.Core.Path.{◌≡◌, refl}
use mathlib.Core.Bool.{Bool, true, false, not, ◌&&◌, false≢true}
use mathlib.Core.List.{List}
use Prim.Native.Nat.{ℕ, ◌+◌}
use lib.Dec.{eqb}
use lib.ListN.{get_or}
use Rattle.seeking.specs.Places.{NoneIn}
use Rattle.seeking.proofs.Passing.{none_more}
use Rattle.removing.specs.Moves.{zero_at}

-- none before, and none here
none_here : (n z : Bool) → n && not z ≡ true → (n ≡ true) × (z ≡ false)
none_here true true h = absurd (false≢true h)
none_here true false h = (refl, refl)
none_here false z h = absurd (false≢true h)

pub zero_turn : (xs : List ℕ) (s k : ℕ) (n : Bool) → (n ≡ true → NoneIn (zero_at xs) s k) →
    n && not (eqb (get_or xs k 0) 0) ≡ true → NoneIn (zero_at xs) s (k + 1)
zero_turn xs s k n h y =
    let d = none_here n (eqb (get_or xs k 0) 0) y in
    none_more (zero_at xs) s k (h d.0) d.1
