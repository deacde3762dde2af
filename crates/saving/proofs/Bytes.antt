-- The bytes of a struct's array are below 256.
use mathlib.Core.Path.{◌≡◌, refl}
use mathlib.Core.Bool.{true}
use mathlib.Core.List.{List, [], ◌∷◌}
use Prim.Native.Nat.{ℕ}
use mir.Val.{Val}
use denote.Shadow.{shadow}
use denote.Array.{each}
use denote.Builtin.{u8}
use borrow.Author.Tests.{lt-ltb}
use Rattle.rules.specs.Book.{all}
use Rattle.laws.proofs.Basics.{and_both}
use Rattle.checksums.specs.Sums.{below}

pub bytes_below : (xs : List ℕ) (us : List Val) → shadow (each u8.Denot u8.own_val xs us) → all (below 256) xs ≡ true
bytes_below [] us s = refl
bytes_below (x ∷ xs) [] s = absurd s
bytes_below (x ∷ xs) (u ∷ us) s =
    and_both (below 256 x) (all (below 256) xs) (lt-ltb x 256 s.0.1) (bytes_below xs us s.1)
