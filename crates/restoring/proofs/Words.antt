-- Words read: signed numbers of their words, and columns filled from the front.
use mathlib.Core.Path.{◌≡◌, refl, sym, ap, ◌∙◌}
use mathlib.Core.List.{List, [], ◌∷◌, ◌++◌, map, map-append}
use Prim.Native.Nat.{ℕ, zero, suc, ◌+◌, ◌*◌, ◌≤◌, ◌<◌}
use native.Mathlib.Omega.{arith}
use native.Mathlib.Numerals.{add-one}
use borrow.Author.Tests.{ltb-true, ltb-false, le-ltb}
use lib.Dec.{ltb}
use lib.ListN.{length, get_or, set, take, drop, length-drop}
use lib.Seq.{take-suc, take-suc-set, length-take-le}
use lib.IntN.{ℤ, negsuc}
use mir.Syntax.{w32, w64}
use mir.Val.{to_z}
use mir.ValLaws.{to_z_pos}
use Rattle.laws.proofs.Basics.{by_test}
use Rattle.checksums.specs.Sums.{word_size}
use Rattle.snapshots.specs.Words.{signed_in, long_in, longs_in}
use Rattle.restoring.specs.Taking.{part}

-- a word in two's complement is the number that it stands for
pub signed_in_lem : (w : ℕ) → w < word_size → to_z w32 w ≡ signed_in w
signed_in_lem w h = by_test (ltb w 2147483648) (λ t. rw t refl) (λ t. rw t (ap negsuc (omega arith)))

-- and so are two
pub long_in_lem : (l h : ℕ) → l < word_size → h < word_size → to_z w64 (l + word_size * h) ≡ long_in l h
long_in_lem l h k j =
    by_test (ltb h 2147483648)
    (λ t.
    let s = ltb-true h 2147483648 t in
    to_z_pos w64 (l + word_size * h) (omega arith) ∙ sym (rw t refl))
    (λ t.
    let s = ltb-false h 2147483648 t in
    rw (t, le-ltb (l + word_size * h) 9223372036854775808 (omega arith)) (ap negsuc (omega arith)))

-- One number more, in a column that is filled from the front
pub fill_any : {A B : Type 0} (f : A → B) (d : A) (src : List A) (out : List B) (i : ℕ) → i < length src → i < length out →
    take i out ≡ map f (take i src) → take (i + 1) (set out i (f (get_or src i d))) ≡ map f (take (i + 1) src)
fill_any f d src out i h g e = rw (add-one, take-suc-set out i (f (get_or src i d)) g, take-suc src i d h, map-append, e)

-- the same of words as they are
pub fill_same : (src out : List ℕ) (i : ℕ) → i < length src → i < length out → take i out ≡ take i src →
    take (i + 1) (set out i (get_or src i 0)) ≡ take (i + 1) src
fill_same src out i h g e = rw (add-one, take-suc-set out i (get_or src i 0) g, take-suc src i 0 h, e)

longs_take : (i n : ℕ) (ws : List ℕ) → n ≡ 2 * i → n + 1 < length ws →
    longs_in (take (suc (suc n)) ws) ≡ longs_in (take n ws) ++ (long_in (get_or ws n 0) (get_or ws (suc n) 0) ∷ [])
longs_take i n [] e h = absurd (omega arith)
longs_take i n (l ∷ []) e h = absurd (omega arith)
longs_take i zero (l ∷ h ∷ ws) e k = refl
longs_take i (suc zero) (l ∷ h ∷ ws) e k = absurd (omega arith)
longs_take zero (suc (suc n)) (l ∷ h ∷ ws) e k = absurd (omega arith)
longs_take (suc i) (suc (suc n)) (l ∷ h ∷ ws) e k = ap (λ r. long_in l h ∷ r) (longs_take i n ws (omega arith) (omega arith))

pub longs_fill : (ws : List ℕ) (out : List ℤ) (i : ℕ) → 2 * i + 1 < length ws → i < length out →
    take i out ≡ longs_in (take (2 * i) ws) →
    take (i + 1) (set out i (long_in (get_or ws (2 * i) 0) (get_or ws (2 * i + 1) 0))) ≡ longs_in (take (2 * (i + 1)) ws)
longs_fill ws out i h g e =
    let n : 2 * suc i ≡ suc (suc (2 * i)) = omega arith in
    rw (add-one i, add-one (2 * i), n, take-suc-set out i (long_in (get_or ws (2 * i) 0) (get_or ws (suc (2 * i)) 0)) g, longs_take i (2 * i) ws refl h, e)

pub part_length : (at n : ℕ) (ws : List ℕ) → at + n ≤ length ws → length (part at n ws) ≡ n
part_length at n ws h = length-take-le n (drop at ws) (omega (arith, length-drop at ws))
