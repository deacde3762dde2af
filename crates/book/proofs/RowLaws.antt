-- Loops over an issue's rows: what is left of a sum, and what is still to be written.
use mathlib.Core.Path.{◌≡◌, refl, ap, sym, ◌∙◌}
use mathlib.Core.List.{List, [], ◌∷◌, ◌++◌, map, map-append, append-nil}
use Prim.Native.Nat.{ℕ, suc, ◌+◌, ◌-◌, ◌≤◌, ◌<◌}
use native.Mathlib.Numerals.{add-one}
use native.Mathlib.Omega.{arith}
use lib.ListN.{length, take, drop, set, get_or, drop_of_length-le, length-map, get_or-map}
use lib.Seq.{drop-cons, sets, sets-eq, take-suc, take-suc-set}
use lib.IntN.{ℤ, pos}
use Rattle.rules.specs.Measures.{sum, owed_of}
use Rattle.rules.specs.Fails.{undelivered}

pub sum_at_lem : (d : List ℕ) (i : ℕ) → i < length d → sum (drop i d) ≡ get_or d i 0 + sum (drop (i + 1) d)
sum_at_lem d i h = rw add-one (ap sum (drop-cons d i 0 h))

pub sum_end : (d : List ℕ) (i : ℕ) → length d ≤ i → sum (drop i d) ≡ 0
sum_end d i h = ap sum (drop_of_length-le d h)

-- one element more of a list that is filled from the front
pub fill_more : {A : Type 0} (f : A → ℕ) (d : A) (src : List A) (out : List ℕ) (i : ℕ) → i < length src → i < length out →
    take i out ≡ map f (take i src) → take (i + 1) (set out i (f (get_or src i d))) ≡ map f (take (i + 1) src)
fill_more f d src out i h g e =
    rw (add-one, take-suc-set out i (f (get_or src i d)) g, take-suc src i d h, map-append, e)

-- a list written over one of its length
pub sets_all : (ws o : List ℕ) → length ws ≡ length o → sets o 0 ws ≡ ws
sets_all ws o e =
    sets-eq ws o 0 (omega arith)
    ∙ ap (λ l. ws ++ l) (let h : length o ≤ 0 + length ws = omega arith in drop_of_length-le o h)
    ∙ append-nil ws

pub shorts_length : (xs ds : List ℕ) → length xs ≡ length ds → length (undelivered xs ds) ≡ length xs
shorts_length [] ds e = refl
shorts_length (x ∷ xs) [] e = absurd (omega arith)
shorts_length (x ∷ xs) (d ∷ ds) e = ap suc (shorts_length xs ds (omega arith))

shorts_at : (xs ds : List ℕ) (i : ℕ) → i < length xs → i < length ds →
    undelivered (drop i xs) (drop i ds) ≡ (get_or xs i 0 - get_or ds i 0) ∷ undelivered (drop (suc i) xs) (drop (suc i) ds)
shorts_at xs ds i h g = rw (drop-cons xs i 0 h, drop-cons ds i 0 g)

module _ (ns : List ℤ) (ds : List ℕ) (i : ℕ) where
  pub shorts_more : (all o : List ℕ) (v : ℕ) → i < length ns → i < length ds →
      v ≡ owed_of (get_or ns i (pos 0)) - get_or ds i 0 →
      all ≡ sets o i (undelivered (drop i (map owed_of ns)) (drop i ds)) →
      all ≡ sets (set o i v) (i + 1) (undelivered (drop (i + 1) (map owed_of ns)) (drop (i + 1) ds))
  shorts_more all o v h g e a =
      let k : i < length (map owed_of ns) = omega (arith, length-map ns owed_of) in
      let x : v ≡ get_or (map owed_of ns) i 0 - get_or ds i 0 =
      e ∙ ap (λ z. z - get_or ds i 0) (sym (get_or-map owed_of ns i (pos 0))) in
      a ∙ rw (add-one, shorts_at (map owed_of ns) ds i k g, x)

  pub shorts_end : (all o : List ℕ) → length ns ≤ i →
      all ≡ sets o i (undelivered (drop i (map owed_of ns)) (drop i ds)) → all ≡ o
  shorts_end all o h a =
      let k : length (map owed_of ns) ≤ i = omega (arith, length-map ns owed_of) in
      a ∙ rw (drop_of_length-le (map owed_of ns) k)
