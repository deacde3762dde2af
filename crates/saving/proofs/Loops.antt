-- Loops over words: words stored one after the other, and columns one behind the other.
use mathlib.Core.Path.{◌≡◌, refl, sym, ap, ◌∙◌}
use mathlib.Core.List.{List, [], ◌∷◌, ◌++◌, map, append-nil, append_assoc}
use Prim.Native.Nat.{ℕ, zero, suc, ◌+◌, ◌-◌, ◌*◌, ◌≤◌, ◌<◌}
use native.Mathlib.Nat.{add-suc, add-zero}
use native.Mathlib.Numerals.{add-one}
use native.Mathlib.Omega.{arith}
use lib.ListN.{length, get_or, set, take, drop, drop_of_length-le}
use lib.Seq.{drop-cons, drop-drop, sets, sets-eq, drop_at, length-take-le}
use lib.IntN.{ℤ, pos}
use Rattle.snapshots.specs.Words.{low_word, high_word, long_words, joined}

-- a word stored, and those still to be stored
pub put_more : (ws whole o : List ℕ) (at i v : ℕ) → i < length ws → v ≡ get_or ws i 0 → whole ≡ sets o (at + i) (drop i ws) →
    whole ≡ sets (set o (at + i) v) (at + (i + 1)) (drop (i + 1) ws)
put_more ws whole o at i v h e a = a ∙ rw (add-one, add-suc, drop-cons ws i 0 h, e)

pub put_end : (ws whole o : List ℕ) (at i : ℕ) → length ws ≤ i → whole ≡ sets o (at + i) (drop i ws) → o ≡ whole
put_end ws whole o at i h a = sym (a ∙ rw (drop_of_length-le ws h))

-- the word of a number of a column
pub map_at : {A : Type 0} (f : A → ℕ) (n : A) (xs : List A) (i : ℕ) → i < length xs → n ≡ get_or xs i n → f n ≡ get_or (map f xs) i 0
map_at f n [] i h e = absurd (omega arith)
map_at f n (x ∷ xs) zero h e = ap f e
map_at f n (x ∷ xs) (suc i) h e = map_at f n xs i (omega arith) e

-- a part stored at once
pub put_part : (o c new : List ℕ) (at : ℕ) → at + length c ≤ length o → new ≡ c →
    take at o ++ (new ++ drop (at + length c - at) (drop at o)) ≡ sets o at c
put_part o c new at h e =
    let k : at + length c - at ≡ length c = omega arith in
    rw (e, k, drop-drop (length c) at o) (sym (sets-eq c o at h ∙ append_assoc (take at o) c (drop (at + length c) o)))

-- the two words of a number stored
long_at : (cs : List ℤ) (i : ℕ) → i < length cs →
    drop (2 * i) (long_words cs)
    ≡ low_word (get_or cs i (pos 0)) ∷ high_word (get_or cs i (pos 0)) ∷ drop (2 * suc i) (long_words cs)
long_at [] i h = absurd (omega arith)
long_at (c ∷ cs) zero h = refl
long_at (c ∷ cs) (suc i) h =
    let e : 2 * suc i ≡ suc (suc (2 * i)) = omega arith in
    let f : 2 * suc (suc i) ≡ suc (suc (2 * suc i)) = omega arith in
    rw (f, e) (long_at cs i (omega arith) ∙ rw e)

pub longs_more : (cs : List ℤ) (whole o : List ℕ) (at i l h : ℕ) → i < length cs → l ≡ low_word (get_or cs i (pos 0)) →
    h ≡ high_word (get_or cs i (pos 0)) → whole ≡ sets o (at + 2 * i) (drop (2 * i) (long_words cs)) →
    whole ≡ sets (set (set o (at + 2 * i) l) (at + 2 * i + 1) h) (at + 2 * (i + 1)) (drop (2 * (i + 1)) (long_words cs))
longs_more cs whole o at i l h k p q a =
    let e : at + 2 * suc i ≡ suc (suc (at + 2 * i)) = omega arith in
    a ∙ rw (long_at cs i k, add-one i, add-one (at + 2 * i), e, p, q)

-- Columns stored one behind the other

pub sets_append : (c d o : List ℕ) (at : ℕ) → sets (sets o at c) (at + length c) d ≡ sets o at (c ++ d)
sets_append [] d o at = rw (add-zero at)
sets_append (x ∷ c) d o at =
    let e : at + suc (length c) ≡ suc at + length c = omega arith in rw e (sets_append c d (set o at x) (suc at))

abbrev pub stored : List ℕ → ℕ → List ℕ → List (List ℕ) → List ℕ
stored o at [] cs = o
stored o at (n ∷ ns) [] = o
stored o at (n ∷ ns) (c ∷ cs) = stored (sets o at c) (at + n) ns cs

pub stored_joined : (ns : List ℕ) (cs : List (List ℕ)) (o : List ℕ) (at : ℕ) → map length cs ≡ ns →
    stored o at ns cs ≡ sets o at (joined cs)
stored_joined [] [] o at e = refl
stored_joined [] (c ∷ cs) o at e = absurd (let z : ◌≡◌ {A = ℕ} (length (map length (c ∷ cs))) 0 = ap length e in omega arith)
stored_joined (n ∷ ns) [] o at e = absurd (let z : ◌≡◌ {A = ℕ} 0 (suc (length ns)) = ap length e in omega arith)
stored_joined (n ∷ ns) (c ∷ cs) o at e =
    let k : length c ≡ n = ap (λ l. get_or l 0 0) e in
    stored_joined ns cs (sets o at c) (at + n) (ap (drop 1) e)
    ∙ ap (λ m. sets (sets o at c) (at + m) (joined cs)) (sym k)
    ∙ sets_append c (joined cs) o at

-- what stands behind the first three words
pub behind_three : (o body : List ℕ) → length o ≡ 3 + length body → drop 3 (sets o 3 body) ≡ body
behind_three o body e =
    let h : length o ≤ 3 + length body = omega arith in
    ap (drop 3) (sets-eq body o 3 (omega arith))
    ∙ ap (λ l. drop 3 (take 3 o ++ body ++ l)) (drop_of_length-le o h)
    ∙ ap (drop 3) (append-nil (take 3 o ++ body))
    ∙ drop_at (take 3 o) body 3 (length-take-le 3 o (omega arith))
