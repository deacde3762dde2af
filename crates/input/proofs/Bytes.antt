-- Bytes four at a time are words, and bytes moved to the front are those that stood further on.
use mathlib.Core.Path.{◌≡◌, refl, sym, ap, ◌∙◌}
use mathlib.Core.List.{List, [], ◌∷◌, ◌++◌, append_assoc, append-nil}
use Prim.Native.Nat.{ℕ, suc, ◌+◌, ◌*◌, ◌≤◌, ◌<◌}
use native.Mathlib.Omega.{arith}
use native.Mathlib.Numerals.{add-one}
use lib.ListN.{length, get_or, set, take, drop, length-drop}
use lib.Seq.{drop-cons, take-suc-set, length-take-le, take-append_seam, take-add}
use Rattle.rules.specs.Bytes.{word_of, words_in}
use Rattle.input.specs.declared.Fill.{Fill}
use Rattle.input.specs.Fed.{brought, Received, Refilled}

pub words_none : (bytes : List ℕ) → length bytes < 4 → words_in bytes ≡ []
words_none [] h = refl
words_none (a ∷ []) h = refl
words_none (a ∷ b ∷ []) h = refl
words_none (a ∷ b ∷ c ∷ []) h = refl
words_none (a ∷ b ∷ c ∷ d ∷ bytes) h = absurd (omega arith)

cons_drop : (l : List ℕ) (j k : ℕ) → suc j ≡ k → j < length l → drop j l ≡ get_or l j 0 ∷ drop k l
cons_drop l j k e h = drop-cons l j 0 h ∙ ap (λ (n : ℕ). get_or l j 0 ∷ drop n l) e

-- the word at a place, and those behind it
pub words_next : (bytes : List ℕ) (j : ℕ) → j + 4 ≤ length bytes →
    words_in (drop j bytes)
    ≡ word_of (get_or bytes j 0) (get_or bytes (j + 1) 0) (get_or bytes (j + 2) 0) (get_or bytes (j + 3) 0) ∷ words_in (drop (j + 4) bytes)
words_next bytes j h =
    ap words_in
    (cons_drop bytes j (j + 1) (omega arith) (omega arith)
    ∙ ap (λ (l : List ℕ). get_or bytes j 0 ∷ l)
    (cons_drop bytes (j + 1) (j + 2) (omega arith) (omega arith)
    ∙ ap (λ (l : List ℕ). get_or bytes (j + 1) 0 ∷ l)
    (cons_drop bytes (j + 2) (j + 3) (omega arith) (omega arith)
    ∙ ap (λ (l : List ℕ). get_or bytes (j + 2) 0 ∷ l) (cons_drop bytes (j + 3) (j + 4) (omega arith) (omega arith)))))

-- a turn of the decoding: the words so far, and those of the bytes left, are all
pub decode_on : (bytes words all : List ℕ) (k x : ℕ) → 4 * k + 4 ≤ length bytes → k < length words →
    x ≡ word_of (get_or bytes (4 * k) 0) (get_or bytes (4 * k + 1) 0) (get_or bytes (4 * k + 2) 0) (get_or bytes (4 * k + 3) 0) →
    take k words ++ words_in (drop (4 * k) bytes) ≡ all →
    take (k + 1) (set words k x) ++ words_in (drop (4 * (k + 1)) bytes) ≡ all
decode_on bytes words all k x h g e q =
    let n : 4 * (k + 1) ≡ 4 * k + 4 = omega arith in
    let rest = words_in (drop (4 * k + 4) bytes) in
    rw (n, add-one k)
    (ap (λ (l : List ℕ). l ++ rest) (take-suc-set words k x g)
    ∙ append_assoc (take k words) (x ∷ []) rest
    ∙ ap (λ (l : List ℕ). take k words ++ l) (ap (λ (y : ℕ). y ∷ rest) e ∙ sym (words_next bytes (4 * k) h))
    ∙ q)

pub decode_ends : (bytes words all : List ℕ) (n : ℕ) → length bytes < 4 * n + 4 → take n words ++ words_in (drop (4 * n) bytes) ≡ all → take n words ≡ all
decode_ends bytes words all n h q =
    sym (append-nil (take n words))
    ∙ ap (λ (l : List ℕ). take n words ++ l) (sym (words_none (drop (4 * n) bytes) (rw length-drop (omega arith))))
    ∙ q

-- bytes that came behind those that were kept
pub refilled : (before shifted back : List ℕ) (start left room : ℕ) (r : Fill) → left ≤ length shifted →
    length (take left shifted ++ back) ≡ length before → left + room ≡ length before →
    take left shifted ≡ take left (drop start before) → Received left room r → Refilled before (take left shifted ++ back) start left r
refilled before shifted back start left room r h l m k t =
    let after = take left shifted ++ back in
    let n = brought t.said in
    let size = length-take-le left shifted h in
    let seam = ap (λ (j : ℕ). take j after) (sym size) ∙ take-append_seam (take left shifted) back in
    record {
      said = t.said;
      came = take n (drop left after);
      within = omega (arith, t.within);
      took = t.took;
      fits = omega (arith, t.took.end, t.within);
      many = length-take-le n (drop left after) (omega (arith, length-drop left after, t.within));
      filled = ap (λ (j : ℕ). take j after) t.took.end ∙ take-add left n after ∙ ap (λ (j : List ℕ). j ++ take n (drop left after)) (seam ∙ k);
    }
