-- Words of bytes that come in parts.
use mathlib.Core.Path.{◌≡◌, refl, sym, ap, ◌∙◌}
use mathlib.Core.Bool.{not}
use mathlib.Core.List.{List, [], ◌∷◌, ◌++◌}
use Prim.Native.Nat.{ℕ, zero, suc, ◌+◌, ◌*◌, ◌%◌, ◌≤◌, ◌<◌}
use native.Mathlib.Omega.{arith}
use lib.Dec.{eqb}
use lib.ListN.{length, drop, length-drop, length-append}
use Rattle.rules.specs.Bytes.{word_of, words_in, stray_in}

-- the bytes behind the last whole word
abbrev pub tail_in : List ℕ → List ℕ
tail_in [] = []
tail_in (a ∷ []) = a ∷ []
tail_in (a ∷ b ∷ []) = a ∷ b ∷ []
tail_in (a ∷ b ∷ c ∷ []) = a ∷ b ∷ c ∷ []
tail_in (a ∷ b ∷ c ∷ d ∷ bytes) = tail_in bytes

pub words_append : (xs ys : List ℕ) → words_in (xs ++ ys) ≡ words_in xs ++ words_in (tail_in xs ++ ys)
words_append [] ys = refl
words_append (a ∷ []) ys = refl
words_append (a ∷ b ∷ []) ys = refl
words_append (a ∷ b ∷ c ∷ []) ys = refl
words_append (a ∷ b ∷ c ∷ d ∷ xs) ys = ap (λ (l : List ℕ). word_of a b c d ∷ l) (words_append xs ys)

pub words_tail : (xs : List ℕ) → words_in (tail_in xs ++ []) ≡ []
words_tail [] = refl
words_tail (a ∷ []) = refl
words_tail (a ∷ b ∷ []) = refl
words_tail (a ∷ b ∷ c ∷ []) = refl
words_tail (a ∷ b ∷ c ∷ d ∷ xs) = words_tail xs

-- as many bytes as four times the words, and at most three more
pub words_length : (xs : List ℕ) → (4 * length (words_in xs) ≤ length xs) × (length xs < 4 * length (words_in xs) + 4)
words_length [] = (omega arith, omega arith)
words_length (a ∷ []) = (omega arith, omega arith)
words_length (a ∷ b ∷ []) = (omega arith, omega arith)
words_length (a ∷ b ∷ c ∷ []) = (omega arith, omega arith)
words_length (a ∷ b ∷ c ∷ d ∷ xs) = let h = words_length xs in (omega (arith, h.0), omega (arith, h.1))

-- the words from the k-th on are those of the bytes from 4 * k on
pub words_from : (k : ℕ) (xs ys : List ℕ) → k ≤ length (words_in xs) →
    drop k (words_in xs) ++ words_in (tail_in xs ++ ys) ≡ words_in (drop (4 * k) xs ++ ys)
words_from zero xs ys h = sym (words_append xs ys)
words_from (suc k) [] ys h = absurd (omega arith)
words_from (suc k) (a ∷ []) ys h = absurd (omega arith)
words_from (suc k) (a ∷ b ∷ []) ys h = absurd (omega arith)
words_from (suc k) (a ∷ b ∷ c ∷ []) ys h = absurd (omega arith)
words_from (suc k) (a ∷ b ∷ c ∷ d ∷ xs) ys h =
    let e : suc (suc (suc (suc (4 * k)))) ≡ 4 * suc k = omega arith in
    words_from k xs ys (omega arith) ∙ ap (λ (n : ℕ). words_in (drop n (a ∷ b ∷ c ∷ d ∷ xs) ++ ys)) e

pub stray_from : (k : ℕ) (xs ys : List ℕ) → 4 * k ≤ length xs → stray_in (xs ++ ys) ≡ stray_in (drop (4 * k) xs ++ ys)
stray_from k xs ys h =
    let e : length (xs ++ ys) % 4 ≡ length (drop (4 * k) xs ++ ys) % 4 =
    omega (arith, length-append xs ys, length-append (drop (4 * k) xs) ys, length-drop (4 * k) xs) in
    ap (λ (n : ℕ). not (eqb n 0)) e
