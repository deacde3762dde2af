-- A number's digits, put down from the last to the first; how many there are.
use mathlib.Core.Path.{◌≡◌, refl, sym, ap, subst, ◌∙◌}
use mathlib.Core.List.{List, [], ◌∷◌, ◌++◌, append_assoc, append-nil}
use Prim.Native.Nat.{ℕ, zero, suc, ◌+◌, ◌-◌, ◌/◌, ◌%◌, ◌^◌, ◌≤◌, ◌<◌}
use native.Mathlib.Omega.{arith}
use native.Mathlib.Numerals.{add-one}
use native.Mathlib.Nat.{pow-suc, one-le-pow, mul_comm, div-lt_iff_lt-mul, le-div_iff_mul-le}
use lib.Pow.{pow-add}
use lib.ListN.{length, take, drop, set, length-append, length-set, take-append-drop, drop_of_length-le}
use lib.Seq.{take-set-le, take-take, length-take-le}
use Rattle.report.specs.Digits.{last_digits, hex_digit_ascii, IsDigitCount}
use Rattle.rules.specs.Text.{decimal}
use Rattle.report.specs.Added.{Added}
use Rattle.report.proofs.Texts.{glyph_digit, decimal_digits, decimal_length}

-- a byte in front of what stands from the next place on, up to e
byte_before : (l : List ℕ) (j e v : ℕ) → j < e → j < length l → drop j (take e (set l j v)) ≡ v ∷ drop (suc j) (take e l)
byte_before [] j e v h k = absurd (omega arith)
byte_before (x ∷ l) j zero v h k = absurd (omega arith)
byte_before (x ∷ l) zero (suc e) v h k = refl
byte_before (x ∷ l) (suc j) (suc e) v h k = byte_before l j e v (omega arith) (omega arith)

one_digit : (m r : ℕ) (l : List ℕ) → last_digits 10 (suc m) r ++ l ≡ last_digits 10 m (r / 10) ++ ((48 + r % 10) ∷ l)
one_digit m r l = simp (append_assoc, glyph_digit (r % 10) (omega arith))

two_digits : (m r : ℕ) (l : List ℕ) → last_digits 10 (suc (suc m)) r ++ l ≡ last_digits 10 m (r / 100) ++ ((48 + r / 10 % 10) ∷ (48 + r % 10) ∷ l)
two_digits m r l =
    let e : r / 10 / 10 ≡ r / 100 = omega arith in
    one_digit (suc m) r l ∙ one_digit m (r / 10) ((48 + r % 10) ∷ l) ∙ ap (λ (q : ℕ). last_digits 10 m q ++ ((48 + r / 10 % 10) ∷ (48 + r % 10) ∷ l)) e

-- a number on its way: the first `at` bytes stand as they did, and the digits of `rest` that are to come, with the bytes from k to
-- `end`, are those of n
pub record Spelling (text₀ text : List ℕ) (at k end n rest : ℕ) : Type 0 where
  pub low : at ≤ k
  pub high : k ≤ end
  pub room : end ≤ length text
  pub small : rest < 10 ^ (k - at)
  pub front : take at text ≡ take at text₀
  pub both : last_digits 10 (k - at) rest ++ drop k (take end text) ≡ last_digits 10 (end - at) n

pub spell_starts : (text : List ℕ) (at end n : ℕ) → at ≤ end → end ≤ length text → n < 10 ^ (end - at) → Spelling text text at end end n n
spell_starts text at end n l r s =
    record {
      low = l;
      high = omega arith;
      room = r;
      small = s;
      front = refl;
      both = ap (λ (t : List ℕ). last_digits 10 (end - at) n ++ t) (drop_of_length-le (take end text) {i = end} (omega (arith, length-take-le end text r))) ∙ append-nil (last_digits 10 (end - at) n);
    }

module _ (text₀ text : List ℕ) (at k end n rest : ℕ) (h : Spelling text₀ text at k end n rest) where
  -- the last two digits of what is to come
  pub spell_two : (j t o : ℕ) → at ≤ j → k ≡ j + 2 → t ≡ 48 + rest / 10 % 10 → o ≡ 48 + rest % 10 →
      Spelling text₀ (set (set text (j + 1) o) j t) at j end n (rest / 100)
  spell_two j t o l e p q =
      let m = j - at in
      let tail = drop (suc (suc j)) (take end text) in
      let w : k - at ≡ suc (suc m) = omega arith in
      let f : k ≡ suc (suc j) = omega arith in
      let s = rw w at h.small in
      let z : length (set text (j + 1) o) ≡ length text = length-set text (j + 1) o in
      let last : drop (suc j) (take end (set text (j + 1) o)) ≡ o ∷ drop (suc (suc j)) (take end text) =
      rw (add-one j) (byte_before text (suc j) end o (omega (arith, h.high)) (omega (arith, h.high, h.room))) in
      let both = byte_before (set text (j + 1) o) j end t (omega (arith, h.high)) (omega (arith, h.high, h.room)) in
      record {
        low = l;
        high = omega (arith, h.high);
        room = simp length-set h.room;
        small = omega (arith, pow-suc 10 m, pow-suc 10 (suc m));
        front = take-set-le at (set text (j + 1) o) j t l ∙ take-set-le at text (j + 1) o (omega arith) ∙ h.front;
        both = ap (λ (v : List ℕ). last_digits 10 m (rest / 100) ++ v) (both ∙ ap (λ (v : List ℕ). t ∷ v) last)
            ∙ ap (λ (v : ℕ). last_digits 10 m (rest / 100) ++ (v ∷ o ∷ tail)) p ∙ ap (λ (v : ℕ). last_digits 10 m (rest / 100) ++ ((48 + rest / 10 % 10) ∷ v ∷ tail)) q
            ∙ sym (two_digits m rest tail) ∙ (rw (w, f) at h.both);
      }

  -- one digit is left
  pub one_left : k ≡ suc at → rest < 10
  one_left e =
      let w : k - at ≡ 1 = omega arith in
      let s : rest < 10 ^ 1 = rw w at h.small in
      omega arith

  pub spell_one : (t : ℕ) → k ≡ suc at → t ≡ 48 + rest → Spelling text₀ (set text at t) at at end n 0
  spell_one t e p =
      let tail = drop (suc at) (take end text) in
      let w : k - at ≡ 1 = omega arith in
      let s = one_left e in
      let d : rest % 10 ≡ rest = omega arith in
      let z : at - at ≡ 0 = omega arith in
      let first = byte_before text at end t (omega (arith, h.high)) (omega (arith, h.high, h.room)) in
      record {
        low = omega arith;
        high = omega (arith, h.high);
        room = simp length-set h.room;
        small = rw z (omega arith);
        front = take-set-le at text at t (omega arith) ∙ h.front;
        both = rw z (first ∙ ap (λ (v : ℕ). v ∷ tail) (p ∙ ap (λ (r : ℕ). 48 + r) (sym d)) ∙ sym (one_digit 0 rest tail) ∙ (rw (w, e) at h.both));
      }

  -- none is left
  pub spelled : k ≡ at → take end text ≡ take at text₀ ++ last_digits 10 (end - at) n
  spelled e =
      let w : k - at ≡ 0 = omega arith in
      let b : drop at (take end text) ≡ last_digits 10 (end - at) n = rw (w, e) at h.both in
      sym (take-append-drop at (take end text))
      ∙ ap (λ (l : List ℕ). l ++ drop at (take end text)) (take-take at end text (omega (arith, h.low, h.high)) ∙ h.front)
      ∙ ap (λ (l : List ℕ). take at text₀ ++ l) b

-- How many digits there are

pub digits_length : (k n : ℕ) → length (last_digits 10 k n) ≡ k
digits_length zero n = refl
digits_length (suc k) n = length-append (last_digits 10 k (n / 10)) (hex_digit_ascii (n % 10) ∷ []) ∙ rw (digits_length k (n / 10)) (omega arith)

-- no more than twenty for a number of 64 bits
pub few_digits : (k n : ℕ) → n < 2 ^ 64 → IsDigitCount 10 1 n k → k ≤ 20
few_digits k n h f = omega (arith, digits_length k n, ap length (decimal_digits k n h f), decimal_length n)

-- its first digit is not 0
wide : (p n k : ℕ) → 10 ^ p ≤ n → 1 ≤ k → (1 < k → 10 ^ (k - 1) ≤ n / 10 ^ p) → 10 ^ (p + k - 1) ≤ n
wide p n zero h l f = absurd (omega arith)
wide p n (suc zero) h l f = subst (λ (e : ℕ). 10 ^ e ≤ n) (let e : p ≡ p + 1 - 1 = omega arith in e) h
wide p n (suc (suc k)) h l f =
    let some = one-le-pow p 10 (omega arith) in
    let e : p + suc (suc k) - 1 ≡ p + suc k = omega arith in
    let d : suc (suc k) - 1 ≡ suc k = omega arith in
    rw (e, pow-add 10 p (suc k), mul_comm (10 ^ p) (10 ^ suc k)) ((le-div_iff_mul-le some).0 (rw d at (f (omega arith))))

-- p more than the number without its last p digits has
pub wider : (p n k : ℕ) → 10 ^ p ≤ n → IsDigitCount 10 1 (n / 10 ^ p) k → IsDigitCount 10 1 n (p + k)
wider p n k h f =
    let some = one-le-pow p 10 (omega arith) in (
      let l = f.0 in omega arith,
      rw (pow-add 10 p k, mul_comm (10 ^ p) (10 ^ k)) ((div-lt_iff_lt-mul some).0 f.1),
      λ _. wide p n k h f.0 f.2,
    )

-- room for a number of 64 bits, and what it is where its digits stand there
module _ (at n k : ℕ) (h : n < 2 ^ 64) (f : IsDigitCount 10 1 n k) where
  behind : at + k - at ≡ k
  behind = omega arith

  pub spells : (text : List ℕ) → at + 20 ≤ length text → (at ≤ at + k) × (at + k ≤ length text) × (n < 10 ^ (at + k - at))
  spells text l = (omega arith, omega (arith, few_digits k n h f), rw behind f.1)

  pub added_number : (text text' : List ℕ) → take (at + k) text' ≡ take at text ++ last_digits 10 (at + k - at) n → Added 20 text text' at (at + k) (decimal n)
  added_number text text' e =
      let d = decimal_digits k n h f in
      record {
        few = omega (arith, few_digits k n h f);
        ends = omega (arith, digits_length k n, ap length d);
        front = e ∙ ap (λ (j : ℕ). take at text ++ last_digits 10 j n) behind ∙ ap (λ (l : List ℕ). take at text ++ l) d;
      }
