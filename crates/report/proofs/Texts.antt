-- Text is added in steps, each behind the last; a number's digits are the fewest that hold it.
use mathlib.Core.Path.{◌≡◌, refl, sym, ap, subst, ◌∙◌}
use mathlib.Core.List.{List, [], ◌∷◌, ◌++◌, append_assoc, append-nil}
use Prim.Native.Nat.{ℕ, zero, suc, ◌+◌, ◌-◌, ◌/◌, ◌%◌, ◌^◌, ◌≤◌, ◌<◌}
use native.Mathlib.Omega.{arith}
use native.Mathlib.Numerals.{add-one}
use native.Mathlib.Nat.{pow-suc}
use borrow.Author.Tests.{lt-ltb, le-ltb, eq-eqb, ne_eqb}
use lib.Dec.{ltb, eqb}
use lib.IntN.{ℤ, pos, nat_abs}
use lib.ListN.{length, get_or, take, drop, length-append}
use lib.Seq.{drop-cons, length-take-le, take-append_seam}
use Rattle.report.specs.Digits.{last_digits, hex_digit_ascii, IsDigitCount}
use Rattle.rules.specs.declared.Name.{Name}
use Rattle.rules.specs.Run.{charge_lines_from, line}
use Rattle.laws.proofs.Basics.{by_test, either}
use Rattle.rules.specs.Text.{digits_up_to, decimal, line_text, charge_text, charges_text, yen_of}
use Rattle.report.specs.Added.{Added}
use Rattle.report.specs.Lines.{rest_text, plain_text}

-- a part copied behind the first `at` bytes
pub added_behind : (text part last tail rest : List ℕ) (at n : ℕ) → at ≤ length text → n ≡ length part → last ≡ part ++ tail →
    Added (length part) text (take at text ++ (last ++ rest)) at (at + n) part
added_behind text part last tail rest at n h e b =
    let front = take at text ++ part in
    let size : at + n ≡ length front = omega (arith, e, length-append (take at text) part, length-take-le at text h) in
    let back : last ++ rest ≡ part ++ (tail ++ rest) = ap (λ (l : List ℕ). l ++ rest) b ∙ append_assoc part tail rest in
    record {
      few = omega arith;
      ends = omega arith;
      front = ap (λ (k : ℕ). take k (take at text ++ (last ++ rest))) size
          ∙ ap (take (length front)) (ap (λ (l : List ℕ). take at text ++ l) back ∙ sym (append_assoc (take at text) part (tail ++ rest)))
          ∙ take-append_seam front (tail ++ rest);
    }

pub added_none : (t : List ℕ) (a : ℕ) → Added 0 t t a a []
added_none t a = record { few = omega arith; ends = omega arith; front = sym (append-nil (take a t)) }

-- what is added behind what was added
pub added_then : (m n most : ℕ) (t t₁ t₂ : List ℕ) (a b c : ℕ) (xs ys : List ℕ) → m + n ≤ most →
    Added m t t₁ a b xs → Added n t₁ t₂ b c ys → Added most t t₂ a c (xs ++ ys)
added_then m n most t t₁ t₂ a b c xs ys l h k =
    record {
      few = omega (arith, h.few, k.few);
      ends = omega (arith, h.ends, k.ends, length-append xs ys);
      front = k.front ∙ ap (λ (l : List ℕ). l ++ ys) h.front ∙ append_assoc (take a t) xs ys;
    }

-- the same bytes
pub added_as : (m n : ℕ) (t t₁ : List ℕ) (a b : ℕ) (xs ys : List ℕ) → m ≤ n → xs ≡ ys → Added m t t₁ a b xs → Added n t t₁ a b ys
added_as m n t t₁ a b xs ys l e h =
    record {
      few = omega (arith, h.few);
      ends = h.ends ∙ ap (λ (k : List ℕ). a + length k) e;
      front = h.front ∙ ap (λ (k : List ℕ). take a t ++ k) e;
    }

-- a text on its way: what is there and what is left to add are, together, what was there and all that is added
pub record Left (text₀ text : List ℕ) (at₀ at : ℕ) (rest all : List ℕ) : Type 0 where
  pub ends : at + length rest ≡ at₀ + length all
  pub front : take at text ++ rest ≡ take at₀ text₀ ++ all

pub left_all : (t : List ℕ) (a : ℕ) (all : List ℕ) → Left t t a a all all
left_all t a all = record { ends = refl; front = refl }

pub left_on : (m : ℕ) (t₀ t t₁ : List ℕ) (a₀ a a₁ : ℕ) (xs rest all : List ℕ) →
    Left t₀ t a₀ a (xs ++ rest) all → Added m t t₁ a a₁ xs → Left t₀ t₁ a₀ a₁ rest all
left_on m t₀ t t₁ a₀ a a₁ xs rest all h k =
    record {
      ends = omega (arith, h.ends, k.ends, length-append xs rest);
      front = ap (λ (l : List ℕ). l ++ rest) k.front ∙ append_assoc (take a t) xs rest ∙ h.front;
    }

pub left_none : (most : ℕ) (t₀ t : List ℕ) (a₀ a : ℕ) (rest all : List ℕ) → a ≤ a₀ + most → rest ≡ [] → Left t₀ t a₀ a rest all → Added most t₀ t a₀ a all
left_none most t₀ t a₀ a rest all l e h =
    let n : length rest ≡ 0 = ap length e in
    record {
      few = l;
      ends = omega (arith, h.ends);
      front = sym (append-nil (take a t)) ∙ ap (λ (r : List ℕ). take a t ++ r) (sym e) ∙ h.front;
    }

-- digits

up_to_length : (f n : ℕ) → length (digits_up_to f n) ≤ f
up_to_length zero n = omega arith
up_to_length (suc f) n =
    either (λ l. length l ≤ suc f) (ltb n 10) (omega arith)
    (let h = up_to_length f (n / 10) in rw (length-append (digits_up_to f (n / 10)) ((48 + n % 10) ∷ [])) (omega arith))

pub decimal_length : (n : ℕ) → length (decimal n) ≤ 20
unfolding decimal
decimal_length n = up_to_length 20 n

pub glyph_digit : (d : ℕ) → d < 10 → hex_digit_ascii d ≡ 48 + d
glyph_digit d h = simp (lt-ltb d 10 h)

-- digits in front of the last, and the last
last_digit : (f j n : ℕ) → 10 ≤ n → last_digits 10 (suc j) (n / 10) ≡ digits_up_to f (n / 10) → last_digits 10 (suc (suc j)) n ≡ digits_up_to (suc f) n
last_digit f j n h e =
    simp (le-ltb n 10 h)
    (ap (λ (l : List ℕ). l ++ (hex_digit_ascii (n % 10) ∷ [])) e
    ∙ ap (λ (d : ℕ). digits_up_to f (n / 10) ++ (d ∷ [])) (glyph_digit (n % 10) (omega arith)))

one_digit : (f n : ℕ) → n < 10 → last_digits 10 1 n ≡ digits_up_to (suc f) n
one_digit f n h =
    let m : n % 10 ≡ n = omega arith in
    simp (lt-ltb n 10 h) (ap (λ (d : ℕ). d ∷ []) (glyph_digit (n % 10) (omega arith) ∙ ap (λ (d : ℕ). 48 + d) m))

ten_power : (j : ℕ) → 1 ≤ 10 ^ j
ten_power zero = omega arith
ten_power (suc j) = omega (arith, pow-suc 10 j, ten_power j)

tenth : (j : ℕ) → 1 < suc j → 10 ^ j ≡ 10 ^ (suc j - 1)
tenth j h = ap (λ (k : ℕ). 10 ^ k) (omega arith)

fewest_up_to : (f k n : ℕ) → n < 10 ^ suc f → IsDigitCount 10 1 n k → last_digits 10 k n ≡ digits_up_to (suc f) n
fewest_up_to f zero n h e = absurd (let l = e.0 in omega arith)
fewest_up_to f (suc zero) n h e = one_digit f n (let l = e.1 in omega (arith, pow-suc 10 0))
fewest_up_to zero (suc (suc j)) n h e =
    absurd (let l : 10 ^ suc j ≤ n = subst (λ (m : ℕ). m ≤ n) (sym (tenth (suc j) (omega arith))) (e.2 (omega arith)) in omega (arith, pow-suc 10 0, pow-suc 10 j, ten_power j))
fewest_up_to (suc f) (suc (suc j)) n h e =
    let l : 10 ^ suc j ≤ n = subst (λ (m : ℕ). m ≤ n) (sym (tenth (suc j) (omega arith))) (e.2 (omega arith)) in
    let s = pow-suc 10 j in
    last_digit (suc f) j n (omega (arith, ten_power j))
    (fewest_up_to f (suc j) (n / 10) (omega (arith, pow-suc 10 (suc f)))
    (omega arith, let m = e.1 in omega (arith, pow-suc 10 (suc j)), λ k. omega (arith, tenth j k)))

-- a number of 64 bits
pub decimal_digits : (k n : ℕ) → n < 2 ^ 64 → IsDigitCount 10 1 n k → last_digits 10 k n ≡ decimal n
unfolding decimal
decimal_digits k n h e = fewest_up_to 19 k n (omega arith) e

-- a line is its index and what follows it
pub line_rest : (i : ℕ) (n : Name) (r k : ℕ) → decimal i ++ rest_text n r k ≡ line_text (line i n r k)
unfolding line_text
line_rest i n r k = simp append_assoc

zero_text : decimal 0 ≡ 48 ∷ []
unfolding decimal
zero_text = refl

pub plain_rest : (n : Name) (r k : ℕ) → r ≡ 0 → k ≡ 0 → plain_text n ≡ rest_text n r k
plain_rest n r k e f = simp (e, f, zero_text)

-- charges, the first and the others
pub charges_next : (a : ℕ) (y : ℤ) (ys : List ℤ) →
    charges_text (charge_lines_from a (y ∷ ys)) ≡ charges_text (charge_lines_from a (y ∷ [])) ++ charges_text (charge_lines_from (suc a) ys)
charges_next a y ys =
    by_test (eqb (nat_abs y) 0)
    (λ e. simp e)
    (λ e. simp e (ap (λ (l : List ℕ). l ++ charges_text (charge_lines_from (suc a) ys)) (sym (append-nil (charge_text (yen_of a y))))))

-- none for a charge of 0, else its line
pub charge_none : (a : ℕ) (y : ℤ) → nat_abs y ≡ 0 → charges_text (charge_lines_from a (y ∷ [])) ≡ []
charge_none a y e = simp (eq-eqb (nat_abs y) 0 e)

pub charge_some : (a : ℕ) (y : ℤ) → (nat_abs y ≡ 0 → ⊥) → charges_text (charge_lines_from a (y ∷ [])) ≡ charge_text (yen_of a y)
charge_some a y e = simp (ne_eqb (nat_abs y) 0 e) (append-nil (charge_text (yen_of a y)))

-- the charge of account a in front of those behind it
pub charges_at : (cs : List ℤ) (a : ℕ) → a < length cs →
    charges_text (charge_lines_from a (drop a cs))
    ≡ charges_text (charge_lines_from a (get_or cs a (pos 0) ∷ [])) ++ charges_text (charge_lines_from (a + 1) (drop (a + 1) cs))
charges_at cs a h =
    rw (add-one a)
    (ap (λ (l : List ℤ). charges_text (charge_lines_from a l)) (drop-cons cs a (pos 0) h)
    ∙ charges_next a (get_or cs a (pos 0)) (drop (suc a) cs))
