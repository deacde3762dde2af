-- Numbers marked off: the bits of a word, the marks of a window, a list put to them number by number.
use mathlib.Core.Path.{◌≡◌, refl, sym, ap, ◌∙◌}
use mathlib.Core.Bool.{Bool, true, false, false≢true}
use mathlib.Core.Logic.{◌↔◌}
use mathlib.Core.List.{List}
use Prim.Native.Nat.{ℕ, zero, suc, ◌+◌, ◌-◌, ◌*◌, ◌/◌, ◌%◌, ◌^◌, ◌≤◌, ◌<◌}
use native.Mathlib.Nat.{one-mul, pow-suc}
use native.Mathlib.Numerals.{one-add}
use native.Mathlib.Omega.{arith}
use lib.Dec.{lit<, ltb, eqb, eqb-zero-suc, eqb-suc-zero, eqb-suc-suc}
use lib.ListN.{length, get_or, set, drop, replicate, length-set}
use lib.Pow.{shl_exact, shr-shr}
use lib.Seq.{get_or-set_same, get_or-set_other}
use borrow.Author.Tests.{ltb-true, ltb-false, lt-ltb, eqb-true, eqb-false}
use Rattle.rules.specs.Measures.{total}
use Rattle.rules.specs.Book.{all}
use Rattle.laws.proofs.Basics.{by_test, all_at, all_of}
use Rattle.reports.specs.Trust.{same, times}
use Rattle.drawing.specs.Marks.{bit_of, mark_of, Unmarked, Marked, NoneTwice}
use Rattle.reports.proofs.Sums.{zeros, total_at, total_end}
use Rattle.reports.proofs.Allotting.{same_self, same_other}

-- Bits of a word

bit_none : (b : ℕ) → bit_of 0 b ≡ 0
bit_none zero = refl
bit_none (suc b) = bit_none b

bit_le : (x b : ℕ) → bit_of x b ≤ 1
bit_le x zero = omega arith
bit_le x (suc b) = bit_le (x / 2) b

-- one that is not 1 is 0
pub bit_clear : (x b : ℕ) → eqb (bit_of x b) 1 ≡ false → bit_of x b ≡ 0
bit_clear x b e = let o = eqb-false (bit_of x b) 1 e in omega (arith, bit_le x b)

-- by a shift
pub bit_shifted : (x b : ℕ) → x / 2 ^ b % 2 ≡ bit_of x b
bit_shifted x zero = omega arith
bit_shifted x (suc b) =
    ap (λ k. x / 2 ^ k % 2) (sym (one-add b)) ∙ ap (λ y. y % 2) (sym (shr-shr x 1 b)) ∙ bit_shifted (x / 2) b

pub one_shifted : (b : ℕ) → b < 64 → (1 * 2 ^ b) % 2 ^ 64 ≡ 2 ^ b
one_shifted b h = shl_exact 1 b 64 (lit< tt) (omega arith) ∙ one-mul (2 ^ b)

-- a bit that is 0 is set by adding its power: no other changes, and the word has room
bit_set : (x b c : ℕ) → bit_of x b ≡ 0 → bit_of (x + 2 ^ b) c ≡ bit_of x c + same b c
bit_set x zero zero h = omega arith
bit_set x zero (suc c) h =
    let e : (x + 2 ^ 0) / 2 ≡ x / 2 = omega arith in
    ap (λ y. bit_of y c) e ∙ rw (eqb-suc-zero c) (omega arith)
bit_set x (suc b) zero h = rw (eqb-zero-suc b) (omega (arith, pow-suc 2 b))
bit_set x (suc b) (suc c) h =
    let e : (x + 2 ^ suc b) / 2 ≡ x / 2 + 2 ^ b = omega (arith, pow-suc 2 b) in
    ap (λ y. bit_of y c) e ∙ rw (eqb-suc-suc c b) (bit_set (x / 2) b c h)

pub bit_room : (width x b : ℕ) → x < 2 ^ width → b < width → bit_of x b ≡ 0 → x + 2 ^ b < 2 ^ width
bit_room zero x b h l z = absurd (omega arith)
bit_room (suc width) x zero h l z = omega (arith, pow-suc 2 width)
bit_room (suc width) x (suc b) h l z =
    let r = bit_room width (x / 2) b (omega (arith, pow-suc 2 width)) (omega arith) z in
    omega (arith, r, pow-suc 2 width, pow-suc 2 b)

-- Marks

pub unmarked : (n : ℕ) → Unmarked (replicate n 0)
unfolding mark_of
unmarked n = record { free = λ d. ap (λ x. bit_of x (d % 64)) (zeros n (d / 64)) ∙ bit_none (d % 64) }

mark_le : (marks : List ℕ) (d : ℕ) → mark_of marks d ≤ 1
unfolding mark_of
mark_le marks d = bit_le (get_or marks (d / 64) 0) (d % 64)

module _ (w j : ℕ) (marks : List ℕ) where
  -- a number of another window
  pub elsewhere : ((d : ℕ) → d / 64 < length marks → j ≡ w + d → ⊥) → Marked w j marks marks true
  elsewhere h =
      record {
        places = refl;
        once = λ e d l. omega (arith, same_other (w + d) j (h d l));
        again = λ e. absurd (false≢true (sym e));
      }

  -- one that has its mark
  pub marked_before : w ≤ j → (j - w) / 64 < length marks → bit_of (get_or marks ((j - w) / 64) 0) ((j - w) % 64) ≡ 1 →
      Marked w j marks marks false
  unfolding mark_of
  marked_before h l b = record { places = refl; once = λ e. absurd (false≢true e); again = λ e. (h, l, b) }

  -- and one that gets it
  module _ (h : w ≤ j) (l : (j - w) / 64 < length marks) where
    abbrev word : ℕ
    word = get_or marks ((j - w) / 64) 0

    same_bit : (d : ℕ) → d / 64 ≡ (j - w) / 64 → same ((j - w) % 64) (d % 64) ≡ same (w + d) j
    same_bit d i =
        by_test (eqb (d % 64) ((j - w) % 64))
        (λ e.
        let b = eqb-true (d % 64) ((j - w) % 64) e in
        same_self ((j - w) % 64) (d % 64) b ∙ sym (same_self (w + d) j (omega arith)))
        (λ e.
        let b = eqb-false (d % 64) ((j - w) % 64) e in
        same_other ((j - w) % 64) (d % 64) b
        ∙ sym (same_other (w + d) j (λ q. let k : d ≡ j - w = omega arith in b (ap (λ x. x % 64) k))))

    pub marked_now : bit_of word ((j - w) % 64) ≡ 0 → Marked w j marks (set marks ((j - w) / 64) (word + 2 ^ ((j - w) % 64))) true
    unfolding mark_of
    marked_now z =
        let x = word + 2 ^ ((j - w) % 64) in
        let at = (j - w) / 64 in
        record {
          places = length-set marks at x;
          once = λ e d m.
              by_test (eqb (d / 64) at)
              (λ s.
              let i = eqb-true (d / 64) at s in
              ap (λ k. bit_of (get_or (set marks at x) k 0) (d % 64)) i
              ∙ ap (λ y. bit_of y (d % 64)) (get_or-set_same marks at x 0 l)
              ∙ bit_set word ((j - w) % 64) (d % 64) z
              ∙ omega (arith, same_bit d i, ap (λ k. bit_of (get_or marks k 0) (d % 64)) i))
              (λ s.
              let o = eqb-false (d / 64) at s in
              ap (λ y. bit_of y (d % 64)) (get_or-set_other marks at (d / 64) x 0 o)
              ∙ omega (arith, same_other (w + d) j (λ q. let k : d ≡ j - w = omega arith in o (ap (λ y. y / 64) k))));
          again = λ e. absurd (false≢true (sym e));
        }

-- A list put to the marks of a window

-- the marks and what is left of the list are together what the list has
abbrev pub Passed : ℕ → ℕ → List ℕ → ℕ → List ℕ → Type 0
Passed w words draw i marks =
    (d : ℕ) → d / 64 < words → mark_of marks d + total (same (w + d)) (drop i draw) ≡ times (w + d) draw

module _ (w words : ℕ) (draw : List ℕ) where
  pub passed_none : (marks : List ℕ) → Unmarked marks → Passed w words draw 0 marks
  unfolding times
  passed_none marks u d h = omega (arith, u.free d)

  module _ (i : ℕ) (l : i < length draw) (marks after : List ℕ) (new : Bool) (p : length marks ≡ words)
      (m : Marked w (get_or draw i 0) marks after new) (s : Passed w words draw i marks) where
    pub passed_more : new ≡ true → Passed w words draw (i + 1) after
    passed_more e d h =
        omega (arith, m.once e d (omega (arith, p)), s d h, total_at (same (w + d)) draw i 0 l)

    pub passed_twice : new ≡ false → NoneTwice w words draw false
    passed_twice e =
        let a = m.again e in
        let d = get_or draw i 0 - w in
        let q : get_or draw i 0 ≡ w + d = omega (arith, a.0) in
        record {
          none = λ f. absurd (false≢true f);
          some = λ f g.
              omega (
                arith,
                a.2,
                s d (omega (arith, p, a.1)),
                total_at (same (w + d)) draw i 0 l,
                same_self (w + d) (get_or draw i 0) q,
                g (w + d),
              );
        }

  pub passed_all : (i : ℕ) (marks : List ℕ) → length draw ≤ i → Passed w words draw i marks → NoneTwice w words draw true
  passed_all i marks l s =
      record {
        none = λ e d h. omega (arith, s d h, total_end (same (w + d)) draw i l, mark_le marks d);
        some = λ e. absurd (false≢true (sym e));
      }

-- One window more

-- the numbers below one end and those of the window from it on are those below the next
pub window_more : (k : ℕ) (draw : List ℕ) (answer : Bool) → ((m : ℕ) → m < k * 65536 → times m draw ≤ 1) →
    NoneTwice (k * 65536) 1024 draw answer → answer ≡ true → (m : ℕ) → m < (k + 1) * 65536 → times m draw ≤ 1
window_more k draw answer h t e m l =
    by_test (ltb m (k * 65536)) (λ s. h m (ltb-true m (k * 65536) s))
    (λ s.
    let b = ltb-false m (k * 65536) s in
    let q : k * 65536 + (m - k * 65536) ≡ m = omega arith in
    rw q at (t.none e (m - k * 65536) (omega arith)))

-- what a test of every place answers is that of the list
pub each_below : (limit : ℕ) (xs : List ℕ) (b : Bool) → (b ≡ true) ↔ ((k : ℕ) → k < length xs → get_or xs k 0 < limit) →
    b ≡ all (λ x. ltb x limit) xs
each_below limit xs true h = sym (all_of (λ x. ltb x limit) xs 0 (λ k l. lt-ltb _ _ (h.0 refl k l)))
each_below limit xs false h =
    by_test (all (λ x. ltb x limit) xs) (λ e. h.1 (λ k l. ltb-true _ _ (all_at (λ x. ltb x limit) xs 0 k e l)) ∙ sym e) (λ e. sym e)
