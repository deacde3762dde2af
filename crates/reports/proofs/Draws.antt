-- A draw that is right is the report numbers in another order: every sum over it is the sum over them.
use mathlib.Core.Path.{◌≡◌, refl, sym, ap, ◌∙◌}
use mathlib.Core.Bool.{true, false, cond}
use mathlib.Core.List.{List, [], ◌∷◌}
use Prim.Native.Nat.{ℕ, zero, suc, ◌+◌, ◌≤◌, ◌<◌}
use native.Mathlib.Omega.{arith}
use lib.Dec.{ltb, eqb}
use lib.ListN.{length}
use borrow.Author.Tests.{ltb-true, ltb-false, eqb-true, eqb-false, eq-eqb, ne_eqb}
use Rattle.rules.specs.Measures.{total}
use Rattle.rules.specs.Book.{all, tabulate}
use Rattle.laws.proofs.Basics.{by_test, and_left, and_right, and_both, all_at, total_add, count_one}
use Rattle.reports.specs.Reports.{numbers}
use Rattle.reports.specs.Trust.{times, once_in, draw_right}
use Rattle.reports.proofs.Sums.{length_numbers, number_at}
use Rattle.reports.proofs.Allotting.{same_self, same_other}

-- What a right draw has

pub record RightDraw (n : ℕ) (draw : List ℕ) : Type 0 where
  pub below : all (λ k. ltb k n) draw ≡ true
  pub once : (k : ℕ) → k < n → times k draw ≡ 1

pub right_draw : (n : ℕ) (draw : List ℕ) → draw_right n draw ≡ true → RightDraw n draw
unfolding draw_right
right_draw n draw h =
    let o = and_right (all (λ k. ltb k n) draw) (all (once_in draw) (numbers n)) h in
    record {
      below = and_left (all (λ k. ltb k n) draw) (all (once_in draw) (numbers n)) h;
      once = λ k l.
          eqb-true _ _
          (rw (number_at n k l) at (all_at (once_in draw) (numbers n) 0 k o (omega (arith, length_numbers n))));
    }

-- no number beyond is in it, so none is in it twice
times_beyond : (n j : ℕ) (ks : List ℕ) → all (λ k. ltb k n) ks ≡ true → n ≤ j → times j ks ≡ 0
unfolding times
times_beyond n j [] h l = refl
times_beyond n j (k ∷ ks) h l =
    let b = ltb-true k n (and_left (ltb k n) (all (λ i. ltb i n) ks) h) in
    omega (arith, same_other j k (λ i. omega (arith, b)), times_beyond n j ks (and_right (ltb k n) (all (λ i. ltb i n) ks) h) l)

pub at_most_once : (n : ℕ) (draw : List ℕ) → RightDraw n draw → (j : ℕ) → times j draw ≤ 1
at_most_once n draw r j =
    by_test (ltb j n) (λ h. omega (arith, r.once j (ltb-true j n h)))
    (λ h. omega (arith, times_beyond n j draw r.below (ltb-false j n h)))

-- A sum over a draw

-- the lots of those elements that are k
abbrev at : (ℕ → ℕ) → ℕ → ℕ → ℕ
at f k j = cond (eqb j k) (f j) 0

at_none : (f : ℕ → ℕ) (k : ℕ) (ks : List ℕ) → times k ks ≡ 0 → total (at f k) ks ≡ 0
unfolding times
at_none f k [] h = refl
at_none f k (j ∷ ks) h =
    by_test (eqb j k) (λ e. absurd (omega (arith, h, same_self k j (eqb-true j k e))))
    (λ e. simp e (omega (arith, at_none f k ks (omega (arith, h)))))

at_once : (f : ℕ → ℕ) (k : ℕ) (ks : List ℕ) → times k ks ≡ 1 → total (at f k) ks ≡ f k
unfolding times
at_once f k [] h = absurd (omega (arith, h))
at_once f k (j ∷ ks) h =
    by_test (eqb j k)
    (λ e.
    let i = eqb-true j k e in
    simp e (omega (arith, ap f i, at_none f k ks (omega (arith, h, same_self k j i)))))
    (λ e. simp e (omega (arith, at_once f k ks (omega (arith, h, same_other k j (eqb-false j k e))))))

-- a sum over the numbers from i on, of a lot that only j has
only_none : (x j i m : ℕ) → j < i → total (λ k. cond (eqb j k) x 0) (tabulate (λ k. k) i m) ≡ 0
only_none x j i zero h = refl
only_none x j i (suc m) h = simp (ne_eqb j i (λ e. omega arith)) (omega (arith, only_none x j (suc i) m (omega arith)))

only : (x j i m : ℕ) → i ≤ j → j < i + m → total (λ k. cond (eqb j k) x 0) (tabulate (λ k. k) i m) ≡ x
only x j i zero h l = absurd (omega arith)
only x j i (suc m) h l =
    by_test (eqb j i)
    (λ e. simp e (omega (arith, only_none x j (suc i) m (omega (arith, eqb-true j i e)))))
    (λ e. simp e (omega (arith, only x j (suc i) m (omega (arith, eqb-false j i e)) (omega arith))))

total_none : (ks : List ℕ) → total (λ k. 0) ks ≡ 0
total_none [] = refl
total_none (k ∷ ks) = omega (arith, total_none ks)

-- summed by number
by_number : (f : ℕ → ℕ) (n : ℕ) (ks : List ℕ) → all (λ k. ltb k n) ks ≡ true → total (λ k. total (at f k) ks) (numbers n) ≡ total f ks
unfolding numbers
by_number f n [] h = total_none (numbers n)
by_number f n (j ∷ ks) h =
    let l = ltb-true j n (and_left (ltb j n) (all (λ i. ltb i n) ks) h) in
    omega (
      arith,
      total_add (λ k. cond (eqb j k) (f j) 0) (λ k. total (at f k) ks) (λ k. cond (eqb j k) (f j) 0 + total (at f k) ks) (λ k. refl) (numbers n),
      only (f j) j 0 n (omega arith) (omega arith),
      by_number f n ks (and_right (ltb j n) (all (λ i. ltb i n) ks) h),
    )

total_same : (f g : ℕ → ℕ) (i m : ℕ) → ((k : ℕ) → k < i + m → f k ≡ g k) → total f (tabulate (λ k. k) i m) ≡ total g (tabulate (λ k. k) i m)
total_same f g i zero e = refl
total_same f g i (suc m) e = omega (arith, e i (omega arith), total_same f g (suc i) m (λ k l. e k (omega arith)))

pub total_numbers : (f g : ℕ → ℕ) (n : ℕ) → ((k : ℕ) → k < n → f k ≡ g k) → total f (numbers n) ≡ total g (numbers n)
unfolding numbers
total_numbers f g n e = total_same f g 0 n (λ k l. e k (omega arith))

-- every sum over a right draw is the sum over the report numbers
pub total_draw : (f : ℕ → ℕ) (n : ℕ) (draw : List ℕ) → RightDraw n draw → total f draw ≡ total f (numbers n)
total_draw f n draw r =
    sym (by_number f n draw r.below) ∙ total_numbers (λ k. total (at f k) draw) f n (λ k l. at_once f k draw (r.once k l))

-- The test as the code makes it: none beyond, as many as there are reports, none twice

not_right : (n : ℕ) (draw : List ℕ) → (draw_right n draw ≡ true → ⊥) → false ≡ draw_right n draw
not_right n draw h = by_test (draw_right n draw) (λ e. absurd (h e)) (λ e. sym e)

pub other_length : (n : ℕ) (draw : List ℕ) → (length draw ≡ n → ⊥) → false ≡ draw_right n draw
other_length n draw h =
    not_right n draw
    (λ e. h (sym (count_one draw) ∙ total_draw (λ k. 1) n draw (right_draw n draw e) ∙ count_one (numbers n) ∙ length_numbers n))

pub not_below : (n : ℕ) (draw : List ℕ) → all (λ k. ltb k n) draw ≡ false → false ≡ draw_right n draw
unfolding draw_right
not_below n draw e = simp e

pub drawn_twice : (n : ℕ) (draw : List ℕ) → (((k : ℕ) → times k draw ≤ 1) → ⊥) → false ≡ draw_right n draw
drawn_twice n draw h = not_right n draw (λ e. h (at_most_once n draw (right_draw n draw e)))

-- m numbers of which each counts 0 or 1: where they count m together, each counts 1
at_most : (f : ℕ → ℕ) (i m : ℕ) → ((k : ℕ) → k < i + m → f k ≤ 1) → total f (tabulate (λ k. k) i m) ≤ m
at_most f i zero h = omega arith
at_most f i (suc m) h = omega (arith, h i (omega arith), at_most f (suc i) m (λ k l. h k (omega arith)))

each_one : (f : ℕ → ℕ) (i m : ℕ) → ((k : ℕ) → k < i + m → f k ≤ 1) → total f (tabulate (λ k. k) i m) ≡ m →
    all (λ k. eqb (f k) 1) (tabulate (λ k. k) i m) ≡ true
each_one f i zero h e = refl
each_one f i (suc m) h e =
    let rest : (k : ℕ) → k < suc i + m → f k ≤ 1 = λ k l. h k (omega arith) in
    let o = h i (omega arith) in
    let a = at_most f (suc i) m rest in
    and_both (eqb (f i) 1) (all (λ k. eqb (f k) 1) (tabulate (λ k. k) (suc i) m)) (eq-eqb (f i) 1 (omega arith))
    (each_one f (suc i) m rest (omega arith))

pub each_once : (n : ℕ) (draw : List ℕ) → length draw ≡ n → all (λ k. ltb k n) draw ≡ true → ((k : ℕ) → k < n → times k draw ≤ 1) →
    true ≡ draw_right n draw
unfolding draw_right numbers times
each_once n draw l b o =
    sym
    (and_both (all (λ k. ltb k n) draw) (all (once_in draw) (numbers n)) b
    (each_one (λ k. times k draw) 0 n (λ k h. o k (omega arith)) (by_number (λ k. 1) n draw b ∙ count_one draw ∙ l)))
