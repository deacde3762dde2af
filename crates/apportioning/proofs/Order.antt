-- The order has each participant just once, by average, largest first, equals by lower number.
use mathlib.Core.Path.{◌≡◌, refl, sym, ap, ◌∙◌}
use mathlib.Core.Bool.{cond}
use mathlib.Core.List.{List, [], ◌∷◌}
use Prim.Native.Nat.{ℕ, zero, suc, ◌+◌, ◌≤◌, ◌<◌}
use native.Mathlib.Omega.{arith}
use native.Mathlib.Nat.{zero-add}
use lib.Dec.{ltb, eqb}
use lib.ListN.{length, get_or}
use borrow.Author.Tests.{ltb-true, ltb-false, eqb-true, eqb-false, ne_eqb}
use Rattle.rules.specs.Measures.{total, sum}
use Rattle.rules.specs.Book.{tabulate}
use Rattle.laws.proofs.Basics.{by_test, Every, each_zip, each_map, each_at, total_map}
use Rattle.laws.proofs.Orders.{sum_tab}
use Rattle.contributions.specs.Order.{amount_of, behind_of, insert, order_from, order_of}
use Rattle.contributions.specs.Rounds.{in_order}

module _ (averages : List ℕ) where
  -- Sums over an order are those over its participants

  total_insert : (f : ℕ → ℕ) (j : ℕ) (ks : List ℕ) → total f (insert averages j ks) ≡ f j + total f ks
  total_insert f j [] = refl
  total_insert f j (k ∷ ks) =
      by_test (ltb (amount_of averages j) (amount_of averages k))
      (λ e. simp e (omega (arith, total_insert f j ks)))
      (λ e. simp e (omega (arith, total_insert f k ks)))

  total_from : (f : ℕ → ℕ) (k n : ℕ) → total f (order_from averages k n) ≡ sum (tabulate f k n)
  total_from f k zero = refl
  total_from f k (suc n) = omega (arith, total_insert f k (order_from averages (suc k) n), total_from f (suc k) n)

  length_insert : (j : ℕ) (ks : List ℕ) → length (insert averages j ks) ≡ suc (length ks)
  length_insert j [] = refl
  length_insert j (k ∷ ks) = ap suc (length_insert (behind_of averages j k) ks)

  length_from : (k n : ℕ) → length (order_from averages k n) ≡ n
  length_from k zero = refl
  length_from k (suc n) = length_insert k (order_from averages (suc k) n) ∙ ap suc (length_from (suc k) n)

  pub length_order : length (order_of averages) ≡ length averages
  unfolding order_of
  length_order = length_from 0 (length averages)

  -- What each of them has

  each_insert : (P : ℕ → Type 0) (j : ℕ) (ks : List ℕ) → P j → Every P ks → Every P (insert averages j ks)
  each_insert P j [] p ps = (p, tt)
  each_insert P j (k ∷ ks) p ps =
      by_test (ltb (amount_of averages j) (amount_of averages k))
      (λ e. simp e (ps.0, each_insert P j ks p ps.1))
      (λ e. simp e (p, each_insert P k ks ps.0 ps.1))

  each_from : (P : ℕ → Type 0) (k n : ℕ) → ((j : ℕ) → k ≤ j → j < k + n → P j) → Every P (order_from averages k n)
  each_from P k zero f = tt
  each_from P k (suc n) f =
      each_insert P k (order_from averages (suc k) n) (f k (omega arith) (omega arith))
      (each_from P (suc k) n (λ j h l. f j (omega arith) (omega arith)))

  pub order_below : Every (λ j. j < length averages) (order_of averages)
  unfolding order_of
  order_below = each_from (λ j. j < length averages) 0 (length averages) (λ j h l. omega arith)

  -- By average

  -- the first has no smaller average, and of equal ones the lower number
  pub record Before (j k : ℕ) : Type 0 where
    pub average : amount_of averages k ≤ amount_of averages j
    pub equals : amount_of averages k ≡ amount_of averages j → j < k

  abbrev Ordered : List ℕ → Type 0
  Ordered [] = Unit {0}
  Ordered (j ∷ js) = Every (Before j) js × Ordered js

  insert_ordered : (j : ℕ) (ks : List ℕ) → Every (λ k. amount_of averages k ≡ amount_of averages j → j < k) ks → Ordered ks →
      Ordered (insert averages j ks)
  insert_ordered j [] h o = (tt, tt)
  insert_ordered j (k ∷ ks) h o =
      by_test (ltb (amount_of averages j) (amount_of averages k))
      (λ e.
      let l = ltb-true (amount_of averages j) (amount_of averages k) e in
      let b : Before k j = record { average = omega arith; equals = λ q. absurd (omega arith) } in
      simp e (each_insert (Before k) j ks b o.0, insert_ordered j ks h.1 o.1))
      (λ e.
      let l = ltb-false (amount_of averages j) (amount_of averages k) e in
      let b : Before j k = record { average = l; equals = h.0 } in
      let bs : Every (Before j) ks =
      each_zip (Before k) (λ r. amount_of averages r ≡ amount_of averages j → j < r) (Before j)
      (λ r p q. record { average = omega (arith, p.average); equals = q }) ks o.0 h.1 in
      simp e (
        each_insert (Before j) k ks b bs,
        insert_ordered k ks (each_map (Before k) (λ r. amount_of averages r ≡ amount_of averages k → k < r) (λ r p. p.equals) ks o.0) o.1,
      ))

  ordered_from : (k n : ℕ) → Ordered (order_from averages k n)
  ordered_from k zero = tt
  ordered_from k (suc n) =
      insert_ordered k (order_from averages (suc k) n)
      (each_from (λ j. amount_of averages j ≡ amount_of averages k → k < j) (suc k) n (λ j h l q. h)) (ordered_from (suc k) n)

  ordered_at : (ks : List ℕ) (i h : ℕ) → Ordered ks → i < h → h < length ks → Before (get_or ks i 0) (get_or ks h 0)
  ordered_at [] i h o l m = absurd (omega arith)
  ordered_at (k ∷ ks) zero zero o l m = absurd (omega arith)
  ordered_at (k ∷ ks) zero (suc h) o l m = each_at (Before k) ks 0 h o.0 (omega arith)
  ordered_at (k ∷ ks) (suc i) zero o l m = absurd (omega arith)
  ordered_at (k ∷ ks) (suc i) (suc h) o l m = ordered_at ks i h o.1 (omega arith) (omega arith)

  pub order_falling : (i h : ℕ) → i < h → h < length averages → Before (get_or (order_of averages) i 0) (get_or (order_of averages) h 0)
  unfolding order_of
  order_falling i h l m =
      ordered_at (order_from averages 0 (length averages)) i h (ordered_from 0 (length averages)) l
      (omega (arith, length_from 0 (length averages)))

  -- the bases in the order sum to those by number
  pub bases_in_order : (bases : List ℕ) → length bases ≡ length averages → sum (in_order bases (order_of averages)) ≡ sum bases
  unfolding order_of
  bases_in_order bases h =
      total_map (λ x. x) (amount_of bases) (order_from averages 0 (length averages))
      ∙ total_from (amount_of bases) 0 (length averages)
      ∙ ap (λ n. sum (tabulate (amount_of bases) 0 n)) (sym h)
      ∙ sum_tab (amount_of bases) 0 bases (λ a. ap (amount_of bases) (zero-add a))

-- How often a number stands in a list

abbrev pub times : ℕ → List ℕ → ℕ
times k js = total (λ j. cond (eqb j k) 1 0) js

times_other : (x k n : ℕ) → x < k → sum (tabulate (λ j. cond (eqb j x) 1 0) k n) ≡ 0
times_other x k zero h = refl
times_other x k (suc n) h = rw (ne_eqb k x (λ e. omega arith)) (omega (arith, times_other x (suc k) n (omega arith)))

times_one : (x k n : ℕ) → k ≤ x → x < k + n → sum (tabulate (λ j. cond (eqb j x) 1 0) k n) ≡ 1
times_one x k zero h l = absurd (omega arith)
times_one x k (suc n) h l =
    by_test (eqb k x)
    (λ e. let q = eqb-true k x e in simp e (omega (arith, times_other x (suc k) n (omega arith))))
    (λ e. let ne = eqb-false k x e in simp e (omega (arith, times_one x (suc k) n (omega (arith, ne)) (omega arith))))

-- each participant stands in the order just once
pub order_once : (averages : List ℕ) (k : ℕ) → k < length averages → times k (order_of averages) ≡ 1
unfolding order_of
order_once averages k h =
    total_from averages (λ j. cond (eqb j k) 1 0) 0 (length averages) ∙ times_one k 0 (length averages) (omega arith) (omega arith)
