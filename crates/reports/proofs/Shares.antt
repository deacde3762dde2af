-- What the shares of a fail have: they sum to it, none passes its report's lots, those facing the failing account come
-- first, and the draw decides only the order within the two groups.
use mathlib.Core.Path.{◌≡◌, refl, sym, ap, ◌∙◌}
use mathlib.Core.Bool.{Bool, true, false, cond, not, ◌&&◌}
use mathlib.Core.List.{List, ◌++◌}
use Prim.Native.Nat.{ℕ, zero, suc, ◌+◌, ◌≤◌, ◌<◌, min}
use native.Mathlib.Omega.{arith}
use lib.Dec.{ltb}
use lib.ListN.{length, get_or, replicate, length-replicate}
use borrow.Author.Tests.{leb-true}
use Rattle.rules.specs.Measures.{total, sum}
use Rattle.rules.specs.Book.{all}
use Rattle.rules.specs.Questions.{first_no}
use Rattle.laws.proofs.Basics.{by_test, either, and_right, total_append, total_add, all_append}
use Rattle.laws.proofs.Scans.{and_false}
use Rattle.laws.proofs.Answers.{all_yes}
use Rattle.reports.specs.Reports.{Reports, number_of, numbers, received_by, eligible, size_of, eligible_lots, faces}
use Rattle.reports.specs.Allotting.{Allotment, allot}
use Rattle.reports.specs.Trust.{same, times, draw_right, columns_right, trust_asks, facing, others, no_shares, shares_of, trust}
use Rattle.reports.proofs.Allotting.{those_below, allot_length, allot_append, left_after, allot_has, not_in, allot_sum, times_those, total_those, first_whole}
use Rattle.reports.proofs.Draws.{RightDraw, right_draw, at_most_once, total_draw, total_numbers}
use Rattle.reports.proofs.Sums.{zeros, sum_numbers}

-- A fail that is allotted

pub record Allots (rs : Reports) (draw : List ℕ) (fail : ℕ) : Type 0 where
  pub drawn : RightDraw (number_of rs) draw
  pub covered : fail ≤ eligible_lots rs

-- is one whose questions are answered with yes
pub allots : (rs : Reports) (draw : List ℕ) (fail failing : ℕ) (out : List ℕ) → first_no (trust_asks rs draw fail failing out) ≡ 0 → Allots rs draw fail
allots rs draw fail failing out h =
    let y = all_yes (trust_asks rs draw fail failing out) (omega arith) h in
    record {
      drawn = right_draw (number_of rs) draw (and_right (columns_right rs) (draw_right (number_of rs) draw) y.1.1.1.1.1.0);
      covered = leb-true _ _ y.1.1.1.1.1.1.1.0;
    }

-- Sizes

pub size_most : (rs : Reports) (k : ℕ) → size_of rs k ≤ received_by rs k
unfolding size_of
size_most rs k = either (λ x. x ≤ received_by rs k) (eligible rs k) (omega arith) (omega arith)

pub size_none : (rs : Reports) (k : ℕ) → eligible rs k ≡ false → size_of rs k ≡ 0
unfolding size_of
size_none rs k e = rw e

pub size_whole : (rs : Reports) (k : ℕ) → eligible rs k ≡ true → size_of rs k ≡ received_by rs k
unfolding size_of
size_whole rs k e = rw e

-- The order in which the reports take lots

abbrev order : Reports → ℕ → List ℕ → List ℕ
order rs failing draw = facing rs failing draw ++ others rs failing draw

abbrev after_facing : Reports → List ℕ → ℕ → ℕ → Allotment
after_facing rs draw fail failing = allot (size_of rs) (facing rs failing draw) (no_shares rs fail)

abbrev is_facing : Reports → ℕ → ℕ → Bool
is_facing rs failing k = eligible rs k && faces rs failing k

abbrev is_other : Reports → ℕ → ℕ → Bool
is_other rs failing k = eligible rs k && not (faces rs failing k)

-- of those that face it and those that do not
parted : (e f : Bool) (x : ℕ) → cond (e && f) x 0 + cond (e && not f) x 0 ≡ cond e x 0
parted true true x = omega arith
parted true false x = omega arith
parted false f x = omega arith

module _ (rs : Reports) (failing : ℕ) (draw : List ℕ) where
  times_facing : (j : ℕ) → times j (facing rs failing draw) ≡ cond (is_facing rs failing j) (times j draw) 0
  unfolding facing
  times_facing j = times_those (is_facing rs failing) j draw

  times_others : (j : ℕ) → times j (others rs failing draw) ≡ cond (is_other rs failing j) (times j draw) 0
  unfolding others
  times_others j = times_those (is_other rs failing) j draw

  times_order : (j : ℕ) → times j (order rs failing draw) ≡ cond (eligible rs j) (times j draw) 0
  unfolding times
  times_order j =
      total_append (same j) (facing rs failing draw) (others rs failing draw)
      ∙ omega (arith, times_facing j, times_others j, parted (eligible rs j) (faces rs failing j) (times j draw))

  order_below : (n : ℕ) → all (λ k. ltb k n) draw ≡ true → all (λ k. ltb k n) (order rs failing draw) ≡ true
  unfolding facing others
  order_below n h =
      all_append (λ k. ltb k n) (facing rs failing draw) (others rs failing draw)
      (those_below (is_facing rs failing) n draw h) (those_below (is_other rs failing) n draw h)

  -- the lots of a group, and of both
  facing_lots : total (size_of rs) (facing rs failing draw) ≡ total (λ k. cond (is_facing rs failing k) (size_of rs k) 0) draw
  unfolding facing
  facing_lots = total_those (is_facing rs failing) (size_of rs) draw

  others_lots : total (size_of rs) (others rs failing draw) ≡ total (λ k. cond (is_other rs failing k) (size_of rs k) 0) draw
  unfolding others
  others_lots = total_those (is_other rs failing) (size_of rs) draw

  pub others_below : (n : ℕ) → all (λ k. ltb k n) draw ≡ true → all (λ k. ltb k n) (others rs failing draw) ≡ true
  unfolding others
  others_below n h = those_below (is_other rs failing) n draw h

  pub facing_below : (n : ℕ) → all (λ k. ltb k n) draw ≡ true → all (λ k. ltb k n) (facing rs failing draw) ≡ true
  unfolding facing
  facing_below n h = those_below (is_facing rs failing) n draw h

size_again : (rs : Reports) (k : ℕ) → cond (eligible rs k) (size_of rs k) 0 ≡ size_of rs k
size_again rs k = by_test (eligible rs k) (λ e. simp e) (λ e. simp e (sym (size_none rs k e)))

order_lots : (rs : Reports) (failing : ℕ) (draw : List ℕ) → RightDraw (number_of rs) draw → total (size_of rs) (order rs failing draw) ≡ eligible_lots rs
unfolding eligible_lots
order_lots rs failing draw r =
    omega (
      arith,
      total_append (size_of rs) (facing rs failing draw) (others rs failing draw),
      facing_lots rs failing draw,
      others_lots rs failing draw,
      total_add (λ k. cond (is_facing rs failing k) (size_of rs k) 0) (λ k. cond (is_other rs failing k) (size_of rs k) 0) (size_of rs)
          (λ k. parted (eligible rs k) (faces rs failing k) (size_of rs k) ∙ size_again rs k) draw,
      total_draw (size_of rs) (number_of rs) draw r,
    )

facing_sizes : (rs : Reports) (failing : ℕ) (draw : List ℕ) → RightDraw (number_of rs) draw →
    total (size_of rs) (facing rs failing draw) ≡ total (λ k. cond (faces rs failing k) (size_of rs k) 0) (numbers (number_of rs))
facing_sizes rs failing draw r =
    facing_lots rs failing draw ∙ total_draw (λ k. cond (is_facing rs failing k) (size_of rs k) 0) (number_of rs) draw r
    ∙ total_numbers (λ k. cond (is_facing rs failing k) (size_of rs k) 0) (λ k. cond (faces rs failing k) (size_of rs k) 0) (number_of rs)
    (λ k h. by_test (eligible rs k) (λ e. simp e) (λ e. simp (e, size_none rs k e) (sym (either (λ x. x ≡ 0) (faces rs failing k) refl refl))))

sum_zeros : (n : ℕ) → sum (replicate n 0) ≡ 0
sum_zeros zero = refl
sum_zeros (suc n) = omega (arith, sum_zeros n)

-- The theorems

module _ (rs : Reports) (draw : List ℕ) (fail failing : ℕ) where
  in_order : shares_of rs draw fail failing ≡ (allot (size_of rs) (order rs failing draw) (no_shares rs fail)).shares
  unfolding shares_of
  in_order =
      ap (λ x. x.shares) (allot_append (size_of rs) (facing rs failing draw) (others rs failing draw) (no_shares rs fail))

  -- there is a share for each report
  pub shares_length : length (shares_of rs draw fail failing) ≡ number_of rs
  shares_length =
      ap length in_order ∙ allot_length (size_of rs) (order rs failing draw) (no_shares rs fail) ∙ length-replicate (number_of rs) 0

  at_most_size : (k : ℕ) → get_or (shares_of rs draw fail failing) k 0 ≤ size_of rs k
  at_most_size k =
      rw in_order
      (allot_has (λ x. x ≤ size_of rs k) (size_of rs) k (λ left. omega arith) (order rs failing draw) (no_shares rs fail)
      (omega (arith, zeros (number_of rs) k)))

  -- each is at most its report's lots
  pub at_most_lots : (k : ℕ) → get_or (shares_of rs draw fail failing) k 0 ≤ received_by rs k
  at_most_lots k = omega (arith, at_most_size k, size_most rs k)

  -- and 0 for a report that is not eligible
  pub none_ineligible : (k : ℕ) → eligible rs k ≡ false → get_or (shares_of rs draw fail failing) k 0 ≡ 0
  none_ineligible k e = omega (arith, at_most_size k, size_none rs k e)

  -- the shares of those facing it are what they have before the others take any
  facing_shares : total (λ k. cond (faces rs failing k) (get_or (shares_of rs draw fail failing) k 0) 0) (numbers (number_of rs))
      ≡ sum (after_facing rs draw fail failing).shares
  unfolding shares_of
  facing_shares =
      let o = facing rs failing draw in
      let f = after_facing rs draw fail failing in
      let l : length f.shares ≡ number_of rs = allot_length (size_of rs) o (no_shares rs fail) ∙ length-replicate (number_of rs) 0 in
      total_numbers (λ k. cond (faces rs failing k) (get_or (shares_of rs draw fail failing) k 0) 0) (λ k. get_or f.shares k 0) (number_of rs)
      (λ k h.
      by_test (faces rs failing k)
      (λ e. simp e (not_in (size_of rs) k (others rs failing draw) f (times_others rs failing draw k ∙ simp (e, and_false))))
      (λ e. simp e (sym (not_in (size_of rs) k o (no_shares rs fail) (times_facing rs failing draw k ∙ simp (e, and_false)) ∙ zeros (number_of rs) k))))
      ∙ rw l at (sum_numbers f.shares)

  module _ (a : Allots rs draw fail) where
    once_in_lem : (j : ℕ) → times j (order rs failing draw) ≤ 1
    once_in_lem j =
        let o = at_most_once (number_of rs) draw a.drawn j in
        rw (times_order rs failing draw j) (either (λ x. x ≤ 1) (eligible rs j) o (omega arith))

    -- the shares sum to the fail
    pub shares_sum : sum (shares_of rs draw fail failing) ≡ fail
    shares_sum =
        let z = no_shares rs fail in
        let o = order rs failing draw in
        let s = allot_sum (size_of rs) (number_of rs) o z (length-replicate (number_of rs) 0)
        (order_below rs failing draw (number_of rs) a.drawn.below) once_in_lem (λ j p. zeros (number_of rs) j) in
        ap sum in_order
        ∙ omega (arith, s, left_after (size_of rs) o z, order_lots rs failing draw a.drawn, a.covered, sum_zeros (number_of rs))

    -- no report that does not face the failing account has a share while an eligible one that faces it has lots left
    pub facing_first : (j k : ℕ) → j < number_of rs → eligible rs j ≡ true → faces rs failing j ≡ true → faces rs failing k ≡ false →
        0 < get_or (shares_of rs draw fail failing) k 0 → get_or (shares_of rs draw fail failing) j 0 ≡ received_by rs j
    unfolding shares_of
    facing_first j k l e f g h =
        let once = a.drawn.once j l in
        first_whole (size_of rs) j k (facing rs failing draw) (others rs failing draw) (no_shares rs fail)
        (times_facing rs failing draw j ∙ simp (e, f) once)
        (times_others rs failing draw j ∙ simp (e, f))
        (times_facing rs failing draw k ∙ simp (g, and_false))
        (omega (arith, length-replicate {A = ℕ} (number_of rs) 0)) (zeros (number_of rs) k) h
        ∙ size_whole rs j e

    -- those facing it have together as much of the fail as they can take, whatever the draw
    pub facing_total : total (λ k. cond (faces rs failing k) (get_or (shares_of rs draw fail failing) k 0) 0) (numbers (number_of rs))
        ≡ min fail (total (λ k. cond (faces rs failing k) (size_of rs k) 0) (numbers (number_of rs)))
    facing_total =
        let z = no_shares rs fail in
        let o = facing rs failing draw in
        let once : (j : ℕ) → times j o ≤ 1 = λ j.
        (let h = at_most_once (number_of rs) draw a.drawn j in
        rw (times_facing rs failing draw j) (either (λ x. x ≤ 1) (is_facing rs failing j) h (omega arith))) in
        let s = allot_sum (size_of rs) (number_of rs) o z (length-replicate (number_of rs) 0)
        (facing_below rs failing draw (number_of rs) a.drawn.below) once (λ j p. zeros (number_of rs) j) in
        facing_shares
        ∙ omega (arith, s, left_after (size_of rs) o z, facing_sizes rs failing draw a.drawn, sum_zeros (number_of rs))

same_shares : (rs : Reports) (d e : List ℕ) (fail failing : ℕ) → facing rs failing d ≡ facing rs failing e →
    others rs failing d ≡ others rs failing e → shares_of rs d fail failing ≡ shares_of rs e fail failing
unfolding shares_of
same_shares rs d e fail failing f o =
    ap (λ l. (allot (size_of rs) (others rs failing d) (allot (size_of rs) l (no_shares rs fail))).shares) f
    ∙ ap (λ l. (allot (size_of rs) l (allot (size_of rs) (facing rs failing e) (no_shares rs fail))).shares) o

-- The draw decides only the order within the two groups: two draws that are both right, or both not, and give both groups
-- in the same order, give the same answer
pub draw_orders_only : (rs : Reports) (d e : List ℕ) (fail failing : ℕ) (out : List ℕ) → draw_right (number_of rs) d ≡ draw_right (number_of rs) e →
    facing rs failing d ≡ facing rs failing e → others rs failing d ≡ others rs failing e →
    trust rs d fail failing out ≡ trust rs e fail failing out
unfolding trust
draw_orders_only rs d e fail failing out r f o = rw (r, same_shares rs d e fail failing f o)
