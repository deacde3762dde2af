-- The code's two groups, by columns of sizes and counterparties, are those of the definitions.
use mathlib.Core.Path.{◌≡◌, refl, sym, ap, ◌∙◌}
use mathlib.Core.Bool.{Bool, true, cond, not, ◌&&◌}
use mathlib.Core.List.{List, [], ◌∷◌, ◌++◌}
use Prim.Native.Nat.{ℕ, zero, suc, ◌≤◌, ◌<◌}
use native.Mathlib.Omega.{arith}
use lib.Dec.{leb, ltb, eqb}
use lib.ListN.{length, get_or, drop, replicate, length-replicate}
use lib.IntN.{ℤ}
use borrow.Author.Tests.{le-leb, lt-leb, leb-true, eqb-true}
use Rattle.rules.specs.Book.{all}
use Rattle.rules.specs.declared.Refusal.{Refusal}
use Rattle.rules.specs.Refusals.{number_of as refusal_number}
use Rattle.laws.proofs.Refused.{above_0}
use Rattle.rules.specs.Records.{over}
use Rattle.rules.specs.Questions.{first_no}
use Rattle.laws.proofs.Basics.{by_test, and_left, and_right}
use Rattle.laws.proofs.Answers.{all_yes, said_yes, said_no}
use Rattle.reports.specs.Reports.{most_reports, last_sub, Reports, reports, number_of, receipts, deliveries, net_receiver, kept, sub_at, received_by, eligible, size_of, eligible_lots, faces}
use Rattle.reports.specs.Allotting.{Allotment, allotment, allot}
use Rattle.reports.specs.Trust.{columns_right, draw_right, ask_eligible, report_asks, trust_asks, facing, others, no_shares, shares_of, answered, trust_answer, trust}
use Rattle.eligible.specs.Steps.{unfaced}
use Rattle.sharing.specs.Steps.{in_group, grouped, allot_group, shared_out}
use Rattle.sharing.specs.declared.Group.TheVariants as the
use Rattle.reports.proofs.Allotting.{those_below, those_same, allot_same, allot_length, allot_beyond}
use Rattle.trust.proofs.Asks.{no_before, yes_before}
use Rattle.reports.proofs.Shares.{facing_below, others_below, shares_length}

sized : (a n : Bool) (r : ℕ) → ltb 0 (cond (a && ltb 0 r && n) r 0) ≡ a && ltb 0 r && n
sized a n r =
    by_test (a && ltb 0 r && n)
    (λ e. simp e (and_right a (ltb 0 r) (and_left (a && ltb 0 r) n e)))
    (λ e. simp e)

-- a report takes part where it has a size
eligible_size : (rs : Reports) (k : ℕ) → ltb 0 (size_of rs k) ≡ eligible rs k
unfolding size_of eligible
eligible_size rs k = sized (kept rs k) (net_receiver rs (sub_at rs k)) (received_by rs k)

-- counterparties have no part in sizes
pub size_unfaced : (subs parties : List ℕ) (lots : List ℤ) (earlier : List ℕ) (k : ℕ) →
    size_of (unfaced subs lots earlier) k ≡ size_of (reports subs parties lots earlier) k
unfolding size_of eligible receipts deliveries
size_unfaced subs parties lots earlier k = refl

pub lots_unfaced : (subs parties : List ℕ) (lots : List ℤ) (earlier : List ℕ) →
    eligible_lots (unfaced subs lots earlier) ≡ eligible_lots (reports subs parties lots earlier)
unfolding eligible_lots size_of eligible receipts deliveries
lots_unfaced subs parties lots earlier = refl

module _ (rs : Reports) (sizes draw : List ℕ) (failing : ℕ)
    (each : (k : ℕ) → k < number_of rs → get_or sizes k 0 ≡ size_of rs k) (below : all (λ k. ltb k (number_of rs)) draw ≡ true) where
  group_facing : (a : Allotment) → allot_group the.Facing failing sizes rs.parties draw a ≡ allot (size_of rs) (facing rs failing draw) a
  unfolding facing
  group_facing a =
      allot_same (λ k. get_or sizes k 0) (size_of rs) (number_of rs) each (grouped the.Facing failing sizes rs.parties draw) a
      (those_below (λ k. in_group the.Facing failing (get_or sizes k 0) (get_or rs.parties k 0)) (number_of rs) draw below)
      ∙ ap (λ l. allot (size_of rs) l a)
      (those_same (λ k. in_group the.Facing failing (get_or sizes k 0) (get_or rs.parties k 0)) (λ k. eligible rs k && faces rs failing k) (number_of rs)
      (λ k h. rw (each k h, eligible_size rs k)) draw below)

  group_others : (a : Allotment) → allot_group the.Others failing sizes rs.parties draw a ≡ allot (size_of rs) (others rs failing draw) a
  unfolding others
  group_others a =
      allot_same (λ k. get_or sizes k 0) (size_of rs) (number_of rs) each (grouped the.Others failing sizes rs.parties draw) a
      (those_below (λ k. in_group the.Others failing (get_or sizes k 0) (get_or rs.parties k 0)) (number_of rs) draw below)
      ∙ ap (λ l. allot (size_of rs) l a)
      (those_same (λ k. in_group the.Others failing (get_or sizes k 0) (get_or rs.parties k 0)) (λ k. eligible rs k && not (faces rs failing k)) (number_of rs)
      (λ k h. rw (each k h, eligible_size rs k)) draw below)

  -- the shares over the lent output
  pub shared_over : length sizes ≡ number_of rs → (fail : ℕ) (out : List ℕ) →
      shared_out failing sizes rs.parties draw fail out ≡ over (shares_of rs draw fail failing) out
  unfolding shared_out shares_of
  shared_over places fail out =
      let n = number_of rs in
      let z : List ℕ = replicate n 0 in
      let rest = drop n out in
      let first = allot (size_of rs) (facing rs failing draw) (no_shares rs fail) in
      let one : allot_group the.Facing failing sizes rs.parties draw (allotment fail (z ++ rest)) ≡ allotment first.left (first.shares ++ rest) =
      group_facing (allotment fail (z ++ rest))
      ∙ allot_beyond (size_of rs) n (facing rs failing draw) fail z rest (length-replicate n 0) (facing_below rs failing draw n below) in
      ap (λ m. (allot_group the.Others failing sizes rs.parties draw
      (allot_group the.Facing failing sizes rs.parties draw (allotment fail (replicate m 0 ++ drop m out)))).shares) places
      ∙ ap (λ x. (allot_group the.Others failing sizes rs.parties draw x).shares) one
      ∙ ap (λ x. x.shares)
      (group_others (allotment first.left (first.shares ++ rest))
      ∙ allot_beyond (size_of rs) n (others rs failing draw) first.left first.shares rest
      (allot_length (size_of rs) (facing rs failing draw) (no_shares rs fail) ∙ length-replicate n 0) (others_below rs failing draw n below))
      ∙ ap (λ m. shares_of rs draw fail failing ++ drop m out) (sym (shares_length rs draw fail failing))

-- The answer, by the questions

-- what the first questions say where none is answered 'no'
pub record Admitted (rs : Reports) (draw out : List ℕ) : Type 0 where
  pub room : 256 ≤ length out
  pub faced : length rs.parties ≡ number_of rs
  pub lotted : length rs.lots ≡ number_of rs
  pub failed : length rs.earlier ≡ number_of rs
  pub drawn : draw_right (number_of rs) draw ≡ true
  pub few : number_of rs ≤ 256

answer_refused : (r : ℕ) (shares out : List ℕ) → (r ≡ 0 → ⊥) → answered r out ≡ trust_answer r shares out
answer_refused zero shares out h = absurd (h refl)
answer_refused (suc m) shares out h = refl

module _ (rs : Reports) (draw : List ℕ) (fail failing : ℕ) (out : List ℕ) where
  pub refused_first : (r : ℕ) → r ≡ first_no (report_asks rs draw fail failing out) → (r ≡ 0 → ⊥) → answered r out ≡ trust rs draw fail failing out
  unfolding trust
  refused_first r e h =
      answer_refused r (shares_of rs draw fail failing) out h
      ∙ ap (λ m. trust_answer m (shares_of rs draw fail failing) out)
      (e ∙ sym (no_before (report_asks rs draw fail failing out) (ask_eligible rs fail ∷ []) (λ z. h (e ∙ z))))

  pub refused_by : (r : Refusal) → refusal_number r ≡ first_no (report_asks rs draw fail failing out) →
      answered (refusal_number r) out ≡ trust rs draw fail failing out
  refused_by r e = refused_first (refusal_number r) e (λ z. let o = above_0 r in omega arith)

  module _ (yes : first_no (report_asks rs draw fail failing out) ≡ 0) where
    last : first_no (trust_asks rs draw fail failing out) ≡ first_no (ask_eligible rs fail ∷ [])
    last = yes_before (report_asks rs draw fail failing out) (ask_eligible rs fail ∷ []) (omega arith) yes

    pub refused_last : eligible_lots rs < fail → answered 23 out ≡ trust rs draw fail failing out
    unfolding trust
    refused_last h =
        sym (ap (λ m. trust_answer m (shares_of rs draw fail failing) out)
        (last ∙ said_no 23 (leb fail (eligible_lots rs)) [] (lt-leb fail (eligible_lots rs) h)))

    pub allotted : fail ≤ eligible_lots rs → answered 0 (over (shares_of rs draw fail failing) out) ≡ trust rs draw fail failing out
    unfolding trust
    allotted h =
        sym (ap (λ m. trust_answer m (shares_of rs draw fail failing) out)
        (last ∙ said_yes 23 (leb fail (eligible_lots rs)) [] (le-leb fail (eligible_lots rs) h)))

    pub admitted : Admitted rs draw out
    admitted =
        let y = all_yes (report_asks rs draw fail failing out) (omega arith) yes in
        let d = y.1.1.1.1.1.0 in
        let cols = and_left (columns_right rs) (draw_right (number_of rs) draw) d in
        let p = eqb (length rs.parties) (number_of rs) in
        let l = eqb (length rs.lots) (number_of rs) in
        let e = eqb (length rs.earlier) (number_of rs) in
        record {
          room = leb-true _ _ y.0;
          faced = eqb-true _ _ (and_left p l (and_left (p && l) e cols));
          lotted = eqb-true _ _ (and_right p l (and_left (p && l) e cols));
          failed = eqb-true _ _ (and_right (p && l) e cols);
          drawn = and_right (columns_right rs) (draw_right (number_of rs) draw) d;
          few = leb-true _ _ (and_left (leb (number_of rs) most_reports) (all (λ s. leb s last_sub) rs.subs) y.1.1.1.1.1.1.0);
        }
