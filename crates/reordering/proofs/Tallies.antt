-- The tally beside a list of deliveries: what it has after them is said by sums over the list and by the records joined for
-- each issue, so that the order of the list is not in it.
use mathlib.Core.Path.{◌≡◌, refl, sym, ap, subst, ◌∙◌}
use mathlib.Core.Bool.{cond, ◌&&◌}
use mathlib.Core.List.{List, [], ◌∷◌, ◌++◌, append_assoc, append-nil}
use Prim.Native.Nat.{ℕ, ◌+◌}
use native.Mathlib.Omega.{arith}
use native.Mathlib.Nat.{add-zero}
use lib.Dec.{eqb}
use borrow.Author.Tests.{eqb-false, eq-eqb}
use Rattle.rules.specs.declared.Book.{Book}
use Rattle.rules.specs.Measures.{total, Rearranged}
use Rattle.rules.specs.Units.{of_account}
use Rattle.rules.specs.Handover.{handovers}
use Rattle.rules.specs.Book.{delivered_total, order_of}
use Rattle.rules.specs.Records.{records_in}
use Rattle.rules.specs.Calls.{Answer, answer, effect}
use Rattle.rules.specs.Tally.{Tally, records_of, counted, accepted as wasAccepted, fed}
use Rattle.laws.proofs.Basics.{by_test, total_append}
use Rattle.laws.proofs.Records.{records_of_append, tens_other}
use Rattle.reordering.specs.Reordering.{Delivery, deliver, same, answers_to, AllAccepted, records_from, records_for, tally_after}
use Rattle.reordering.proofs.Same.{sum_same}
use Rattle.reordering.proofs.Raised.{Fit, Ready, accepted_fit, written}
use Rattle.reordering.proofs.Lists.{next, accepted_answer, none_no, next_ready}

-- what a delivery raises the given of an issue and account by
abbrev given_at : ℕ → ℕ → Delivery → ℕ
given_at i a d = cond (eqb i d.issue && eqb a d.account) d.lots 0

-- given rises by the list's lots, handed by the joined 10s, which join the rows
abbrev raised : Tally → List Delivery → List Answer → Tally
raised t ds rs =
    record {
      today = record {
        bought = t.today.bought;
        sold = t.today.sold;
        given = λ i a. t.today.given i a + total (given_at i a) ds;
        handed = λ i a. t.today.handed i a + total (of_account a) (records_of 10 i (records_for i ds rs));
      };
      in_all = t.in_all;
      rows = λ i. t.rows i ++ records_of 10 i (records_for i ds rs);
      lifts = t.lifts;
      day = t.day;
      turn = t.turn;
    }

-- a call writes no 10 of another issue
abbrev Own : Delivery → Answer → Type 0
Own d r = (i : ℕ) → records_of 10 i (records_in r.count r.out) ≡ records_of 10 i (records_from i d r)

own_tens : (b : Book) → Ready b → (d : Delivery) → Fit b.state.marks d → Own d (answer 0 b d.out (effect b (deliver d)))
own_tens b s d f i =
    by_test (eqb d.issue i)
    (λ e. simp e)
    (λ e.
    let us = handovers (order_of b d.issue) (delivered_total b.delivered d.issue) d.lots in
    let w = simp (eq-eqb d.issue d.issue refl) at (written b s d f d.issue) in
    simp e (ap (records_of 10 i) w ∙ tens_other d.issue i us (eqb-false d.issue i e)))

nothing_raised : (t : Tally) → t ≡ raised t [] []
nothing_raised t =
    λ j. record {
      today = record {
        bought = t.today.bought;
        sold = t.today.sold;
        given = λ i a. sym (add-zero (t.today.given i a)) j;
        handed = λ i a. sym (add-zero (t.today.handed i a)) j;
      };
      in_all = t.in_all;
      rows = λ i. sym (append-nil (t.rows i)) j;
      lifts = t.lifts;
      day = t.day;
      turn = t.turn;
    }

-- one delivery more
module _ (t : Tally) (d : Delivery) (ds : List Delivery) (r : Answer) (qs : List Answer) (o : Own d r) where
  given_more : (i a : ℕ) → t.today.given i a + given_at i a d + total (given_at i a) ds ≡ t.today.given i a + total (given_at i a) (d ∷ ds)
  given_more i a = omega arith

  handed_more : (i a : ℕ) →
      t.today.handed i a + total (of_account a) (records_of 10 i (records_in r.count r.out)) + total (of_account a) (records_of 10 i (records_for i ds qs))
      ≡ t.today.handed i a + total (of_account a) (records_of 10 i (records_for i (d ∷ ds) (r ∷ qs)))
  handed_more i a =
      let xs = records_from i d r in
      let ys = records_for i ds qs in
      omega (
        arith,
        ap (total (of_account a)) (o i),
        ap (total (of_account a)) (records_of_append 10 i xs ys),
        total_append (of_account a) (records_of 10 i xs) (records_of 10 i ys),
      )

  rows_more : (i : ℕ) →
      (t.rows i ++ records_of 10 i (records_in r.count r.out)) ++ records_of 10 i (records_for i ds qs)
      ≡ t.rows i ++ records_of 10 i (records_for i (d ∷ ds) (r ∷ qs))
  rows_more i =
      let xs = records_from i d r in
      let ys = records_for i ds qs in
      ap (λ l. (t.rows i ++ l) ++ records_of 10 i ys) (o i)
      ∙ append_assoc (t.rows i) (records_of 10 i xs) (records_of 10 i ys)
      ∙ ap (λ l. t.rows i ++ l) (sym (records_of_append 10 i xs ys))

  raised_more : raised (counted (deliver d) (records_in r.count r.out) t) ds qs ≡ raised t (d ∷ ds) (r ∷ qs)
  raised_more =
      λ j. record {
        today = record {
          bought = t.today.bought;
          sold = t.today.sold;
          given = λ i a. given_more i a j;
          handed = λ i a. handed_more i a j;
        };
        in_all = t.in_all;
        rows = λ i. rows_more i j;
        lifts = t.lifts;
        day = t.day;
        turn = t.turn;
      }

tally_of : (ds : List Delivery) (b : Book) → Ready b → AllAccepted (answers_to b ds) → (t : Tally) →
    tally_after t ds (answers_to b ds) ≡ raised t ds (answers_to b ds)
tally_of [] b s h t = nothing_raised t
tally_of (d ∷ ds) b s h t =
    let n = none_no b d h.0 in
    let k = accepted_answer b d n in
    let r = answer 0 b d.out (effect b (deliver d)) in
    let t' = counted (deliver d) (records_in r.count r.out) t in
    subst
    (λ a. tally_after (fed (deliver d) (wasAccepted a.refusal) (records_in a.count a.out) t) ds (answers_to a.book ds)
    ≡ raised t (d ∷ ds) (a ∷ answers_to a.book ds))
    (sym k)
    (tally_of ds (next b d) (next_ready b d s n) (rw (ap (λ a. a.book) k) at h.1) t'
    ∙ raised_more t d ds r (answers_to (next b d) ds) (own_tens b s d (accepted_fit b d h.0)))

-- so of two lists with the same sums and the same joined records the tallies are equal
pub same_tally : (b : Book) → Ready b → (cs ds : List Delivery) → Rearranged same cs ds → AllAccepted (answers_to b cs) →
    AllAccepted (answers_to b ds) → ((i : ℕ) → records_for i cs (answers_to b cs) ≡ records_for i ds (answers_to b ds)) →
    (t : Tally) → tally_after t cs (answers_to b cs) ≡ tally_after t ds (answers_to b ds)
same_tally b s cs ds m h k e t =
    let joined : raised t cs (answers_to b cs) ≡ raised t ds (answers_to b ds) =
    λ j. record {
      today = record {
        bought = t.today.bought;
        sold = t.today.sold;
        given = λ i a. t.today.given i a + sum_same (given_at i a) cs ds m j;
        handed = λ i a. t.today.handed i a + total (of_account a) (records_of 10 i (e i j));
      };
      in_all = t.in_all;
      rows = λ i. t.rows i ++ records_of 10 i (e i j);
      lifts = t.lifts;
      day = t.day;
      turn = t.turn;
    } in
    tally_of cs b s h t ∙ joined ∙ sym (tally_of ds b s k t)
