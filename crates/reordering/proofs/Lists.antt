-- A list of deliveries: when it is wholly accepted, what the book has after it, and the records that it wrote. Each of
-- them is said by sums over the list, so that the order of the list is not in it.
use mathlib.Core.Path.{◌≡◌, refl, sym, ap, subst, ◌∙◌}
use mathlib.Core.List.{List, [], ◌∷◌, map, map-append}
use Prim.Native.Nat.{ℕ, ◌+◌, ◌-◌, ◌≤◌}
use native.Mathlib.Omega.{arith}
use native.Mathlib.Nat.{add-zero, zero-add}
use lib.Dec.{eqb}
use lib.IntN.{pos}
use lib.ListN.{get_or}
use borrow.Author.Tests.{eqb-true, eq-eqb}
use Rattle.rules.specs.declared.Book.{Book}
use Rattle.rules.specs.Measures.{total, owed_of}
use Rattle.rules.specs.Units.{AccountLots}
use Rattle.rules.specs.Handover.{covered, handovers}
use Rattle.rules.specs.Book.{delivered_total, order_of, with_delivered, with_lifts}
use Rattle.rules.specs.Questions.{first_no}
use Rattle.rules.specs.Records.{handover}
use Rattle.rules.specs.Calls.{asks, effect, called, answer}
use Rattle.laws.proofs.Basics.{by_test, Every}
use Rattle.laws.proofs.Handover.{handovers_more}
use Rattle.laws.proofs.Sound.{within_at}
use Rattle.laws.proofs.Answers.{accepted_as, no_no}
use Rattle.laws.proofs.Called.{stands}
use Rattle.reordering.specs.Reordering.{Delivery, deliver, answers_to, AllAccepted, book_after, records_for}
use Rattle.reordering.proofs.Raised.{Fit, Ready, cell_of, lots_at, counts_at, lots_in, all_yes_of, accepted_fit, accepts, cells, words, orders, totals, written}

-- One step

abbrev pub next : Book → Delivery → Book
next b d = (effect b (deliver d)).book

pub accepted_answer : (b : Book) (d : Delivery) → first_no (asks b (deliver d) d.out) ≡ 0 → called b (deliver d) d.out ≡ answer 0 b d.out (effect b (deliver d))
accepted_answer b d h = accepted_as b (deliver d) d.out h

pub none_no : (b : Book) (d : Delivery) → (called b (deliver d) d.out).refusal ≡ 0 → first_no (asks b (deliver d) d.out) ≡ 0
none_no b d h = sym (no_no (asks b (deliver d) d.out) (all_yes_of b d h))

pub next_ready : (b : Book) (d : Delivery) → Ready b → first_no (asks b (deliver d) d.out) ≡ 0 → Ready (next b d)
next_ready b d s h =
    record {
      standing = rw (accepted_answer b d h) at (stands b (deliver d) d.out s.standing);
      settling = s.settling;
    }

-- All of them

-- only delivered lots and counts change, and each by a sum
pub record Run (b b' : Book) (ds : List Delivery) : Type 0 where
  pub ready : Ready b'
  pub rest : b' ≡ with_lifts (with_delivered b b'.delivered) b'.lifts
  pub cells : (m : ℕ) → get_or b'.delivered m 0 ≡ get_or b.delivered m 0 + total (lots_at m) ds
  pub words : (m : ℕ) → get_or b'.lifts m 0 ≡ get_or b.lifts m 0 + total (counts_at m) ds

run_more : (b : Book) (d : Delivery) (ds : List Delivery) (b' : Book) → Ready b → Fit b.state.marks d → Run (next b d) b' ds → Run b b' (d ∷ ds)
run_more b d ds b' s f r =
    record {
      ready = r.ready;
      rest = r.rest;
      cells = λ m. omega (arith, r.cells m, cells b s d f m);
      words = λ m. omega (arith, r.words m, words b s d f m);
    }

pub run_of : (ds : List Delivery) (b : Book) → Ready b → AllAccepted (answers_to b ds) → Run b (book_after b (answers_to b ds)) ds
run_of [] b s h =
    record {
      ready = s;
      rest = refl;
      cells = λ m. sym (add-zero (get_or b.delivered m 0));
      words = λ m. sym (add-zero (get_or b.lifts m 0));
    }
run_of (d ∷ ds) b s h =
    let n = none_no b d h.0 in
    let k = ap (λ r. r.book) (accepted_answer b d n) in
    subst (λ c. Run b (book_after c (answers_to c ds)) (d ∷ ds)) (sym k)
    (run_more b d ds (book_after (next b d) (answers_to (next b d) ds)) s (accepted_fit b d h.0)
    (run_of ds (next b d) (next_ready b d s n) (rw k at h.1)))

-- each of them fits
pub fits_of : (ds : List Delivery) (b : Book) → AllAccepted (answers_to b ds) → Every (Fit b.state.marks) ds
fits_of [] b h = tt
fits_of (d ∷ ds) b h =
    let k = ap (λ r. r.book) (accepted_answer b d (none_no b d h.0)) in
    (accepted_fit b d h.0, fits_of ds (next b d) (rw k at h.1))

-- and no cell has more than is owed
pub owed_after : (b b' : Book) (ds : List Delivery) → Run b b' ds → (m : ℕ) →
    get_or b.delivered m 0 + total (lots_at m) ds ≤ owed_of (get_or b.nets m (pos 0))
owed_after b b' ds r m =
    let z = r.ready.standing.sizes in
    let w = within_at b'.nets b'.delivered m (z.nets ∙ sym z.delivered) r.ready.standing.parts.owed in
    let e : owed_of (get_or b'.nets m (pos 0)) ≡ owed_of (get_or b.nets m (pos 0)) = ap (λ l. owed_of (get_or l.nets m (pos 0))) r.rest in
    omega (arith, r.cells m)

-- where both hold the list is wholly accepted
pub accept_all : (ds : List Delivery) (b : Book) → Ready b → Every (Fit b.state.marks) ds →
    ((m : ℕ) → get_or b.delivered m 0 + total (lots_at m) ds ≤ owed_of (get_or b.nets m (pos 0))) → AllAccepted (answers_to b ds)
accept_all [] b s fs o = tt
accept_all (d ∷ ds) b s fs o =
    let here = rw (eq-eqb (cell_of d) (cell_of d) refl) at (o (cell_of d)) in
    let n = accepts b s d fs.0 (omega arith) in
    let k = accepted_answer b d n in (
      ap (λ r. r.refusal) k,
      rw (ap (λ r. r.book) k)
          (accept_all ds (next b d) (next_ready b d s n) fs.1 (λ m. omega (arith, cells b s d fs.0 m, o m))),
    )

-- The records

handovers_none : (us : List AccountLots) (d : ℕ) → [] ≡ handovers us d 0
unfolding handovers
handovers_none us d =
    let e : covered us (d + 0) - covered us d ≡ 0 = rw (add-zero d) (omega arith) in
    rw e

pub records_of_lem : (ds : List Delivery) (b : Book) → Ready b → AllAccepted (answers_to b ds) → (i : ℕ) →
    records_for i ds (answers_to b ds) ≡ map (handover i) (handovers (order_of b i) (delivered_total b.delivered i) (total (lots_in i) ds))
records_of_lem [] b s h i = ap (map (handover i)) (handovers_none (order_of b i) (delivered_total b.delivered i))
records_of_lem (d ∷ ds) b s h i =
    let n = none_no b d h.0 in
    let k = accepted_answer b d n in
    let f = accepted_fit b d h.0 in
    let us = order_of b i in
    let t = delivered_total b.delivered i in
    let x = total (lots_in i) ds in
    let later = records_of_lem ds (next b d) (next_ready b d s n) (rw (ap (λ r. r.book) k) at h.1) i in
    let later' : records_for i ds (answers_to (next b d) ds) ≡ map (handover i) (handovers us (t + lots_in i d) x) =
    later ∙ ap (λ o. map (handover i) (handovers o (delivered_total (next b d).delivered i) x)) (orders b s d f i)
    ∙ ap (λ m. map (handover i) (handovers us m x)) (totals b s d f i) in
    rw (k, written b s d f i, later')
    (by_test (eqb d.issue i)
    (λ e.
    let q = eqb-true d.issue i e in
    simp e (rw q (sym (map-append (handover i) (handovers us t d.lots) (handovers us (t + d.lots) x)) ∙ ap (map (handover i)) (handovers_more us t d.lots x))))
    (λ e. simp (e, add-zero, zero-add)))
