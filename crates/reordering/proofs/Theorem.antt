-- The same deliveries in another order. No two calls are exchanged here: whether a list is accepted, the book after it, the
-- records that it wrote and the tally are each said by sums over the list, and a rearrangement has the same sums.
use mathlib.Core.Path.{◌≡◌, refl, sym, ap, subst, ◌∙◌}
use mathlib.Core.List.{List, [], ◌∷◌, map}
use Prim.Native.Nat.{ℕ, ◌+◌}
use native.Mathlib.Omega.{arith}
use lib.ListN.{get_or}
use lib.Seq.{ext_get_or}
use Rattle.rules.specs.declared.Book.{Book}
use Rattle.rules.specs.Measures.{Rearranged}
use Rattle.rules.specs.Handover.{handovers}
use Rattle.rules.specs.Book.{delivered_total, order_of, ledger_of, with_delivered, with_lifts}
use Rattle.rules.specs.Records.{handover}
use Rattle.rules.specs.Calls.{Cutoff, Answer, called}
use Rattle.laws.proofs.Called.{Sizes}
use Rattle.reordering.specs.Reordering.{Delivery, same, Delivered, none, more, Answers, answers_to, AllAccepted, book_after, records_for, SameOutcome, SameInAnyOrder}
use Rattle.reordering.proofs.Same.{sum_same, each_same, none_same}
use Rattle.reordering.proofs.Raised.{Fit, Ready, accepted_ready, lots_at, counts_at, lots_in}
use Rattle.reordering.proofs.Lists.{Run, run_of, fits_of, owed_after, accept_all, records_of_lem}
use Rattle.reordering.proofs.Tallies.{same_tally}

-- only delivered lots and counts differ, and those are the same sums
same_book : (b b₁ b₂ : Book) (cs ds : List Delivery) → Rearranged same cs ds → Run b b₁ cs → Run b b₂ ds → b₁ ≡ b₂
same_book b b₁ b₂ cs ds r p q =
    let z₁ = p.ready.standing.sizes in
    let z₂ = q.ready.standing.sizes in
    let d : b₁.delivered ≡ b₂.delivered =
    ext_get_or 0 b₁.delivered b₂.delivered (z₁.delivered ∙ sym z₂.delivered)
    (λ m h. p.cells m ∙ ap (λ n. get_or b.delivered m 0 + n) (sum_same (lots_at m) cs ds r) ∙ sym (q.cells m)) in
    let l : b₁.lifts ≡ b₂.lifts =
    ext_get_or 0 b₁.lifts b₂.lifts (z₁.lifts ∙ sym z₂.lifts)
    (λ m h. p.words m ∙ ap (λ n. get_or b.lifts m 0 + n) (sum_same (counts_at m) cs ds r) ∙ sym (q.words m)) in
    p.rest ∙ (λ j. with_lifts (with_delivered b (d j)) (l j)) ∙ sym q.rest

outcome : (b : Book) → Ready b → (cs ds : List Delivery) → Rearranged same cs ds → AllAccepted (answers_to b cs) →
    SameOutcome Answers b cs ds (answers_to b cs) (answers_to b ds)
outcome b s cs ds m h =
    let p = run_of cs b s h in
    let o = owed_after b (book_after b (answers_to b cs)) cs p in
    let k = accept_all ds b s (each_same (Fit b.state.marks) cs ds m (fits_of cs b h))
    (λ n. let e = sum_same (lots_at n) cs ds m in omega (arith, o n)) in
    let e = same_book b (book_after b (answers_to b cs)) (book_after b (answers_to b ds)) cs ds m p (run_of ds b s k) in
    let t : (i : ℕ) → records_for i cs (answers_to b cs) ≡ records_for i ds (answers_to b ds) =
    λ i. records_of_lem cs b s h i
    ∙ ap (λ x. map (handover i) (handovers (order_of b i) (delivered_total b.delivered i) x)) (sum_same (lots_in i) cs ds m)
    ∙ sym (records_of_lem ds b s k i) in
    record {
      accepted = k;
      records = t;
      ledgers = λ out r q g l. ap (λ a. ledger_of a.book) (g ∙ ap (λ c. called c Cutoff out) e ∙ sym l);
      books = e;
      tallies = same_tally b s cs ds m h k t;
    }

-- of empty lists nothing is asked; of others the first call that is accepted says that the book is sound and in Settling
of_answers : (b : Book) → Sizes b → (cs ds : List Delivery) → Rearranged same cs ds → AllAccepted (answers_to b cs) →
    SameOutcome Answers b cs ds (answers_to b cs) (answers_to b ds)
of_answers b z [] ds m h =
    rw (sym (none_same ds m))
    (record {
      accepted = tt;
      records = λ i. refl;
      ledgers = λ out r q g l. ap (λ a. ledger_of a.book) (g ∙ sym l);
      books = refl;
      tallies = λ t. refl;
    })
of_answers b z (c ∷ cs) ds m h = outcome b (accepted_ready b c z h.0) (c ∷ cs) ds m h

answers_are : {b : Book} {ds : List Delivery} {rs : List Answer} → Delivered Answers b ds rs → rs ≡ answers_to b ds
answers_are none = refl
answers_are (more {b} {ds} {rs} d r g p) = ap (λ l. r ∷ l) (answers_are p) ∙ ap (λ a. a ∷ answers_to a.book ds) g

-- F-11 of the definitions: of a book its columns' sizes are assumed, and nothing else
pub same_in_any_order : (b : Book) → Sizes b → SameInAnyOrder Answers b
same_in_any_order b z cs ds rs qs m p q h =
    let e = answers_are p in
    let f = answers_are q in
    subst (λ xs. SameOutcome Answers b cs ds xs qs) (sym e)
    (subst (λ ys. SameOutcome Answers b cs ds (answers_to b cs) ys) (sym f)
    (of_answers b z cs ds m (subst AllAccepted e h)))
