-- The questions of a caller that is not the operator, its commits, and reading an account.
use mathlib.Core.Path.{◌≡◌, refl, sym, ap, ◌∙◌}
use mathlib.Core.Bool.{Bool, true, false, cond, not, ◌&&◌}
use mathlib.Core.List.{List, [], ◌∷◌}
use Prim.Native.Nat.{ℕ, zero, suc, ◌≤◌, ◌<◌}
use native.Mathlib.Omega.{arith}
use lib.Dec.{leb, eqb}
use lib.ListN.{length, drop}
use borrow.Author.Tests.{le-leb, lt-leb, ne_eqb}
use Rattle.rules.specs.declared.Book.{Book}
use Rattle.rules.specs.declared.Caller.{Caller}
use Rattle.rules.specs.declared.State.{State}
use Rattle.rules.specs.declared.Ticket.{Ticket}
use Rattle.rules.specs.Measures.{account_count, unit_lots, most_lots, output_words, between}
use Rattle.rules.specs.Book.{all, is_taking, is_settling, delivered_total, order_of, sound}
use Rattle.rules.specs.Questions.{Question, ask, first_no, ask_issue}
use Rattle.rules.specs.Calls.{Commit, lift_asks, no_ticket, ticket_answer, ticket_of, unit_refused, unit_answer, own_asks, asks, Ask}
use Rattle.rules.specs.Access.{is_operator, with_right, asked_by, unit_by, LookAnswer, look_refused, look}
use Rattle.laws.proofs.Basics.{by_test, cond_true, cond_false}
use Rattle.laws.proofs.Answers.{said_yes, said_no}
use Rattle.laws.proofs.Rights.{stops_there}
use Rattle.told.specs.Status.{status_refused, status_answer, status_asks, reason}
use Rattle.desks.specs.Desk.{last_settlement, inventory_count, plan, simulated}
use Rattle.desks.specs.Simulation.{Tried, refused, tried_answer, outcome, simulation_asks}
use Rattle.secrecy.specs.Requests.{status_by, simulation_by}
use Rattle.access.specs.Refusals.{without}
use Rattle.columns.specs.declared.SharedColumns.{SharedColumns}
use Rattle.columns.specs.Books.{shared_book, ledger_in}
use Rattle.access.specs.Places.{seen_of, look_of}
use Rattle.host.specs.States.{holds, sound_at}
use Rattle.host.specs.Lifts.{CommitIs}
use Rattle.callers.specs.Callers.{day_made_by, asks_at, unless_unsound, day_asked_by, day_unit_by, day_status_by, day_simulation_by, early_number, day_look}
use Rattle.host.proofs.Holding.{sound_book, is_held, not_held}
use Rattle.host.proofs.Calling.{refusal}
use Rattle.callers.proofs.ByCaller.{made_without}

-- A question that is the operator's alone: its number, after question 2

module _ {T A : Type 0} (f : ℕ → T → A) (no : ℕ → A) (same : (n : ℕ) (t : T) → no (suc n) ≡ f (suc n) t) where
  numbered_so : (n m : ℕ) (t : T) → 0 < n → n ≡ m → no n ≡ f m t
  numbered_so zero m t z e = absurd (omega arith)
  numbered_so (suc n) m t z e = same n t ∙ ap (λ q. f q t) e

  question_without : (phase : ℕ) (b : Book) (n : ℕ) (qs : List Question) (t : T) → 0 < n → n ≡ first_no (with_right false qs) →
      no (unless_unsound n phase b) ≡ cond (holds phase b) (f (first_no (with_right false (ask 2 (sound b) ∷ qs))) t) (no 2)
  question_without phase b n qs t z e =
      by_test (holds phase b)
      (λ h. by_test (sound b) (λ s. rw (h, s) (numbered_so n (first_no (with_right false qs)) t z e)) (λ s. rw (h, s) (same 1 t)))
      (λ h. rw h refl)

-- what `refuse` asks is what the question asks before 27
lift_early : (p q : Bool) → first_no (ask 3 p ∷ ask 4 q ∷ ask 5 true ∷ ask 27 false ∷ []) ≡ first_no (ask 3 p ∷ ask 4 q ∷ ask 27 false ∷ [])
lift_early true true = refl
lift_early true false = refl
lift_early false q = refl

unit_early : (q : Bool) → first_no (ask 3 true ∷ ask 4 q ∷ ask 5 true ∷ ask 27 false ∷ []) ≡ first_no (ask 4 q ∷ ask 27 false ∷ [])
unit_early true = refl
unit_early false = refl

some_number : (p q : Bool) → 0 < first_no (ask 3 p ∷ ask 4 q ∷ ask 5 true ∷ ask 27 false ∷ [])
some_number true true = omega arith
some_number true false = omega arith
some_number false q = omega arith

module _ (w : Caller) (o : is_operator w ≡ false) (phase : ℕ) (b : Book) (i k n : ℕ) where
  is_number : (p : Bool) → n ≡ first_no (without p i 0 0) → 0 < n
  is_number p e = rw e (some_number p (leb i 15))

  pub ask_without : (p : Bool) → p ≡ is_settling b.state.phase → n ≡ first_no (without p i 0 0) → no_ticket (unless_unsound n phase b) ≡ day_asked_by w phase b i k
  unfolding asked_by
  ask_without p g e =
      let t = ticket_of b.state.day (order_of b) b.lifts i k in
      let qs = lift_asks b.state.phase (order_of b) b.delivered i k in
      question_without ticket_answer no_ticket (λ m u. refl) phase b n qs t (is_number p e)
      (e ∙ ap (λ c. first_no (without c i 0 0)) g ∙ lift_early (is_settling b.state.phase) (leb i 15) ∙ sym (stops_there qs))
      ∙ sym (ap (λ x. cond (holds phase b) (ticket_answer (first_no (with_right x (asks b (Ask i k) []))) t) (no_ticket 2)) o)

  pub status_without : (p : Bool) → p ≡ not (is_taking b.state.phase) → n ≡ first_no (without p i 0 0) → status_refused (unless_unsound n phase b) ≡ day_status_by w phase b i k
  unfolding status_by
  status_without p g e =
      let t = reason b.state.phase (order_of b i) (delivered_total b.delivered i) k in
      let qs = status_asks b.state.phase (order_of b) i k in
      question_without status_answer status_refused (λ m u. refl) phase b n qs t (is_number p e)
      (e ∙ ap (λ c. first_no (without c i 0 0)) g ∙ lift_early (not (is_taking b.state.phase)) (leb i 15) ∙ sym (stops_there qs))
      ∙ sym (ap (λ x. cond (holds phase b) (status_answer (first_no (with_right x (ask 2 (sound b) ∷ qs))) t) (status_refused 2)) o)

  pub unit_without : n ≡ first_no (without true i 0 0) → unit_refused (unless_unsound n phase b) ≡ day_unit_by w phase b i k
  unfolding unit_by
  unit_without e =
      let t = drop k (order_of b i) in
      question_without unit_answer unit_refused (λ m u. refl) phase b n (ask_issue i ∷ []) t (is_number true e) (e ∙ unit_early (leb i 15))
      ∙ sym (ap (λ x. cond (holds phase b) (unit_answer (first_no (with_right x (ask 2 (sound b) ∷ ask_issue i ∷ []))) t) (unit_refused 2)) o)

-- Commit

module _ (w : Caller) (o : is_operator w ≡ false) (phase : ℕ) (b : Book) (t : Ticket) (out : List ℕ) where
  commit_refused : (n : ℕ) → 0 < n → n ≡ first_no (asks_at phase b (Commit t) out) → CommitIs b (day_made_by w phase b (Commit t) out) n 0 b.lifts out
  commit_refused zero z e = absurd (omega arith)
  commit_refused (suc n) z e =
      rw (← ap (λ m. refusal m b (Commit t) out) e ∙ made_without w phase b (Commit t) out (rw o refl))
      (record { refusal = refl; count = refl; cancelled = refl; book = refl; out = refl })

  pub commit_short_by : length out < output_words → CommitIs b (day_made_by w phase b (Commit t) out) 1 0 b.lifts out
  commit_short_by h = commit_refused 1 (omega arith) (rw (lt-leb output_words (length out) h) refl)

  abbrev qs : List Question
  qs = own_asks b (Commit t)

  pub commit_without : output_words ≤ length out → (p : Bool) (n : ℕ) → p ≡ is_settling b.state.phase → n ≡ first_no (without p t.issue 0 0) →
      CommitIs b (day_made_by w phase b (Commit t) out) (unless_unsound n phase b) 0 b.lifts out
  commit_without h p n g e =
      by_test (sound_at phase b)
      (λ s. rw s (commit_refused n (is_number w o phase b t.issue 0 n p e) (own ∙ sym (room ∙ said_yes 2 (sound_at phase b) (with_right false qs) s))))
      (λ s. rw s (commit_refused 2 (omega arith) (sym (room ∙ said_no 2 (sound_at phase b) (with_right false qs) s))))
    where
      own : n ≡ first_no (with_right false qs)
      own = e ∙ ap (λ c. first_no (without c t.issue 0 0)) g ∙ lift_early (is_settling b.state.phase) (leb t.issue 15) ∙ sym (stops_there qs)

      room : first_no (asks_at phase b (Commit t) out) ≡ first_no (ask 2 (sound_at phase b) ∷ with_right false qs)
      room = said_yes 1 (leb output_words (length out)) (ask 2 (sound_at phase b) ∷ with_right false qs) (le-leb output_words (length out) h)

-- A simulated desk

simulation_early : (g x y : Bool) → early_number (first_no (ask 2 g ∷ ask 5 x ∷ ask 7 y ∷ [])) ≡ first_no (ask 2 g ∷ ask 5 x ∷ ask 27 false ∷ ask 7 y ∷ [])
simulation_early true true true = refl
simulation_early true true false = refl
simulation_early true false y = refl
simulation_early false x y = refl

simulated_number : (g x y : Bool) → 0 < first_no (ask 2 g ∷ ask 5 x ∷ ask 27 false ∷ ask 7 y ∷ [])
simulated_number true true y = omega arith
simulated_number true false y = omega arith
simulated_number false x y = omega arith

pub others_27 : (n : ℕ) → (n ≡ 2 → ⊥) → (n ≡ 5 → ⊥) → 27 ≡ early_number n
others_27 n h k = rw (ne_eqb n 2 h, ne_eqb n 5 k) refl

module _ (w : Caller) (o : is_operator w ≡ false) (phase : ℕ) (b : Book) (ss vs : List ℕ) (size : ℕ) where
  abbrev x : Bool
  x = eqb (length ss) account_count && all (λ s. leb s last_settlement) ss

  abbrev y : Bool
  y = between 1 unit_lots size && eqb (length vs) inventory_count && all (λ v. leb v most_lots) vs

  abbrev t : Tried
  t = outcome (plan b.nets ss size) (simulated (plan b.nets ss size) vs)

  pub simulation_without : (n : ℕ) → n ≡ early_number (first_no (simulation_asks (sound_at phase b) ss vs size)) → refused n ≡ day_simulation_by w phase b ss vs size
  unfolding simulation_by
  simulation_without n e =
      by_test (holds phase b)
      (λ h.
      let m = e ∙ ap (λ g. early_number (first_no (ask 2 (g && sound b) ∷ ask 5 x ∷ ask 7 y ∷ []))) h ∙ simulation_early (sound b) x y in
      numbered_so tried_answer refused (λ q u. refl) n (first_no (ask 2 (sound b) ∷ ask 5 x ∷ ask 27 false ∷ ask 7 y ∷ [])) t
      (rw m (simulated_number (sound b) x y)) m
      ∙ sym (ap (λ r. tried_answer (first_no (with_right r (simulation_asks (sound b) ss vs size))) t) o)
      ∙ sym (cond_true (holds phase b) _ _ h))
      (λ h.
      ap refused (e ∙ ap (λ g. early_number (first_no (ask 2 (g && sound b) ∷ ask 5 x ∷ ask 7 y ∷ []))) h)
      ∙ sym (cond_false (holds phase b) _ _ h))

-- Reading

unsound_look : (w : Caller) (b : Book) (i a k : ℕ) → sound b ≡ false → look_refused 2 ≡ look w b i a k
unfolding look
unsound_look w b i a k e = rw e refl

module _ (w : Caller) (phase : ℕ) (s : State) (c : SharedColumns) (i a k : ℕ) where
  abbrev b : Book
  b = shared_book s c

  pub look_unsound : sound_at phase b ≡ false → look_refused 2 ≡ day_look w phase b i a k
  look_unsound g = not_held phase b (look w b i a k) (look_refused 2) g (unsound_look w b i a k)

  look_of_book : sound_at phase b ≡ true → look_of w s.entries c.nets.now c.charges.now (ledger_in c) i a k ≡ look w b i a k
  unfolding look look_of seen_of
  look_of_book g = rw (sound_book phase b g) refl

  pub look_told : (d : LookAnswer) → sound_at phase b ≡ true → d ≡ look_of w s.entries c.nets.now c.charges.now (ledger_in c) i a k → d ≡ day_look w phase b i a k
  look_told d g e = e ∙ look_of_book g ∙ is_held phase b g (look w b i a k) (look_refused 2)
