-- What a delivery answers on the book whose columns it is lent: refused, and made.
use mathlib.Core.Path.{◌≡◌, refl, subst}
use mathlib.Core.Bool.{Bool, true}
use mathlib.Core.List.{List}
use Prim.Native.Nat.{ℕ, ◌≤◌}
use Rattle.std.specs.Prelude.{Ok, Err}
use lib.ListN.{length}
use lib.IntN.{ℤ}
use Rattle.rules.specs.declared.Book.{Book}
use Rattle.rules.specs.declared.Refusal.{Refusal}
use Rattle.rules.specs.declared.State.{State}
use Rattle.rules.specs.Measures.{output_words}
use Rattle.rules.specs.Refusals.{number_of}
use Rattle.rules.specs.Questions.{first_no}
use Rattle.rules.specs.Book.{in_force, sound}
use Rattle.rules.specs.Calls.{Deliver, deliver_asks, effect, called}
use Rattle.answers.specs.Turns.{turn_of, TurnIs, within_cells}
use Rattle.answers.proofs.Turning.{Does, room_out, turn_no, turn_yes}
use Rattle.delivery.specs.Deliver.{Delivered}

delivered_to : (s : State) (new : Bool) (nets : List ℤ) (delivered after lifts raised : List ℕ) (i a x : ℕ) (lent out : List ℕ) (k : ℕ) (b : Book) →
    new ≡ in_force s.turn s.day → Delivered new nets delivered after lifts raised i a x lent out k →
    Does (effect (within_cells s nets delivered lifts b) (Deliver i a x)) lent k 0 (within_cells s nets after raised b) out
delivered_to s new nets delivered after lifts raised i a x lent out k b e c =
    let d = subst (λ (o : Bool). Delivered o nets delivered after lifts raised i a x lent out k) e c in
    record { count = d.count; cancelled = refl; book = rw (d.column, d.counted); written = d.output }

module _ (s : State) (nets : List ℤ) (delivered lifts : List ℕ) (i a x : ℕ) (lent : List ℕ) (long : output_words ≤ length lent) (b : Book)
    (q : sound (within_cells s nets delivered lifts b) ≡ true) where
  pub delivery_refused : (r : Refusal) → number_of r ≡ first_no (deliver_asks s.phase s.marks nets delivered i a x) →
      TurnIs (called (within_cells s nets delivered lifts b) (Deliver i a x) lent) (Err r) (within_cells s nets delivered lifts b) lent
  delivery_refused r e = turn_no (within_cells s nets delivered lifts b) (Deliver i a x) lent (room_out lent long) q r e

  pub delivery_made : (new : Bool) (after raised out : List ℕ) (k : ℕ) → 0 ≡ first_no (deliver_asks s.phase s.marks nets delivered i a x) →
      new ≡ in_force s.turn s.day → Delivered new nets delivered after lifts raised i a x lent out k →
      TurnIs (called (within_cells s nets delivered lifts b) (Deliver i a x) lent) (Ok (turn_of k 0 s)) (within_cells s nets after raised b) out
  delivery_made new after raised out k e o c =
      turn_yes (within_cells s nets delivered lifts b) (Deliver i a x) lent (room_out lent long) q k 0 s (within_cells s nets after raised b) out e
      (delivered_to s new nets delivered after lifts raised i a x lent out k b o c)
