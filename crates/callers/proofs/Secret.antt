-- What the functions with a caller promise keeps others' numbers secret: on two sound books alike to it they tell a caller that
-- is not the operator the same. Of a call that is the refusal's number, of the questions and of reading all of the answer.
use mathlib.Core.Path.{◌≡◌, sym, ap, ◌∙◌}
use mathlib.Core.Bool.{true, false}
use mathlib.Core.List.{List}
use Prim.Native.Nat.{ℕ}
use lib.ListN.{length}
use Rattle.rules.specs.declared.Book.{Book}
use Rattle.rules.specs.declared.Caller.{Caller}
use Rattle.rules.specs.declared.Instruction.{Instruction}
use Rattle.rules.specs.declared.Ticket.{Ticket}
use Rattle.rules.specs.Calls.{Call, Commit, lends, no_ticket, unit_refused}
use Rattle.rules.specs.Access.{is_operator, called_by, asked_by, unit_by, look_refused, look}
use Rattle.rules.specs.Run.{call_of}
use Rattle.laws.proofs.Basics.{by_test}
use Rattle.told.specs.Status.{status_refused}
use Rattle.desks.specs.Simulation.{refused}
use Rattle.secrecy.specs.Requests.{status_by, simulation_by}
use Rattle.secrecy.specs.Secrecy.{Alike}
use Rattle.secrecy.proofs.Secret.{same_call_lem, same_ask_lem, same_unit_lem, same_status_lem, same_simulation_lem, same_look}
use Rattle.desk.specs.Fields.{is_kind}
use Rattle.host.specs.declared.DayTurned.{DayTurned}
use Rattle.host.specs.States.{sound_at}
use Rattle.host.specs.Calls.{CallIs}
use Rattle.host.specs.Lifts.{CommitIs}
use Rattle.callers.specs.Callers.{day_made_by, day_called_by, day_asked_by, day_unit_by, day_status_by, day_simulation_by, day_look}
use Rattle.host.proofs.Holding.{sound_book, is_held}
use Rattle.callers.proofs.ByCaller.{of_kind_by, not_kind_by}

module _ (w : Caller) (isNot : is_operator w ≡ false) (b b' : Book) (phase phase' : ℕ) (g : sound_at phase b ≡ true) (g' : sound_at phase' b' ≡ true) (l : Alike w b b') where
  made_by : (p : ℕ) (d : Book) → sound_at p d ≡ true → (c : Call) (out : List ℕ) → called_by w d c out ≡ day_made_by w p d c out
  unfolding day_made_by
  made_by p d h c out = is_held p d h (called_by w d c out) _

  same_made : (c : Call) (out out' : List ℕ) → (lends c ≡ true → length out ≡ length out') →
      (day_made_by w phase b c out).refusal ≡ (day_made_by w phase' b' c out').refusal
  same_made c out out' h =
      ap (λ d. d.refusal) (sym (made_by phase b g c out))
      ∙ same_call_lem w b b' (sound_book phase b g) (sound_book phase' b' g') l isNot c out out' h
      ∙ ap (λ d. d.refusal) (made_by phase' b' g' c out')

  same_kind : (kind : ℕ) (c : Call) (out out' : List ℕ) → (day_made_by w phase b c out).refusal ≡ (day_made_by w phase' b' c out').refusal →
      (day_called_by w kind phase b c out).refusal ≡ (day_called_by w kind phase' b' c out').refusal
  same_kind kind c out out' e =
      by_test (is_kind kind)
      (λ k. ap (λ d. d.refusal) (sym (of_kind_by w kind phase b c out k)) ∙ e ∙ ap (λ d. d.refusal) (of_kind_by w kind phase' b' c out' k))
      (λ k. ap (λ d. d.refusal) (sym (not_kind_by w kind phase b c out k)) ∙ ap (λ d. d.refusal) (not_kind_by w kind phase' b' c out' k))

  -- `day_call_as`
  pub same_told : (kind : ℕ) (x : Instruction) (quotes out out' : List ℕ) → length out ≡ length out' → (r r' : DayTurned) (a a' : Book) (ws ws' : List ℕ) →
      CallIs (day_called_by w kind phase b (call_of x quotes) out) phase r a ws →
      CallIs (day_called_by w kind phase' b' (call_of x quotes) out') phase' r' a' ws' → r.refusal ≡ r'.refusal
  same_told kind x quotes out out' h r r' a a' ws ws' t t' =
      t.refusal ∙ same_kind kind (call_of x quotes) out out' (same_made (call_of x quotes) out out' (λ e. h)) ∙ sym t'.refusal

  -- `day_commit_as`
  pub same_committed : (t : Ticket) (out out' : List ℕ) → length out ≡ length out' → (n n' k k' : ℕ) (ls ls' ws ws' : List ℕ) →
      CommitIs b (day_made_by w phase b (Commit t) out) n k ls ws → CommitIs b' (day_made_by w phase' b' (Commit t) out') n' k' ls' ws' → n ≡ n'
  same_committed t out out' h n n' k k' ls ls' ws ws' u u' = u.refusal ∙ same_made (Commit t) out out' (λ e. h) ∙ sym u'.refusal

  -- the questions, and `day_look`
  pub same_asked : (i k : ℕ) → day_asked_by w phase b i k ≡ day_asked_by w phase' b' i k
  same_asked i k =
      sym (is_held phase b g (asked_by w b i k) (no_ticket 2))
      ∙ same_ask_lem w b b' (sound_book phase b g) (sound_book phase' b' g') l isNot i k
      ∙ is_held phase' b' g' (asked_by w b' i k) (no_ticket 2)

  pub same_unit_told : (i k : ℕ) → day_unit_by w phase b i k ≡ day_unit_by w phase' b' i k
  same_unit_told i k =
      sym (is_held phase b g (unit_by w b i k) (unit_refused 2))
      ∙ same_unit_lem w b b' (sound_book phase b g) (sound_book phase' b' g') l isNot i k
      ∙ is_held phase' b' g' (unit_by w b' i k) (unit_refused 2)

  pub same_status_told : (i k : ℕ) → day_status_by w phase b i k ≡ day_status_by w phase' b' i k
  same_status_told i k =
      sym (is_held phase b g (status_by w b i k) (status_refused 2))
      ∙ same_status_lem w b b' (sound_book phase b g) (sound_book phase' b' g') l isNot i k
      ∙ is_held phase' b' g' (status_by w b' i k) (status_refused 2)

  pub same_simulated : (ss vs : List ℕ) (size : ℕ) → day_simulation_by w phase b ss vs size ≡ day_simulation_by w phase' b' ss vs size
  same_simulated ss vs size =
      sym (is_held phase b g (simulation_by w b ss vs size) (refused 2))
      ∙ same_simulation_lem w b b' (sound_book phase b g) (sound_book phase' b' g') l isNot ss vs size
      ∙ is_held phase' b' g' (simulation_by w b' ss vs size) (refused 2)

  pub same_seen : (i a k : ℕ) → day_look w phase b i a k ≡ day_look w phase' b' i a k
  same_seen i a k =
      sym (is_held phase b g (look w b i a k) (look_refused 2))
      ∙ same_look w b b' (sound_book phase b g) (sound_book phase' b' g') l isNot i a k
      ∙ is_held phase' b' g' (look w b' i a k) (look_refused 2)
