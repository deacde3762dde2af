-- A host's calls and questions with their caller: with the right they are those without one; without it the number is that of
-- the questions before 27, or 27.
use mathlib.Core.Path.{◌≡◌, refl, sym, ap, ◌∙◌}
use mathlib.Core.Bool.{Bool, true, false, cond, ◌&&◌}
use mathlib.Core.List.{List, [], ◌∷◌, ◌++◌}
use Prim.Native.Nat.{ℕ, zero, suc, ◌<◌}
use native.Mathlib.Omega.{arith}
use lib.Dec.{leb}
use Rattle.rules.specs.declared.Book.{Book}
use Rattle.rules.specs.declared.Caller.{Caller}
use Rattle.rules.specs.declared.Instruction.{Instruction}
use Rattle.rules.specs.declared.Instruction.TheVariants as instruction
use Rattle.rules.specs.declared.State.{State}
use Rattle.rules.specs.Book.{order_of, sound}
use Rattle.rules.specs.Questions.{Question, ask, first_no}
use Rattle.rules.specs.Calls.{Call, Ask, Roll, Answer, answer, lends, output_asks, HasRoom, own_asks, asks, effect, no_ticket, ticket_answer, ticket_of, unit_refused}
use Rattle.rules.specs.Access.{is_operator, has_right, with_right, called_by, asked_by}
use Rattle.rules.specs.Run.{call_of}
use Rattle.laws.proofs.Basics.{by_test, cond_true, cond_false}
use Rattle.laws.proofs.Answers.{Numbered, numbered, no_first, said_yes, said_no, asked_of}
use Rattle.laws.proofs.Rights.{with_right_lem, operator_asked, operator_unit, stops_there, refused_by_lem}
use Rattle.told.specs.Status.{status_refused}
use Rattle.desks.specs.Simulation.{refused as triedRefused}
use Rattle.secrecy.proofs.Rights.{operator_status, operator_simulation}
use Rattle.access.specs.Refusals.{refusal_of}
use Rattle.access.proofs.Refusing.{refusal_own, right_of}
use Rattle.desk.specs.Fields.{is_kind}
use Rattle.host.specs.declared.DayState.{DayState}
use Rattle.host.specs.States.{phase_of, number_of, holds, sound_at}
use Rattle.host.specs.Questions.{day_unit, day_status, day_simulation}
use Rattle.host.specs.Calls.{day_made, day_called, refused_by, CallIs}
use Rattle.host.specs.Lifts.{day_asked}
use Rattle.callers.specs.Callers.{day_made_by, day_called_by, asks_at, day_asked_by, day_unit_by, day_status_by, day_simulation_by}
use Rattle.host.proofs.Holding.{same_stage}
use Rattle.host.proofs.Calling.{refusal, next}

-- With the right

module _ (w : Caller) (phase : ℕ) (b : Book) where
  pub made_right : (c : Call) (out : List ℕ) → has_right w c ≡ true → day_made phase b c out ≡ day_made_by w phase b c out
  unfolding day_made day_made_by
  made_right c out h =
      ap (λ a. cond (holds phase b) a (answer (first_no (output_asks c out ++ (ask 2 false ∷ []))) b out (effect b c))) (sym (with_right_lem w b c out h))

  pub called_right : (kind : ℕ) (c : Call) (out : List ℕ) → has_right w c ≡ true → day_called kind phase b c out ≡ day_called_by w kind phase b c out
  unfolding day_called day_called_by
  called_right kind c out h = ap (λ a. cond (is_kind kind) a (answer 14 b out (effect b c))) (made_right c out h)

  -- the operator's are those without a caller
  module _ (h : is_operator w ≡ true) where
    pub operator_ask : (i k : ℕ) → day_asked phase b i k ≡ day_asked_by w phase b i k
    operator_ask i k = ap (λ a. cond (holds phase b) a (no_ticket 2)) (sym (operator_asked w h b i k))

    pub operator_unit_at : (i k : ℕ) → day_unit phase b i k ≡ day_unit_by w phase b i k
    operator_unit_at i k = ap (λ a. cond (holds phase b) a (unit_refused 2)) (sym (operator_unit w h b i k))

    pub operator_status_at : (i k : ℕ) → day_status phase b i k ≡ day_status_by w phase b i k
    operator_status_at i k = ap (λ a. cond (holds phase b) a (status_refused 2)) (sym (operator_status w h b i k))

    pub operator_simulated : (settles inventories : List ℕ) (size : ℕ) → day_simulation phase b settles inventories size ≡ day_simulation_by w phase b settles inventories size
    operator_simulated settles inventories size =
        ap (λ a. cond (holds phase b) a (triedRefused 2)) (sym (operator_simulation w h b settles inventories size))

    pub operator_made : (c : Call) (out : List ℕ) → day_made phase b c out ≡ day_made_by w phase b c out
    operator_made c out = made_right c out (rw h refl)

-- Without it: the number of a call

-- 1 and 2 stand before the others
room_if : (l right g : Bool) (out : List ℕ) (qs : List Question) →
    with_right right (asked_of l out ++ (ask 2 g ∷ qs)) ≡ asked_of l out ++ (ask 2 g ∷ with_right right qs)
room_if true right g out qs = refl
room_if false right g out qs = refl

room_before : (right g : Bool) (c : Call) (out : List ℕ) (qs : List Question) →
    with_right right (output_asks c out ++ (ask 2 g ∷ qs)) ≡ output_asks c out ++ (ask 2 g ∷ with_right right qs)
room_before right g c out qs = room_if (lends c) right g out qs

-- behind a 'no' of question 2 nothing counts
two_no : (ps qs : List Question) → first_no (ps ++ (ask 2 false ∷ qs)) ≡ first_no (ps ++ (ask 2 false ∷ []))
two_no [] qs = refl
two_no (ask m true ∷ ps) qs = two_no ps qs
two_no (ask m false ∷ ps) qs = refl

same_sound : (phase : ℕ) (b : Book) → holds phase b ≡ true → sound_at phase b ≡ sound b
same_sound phase b h = rw h

module _ (w : Caller) (phase : ℕ) (b : Book) (c : Call) (out : List ℕ) (r : has_right w c ≡ false) where
  abbrev number : ℕ
  number = first_no (asks_at phase b c out)

  held_number : holds phase b ≡ true → first_no (with_right (has_right w c) (asks b c out)) ≡ number
  held_number h =
      ap (λ x. first_no (with_right x (asks b c out))) r
      ∙ ap (λ g. first_no (with_right false (output_asks c out ++ (ask 2 g ∷ own_asks b c)))) (sym (same_sound phase b h))

  other_number : holds phase b ≡ false → number ≡ first_no (output_asks c out ++ (ask 2 false ∷ []))
  other_number h =
      ap (λ g. first_no (with_right false (output_asks c out ++ (ask 2 (g && sound b) ∷ own_asks b c)))) h
      ∙ ap first_no (room_before false false c out (own_asks b c))
      ∙ two_no (output_asks c out) (with_right false (own_asks b c))

  pub made_without : refusal number b c out ≡ day_made_by w phase b c out
  unfolding day_made_by called_by
  made_without =
      by_test (holds phase b)
      (λ h. sym (cond_true (holds phase b) _ _ h ∙ ap (λ n. answer n b out (effect b c)) (held_number h)))
      (λ h. ap (λ n. answer n b out (effect b c)) (other_number h) ∙ sym (cond_false (holds phase b) _ _ h))

-- it is a number
number_if : (l g g' : Bool) (out : List ℕ) (qs : List Question) → Numbered (asked_of l out ++ (ask 2 g ∷ qs)) → Numbered (asked_of l out ++ (ask 2 g' ∷ qs))
number_if true g g' out qs n = n
number_if false g g' out qs n = n

pub some_number : (phase : ℕ) (b : Book) (c : Call) (out : List ℕ) → 0 < first_no (asks_at phase b c out)
some_number phase b c out =
    refused_by_lem (output_asks c out ++ (ask 2 (sound_at phase b) ∷ own_asks b c))
    (number_if (lends c) (sound b) (sound_at phase b) out (own_asks b c) (numbered b c out))

-- and so is that of an ask
pub asked_number : (w : Caller) (phase : ℕ) (b : Book) (i k : ℕ) → is_operator w ≡ false → 0 < (day_asked_by w phase b i k).refusal
unfolding asked_by
asked_number w phase b i k h =
    by_test (holds phase b)
    (λ g. rw (g, h) (with_number (first_no (with_right false (asks b (Ask i k) []))) (refused_by_lem (asks b (Ask i k) []) (numbered b (Ask i k) []))))
    (λ g. rw g (omega arith))
  where
    with_number : (n : ℕ) → 0 < n → 0 < (ticket_answer n (ticket_of b.state.day (order_of b) b.lifts i k)).refusal
    with_number zero z = z
    with_number (suc n) z = z

-- The number, as the code finds it

module _ (phase : ℕ) (b : Book) (x : Instruction) (out : List ℕ) where
  abbrev call : Call
  call = call_of x []

  in_front : first_no (asks_at phase b call out) ≡ first_no (output_asks call out ++ (ask 2 (sound_at phase b) ∷ with_right false (own_asks b call)))
  in_front = ap first_no (room_before false (sound_at phase b) call out (own_asks b call))

  pub right_short : (n : ℕ) → n ≡ first_no (output_asks call out) → (n ≡ 0 → ⊥) → n ≡ first_no (asks_at phase b call out)
  right_short zero e h = absurd (h refl)
  right_short (suc n) e h = sym (in_front ∙ no_first (output_asks call out) _ n (sym e))

  module _ (room : HasRoom call out) where
    pub right_unsound : sound_at phase b ≡ false → 2 ≡ first_no (asks_at phase b call out)
    right_unsound g = sym (in_front ∙ next call out _ room ∙ said_no 2 (sound_at phase b) (with_right false (own_asks b call)) g)

    pub right_refused : (s : State) (n : ℕ) → sound_at phase b ≡ true → b.state.phase ≡ s.phase → b.state.day ≡ s.day → b.state.turn ≡ s.turn → n ≡ refusal_of s x →
        n ≡ first_no (asks_at phase b call out)
    right_refused s n g p d t e =
        e ∙ refusal_own b s x [] p d t
        ∙ sym (in_front ∙ next call out _ room ∙ said_yes 2 (sound_at phase b) (with_right false (own_asks b call)) g)

-- roll's quotes are not looked at
same_asks : (phase : ℕ) (b : Book) (x : Instruction) (quotes out : List ℕ) → first_no (asks_at phase b (call_of x []) out) ≡ first_no (asks_at phase b (call_of x quotes) out)
same_asks phase b (instruction.Trade i f t x) quotes out = refl
same_asks phase b (instruction.Deliver i a x) quotes out = refl
same_asks phase b (instruction.Resolve i a x) quotes out = refl
same_asks phase b (instruction.PairOff i a) quotes out = refl
same_asks phase b instruction.Close quotes out = refl
same_asks phase b instruction.Cutoff quotes out = refl
same_asks phase b (instruction.Roll days rate) quotes out =
    stops_there (ask 2 (sound_at phase b) ∷ own_asks b (Roll days rate [])) ∙ sym (stops_there (ask 2 (sound_at phase b) ∷ own_asks b (Roll days rate quotes)))
same_asks phase b (instruction.Mark i m) quotes out = refl
same_asks phase b (instruction.Turn d) quotes out = refl

-- The calls of a kind

pub of_kind_by : (w : Caller) (kind phase : ℕ) (b : Book) (c : Call) (out : List ℕ) → is_kind kind ≡ true → day_made_by w phase b c out ≡ day_called_by w kind phase b c out
unfolding day_called_by
of_kind_by w kind phase b c out h = rw h

pub not_kind_by : (w : Caller) (kind phase : ℕ) (b : Book) (c : Call) (out : List ℕ) → is_kind kind ≡ false → refusal 14 b c out ≡ day_called_by w kind phase b c out
unfolding day_called_by
not_kind_by w kind phase b c out h = rw h

module _ (w : Caller) (kind : ℕ) (h : DayState) (b : Book) (x : Instruction) (quotes out : List ℕ) (stage : b.state.phase ≡ phase_of h.phase) where
  abbrev made : Call
  made = call_of x quotes

  abbrev told : Answer
  told = day_called_by w kind h.phase b made out

  refused_so : (n : ℕ) → 0 < n → refusal n b made out ≡ told → CallIs told h.phase (refused_by n h) b out
  refused_so zero z e = absurd (omega arith)
  refused_so (suc n) z e =
      rw (← e)
      (record {
        refusal = refl;
        count = refl;
        cancelled = refl;
        book = refl;
        stage = same_stage h.phase ∙ ap (λ q. cond (leb h.phase 2) (number_of q) h.phase) (sym stage);
        out = refl;
      })

  pub by_no_kind : is_kind kind ≡ false → CallIs told h.phase (refused_by 14 h) b out
  by_no_kind e = refused_so 14 (omega arith) (not_kind_by w kind h.phase b made out e)

  pub by_no_right : is_kind kind ≡ true → has_right w (call_of x []) ≡ false → (n : ℕ) → n ≡ first_no (asks_at h.phase b (call_of x []) out) →
      CallIs told h.phase (refused_by n h) b out
  by_no_right k r n e =
      let m = e ∙ same_asks h.phase b x quotes out in
      refused_so n (rw m (some_number h.phase b made out))
      (ap (λ i. refusal i b made out) m ∙ made_without w h.phase b made out (sym (right_of w x quotes) ∙ r) ∙ of_kind_by w kind h.phase b made out k)

  pub by_right : is_kind kind ≡ true → has_right w (call_of x []) ≡ true → day_made h.phase b made out ≡ told
  by_right k r = made_right w h.phase b made out (sym (right_of w x quotes) ∙ r) ∙ of_kind_by w kind h.phase b made out k
