-- A call on a host's book: refused by 14, 1 or 2, or the call of the book in the columns.
use mathlib.Core.Path.{◌≡◌, refl, sym, ap, ◌∙◌}
use mathlib.Core.Bool.{true, false, cond}
use mathlib.Core.List.{List, [], ◌∷◌, ◌++◌}
use Prim.Native.Nat.{ℕ, zero, suc}
use lib.Dec.{leb}
use Rattle.std.specs.Prelude.{Ok, Err}
use Rattle.rules.specs.declared.Book.{Book}
use Rattle.rules.specs.declared.Instruction.{Instruction}
use Rattle.rules.specs.declared.Instruction.TheVariants as instruction
use native.Mathlib.Omega.{arith}
use Rattle.rules.specs.declared.Refusal.{Refusal}
use Rattle.rules.specs.Refusals.{number_of as refusal_of}
use Rattle.laws.proofs.Refused.{above_0}
use Rattle.rules.specs.Questions.{Question, ask, first_no}
use Rattle.rules.specs.Calls.{Call, Answer, answer, lends, output_asks, HasRoom, effect, called}
use Rattle.rules.specs.Run.{call_of}
use Rattle.laws.proofs.Basics.{by_test, cond_true, cond_false}
use Rattle.laws.proofs.Answers.{no_first, room, unsound_first, refused_as}
use Rattle.answers.specs.Turns.{Given, TurnIs, state_after}
use Rattle.columns.specs.declared.LentColumns.{LentColumns}
use Rattle.columns.specs.Books.{lent_book}
use Rattle.desk.specs.Fields.{is_kind}
use Rattle.host.specs.declared.DayState.{DayState}
use Rattle.host.specs.declared.DayTurned.{DayTurned}
use Rattle.host.specs.States.{phase_of, number_of, state_in, holds, sound_at}
use Rattle.host.specs.Calls.{day_made, day_called, refused_by, given_of, CallIs}
use Rattle.host.proofs.Holding.{back_state, same_stage, is_phase, is_held, not_held}

-- Question 1

-- it is asked of the output alone
pub room_of : (x : Instruction) (quotes out : List ℕ) → first_no (output_asks (call_of x []) out) ≡ first_no (output_asks (call_of x quotes) out)
room_of (instruction.Trade i f t x) quotes out = refl
room_of (instruction.Deliver i a x) quotes out = refl
room_of (instruction.Resolve i a x) quotes out = refl
room_of (instruction.PairOff i a) quotes out = refl
room_of instruction.Close quotes out = refl
room_of instruction.Cutoff quotes out = refl
room_of (instruction.Roll days rate) quotes out = refl
room_of (instruction.Mark i m) quotes out = refl
room_of (instruction.Turn d) quotes out = refl

-- where it is answered 'yes' the others are asked
pub next : (c : Call) (out : List ℕ) (qs : List Question) → HasRoom c out → first_no (output_asks c out ++ qs) ≡ first_no qs
next c out qs h = room (lends c) out qs h

-- Any call of a host

abbrev pub refusal : ℕ → Book → Call → List ℕ → Answer
refusal n b c out = answer n b out (effect b c)

module _ (phase : ℕ) (b : Book) (c : Call) (out : List ℕ) where
  abbrev none : ℕ
  none = first_no (output_asks c out ++ (ask 2 false ∷ []))

  -- it is refused by 1, whatever the book is
  pub made_short : (n : ℕ) → first_no (output_asks c out) ≡ suc n → refusal (suc n) b c out ≡ day_made phase b c out
  unfolding day_made
  made_short n e =
      by_test (holds phase b)
      (λ h. sym (cond_true (holds phase b) (called b c out) (refusal none b c out) h ∙ refused_as b c out n (no_first (output_asks c out) _ n e)))
      (λ h. sym (cond_false (holds phase b) (called b c out) (refusal none b c out) h ∙ ap (λ k. refusal k b c out) (no_first (output_asks c out) _ n e)))

  -- then by 2
  pub made_unsound : HasRoom c out → sound_at phase b ≡ false → refusal 2 b c out ≡ day_made phase b c out
  unfolding day_made
  made_unsound room g =
      ap (λ k. refusal k b c out) (sym (next c out (ask 2 false ∷ []) room))
      ∙ not_held phase b (called b c out) (refusal none b c out) g
      (λ s. ap (λ k. refusal k b c out) (next c out (ask 2 false ∷ []) room) ∙ sym (refused_as b c out 1 (unsound_first b c out room s)))

  -- a sound book's call is the rules'
  pub made_sound : sound_at phase b ≡ true → called b c out ≡ day_made phase b c out
  unfolding day_made
  made_sound g = is_held phase b g (called b c out) (refusal none b c out)

-- One of a kind

pub of_kind : (kind phase : ℕ) (b : Book) (c : Call) (out : List ℕ) → is_kind kind ≡ true → day_made phase b c out ≡ day_called kind phase b c out
unfolding day_called
of_kind kind phase b c out h = rw h

pub not_kind : (kind phase : ℕ) (b : Book) (c : Call) (out : List ℕ) → is_kind kind ≡ false → refusal 14 b c out ≡ day_called kind phase b c out
unfolding day_called
not_kind kind phase b c out h = rw h

module _ (h : DayState) (b : Book) (x : Instruction) (quotes out : List ℕ) where
  abbrev call : Call
  call = call_of x quotes

  module _ (stage : b.state.phase ≡ phase_of h.phase) where
    -- a refusal leaves the numbers as they came
    refused : (d : Answer) (n : ℕ) → refusal (suc n) b call out ≡ d → CallIs d h.phase (refused_by (suc n) h) b out
    refused d n e =
        rw (← e)
        (record {
          refusal = refl;
          count = refl;
          cancelled = refl;
          book = refl;
          stage = same_stage h.phase ∙ ap (λ q. cond (leb h.phase 2) (number_of q) h.phase) (sym stage);
          out = refl;
        })

    pub no_kind : (kind : ℕ) → is_kind kind ≡ false → CallIs (day_called kind h.phase b call out) h.phase (refused_by 14 h) b out
    no_kind kind e = refused _ 13 (not_kind kind h.phase b call out e)

    short_by : (n : ℕ) → n ≡ first_no (output_asks (call_of x []) out) → (n ≡ 0 → ⊥) → CallIs (day_made h.phase b call out) h.phase (refused_by n h) b out
    short_by zero e ne = absurd (ne refl)
    short_by (suc n) e ne = refused _ n (made_short h.phase b call out n (sym (room_of x quotes out) ∙ sym e))

    pub too_short : (r : Refusal) → refusal_of r ≡ first_no (output_asks (call_of x []) out) →
        CallIs (day_made h.phase b call out) h.phase (refused_by (refusal_of r) h) b out
    too_short r e = short_by (refusal_of r) e (λ z. let o = above_0 r in omega (arith, o, z))

    pub unsound : HasRoom call out → sound_at h.phase b ≡ false → CallIs (day_made h.phase b call out) h.phase (refused_by 2 h) b out
    unsound room g = refused _ 1 (made_unsound h.phase b call out room g)

  -- of a kind, the call is the instruction's
  pub called_is : (kind : ℕ) (r : DayTurned) (after : Book) (out' : List ℕ) → is_kind kind ≡ true →
      CallIs (day_made h.phase b call out) h.phase r after out' → CallIs (day_called kind h.phase b call out) h.phase r after out'
  called_is kind r after out' k w = rw (← of_kind kind h.phase b call out k) w

  -- else the numbers are those of the state after the call
  pub answered : (after : LentColumns) (r : Given) (out' : List ℕ) → sound_at h.phase b ≡ true →
      TurnIs (called b call out) r (lent_book (state_after (state_in h) r) after) out' →
      CallIs (day_made h.phase b call out) h.phase (given_of h r) (lent_book (state_in (given_of h r).state) after) out'
  answered after (Ok t) out' g w =
      rw (← made_sound h.phase b call out g)
      (record {
        refusal = w.refusal;
        count = w.count;
        cancelled = w.cancelled;
        book = ap (λ u. lent_book u after) (back_state t.state) ∙ w.book;
        stage = ap (λ c. number_of c.state.phase) w.book ∙ sym (cond_true (leb h.phase 2) _ _ (is_phase h.phase b g));
        out = w.out;
      })
  answered after (Err r) out' g w =
      rw (← made_sound h.phase b call out g)
      (record {
        refusal = w.refusal;
        count = w.count;
        cancelled = w.cancelled;
        book = w.book;
        stage = same_stage h.phase ∙ ap (λ (c : Book). cond (leb h.phase 2) (number_of c.state.phase) h.phase) w.book;
        out = w.out;
      })
