-- What a call in place answers, argued once for all: its number where one of its own questions is answered 'no', and what it
-- does where none is.
use mathlib.Core.Path.{◌≡◌, refl, sym, ◌∙◌}
use mathlib.Core.Bool.{true}
use mathlib.Core.List.{List, [], ◌∷◌}
use Prim.Native.Nat.{ℕ, ◌≤◌}
use Rattle.std.specs.Prelude.{Ok, Err, pred}
use lib.Dec.{leb}
use lib.ListN.{length}
use borrow.Author.Tests.{le-leb}
use Rattle.rules.specs.declared.Book.{Book}
use Rattle.rules.specs.declared.Refusal.{Refusal}
use Rattle.rules.specs.declared.State.{State}
use Rattle.rules.specs.Refusals.{number_of}
use Rattle.rules.specs.Measures.{output_words}
use Rattle.rules.specs.Book.{sound}
use Rattle.rules.specs.Records.{words, over}
use Rattle.rules.specs.Questions.{first_no, ask_output}
use Rattle.rules.specs.Calls.{Call, Answer, Trade, Deliver, Effect, HasRoom, own_asks, effect, called}
use Rattle.laws.proofs.Answers.{said_yes, own_first, refused_as, accepted_as, by_answer}
use Rattle.laws.proofs.Refused.{some_number}
use Rattle.answers.specs.Turns.{turn_of, Given, Says, TurnIs}

-- an output that is long enough has room
pub room_out : (out : List ℕ) → output_words ≤ length out → first_no (ask_output output_words out ∷ []) ≡ 0
room_out out h = said_yes 1 (leb output_words (length out)) [] (le-leb output_words (length out) h)

-- what a call that is not refused has to leave
pub record Does (e : Effect) (out : List ℕ) (k x : ℕ) (b : Book) (out' : List ℕ) : Type 0 where
  pub count : k ≡ e.count
  pub cancelled : x ≡ e.cancelled
  pub book : b ≡ e.book
  pub written : out' ≡ over (words e.records) out

module _ (b : Book) (c : Call) (out : List ℕ) (room : HasRoom c out) (q : sound b ≡ true) where
  -- a question is answered 'no'
  pub turn_no : (r : Refusal) → number_of r ≡ first_no (own_asks b c) → TurnIs (called b c out) (Err r) b out
  turn_no r e =
      let k = pred (number_of r) in
      rw (refused_as b c out k (own_first b c out room q ∙ sym e ∙ some_number r))
      (record { refusal = some_number r; count = refl; cancelled = refl; book = refl; out = refl })

  -- none is
  pub turn_yes : (k x : ℕ) (s : State) (b' : Book) (out' : List ℕ) → 0 ≡ first_no (own_asks b c) → Does (effect b c) out k x b' out' →
      TurnIs (called b c out) (Ok (turn_of k x s)) b' out'
  turn_yes k x s b' out' e d =
      rw (accepted_as b c out (own_first b c out room q ∙ sym e))
      (record { refusal = refl; count = d.count; cancelled = d.cancelled; book = d.book; out = d.written })

-- of an answer what is told
pub says : {d : Answer} {r : Given} {b : Book} {out : List ℕ} → TurnIs d r b out → Says d r b
says t = record { refusal = t.refusal; count = t.count; book = t.book }

-- a trade or a delivery leaves the state as it is
pub trade_state : (b : Book) (i f t x : ℕ) (out : List ℕ) → (called b (Trade i f t x) out).book.state ≡ b.state
trade_state b i f t x out = by_answer (λ d. d.book.state ≡ b.state) b (Trade i f t x) out (λ y. refl) (λ r. refl)

pub deliver_state : (b : Book) (i a x : ℕ) (out : List ℕ) → (called b (Deliver i a x) out).book.state ≡ b.state
deliver_state b i a x out = by_answer (λ d. d.book.state ≡ b.state) b (Deliver i a x) out (λ y. refl) (λ r. refl)
