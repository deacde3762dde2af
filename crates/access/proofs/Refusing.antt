-- The refusal of a caller that has not the right: the questions before 27 read the state alone.
use mathlib.Core.Path.{◌≡◌, refl, sym, ap, ◌∙◌}
use mathlib.Core.Bool.{false}
use mathlib.Core.List.{List, [], ◌∷◌, ◌++◌}
use Prim.Native.Nat.{ℕ}
use Rattle.rules.specs.declared.Book.{Book}
use Rattle.rules.specs.declared.Instruction.{Instruction}
use Rattle.rules.specs.declared.Instruction.TheVariants as instruction
use Rattle.rules.specs.declared.Caller.{Caller}
use Rattle.rules.specs.declared.State.{State}
use Rattle.rules.specs.Questions.{ask, first_no}
use Rattle.rules.specs.Calls.{own_asks}
use Rattle.rules.specs.Access.{has_right, with_right}
use Rattle.rules.specs.Run.{call_of}
use Rattle.laws.proofs.Rights.{early_of, stops_there}
use Rattle.access.specs.Refusals.{state_book, refusal_of}

-- whatever its columns hold
early_own : (b : Book) (s : State) (x : Instruction) (quotes : List ℕ) → b.state.phase ≡ s.phase → b.state.day ≡ s.day → b.state.turn ≡ s.turn →
    early_of (own_asks (state_book s) (call_of x [])) ≡ early_of (own_asks b (call_of x quotes))
early_own b s (instruction.Trade i f t x) quotes p d t' = rw p refl
early_own b s (instruction.Deliver i a x) quotes p d t = rw p refl
early_own b s (instruction.Resolve i a x) quotes p d t = refl
early_own b s (instruction.PairOff i a) quotes p d t = refl
early_own b s instruction.Close quotes p d t = rw p refl
early_own b s instruction.Cutoff quotes p d t = rw p refl
early_own b s (instruction.Roll days rate) quotes p d t = rw p refl
early_own b s (instruction.Mark i m) quotes p d t = refl
early_own b s (instruction.Turn d) quotes p e t = rw (e, t) refl

-- the refusal is that of the book's own questions
pub refusal_own : (b : Book) (s : State) (x : Instruction) (quotes : List ℕ) → b.state.phase ≡ s.phase → b.state.day ≡ s.day → b.state.turn ≡ s.turn →
    refusal_of s x ≡ first_no (with_right false (own_asks b (call_of x quotes)))
refusal_own b s x quotes p d t =
    stops_there (own_asks (state_book s) (call_of x []))
    ∙ ap (λ l. first_no (l ++ (ask 27 false ∷ []))) (early_own b s x quotes p d t)
    ∙ sym (stops_there (own_asks b (call_of x quotes)))

-- the right to an instruction is that to its call
pub right_of : (w : Caller) (x : Instruction) (quotes : List ℕ) → has_right w (call_of x []) ≡ has_right w (call_of x quotes)
right_of w (instruction.Trade i f t x) quotes = refl
right_of w (instruction.Deliver i a x) quotes = refl
right_of w (instruction.Resolve i a x) quotes = refl
right_of w (instruction.PairOff i a) quotes = refl
right_of w instruction.Close quotes = refl
right_of w instruction.Cutoff quotes = refl
right_of w (instruction.Roll days rate) quotes = refl
right_of w (instruction.Mark i m) quotes = refl
right_of w (instruction.Turn d) quotes = refl
