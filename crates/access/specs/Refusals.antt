-- What is asked where the caller has not the right: of a sound book with enough room only the state is read, no column.
use Rattle.std.specs.Prelude.{Bool, false, List, [], ◌∷◌, ℕ}
use Rattle.rules.specs.declared.Book.{Book}
use Rattle.rules.specs.declared.Instruction.{Instruction}
use Rattle.rules.specs.declared.State.{State}
use Rattle.rules.specs.Questions.{Question, ask, first_no, ask_issue, ask_accounts}
use Rattle.rules.specs.Calls.{own_asks}
use Rattle.rules.specs.Access.{with_right}
use Rattle.rules.specs.Run.{call_of}
use Rattle.rules.specs.Book.{book_of}

-- a book of a state alone
abbrev pub state_book : State → Book
state_book s = book_of s [] [] [] [] [] [] [] [] []

-- the refusal of an instruction after 1 and 2
abbrev pub refusal_of : State → Instruction → ℕ
refusal_of s x = first_no (with_right false (own_asks (state_book s) (call_of x [])))

-- 3, 4 and 5, and then 27
abbrev pub without : Bool → ℕ → ℕ → ℕ → List Question
without inPhase i f t = ask 3 inPhase ∷ ask_issue i ∷ ask_accounts f t ∷ ask 27 false ∷ []
