-- A span of a tape: its first instructions, each with the book that it was run on and what it was answered.
use Rattle.std.specs.Prelude.{List, [], ◌∷◌, ℕ, zero, suc, drop, Result, Ok, Err}
use Rattle.rules.specs.declared.Book.{Book}
use Rattle.rules.specs.declared.Instruction.{Instruction}
use Rattle.rules.specs.Calls.{Answer}
use Rattle.rules.specs.Tape.{read_of}
use Rattle.rules.specs.Run.{answer_of}

-- an instruction of a run: the book before it, and its answer
pub record Turn : Type 0 where
  pub instruction : Instruction
  pub before : Book
  pub answer : Answer

-- the run's own: of an instruction that stands at the front of some words
abbrev pub turn_of : Book → Instruction → List ℕ → Turn
turn_of b x ws = record { instruction = x; before = b; answer = answer_of b x ws }

-- a reader's refusal ends the span there, and so does the end of the tape, where the reader refuses too
abbrev pub on_read : Result (Instruction × ℕ) ℕ → (Instruction → ℕ → List Turn) → List Turn
on_read (Err r) on = []
on_read (Ok (x, k)) on = on x k

-- the first n instructions of some words, or fewer, run from a book on; a refused one is one of them
unfoldable pub turns_from : ℕ → Book → List ℕ → List Turn
turns_from zero b ws = []
turns_from (suc n) b ws = on_read (read_of ws) (λ x k. turn_of b x ws ∷ turns_from n (answer_of b x ws).book (drop k ws))

-- the book behind them
abbrev pub book_behind : Book → List Turn → Book
book_behind b [] = b
book_behind b (t ∷ ts) = book_behind t.answer.book ts

-- the words behind the first n instructions, or from where the reader refuses
abbrev pub words_on : Result (Instruction × ℕ) ℕ → List ℕ → (ℕ → List ℕ) → List ℕ
words_on (Err r) ws on = ws
words_on (Ok (x, k)) ws on = on k

unfoldable pub words_behind : ℕ → List ℕ → List ℕ
words_behind zero ws = ws
words_behind (suc n) ws = words_on (read_of ws) ws (λ k. words_behind n (drop k ws))
