-- Calls run from a book on, one after the other; and which record is kept of a call that a host makes.
use Rattle.std.specs.Prelude.{◌≡◌, List, [], ◌∷◌, ◌++◌, ℕ}
use Rattle.rules.specs.declared.Book.{Book}
use Rattle.rules.specs.declared.Instruction.TheVariants as instruction
use Rattle.rules.specs.Calls.{Call, Trade, Close, Deliver, Ask, Commit, Cutoff, Resolve, PairOff, Roll, Mark, Turn, HasRoom, called}
use Rattle.rules.specs.Run.{call_of, any_output}
use Rattle.journals.specs.Record.{Logged, instructed, committed}

-- the call of a record, and what it gives: with an output of its own
abbrev pub call_for : Logged → Call
call_for (instructed x quotes) = call_of x quotes
call_for (committed t) = Commit t

abbrev pub book_after : Book → Logged → Book
book_after b c = (called b (call_for c) any_output).book

abbrev pub replay : Book → List Logged → Book
replay b [] = b
replay b (c ∷ cs) = replay (book_after b c) cs

-- the record of a call that is made; asking has none
abbrev pub logged_of : Call → List Logged
logged_of (Trade i f t x) = instructed (instruction.Trade i f t x) [] ∷ []
logged_of Close = instructed instruction.Close [] ∷ []
logged_of (Deliver i a x) = instructed (instruction.Deliver i a x) [] ∷ []
logged_of (Ask i k) = []
logged_of (Commit t) = committed t ∷ []
logged_of Cutoff = instructed instruction.Cutoff [] ∷ []
logged_of (Resolve i a x) = instructed (instruction.Resolve i a x) [] ∷ []
logged_of (PairOff i a) = instructed (instruction.PairOff i a) [] ∷ []
logged_of (Roll days rate quotes) = instructed (instruction.Roll days rate) quotes ∷ []
logged_of (Mark i m) = instructed (instruction.Mark i m) [] ∷ []
logged_of (Turn d) = instructed (instruction.Turn d) [] ∷ []

-- a host's day from book b on: what is in the journal, and the book. Call by call, one is noted, which had room for its
-- output; or it is left out, since the book is as it was (it asked, or was refused)
pub data Kept (b : Book) : List Logged → Book → Type 0 where
  opened : Kept b [] b
  noted : {cs : List Logged} {d : Book} → Kept b cs d → (c : Call) (out : List ℕ) → HasRoom c out → Kept b (cs ++ logged_of c) (called d c out).book
  left_out : {cs : List Logged} {d : Book} → Kept b cs d → (c : Call) (out : List ℕ) → (called d c out).book ≡ d → Kept b cs (called d c out).book
