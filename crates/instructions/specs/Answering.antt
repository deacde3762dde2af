-- The answer to the instruction that some words begin with.
use Rattle.std.specs.Prelude.{◌≡◌, Bool, true, false, List, ℕ, Ok}
use Rattle.rules.specs.declared.Book.{Book}
use Rattle.rules.specs.declared.Instruction.{Instruction}
use Rattle.rules.specs.declared.Instruction.TheVariants as instruction
use Rattle.rules.specs.Book.{sound, Lengths}
use Rattle.rules.specs.Tape.{read_of, quotes_of}
use Rattle.rules.specs.Run.{call_of, answer_of}
use Rattle.answers.specs.Turns.{Given, Says}

-- the words begin with an instruction
pub record Begins (ws : List ℕ) (x : Instruction) : Type 0 where
  pub count : ℕ
  pub read : read_of ws ≡ Ok (x, count)

-- an instruction that has quotes
abbrev pub rolls_of : Instruction → Bool
rolls_of (instruction.Trade i f t x) = false
rolls_of (instruction.Deliver i a x) = false
rolls_of (instruction.Resolve i a x) = false
rolls_of (instruction.PairOff i a) = false
rolls_of instruction.Close = false
rolls_of instruction.Cutoff = false
rolls_of (instruction.Roll days rate) = true
rolls_of (instruction.Mark i m) = false
rolls_of (instruction.Turn d) = false

-- quotes with which it is the call of the words
abbrev pub Quoted : List ℕ → Instruction → List ℕ → Type 0
Quoted ws x quotes = call_of x quotes ≡ call_of x (quotes_of ws)

-- the answer is the run's, and the book is sound, in columns of a book's lengths
pub record AnsweredIn (ws : List ℕ) (x : Instruction) (b : Book) (r : Given) (b' : Book) : Type 0 where
  pub says : Says (answer_of b x ws) r b'
  pub lengths : Lengths b'.nets b'.delivered b'.lifts b'.charges b'.issues b'.froms b'.tos b'.lots b'.days
  pub sound : sound b' ≡ true
