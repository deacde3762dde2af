-- Worked runs on a whole book, as one list with one proof.
use Rattle.std.specs.Prelude.{refl, List, [], ◌∷◌, ◌++◌, ℕ, take, replicate, pos, negsuc}
use Rattle.rules.specs.declared.Instruction.TheVariants.{Trade, Deliver, Close}
use Rattle.rules.specs.Measures.{output_words}
use Rattle.rules.specs.Units.{units}
use Rattle.rules.specs.Handover.{handovers}
use Rattle.rules.specs.Book.{net_at, lift_conditions, lifts_sound, cells_even, conditions, sound, order_in, fresh}
use Rattle.rules.specs.Calls.{joined, called}
use Rattle.rules.specs.Tape.{read_of, quotes_of, words_of}
use Rattle.rules.specs.Days.{Case, case, Holds}
use Rattle.batch.specs.Batch.{Batch, batch_from, batch_of}

-- 4 sells 100 lots to 1; a trade of 4 with itself is refused; close; 4 delivers, and 1 gets its unit
abbrev pub morning : List ℕ
morning = joined (words_of (Trade 0 4 1 100) [] ∷ words_of (Trade 0 4 4 5) [] ∷ words_of Close [] ∷ words_of (Deliver 0 4 100) [] ∷ [])

-- on a fresh book, with room for so many numbers
unfoldable pub run_with : ℕ → List ℕ → Batch
run_with room ws = batch_of fresh ws (replicate room 9) (replicate output_words 7)

-- why a run stopped, the instructions answered, their words, the words of their records
abbrev pub counts : Batch → List ℕ
counts d = d.refusal ∷ d.answered ∷ d.used ∷ d.written ∷ []

unfoldable pub worked_runs : List Case
worked_runs =
    -- the numbers of each answer, one after the other: the second is refused by 6, and the last wrote a record
    case (run_with 13 morning).answers (0 ∷ 0 ∷ 0 ∷ 6 ∷ 0 ∷ 0 ∷ 0 ∷ 0 ∷ 0 ∷ 0 ∷ 1 ∷ 0 ∷ 9 ∷ [])
    ∷ case (counts (run_with 13 morning)) (0 ∷ 4 ∷ 7 ∷ 2 ∷ [])
    -- it is the first of the output
    ∷ case (take 3 (run_with 13 morning).out) (0xa0001000 ∷ 0x80000064 ∷ 7 ∷ [])
    ∷ case (net_at (run_with 13 morning).book.nets 0 4) (negsuc 99) ∷ case (net_at (run_with 13 morning).book.nets 0 1) (pos 100)
    -- no room for a third answer; a word that is none of a tape's ends the run there
    ∷ case (counts (run_with 8 morning)) (0 ∷ 2 ∷ 4 ∷ 0 ∷ []) ∷ case (counts (run_with 8 (take 2 morning ++ (0 ∷ [])))) (14 ∷ 1 ∷ 2 ∷ 0 ∷ []) ∷ []

-- each by computing what the definitions give
pub worked : Holds worked_runs
unfolding worked_runs run_with batch_from called read_of quotes_of units handovers lift_conditions lifts_sound cells_even conditions sound order_in
worked = (refl, (refl, (refl, (refl, (refl, (refl, (refl, tt)))))))
