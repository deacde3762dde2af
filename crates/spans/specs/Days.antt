-- Worked spans on whole books, as one list with one proof.
use Rattle.std.specs.Prelude.{refl, List, [], ◌∷◌, ◌++◌, ℕ, replicate}
use Rattle.rules.specs.declared.Instruction.TheVariants.{Trade, Deliver, Resolve, PairOff, Close, Cutoff, Roll}
use Rattle.rules.specs.Units.{units}
use Rattle.rules.specs.Handover.{handovers, partials}
use Rattle.rules.specs.Fails.{lacks, fails}
use Rattle.rules.specs.Ledger.{pairing}
use Rattle.rules.specs.Measures.{value_of, charge_of}
use Rattle.rules.specs.Book.{order_in, lift_conditions, lifts_sound, cells_even, conditions, sound, fresh}
use Rattle.rules.specs.Questions.{quotes_right}
use Rattle.rules.specs.Calls.{joined, issue_partials, issue_fails, called}
use Rattle.rules.specs.Tape.{read_of, quotes_of, words_of}
use Rattle.rules.specs.Run.{answer_of}
use Rattle.rules.specs.Days.{Case, case, Holds}
use Rattle.spans.specs.Span.{Turn, turns_from}
use Rattle.spans.specs.Statement.{statement_of, statement_over, statement_on, stated, statement}

-- a first day: 4 and 5 owe 100 and 50 lots; 4 delivers 60, and 5 wants to deliver 60, which is refused; both fail the rest
abbrev pub first_day : List ℕ
first_day =
    joined (words_of (Trade 0 4 1 100) [] ∷ words_of (Trade 0 5 2 50) [] ∷ words_of Close [] ∷ words_of (Deliver 0 4 60) []
    ∷ words_of (Deliver 0 5 60) [] ∷ words_of Cutoff [] ∷ [])

-- behind it: 4 resolves 15 lots; 30 more are refused; a pair-off
abbrev pub evening : List ℕ
evening = joined (words_of (Resolve 0 4 15) [] ∷ words_of (Resolve 0 4 30) [] ∷ words_of (PairOff 0 4) [] ∷ [])

-- a second day that is still settling, with a resolve in it
abbrev pub second_day : List ℕ
second_day =
    joined (words_of (Roll 1 0) (replicate 16 100000 ++ replicate 16 0) ∷ words_of (Trade 0 4 2 30) [] ∷ words_of Close []
    ∷ words_of (Deliver 0 4 10) [] ∷ words_of (Resolve 0 4 5) [] ∷ [])

-- the turns of both days
unfoldable pub two_days : List Turn
two_days = turns_from 4096 fresh (first_day ++ (evening ++ second_day))

unfoldable pub worked_spans : List Case
worked_spans =
    -- delivered and failed are those of the first day; the resolves are of both
    case (statement_over 0 4 two_days) (statement_of 100 60 40 20)
    -- the refused delivery adds nothing
    ∷ case (statement_over 0 5 two_days) (statement_of 50 0 50 0)
    -- a receiver owes nothing, and in another issue nobody does
    ∷ case (statement_over 0 1 two_days) (statement_of 0 0 0 0)
    ∷ case (statement_over 1 4 two_days) (statement_of 0 0 0 0)
    -- of the first five instructions there is no cutoff, though the day was closed; the sixth is it
    ∷ case (statement_over 0 4 (turns_from 5 fresh first_day)) (statement_of 0 0 0 0)
    ∷ case (statement_over 0 4 (turns_from 6 fresh first_day)) (statement_of 100 60 40 0)
    -- a word that is none of a tape's ends the span there; failed over due is 40 over 100
    ∷ case (statement (first_day ++ (0 ∷ evening)) 0 4) (stated 0 (100 ∷ 60 ∷ 40 ∷ 0 ∷ 40 ∷ 100 ∷ []))
    -- a tape of no words; questions 4 and 5
    ∷ case (statement [] 15 63) (stated 0 (0 ∷ 0 ∷ 0 ∷ 0 ∷ 0 ∷ 0 ∷ []))
    ∷ case (statement first_day 16 64) (stated 4 (0 ∷ 0 ∷ 0 ∷ 0 ∷ 0 ∷ 0 ∷ []))
    ∷ case (statement first_day 0 64) (stated 5 (0 ∷ 0 ∷ 0 ∷ 0 ∷ 0 ∷ 0 ∷ []))
    ∷ []

-- each by computing what the definitions give
pub worked : Holds worked_spans
unfolding worked_spans two_days turns_from statement_over statement_on statement units handovers partials lacks fails pairing value_of charge_of quotes_right lift_conditions lifts_sound cells_even conditions sound order_in issue_partials issue_fails called read_of quotes_of answer_of
worked = (refl, (refl, (refl, (refl, (refl, (refl, (refl, (refl, (refl, (refl, tt))))))))))
