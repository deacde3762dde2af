-- Full units dealt in turn: cases on lists, each by computing what the definitions give.
use Rattle.std.specs.Prelude.{refl, true, false, List, [], ◌∷◌, ℕ, ℤ, pos, negsuc, Ok, Err}
use Rattle.rules.specs.declared.Instruction.TheVariants as instruction
use Rattle.rules.specs.Measures.{unit_lots}
use Rattle.rules.specs.Units.{AccountLots, account_lots, units}
use Rattle.rules.specs.Dealt.{dealt}
use Rattle.rules.specs.Lifts.{lift_of, lift}
use Rattle.rules.specs.Fails.{lacks}
use Rattle.rules.specs.Book.{in_force, order_in}
use Rattle.rules.specs.Questions.{first_no, ask_turn}
use Rattle.rules.specs.Tape.{read_of, words_of, fields_fit}
use Rattle.rules.specs.Days.{Case, case, Holds}

-- P5's nets
abbrev pub nets_p5 : List ℤ
nets_p5 = pos 0 ∷ pos 230000 ∷ pos 250000 ∷ pos 150000 ∷ negsuc 229999 ∷ negsuc 399999 ∷ []

-- a unit that is full, of an account
abbrev pub full : ℕ → AccountLots
full a = account_lots a 100000

-- the small units of P5 are the same in both orders: 2 (50,000), 3 (50,000), 1 (30,000)
abbrev pub small_p5 : List AccountLots
small_p5 = account_lots 2 50000 ∷ account_lots 3 50000 ∷ account_lots 1 30000 ∷ []

-- the order of P5's market on a day, a first day of the new order being named
abbrev pub order_p5 : ℕ → ℕ → List AccountLots
order_p5 turn day = order_in (in_force turn day) nets_p5 [] 0

-- what 26 is answered: the first day that is named already, today, and the day that is named now
abbrev pub turn_asked : ℕ → ℕ → ℕ → ℕ
turn_asked turn today d = first_no (ask_turn turn today d ∷ [])

abbrev pub turn_cases : List Case
turn_cases =
    -- the day before the named one, and that day
    case (order_p5 4 3) (full 2 ∷ full 2 ∷ full 1 ∷ full 1 ∷ full 3 ∷ small_p5)
    ∷ case (order_p5 4 4) (full 2 ∷ full 1 ∷ full 3 ∷ full 2 ∷ full 1 ∷ small_p5)
    ∷ case (order_p5 0 4) (full 2 ∷ full 2 ∷ full 1 ∷ full 1 ∷ full 3 ∷ small_p5)
    -- as many full units each: lower account first in each round
    ∷ case (dealt unit_lots (200000 ∷ 0 ∷ 200000 ∷ [])) (full 0 ∷ full 2 ∷ full 0 ∷ full 2 ∷ [])
    -- receivers by net, not by account number; who has none left drops out and the others go on
    ∷ case (dealt unit_lots (100000 ∷ 300000 ∷ 200001 ∷ 99999 ∷ []))
    (full 1 ∷ full 2 ∷ full 0 ∷ full 1 ∷ full 2 ∷ full 1 ∷ account_lots 3 99999 ∷ account_lots 2 1 ∷ [])
    ∷ case (dealt unit_lots (99999 ∷ [])) (account_lots 0 99999 ∷ [])
    ∷ case (dealt unit_lots []) []
    -- a lift among dealt units: unit 3, the second of account 2, before unit 1
    ∷ case (lift (lift_of 3 1) (order_p5 1 1)) (full 2 ∷ full 2 ∷ full 1 ∷ full 3 ∷ full 1 ∷ small_p5)
    -- 150,000 delivered: full units of account 1 that lie apart lack as one stretch, at the place of the first
    ∷ case (lacks unit_lots (order_p5 1 1) 150000)
    (account_lots 1 150000 ∷ account_lots 3 100000 ∷ account_lots 2 100000 ∷ small_p5)
    -- 26: today, before today, and tomorrow; a later one replaces one that has not come, whatever day after today it names
    ∷ case (turn_asked 0 3 3 ∷ turn_asked 0 3 2 ∷ turn_asked 0 3 4 ∷ turn_asked 0 0 0 ∷ turn_asked 0 0 1 ∷ []) (26 ∷ 26 ∷ 0 ∷ 26 ∷ 0 ∷ [])
    ∷ case (turn_asked 5 3 4 ∷ turn_asked 5 3 9 ∷ turn_asked 4 3 4 ∷ []) (0 ∷ 0 ∷ 0 ∷ [])
    -- and where the new order is in force, every day
    ∷ case (turn_asked 3 3 4 ∷ turn_asked 3 9 10 ∷ []) (26 ∷ 26 ∷ [])
    -- the word of a turn: the day in 15..0, bits 27..16 unused
    ∷ case (read_of (0xe000ffff ∷ [])) (Ok (instruction.Turn 65535, 1))
    ∷ case (read_of (0xe0010000 ∷ []) ∷ read_of (0xe8000001 ∷ []) ∷ []) (Err 14 ∷ Err 14 ∷ [])
    ∷ case (words_of (instruction.Turn 65535) []) (0xe000ffff ∷ [])
    ∷ case (fields_fit (instruction.Turn 65535) [] ∷ fields_fit (instruction.Turn 65536) [] ∷ []) (true ∷ false ∷ [])
    ∷ []

pub turns_settled : Holds turn_cases
unfolding units dealt lift lacks order_in read_of
turns_settled =
    (refl, (refl, (refl, (refl, (refl, (refl, (refl, (refl, (refl, (refl, (refl, (refl, (refl, (refl, (refl, (refl, tt))))))))))))))))
