-- Who may call, who may look: cases on lists, each by computing what the definitions give.
use Rattle.std.specs.Prelude.{refl, true, false, List, [], ◌∷◌, map, ℕ, drop, replicate, set, pos, negsuc}
use Rattle.rules.specs.declared.Caller.{Caller}
use Rattle.rules.specs.declared.Entry.{Entry}
use Rattle.rules.specs.declared.Phase.TheVariants.{Taking, Settling, Cut}
use Rattle.rules.specs.Units.{account_lots}
use Rattle.rules.specs.Ledger.{entry}
use Rattle.rules.specs.Book.{fresh}
use Rattle.rules.specs.Questions.{Question, ask, first_no, ask_sound, ask_issue}
use Rattle.rules.specs.Calls.{Trade, Close, Deliver, Ask, Commit, Cutoff, Resolve, PairOff, Roll, Mark, Turn, trade_asks, close_asks, deliver_asks, mark_asks, turn_asks, ticket_for}
use Rattle.rules.specs.Access.{owns, has_right, may_read, with_right, asks_by, entries_at, first_seen, seen, none_seen, look_asks}
use Rattle.rules.specs.Days.{fail, only_mark, marked_nets, Case, case, Holds}

-- account 5 is participant 0's, accounts 2 and 3 are participant 1's; account 4's owner number is 16, which names nobody, and
-- so do all others
abbrev pub owners_p5 : List ℕ
owners_p5 = set (set (set (set (replicate 64 255) 5 0) 2 1) 3 1) 4 16

abbrev pub by : ℕ → Caller
by n = record { number = n; owners = owners_p5 }

-- the numbers of questions in their order
abbrev number_of : Question → ℕ
number_of (ask n c) = n

abbrev pub numbers_of : List Question → List ℕ
numbers_of = map number_of

-- each call's own order of 27
abbrev pub order_cases : List Case
order_cases =
    case (numbers_of (asks_by (by 0) fresh (Trade 0 1 2 3) [])) (2 ∷ 3 ∷ 4 ∷ 5 ∷ 27 ∷ 6 ∷ 7 ∷ 19 ∷ 8 ∷ [])
    ∷ case (numbers_of (asks_by (by 0) fresh Close [])) (2 ∷ 3 ∷ 27 ∷ [])
    ∷ case (numbers_of (asks_by (by 0) fresh (Deliver 0 1 2) [])) (1 ∷ 2 ∷ 3 ∷ 4 ∷ 5 ∷ 27 ∷ 7 ∷ 19 ∷ 9 ∷ [])
    ∷ case (numbers_of (asks_by (by 0) fresh (Ask 0 1) [])) (2 ∷ 3 ∷ 4 ∷ 27 ∷ 16 ∷ [])
    ∷ case (numbers_of (asks_by (by 0) fresh (Commit (ticket_for 0 1 (account_lots 2 3) 4 5)) []))
    (1 ∷ 2 ∷ 3 ∷ 4 ∷ 27 ∷ 16 ∷ 17 ∷ 18 ∷ [])
    ∷ case (numbers_of (asks_by (by 0) fresh Cutoff [])) (1 ∷ 2 ∷ 3 ∷ 27 ∷ 10 ∷ [])
    ∷ case (numbers_of (asks_by (by 0) fresh (Resolve 0 1 2) [])) (1 ∷ 2 ∷ 4 ∷ 5 ∷ 27 ∷ 7 ∷ 19 ∷ 9 ∷ [])
    ∷ case (numbers_of (asks_by (by 0) fresh (PairOff 0 1) [])) (2 ∷ 4 ∷ 5 ∷ 27 ∷ [])
    ∷ case (numbers_of (asks_by (by 0) fresh (Roll 1 2 []) [])) (2 ∷ 3 ∷ 27 ∷ 11 ∷ 12 ∷ [])
    ∷ case (numbers_of (asks_by (by 0) fresh (Mark 0 1) [])) (2 ∷ 4 ∷ 27 ∷ 20 ∷ [])
    -- 26 stands after 3, and so ahead of 27
    ∷ case (numbers_of (asks_by (by 0) fresh (Turn 1) [])) (2 ∷ 26 ∷ 27 ∷ [])
    -- the unit question, and reading
    ∷ case (numbers_of (with_right false (ask_sound fresh ∷ ask_issue 0 ∷ []))) (2 ∷ 4 ∷ 27 ∷ [])
    ∷ case (numbers_of (with_right false (look_asks fresh 0 1))) (2 ∷ 4 ∷ 5 ∷ 27 ∷ [])
    ∷ []

-- whose an account is, and who may do what
abbrev pub right_cases : List Case
right_cases =
    -- its own, another's, nobody's; no account is the operator's own, nor that of a caller who is no participant
    case (owns (by 0) 5 ∷ owns (by 0) 2 ∷ owns (by 0) 4 ∷ owns (by 16) 4 ∷ owns (by 255) 0 ∷ owns (by 0) 64 ∷ [])
    (true ∷ false ∷ false ∷ false ∷ false ∷ false ∷ [])
    -- a participant delivers and resolves for its own accounts, and makes no other call
    ∷ case
    (has_right (by 0) (Deliver 0 5 1) ∷ has_right (by 0) (Resolve 0 5 1) ∷ has_right (by 0) (PairOff 0 5) ∷ has_right (by 0) (Trade 0 5 2 1)
    ∷ has_right (by 0) (Deliver 0 2 1) ∷ has_right (by 0) (Resolve 0 4 1) ∷ [])
    (true ∷ true ∷ false ∷ false ∷ false ∷ false ∷ [])
    -- the operator makes every call, for every account; 17 none
    ∷ case
    (has_right (by 16) Close ∷ has_right (by 16) (Deliver 0 4 1) ∷ has_right (by 16) (Turn 1) ∷ has_right (by 17) Close
    ∷ has_right (by 17) (Deliver 0 4 1) ∷ [])
    (true ∷ true ∷ true ∷ false ∷ false ∷ [])
    -- reading
    ∷ case (may_read (by 1) 2 ∷ may_read (by 1) 5 ∷ may_read (by 16) 5 ∷ may_read (by 17) 4 ∷ []) (true ∷ false ∷ true ∷ false ∷ [])
    ∷ []

-- what is asked before 27 and what after it, where the caller has the right and where it has not
abbrev pub refused_cases : List Case
refused_cases =
    -- the wrong phase, an issue above 15, an account above 63; then 27; lots are asked of who has the right
    case
    (first_no (with_right false (deliver_asks Cut only_mark marked_nets [] 0 1 0)) ∷ first_no (with_right false (deliver_asks Settling only_mark marked_nets [] 16 1 0))
    ∷ first_no (with_right false (deliver_asks Settling only_mark marked_nets [] 0 64 0)) ∷ first_no (with_right false (deliver_asks Settling only_mark marked_nets [] 0 1 0))
    ∷ first_no (with_right true (deliver_asks Settling only_mark marked_nets [] 0 1 0)) ∷ first_no (with_right true (deliver_asks Settling only_mark marked_nets [] 0 1 3))
    ∷ first_no (with_right true (deliver_asks Settling only_mark marked_nets [] 0 1 4)) ∷ [])
    (3 ∷ 4 ∷ 5 ∷ 27 ∷ 7 ∷ 19 ∷ 0 ∷ [])
    -- from and to that are the same account
    ∷ case
    (first_no (with_right false (trade_asks Taking only_mark marked_nets 0 1 1 0)) ∷ first_no (with_right true (trade_asks Taking only_mark marked_nets 0 1 1 0)) ∷ [])
    (27 ∷ 6 ∷ [])
    -- for mark ahead of 20, and for turn after 26
    ∷ case
    (first_no (with_right false (mark_asks marked_nets [] 0)) ∷ first_no (with_right true (mark_asks marked_nets [] 0)) ∷ first_no (with_right false (mark_asks marked_nets [] 16)) ∷ [])
    (27 ∷ 20 ∷ 4 ∷ [])
    ∷ case (first_no (with_right false (turn_asks 0 3 3)) ∷ first_no (with_right false (turn_asks 0 3 4)) ∷ first_no (with_right true (turn_asks 0 3 4)) ∷ []) (26 ∷ 27 ∷ 0 ∷ [])
    -- a call that asks nothing after it
    ∷ case (first_no (with_right false (close_asks Cut)) ∷ first_no (with_right false (close_asks Taking)) ∷ first_no (with_right true (close_asks Taking)) ∷ []) (3 ∷ 27 ∷ 0 ∷ [])
    ∷ []

-- a ledger with entries of 2 at either end, and with one of another issue
abbrev pub ledger2 : List Entry
ledger2 = fail 1 2 30 ∷ entry 1 2 3 7 0 ∷ fail 3 1 9 ∷ fail 2 3 20 ∷ fail 2 1 5 ∷ []

-- an account's entries, from 0, in ledger order
abbrev pub look_cases : List Case
look_cases =
    case (entries_at ledger2 0 2) (fail 1 2 30 ∷ fail 2 3 20 ∷ fail 2 1 5 ∷ [])
    ∷ case (first_seen (pos 4) (negsuc 0) (drop 0 (entries_at ledger2 0 2))) (seen (pos 4) (negsuc 0) (fail 1 2 30))
    ∷ case (first_seen (pos 4) (negsuc 0) (drop 2 (entries_at ledger2 0 2))) (seen (pos 4) (negsuc 0) (fail 2 1 5))
    ∷ case (first_seen (pos 4) (negsuc 0) (drop 3 (entries_at ledger2 0 2))) (none_seen (pos 4) (negsuc 0))
    ∷ case (entries_at ledger2 1 2 ∷ entries_at ledger2 1 1 ∷ []) ((entry 1 2 3 7 0 ∷ []) ∷ [] ∷ [])
    ∷ []

pub orders_settled : Holds order_cases
orders_settled = (refl, (refl, (refl, (refl, (refl, (refl, (refl, (refl, (refl, (refl, (refl, (refl, (refl, tt)))))))))))))

pub rights_settled : Holds right_cases
rights_settled = (refl, (refl, (refl, (refl, tt))))

pub refused_settled : Holds refused_cases
refused_settled = (refl, (refl, (refl, (refl, (refl, tt)))))

pub looks_settled : Holds look_cases
looks_settled = (refl, (refl, (refl, (refl, (refl, tt)))))
