-- The calls: of each its questions and its effect; then one answer for all of them.
use Rattle.std.specs.Prelude.{◌≡◌, Bool, true, false, cond, List, [], ◌∷◌, ◌++◌, map, ℕ, zero, suc, ◌+◌, ◌*◌, min, length, set, drop, replicate, ℤ, pos, ◌+ℤ◌, ◌-ℤ◌, Result, Ok, Err, Option, Some, None}
use Rattle.rules.specs.declared.Book.{Book}
use Rattle.rules.specs.declared.Entry.{Entry}
use Rattle.rules.specs.declared.Phase.{Phase}
use Rattle.rules.specs.declared.Phase.TheVariants.{Settling, Cut}
use Rattle.rules.specs.declared.Refusal.{Refusal}
use Rattle.rules.specs.declared.Ticket.{Ticket}
use Rattle.rules.specs.declared.Unit.{Unit}
use Rattle.rules.specs.declared.Yen.{Yen}
use Rattle.rules.specs.Measures.{issue_count, cell_count, lift_cells, unit_lots, output_words, value_of, charge_of}
use Rattle.rules.specs.Units.{AccountLots}
use Rattle.rules.specs.Handover.{covered, first_unit, handovers, partials, handed_from}
use Rattle.rules.specs.Lifts.{Lift, lift_of, lift}
use Rattle.rules.specs.Fails.{Fail, fails}
use Rattle.rules.specs.Ledger.{entry, is_from, meet, met, Pairing, pairing, charged}
use Rattle.rules.specs.Book.{tabulate, row, cell, net_at, delivered_at, obligations_of, delivered_total, lift_cell, lift_number, count_at, Orders, order_of, ledger_of, with_phase, with_turn, with_marks, next_day, with_state, with_nets, with_delivered, with_lifts, with_charges, with_ledger}
use Rattle.rules.specs.Records.{Rec, handover, record_of, words, over}
use Rattle.rules.specs.Refusals.{number_of}
use Rattle.rules.specs.Questions.{Question, first_no, ask_output, ask_sound, ask_taking, ask_settling, ask_cut, ask_issue, ask_account, ask_accounts, ask_differ, ask_lots, ask_nets, ask_owed_today, ask_owed_in_ledger, ask_entries, ask_roll, ask_quote, ask_term, ask_day, ask_unhanded, ask_ticket, ask_lifts, ask_even, ask_unused, ask_turn}

-- a call with its arguments: the output stands beside it
pub data Call : Type 0 where
  Trade : ℕ → ℕ → ℕ → ℕ → Call
  Close : Call
  Deliver : ℕ → ℕ → ℕ → Call
  Ask : ℕ → ℕ → Call
  Commit : Ticket → Call
  Cutoff : Call
  Resolve : ℕ → ℕ → ℕ → Call
  PairOff : ℕ → ℕ → Call
  Roll : ℕ → ℕ → List ℕ → Call
  Mark : ℕ → ℕ → Call
  Turn : ℕ → Call

-- what a call answers: number, count (for pair-off, steps), lots cancelled, book, output words
pub record Answer : Type 0 where
  pub refusal : ℕ
  pub count : ℕ
  pub cancelled : ℕ
  pub book : Book
  pub out : List ℕ

-- what a call does that is not refused: the new book, the records written, count and lots cancelled
pub record Effect : Type 0 where
  pub book : Book
  pub records : List Rec
  pub count : ℕ
  pub cancelled : ℕ

-- only the book changes; or records are written too, and counted
abbrev pub changes : Book → Effect
changes new = record { book = new; records = []; count = 0; cancelled = 0 }

abbrev pub writes : Book → List Rec → Effect
writes new rs = record { book = new; records = rs; count = length rs; cancelled = 0 }

-- a refusal gives its number, with 0 for every other number, and changes nothing
abbrev pub answer : ℕ → Book → List ℕ → Effect → Answer
answer zero b out e =
    record { refusal = 0; count = e.count; cancelled = e.cancelled; book = e.book; out = over (words e.records) out }
answer (suc r) b out e = record { refusal = suc r; count = 0; cancelled = 0; book = b; out = out }

-- trade issue, from, to, lots (Taking): from's net falls, to's rises
abbrev pub trade_asks : Phase → List ℕ → List ℤ → ℕ → ℕ → ℕ → ℕ → List Question
trade_asks phase marks nets i f t x =
    ask_taking phase ∷ ask_issue i ∷ ask_accounts f t ∷ ask_differ f t ∷ ask_lots x ∷ ask_even marks i x ∷ ask_nets nets i f t x ∷ []

abbrev pub traded_nets : List ℤ → ℕ → ℕ → ℕ → ℕ → List ℤ
traded_nets nets i f t x = set (set nets (cell i f) (net_at nets i f -ℤ pos x)) (cell i t) (net_at nets i t +ℤ pos x)

-- close (Taking): to Settling
abbrev pub close_asks : Phase → List Question
close_asks phase = ask_taking phase ∷ []

-- deliver issue, account, lots (Settling): delivered rises; one record a unit handed over
abbrev pub deliver_asks : Phase → List ℕ → List ℤ → List ℕ → ℕ → ℕ → ℕ → List Question
deliver_asks phase marks nets delivered i a x =
    ask_settling phase ∷ ask_issue i ∷ ask_account a ∷ ask_lots x ∷ ask_even marks i x ∷ ask_owed_today nets delivered i a x ∷ []

abbrev pub raised_delivered : List ℕ → ℕ → ℕ → ℕ → List ℕ
raised_delivered delivered i a x = set delivered (cell i a) (delivered_at delivered i a + x)

-- and the count of the day's accepted deliveries and lifts by 1
abbrev pub raised_count : List ℕ → ℕ → List ℕ
raised_count lifts i = set lifts (lift_cell i 1) (count_at lifts i + 1)

abbrev pub deliver_records : Orders → List ℕ → ℕ → ℕ → List Rec
deliver_records us delivered i x = map (handover i) (handovers (us i) (delivered_total delivered i) x)

-- ask issue, unit (Settling): the ticket has these two, account, lots, day and count; nothing changes
abbrev pub lift_asks : Phase → Orders → List ℕ → ℕ → ℕ → List Question
lift_asks phase us delivered i k = ask_settling phase ∷ ask_issue i ∷ ask_unhanded (us i) (delivered_total delivered i) k ∷ []

abbrev pub ticket_for : ℕ → ℕ → AccountLots → ℕ → ℕ → Ticket
ticket_for i k u today n =
    record { issue = i; unit = k; account = u.account; lots = u.lots; day = today; count = n }

abbrev pub ticket_of : ℕ → Orders → List ℕ → ℕ → ℕ → Ticket
ticket_of today us lifts i k = ticket_for i k (first_unit (drop k (us i))) today (count_at lifts i)

-- commit ticket (Settling)
abbrev pub commit_asks : Phase → ℕ → Orders → List ℕ → List ℕ → Ticket → List Question
commit_asks phase today us delivered lifts t =
    lift_asks phase us delivered t.issue t.unit
    ++ (ask_ticket t (ticket_of today us lifts t.issue t.unit) ∷ ask_lifts (lift_number lifts t.issue) ∷ [])

-- the unit moves before all unhanded ones
abbrev pub commit_lift : Orders → List ℕ → Ticket → Lift
commit_lift us delivered t = lift_of t.unit (covered (us t.issue) (delivered_total delivered t.issue))

-- one lift more stands, and the count rises by 1
abbrev pub with_lift : List ℕ → ℕ → Lift → List ℕ
with_lift lifts i l =
    let n = lift_number lifts i in
    set (set (set (raised_count lifts i) (lift_cell i 0) (n + 1)) (lift_cell i (2 * n + 2)) l.old) (lift_cell i (2 * n + 3)) l.new

-- what is handed on as far as stock covers, written as deliver does
abbrev pub commit_records : Orders → List ℕ → Ticket → List Rec
commit_records us delivered t =
    map (handover t.issue)
    (handed_from (lift (commit_lift us delivered t) (us t.issue)) (commit_lift us delivered t).new (delivered_total delivered t.issue))

-- cutoff (Settling): for issues ascending, the stock to the next unit, then the fails. To Cut
unfoldable pub issue_partials : Orders → List ℕ → ℕ → List AccountLots
issue_partials us delivered i = partials (us i) (delivered_total delivered i)

unfoldable pub issue_fails : Orders → List ℤ → List ℕ → ℕ → List Fail
issue_fails us nets delivered i = fails unit_lots (us i) (obligations_of nets i) (row i delivered)

-- each overlap is one ledger entry, with today's day
abbrev pub fail_entry : ℕ → ℕ → Fail → Entry
fail_entry today i f = entry i f.from f.to f.lots today

abbrev pub issue_entries : ℕ → Orders → List ℤ → List ℕ → ℕ → List Entry
issue_entries today us nets delivered i = map (fail_entry today i) (issue_fails us nets delivered i)

-- its 10 if any and then its 12s
abbrev pub issue_records : ℕ → Orders → List ℤ → List ℕ → ℕ → List Rec
issue_records today us nets delivered i =
    map (handover i) (issue_partials us delivered i) ++ map (record_of 12) (issue_entries today us nets delivered i)

abbrev pub joined {ℓ} : {A : Type ℓ} → List (List A) → List A
joined [] = []
joined (xs ∷ xss) = xs ++ joined xss

abbrev pub new_entries : ℕ → Orders → List ℤ → List ℕ → List Entry
new_entries today us nets delivered = joined (tabulate (issue_entries today us nets delivered) 0 issue_count)

abbrev pub cutoff_records : ℕ → Orders → List ℤ → List ℕ → List Rec
cutoff_records today us nets delivered = joined (tabulate (issue_records today us nets delivered) 0 issue_count)

abbrev pub cutoff_asks : Phase → ℕ → ℕ → List Question
cutoff_asks phase old new = ask_settling phase ∷ ask_entries old new ∷ []

-- resolve issue, account, lots (any phase): entries from that account are met; one record an entry
abbrev pub resolve_asks : List ℕ → List Entry → ℕ → ℕ → ℕ → List Question
resolve_asks marks es i a x = ask_issue i ∷ ask_account a ∷ ask_lots x ∷ ask_even marks i x ∷ ask_owed_in_ledger es i a x ∷ []

abbrev pub resolve_records : List Entry → ℕ → ℕ → ℕ → List Rec
resolve_records es i a x = map (record_of 11) (met (is_from i a) x es)

-- pair-off issue, account (any phase; house)
abbrev pub pair_off_asks : ℕ → ℕ → List Question
pair_off_asks i a = ask_issue i ∷ ask_account a ∷ []

-- roll days, rate, sixteen prices, sixteen accrued amounts (Cut): charges; then nets and delivered lots are 0, lifts and count are cleared, day rises
-- by 1, to Taking
abbrev pub roll_asks : Phase → ℕ → ℕ → ℕ → List ℕ → List Question
roll_asks phase today days rate quotes = ask_cut phase ∷ ask_roll days rate quotes ∷ ask_day today ∷ []

abbrev pub rolled : Book → ℕ → ℕ → List ℕ → Book
rolled b days rate quotes =
    with_state
    (with_lifts
    (with_delivered
    (with_nets (with_charges b (charged days rate quotes (ledger_of b) b.charges)) (replicate cell_count (pos 0)))
    (replicate cell_count 0))
    (replicate lift_cells 0))
    (next_day b.state)

-- mark issue, mark (any phase): sets the issue's mark, which stays over days
abbrev pub mark_asks : List ℤ → List Entry → ℕ → List Question
mark_asks nets es i = ask_issue i ∷ ask_unused nets es i ∷ []

abbrev pub marked_as : List ℕ → ℕ → ℕ → List ℕ
marked_as marks i m = set marks i (min m 1)

-- turn day (any phase): names the first day of the new order; before that day a later one replaces it
abbrev pub turn_asks : ℕ → ℕ → ℕ → List Question
turn_asks turn today d = ask_turn turn today d ∷ []

-- The calls

-- deliver, commit, cutoff and resolve are lent the output, and write their records to it; any other call leaves it
abbrev pub lends : Call → Bool
lends (Trade i f t x) = false
lends Close = false
lends (Deliver i a x) = true
lends (Ask i k) = false
lends (Commit t) = true
lends Cutoff = true
lends (Resolve i a x) = true
lends (PairOff i a) = false
lends (Roll days rate quotes) = false
lends (Mark i m) = false
lends (Turn d) = false

-- question 1 is asked of them
abbrev pub output_asks : Call → List ℕ → List Question
output_asks c out = cond (lends c) (ask_output output_words out ∷ []) []

-- and is answered 'yes'
abbrev pub HasRoom : Call → List ℕ → Type 0
HasRoom c out = first_no (output_asks c out) ≡ 0

-- the questions after soundness
abbrev pub own_asks : Book → Call → List Question
own_asks b (Trade i f t x) = trade_asks b.state.phase b.state.marks b.nets i f t x
own_asks b Close = close_asks b.state.phase
own_asks b (Deliver i a x) = deliver_asks b.state.phase b.state.marks b.nets b.delivered i a x
own_asks b (Ask i k) = lift_asks b.state.phase (order_of b) b.delivered i k
own_asks b (Commit t) = commit_asks b.state.phase b.state.day (order_of b) b.delivered b.lifts t
own_asks b Cutoff = cutoff_asks b.state.phase b.state.entries (length (new_entries b.state.day (order_of b) b.nets b.delivered))
own_asks b (Resolve i a x) = resolve_asks b.state.marks (ledger_of b) i a x
own_asks b (PairOff i a) = pair_off_asks i a
own_asks b (Roll days rate quotes) = roll_asks b.state.phase b.state.day days rate quotes
own_asks b (Mark i m) = mark_asks b.nets (ledger_of b) i
own_asks b (Turn d) = turn_asks b.state.turn b.state.day d

abbrev pub asks : Book → Call → List ℕ → List Question
asks b c out = output_asks c out ++ (ask_sound b ∷ own_asks b c)

-- pair-off: the answer carries the steps made and lots cancelled
abbrev pub paired_off : Book → Pairing → Effect
paired_off b p = record { book = with_ledger b p.ledger; records = []; count = p.steps; cancelled = p.cancelled }

-- and what it does where none is answered 'no'
abbrev pub effect : Book → Call → Effect
effect b (Trade i f t x) = changes (with_nets b (traded_nets b.nets i f t x))
effect b Close = changes (with_state b (with_phase b.state Settling))
effect b (Deliver i a x) =
    writes (with_lifts (with_delivered b (raised_delivered b.delivered i a x)) (raised_count b.lifts i))
    (deliver_records (order_of b) b.delivered i x)
effect b (Ask i k) = changes b
effect b (Commit t) =
    writes (with_lifts b (with_lift b.lifts t.issue (commit_lift (order_of b) b.delivered t)))
    (commit_records (order_of b) b.delivered t)
effect b Cutoff =
    writes (with_ledger (with_state b (with_phase b.state Cut)) (ledger_of b ++ new_entries b.state.day (order_of b) b.nets b.delivered))
    (cutoff_records b.state.day (order_of b) b.nets b.delivered)
effect b (Resolve i a x) = writes (with_ledger b (meet (is_from i a) x (ledger_of b))) (resolve_records (ledger_of b) i a x)
effect b (PairOff i a) = paired_off b (pairing b.state.day i a (ledger_of b))
effect b (Roll days rate quotes) = changes (rolled b days rate quotes)
effect b (Mark i m) = changes (with_state b (with_marks b.state (marked_as b.state.marks i m)))
effect b (Turn d) = changes (with_state b (with_turn b.state d))

-- a call's answer, on any book and any output
unfoldable pub called : Book → Call → List ℕ → Answer
called b c out = answer (first_no (asks b c out)) b out (effect b c)

-- what asking answers: number, whether there is a ticket, and the ticket
pub record AskAnswer : Type 0 where
  pub refusal : ℕ
  pub some : Bool
  pub ticket : Ticket

abbrev pub some_ticket : Ticket → AskAnswer
some_ticket t = record { refusal = 0; some = true; ticket = t }

-- a refusal gives its number, with 0 for every number of the ticket
abbrev pub no_ticket : ℕ → AskAnswer
no_ticket r =
    record { refusal = r; some = false; ticket = record { issue = 0; unit = 0; account = 0; lots = 0; day = 0; count = 0 } }

abbrev pub ticket_answer : ℕ → Ticket → AskAnswer
ticket_answer zero t = some_ticket t
ticket_answer (suc r) t = no_ticket (suc r)

unfoldable pub asked : Book → ℕ → ℕ → AskAnswer
asked b i k = ticket_answer (first_no (asks b (Ask i k) [])) (ticket_of b.state.day (order_of b) b.lifts i k)

-- the paper's number and ticket for each answer of the code
abbrev pub asked_answer : Result Ticket Refusal → AskAnswer
asked_answer (Ok t) = some_ticket t
asked_answer (Err r) = no_ticket (number_of r)

-- the k-th unit of an issue, k from 0: account and lots, or 'none' exactly when k is not below the number of units;
-- a refusal is neither, and has its number
pub data UnitAnswer : Type 0 where
  one_unit : ℕ → ℕ → UnitAnswer
  no_unit : UnitAnswer
  unit_refused : ℕ → UnitAnswer

abbrev pub first_answer : List AccountLots → UnitAnswer
first_answer [] = no_unit
first_answer (u ∷ us) = one_unit u.account u.lots

abbrev pub unit_answer : ℕ → List AccountLots → UnitAnswer
unit_answer zero us = first_answer us
unit_answer (suc r) us = unit_refused (suc r)

unfoldable pub unit : Book → ℕ → ℕ → UnitAnswer
unit b i k = unit_answer (first_no (ask_sound b ∷ ask_issue i ∷ [])) (drop k (order_of b i))

-- the paper's answer for each answer of the code
abbrev pub found_answer : Result (Option Unit) Refusal → UnitAnswer
found_answer (Ok (Some u)) = one_unit u.account u.lots
found_answer (Ok None) = no_unit
found_answer (Err r) = unit_refused (number_of r)

-- value and charge alone: number, whether there is an amount, yen
pub record AmountAnswer : Type 0 where
  pub refusal : ℕ
  pub some : Bool
  pub yen : ℕ

abbrev pub some_yen : ℕ → AmountAnswer
some_yen y = record { refusal = 0; some = true; yen = y }

-- a refusal gives its number and 0 yen
abbrev pub no_yen : ℕ → AmountAnswer
no_yen r = record { refusal = r; some = false; yen = 0 }

abbrev pub yen_answer : ℕ → ℕ → AmountAnswer
yen_answer zero y = some_yen y
yen_answer (suc r) y = no_yen (suc r)

unfoldable pub value : ℕ → ℕ → ℕ → AmountAnswer
value lots price accrued = yen_answer (first_no (ask_lots lots ∷ ask_quote price accrued ∷ [])) (value_of lots price accrued)

unfoldable pub charge : ℕ → ℕ → ℕ → ℕ → ℕ → AmountAnswer
charge lots price days rate accrued =
    yen_answer (first_no (ask_lots lots ∷ ask_quote price accrued ∷ ask_term days rate ∷ [])) (charge_of lots price days rate accrued)

-- the paper's number and yen for each answer of the code
abbrev pub amount_answer : Result Yen Refusal → AmountAnswer
amount_answer (Ok y) = some_yen y.0
amount_answer (Err r) = no_yen (number_of r)
