-- The desk's questions, in the paper's order; the first 'no' gives its number.
use Rattle.std.specs.Prelude.{Bool, true, false, not, ◌&&◌, List, [], ◌∷◌, ℕ, ◌+◌, leb, ltb, eqb, length, ℤ, pos, nat_abs, ◌+ℤ◌, ◌-ℤ◌}
use Rattle.rules.specs.declared.Book.{Book}
use Rattle.rules.specs.declared.Entry.{Entry}
use Rattle.rules.specs.declared.Phase.{Phase}
use Rattle.rules.specs.declared.Ticket.{Ticket}
use Rattle.rules.specs.Measures.{issue_count, last_issue, last_account, most_lots, most_entries, most_lifts, last_day, most_days, most_rate, most_price, most_accrued, quote_count, between, price_in, accrued_in, owed_of}
use Rattle.rules.specs.Units.{AccountLots}
use Rattle.rules.specs.Handover.{covered}
use Rattle.rules.specs.Ledger.{is_from, lots_of}
use Rattle.rules.specs.Book.{is_taking, is_settling, is_cut, tabulate, all, is_zero, row, within_size, net_at, delivered_at, lots_even, in_force, sound}

pub data Question : Type 0 where
  ask : ℕ → Bool → Question

-- the number of the first 'no', 0 where there is none
abbrev pub first_no : List Question → ℕ
first_no [] = 0
first_no (ask n true ∷ qs) = first_no qs
first_no (ask n false ∷ qs) = n

-- 1. Has the output at least so many words?
abbrev pub ask_output : ℕ → List ℕ → Question
ask_output least out = ask 1 (leb least (length out))

-- 2. Is the book sound?
abbrev pub ask_sound : Book → Question
ask_sound b = ask 2 (sound b)

-- 3. Is this the call's phase?
abbrev pub ask_taking : Phase → Question
ask_taking p = ask 3 (is_taking p)

abbrev pub ask_settling : Phase → Question
ask_settling p = ask 3 (is_settling p)

abbrev pub ask_cut : Phase → Question
ask_cut p = ask 3 (is_cut p)

-- 4. Is the issue at most 15?
abbrev pub ask_issue : ℕ → Question
ask_issue i = ask 4 (leb i last_issue)

-- 5. Is each account at most 63?
abbrev pub ask_account : ℕ → Question
ask_account a = ask 5 (leb a last_account)

abbrev pub ask_accounts : ℕ → ℕ → Question
ask_accounts f t = ask 5 (leb f last_account && leb t last_account)

-- 6. Do from and to differ?
abbrev pub ask_differ : ℕ → ℕ → Question
ask_differ f t = ask 6 (not (eqb f t))

-- 7. Are lots 1..20,000,000?
abbrev pub ask_lots : ℕ → Question
ask_lots x = ask 7 (between 1 most_lots x)

-- 8. Do both nets stay within ±20,000,000 after the trade?
abbrev pub ask_nets : List ℤ → ℕ → ℕ → ℕ → ℕ → Question
ask_nets nets i f t x =
    ask 8 (within_size most_lots (net_at nets i f -ℤ pos x) && within_size most_lots (net_at nets i t +ℤ pos x))

-- 9. Does the account still owe that many lots, today (deliver) or in the ledger (resolve)?
abbrev pub ask_owed_today : List ℤ → List ℕ → ℕ → ℕ → ℕ → Question
ask_owed_today nets delivered i a x = ask 9 (leb (delivered_at delivered i a + x) (owed_of (net_at nets i a)))

abbrev pub ask_owed_in_ledger : List Entry → ℕ → ℕ → ℕ → Question
ask_owed_in_ledger es i a x = ask 9 (leb x (lots_of (is_from i a) es))

-- 10. Do old and new entries together number at most 2,048?
abbrev pub ask_entries : ℕ → ℕ → Question
ask_entries old new = ask 10 (leb (old + new) most_entries)

-- 11. Are days 1..12, rate 0..10,000, prices sixteen and each 1..200,000, accrued amounts sixteen and each 0..10,000, and
-- price and accrued together at most 200,000?
abbrev pub term_right : ℕ → ℕ → Bool
term_right days rate = between 1 most_days days && leb rate most_rate

abbrev pub quote_right : ℕ → ℕ → Bool
quote_right price accrued = between 1 most_price price && leb accrued most_accrued && leb (price + accrued) most_price

-- for each issue
abbrev pub quote_right_in : List ℕ → ℕ → Bool
quote_right_in quotes i = quote_right (price_in quotes i) (accrued_in quotes i)

unfoldable pub quotes_right : List ℕ → Bool
quotes_right quotes = all (quote_right_in quotes) (tabulate (λ i. i) 0 issue_count)

abbrev pub ask_roll : ℕ → ℕ → List ℕ → Question
ask_roll days rate quotes = ask 11 (term_right days rate && eqb (length quotes) quote_count && quotes_right quotes)

abbrev pub ask_quote : ℕ → ℕ → Question
ask_quote price accrued = ask 11 (quote_right price accrued)

abbrev pub ask_term : ℕ → ℕ → Question
ask_term days rate = ask 11 (term_right days rate)

-- 12. Is the day below 65,535?
abbrev pub ask_day : ℕ → Question
ask_day today = ask 12 (ltb today last_day)

-- 16. Is there such an unhanded unit?
abbrev pub ask_unhanded : List AccountLots → ℕ → ℕ → Question
ask_unhanded us d k = ask 16 (leb (covered us d) k && ltb k (length us))

-- 17. Are the ticket's account, lots, day and count what asking now gives?
abbrev pub same_ticket : Ticket → Ticket → Bool
same_ticket t u =
    eqb t.account u.account && eqb t.lots u.lots && eqb t.day u.day && eqb t.count u.count

abbrev pub ask_ticket : Ticket → Ticket → Question
ask_ticket t u = ask 17 (same_ticket t u)

-- 18. Do fewer than eight lifts stand?
abbrev pub ask_lifts : ℕ → Question
ask_lifts n = ask 18 (ltb n most_lifts)

-- 19. Are lots in a marked issue even?
abbrev pub ask_even : List ℕ → ℕ → ℕ → Question
ask_even marks i x = ask 19 (lots_even marks i x)

-- 20. Has the issue no net and no entry?
abbrev pub no_net : List ℤ → ℕ → Bool
no_net nets i = all (λ n. is_zero (nat_abs n)) (row i nets)

abbrev pub no_entry : List Entry → ℕ → Bool
no_entry es i = all (λ e. not (eqb e.issue i)) es

abbrev pub ask_unused : List ℤ → List Entry → ℕ → Question
ask_unused nets es i = ask 20 (no_net nets i && no_entry es i)

-- 26. Is the day after today, and the new order not yet in force?
abbrev pub ask_turn : ℕ → ℕ → ℕ → Question
ask_turn turn today d = ask 26 (ltb today d && not (in_force turn today))

-- 13 and 14 are asked of a tape's words one by one, and 15 of the writer's fields: see Tape
