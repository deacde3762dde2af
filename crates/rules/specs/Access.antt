-- Who may call, who may look: caller and owners, question 27 at its place, and reading an account.
use Rattle.std.specs.Prelude.{Bool, true, false, cond, ◌&&◌, List, [], ◌∷◌, ℕ, zero, suc, leb, eqb, get_or, drop, ℤ, pos, Result, Ok, Err, Option, Some, None}
use Rattle.rules.specs.declared.Book.{Book}
use Rattle.rules.specs.declared.Caller.{Caller}
use Rattle.rules.specs.declared.Entry.{Entry}
use Rattle.rules.specs.declared.Refusal.{Refusal}
use Rattle.rules.specs.declared.Seen.{Seen}
use Rattle.rules.specs.Measures.{last_account, last_participant, operator, between}
use Rattle.rules.specs.Ledger.{is_from, is_to}
use Rattle.rules.specs.Book.{net_at, order_of, ledger_of}
use Rattle.rules.specs.Refusals.{number_of}
use Rattle.rules.specs.Questions.{Question, ask, first_no, ask_sound, ask_issue, ask_account}
use Rattle.rules.specs.Calls.{Call, Trade, Close, Deliver, Ask, Commit, Cutoff, Resolve, PairOff, Roll, Mark, Turn, Answer, AskAnswer, UnitAnswer, answer, asks, effect, ticket_answer, ticket_of, unit_answer}

-- Rights

-- the operator is 16
abbrev pub is_operator : Caller → Bool
is_operator w = eqb w.number operator

-- the owners are 64 numbers: 0 to 15 a participant, any other none. Is the account the caller's own?
abbrev pub owns : Caller → ℕ → Bool
owns w a = leb w.number last_participant && leb a last_account && eqb (get_or w.owners a 0) w.number

-- for its own accounts a participant may deliver and resolve
abbrev pub own_call : Caller → Call → Bool
own_call w (Trade i f t x) = false
own_call w Close = false
own_call w (Deliver i a x) = owns w a
own_call w (Ask i k) = false
own_call w (Commit t) = false
own_call w Cutoff = false
own_call w (Resolve i a x) = owns w a
own_call w (PairOff i a) = false
own_call w (Roll days rate quotes) = false
own_call w (Mark i m) = false
own_call w (Turn d) = false

-- the operator may make every call; any caller above 16 has no right
abbrev pub has_right : Caller → Call → Bool
has_right w c = cond (is_operator w) true (own_call w c)

-- and a participant may read its own accounts
abbrev pub may_read : Caller → ℕ → Bool
may_read w a = cond (is_operator w) true (owns w a)

-- 27. Has the caller the right? Straight after 5, and for mark ahead of 20: before it a call puts those of its questions that
-- are 1, 2, 3, 26, 4 and 5, and after it all others
abbrev pub is_early : ℕ → Bool
is_early n = cond (eqb n 26) true (between 1 5 n)

abbrev pub with_right : Bool → List Question → List Question
with_right right [] = ask 27 right ∷ []
with_right right (ask n c ∷ qs) = cond (is_early n) (ask n c ∷ with_right right qs) (ask 27 right ∷ ask n c ∷ qs)

-- The calls with their caller

abbrev pub asks_by : Caller → Book → Call → List ℕ → List Question
asks_by w b c out = with_right (has_right w c) (asks b c out)

-- the house's answer: records and count are the operator's, whoever makes the call
unfoldable pub called_by : Caller → Book → Call → List ℕ → Answer
called_by w b c out = answer (first_no (asks_by w b c out)) b out (effect b c)

-- the operator alone may ask for a lift, and for a unit
unfoldable pub asked_by : Caller → Book → ℕ → ℕ → AskAnswer
asked_by w b i k =
    ticket_answer (first_no (with_right (is_operator w) (asks b (Ask i k) []))) (ticket_of b.state.day (order_of b) b.lifts i k)

unfoldable pub unit_by : Caller → Book → ℕ → ℕ → UnitAnswer
unit_by w b i k = unit_answer (first_no (with_right (is_operator w) (ask_sound b ∷ ask_issue i ∷ []))) (drop k (order_of b i))

-- Reading an account (the request's 'read'; the tape's reader has that name here)

-- the entries that pass a test, in ledger order
abbrev pub those : (Entry → Bool) → List Entry → List Entry
those p [] = []
those p (e ∷ es) = cond (p e) (e ∷ those p es) (those p es)

-- an account's entries in an issue, at either end
abbrev pub at_either : ℕ → ℕ → Entry → Bool
at_either i a e = cond (is_from i a e) true (is_to i a e)

abbrev pub entries_at : List Entry → ℕ → ℕ → List Entry
entries_at es i a = those (at_either i a) es

abbrev pub charge_at : List ℤ → ℕ → ℤ
charge_at charges a = get_or charges a (pos 0)

-- net, charge and the k-th entry, k from 0, or 'none' for the entry exactly when the account has no more than k such; a
-- refusal is neither, and has its number
pub data LookAnswer : Type 0 where
  seen : ℤ → ℤ → Entry → LookAnswer
  none_seen : ℤ → ℤ → LookAnswer
  look_refused : ℕ → LookAnswer

abbrev pub first_seen : ℤ → ℤ → List Entry → LookAnswer
first_seen net charge [] = none_seen net charge
first_seen net charge (e ∷ es) = seen net charge e

abbrev pub seen_at : Book → ℕ → ℕ → ℕ → LookAnswer
seen_at b i a k = first_seen (net_at b.nets i a) (charge_at b.charges a) (drop k (entries_at (ledger_of b) i a))

abbrev pub look_answer : ℕ → LookAnswer → LookAnswer
look_answer zero s = s
look_answer (suc r) s = look_refused (suc r)

abbrev pub look_asks : Book → ℕ → ℕ → List Question
look_asks b i a = ask_sound b ∷ ask_issue i ∷ ask_account a ∷ []

-- read issue, account, k (any phase)
unfoldable pub look : Caller → Book → ℕ → ℕ → ℕ → LookAnswer
look w b i a k = look_answer (first_no (with_right (may_read w a) (look_asks b i a))) (seen_at b i a k)

-- the paper's answer for each answer of the code
abbrev pub entry_seen : ℤ → ℤ → Option Entry → LookAnswer
entry_seen net charge (Some e) = seen net charge e
entry_seen net charge None = none_seen net charge

abbrev pub seen_answer : Result Seen Refusal → LookAnswer
seen_answer (Ok s) = entry_seen s.net s.charge s.entry
seen_answer (Err r) = look_refused (number_of r)
