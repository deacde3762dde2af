-- Demand 3 speaks of hosts: what `day_call`, `day_ask` and `day_commit` give, and their forms with a caller, for any numbers,
-- callers and owners, which may change from call to call, fed to the tally, leads to the states of a list of calls. Of each call
-- its contract is known and nothing else: it answers as the definitions do, or refuses (a kind that is none, a number that is no
-- phase, columns of another length, a caller without the right) and leaves the book.
use mathlib.Core.Path.{◌≡◌, refl, sym, ap, ◌∙◌}
use mathlib.Core.Bool.{Bool, true, false}
use mathlib.Core.List.{List, [], ◌∷◌, ◌++◌}
use Prim.Native.Nat.{ℕ, zero, suc, ◌≤◌, ◌<◌}
use native.Mathlib.Omega.{arith}
use lib.Dec.{leb}
use borrow.Author.Tests.{le-leb}
use Rattle.rules.specs.declared.Book.{Book}
use Rattle.rules.specs.declared.Caller.{Caller}
use Rattle.rules.specs.declared.Instruction.{Instruction}
use Rattle.rules.specs.declared.Ticket.{Ticket}
use Rattle.rules.specs.Book.{order_of, with_lifts}
use Rattle.rules.specs.Questions.{Question, ask, first_no}
use Rattle.rules.specs.Calls.{Call, Ask, Commit, Answer, answer, lends, output_asks, effect, called, AskAnswer, no_ticket, ticket_answer, ticket_of, asked, asks as allAsks}
use Rattle.rules.specs.Access.{is_operator, has_right}
use Rattle.rules.specs.Run.{call_of}
use Rattle.rules.specs.Tally.{Tallied, Demand3}
use Rattle.laws.proofs.Basics.{by_test, cond_true, cond_false}
use Rattle.laws.proofs.Answers.{Numbered, by_answer, asked_of}
use Rattle.tally.proofs.Made.{Made, Step, as_called, leaves, demand3_of, made_reached}
use Rattle.book.specs.States.{Column, SharedColumn, Columns}
use Rattle.desk.specs.Fields.{is_kind}
use Rattle.host.specs.declared.DayState.{DayState}
use Rattle.host.specs.declared.DayTurned.{DayTurned}
use Rattle.host.specs.States.{number_of, state_in, book_at, lengths_right, holds, sound_at}
use Rattle.host.specs.Calls.{Place, day_made, day_called, CallIs, DayCalled}
use Rattle.host.specs.Lifts.{ticket_in, day_asked, AskIs, CommitIs, DayCommitted}
use Rattle.host.proofs.Holding.{LengthsOf}
use Rattle.callers.specs.Callers.{day_made_by, day_called_by, DayCalledBy, asks_at, DayCommittedBy, day_asked_by}
use Rattle.host.proofs.Calling.{refusal, of_kind, not_kind}
use Rattle.callers.proofs.ByCaller.{made_right, called_right, operator_ask, made_without, some_number, asked_number, of_kind_by, not_kind_by}

-- what a host was given, the book and the words that it left, as an answer
abbrev pub gave : DayTurned → Book → List ℕ → Answer
gave r b out = record { refusal = r.refusal; count = r.count; cancelled = r.cancelled; book = b; out = out }

-- a call made through one of these functions on the book in the lent columns, and what that gave, as its contract says;
-- a kind that is none is fed as a call that was refused
pub data ByHost : Book → Call → List ℕ → Answer → Type 0 where
  told : (kind : ℕ) (x : Instruction) (quotes : SharedColumn ℕ) (out : Column ℕ) (h : DayState) (r : DayTurned) (c : Columns) → DayCalled kind x quotes out h r c →
      ByHost (book_at h c) (call_of x quotes.entry.now) out.entry.now (gave r (c.after (state_in r.state)) out.exit.now)
  asks : (phase : ℕ) (b : Book) (issue unit n : ℕ) (ticket out : List ℕ) → AskIs (day_asked phase b issue unit) n ticket →
      ByHost b (Ask issue unit) out (record { refusal = n; count = 0; cancelled = 0; book = b; out = out })
  commits : (phase : ℕ) (b : Book) (ticket : List ℕ) (out lifts : Column ℕ) (n : ℕ) (count : Place) → DayCommitted phase b ticket out lifts n count →
      ByHost b (Commit (ticket_in ticket)) out.entry.now
      (record { refusal = n; count = count.exit.now; cancelled = 0; book = with_lifts b lifts.exit.now; out = out.exit.now })
  told_by : (w : Caller) (kind : ℕ) (x : Instruction) (quotes : SharedColumn ℕ) (out : Column ℕ) (h : DayState) (r : DayTurned) (c : Columns) →
      DayCalledBy w kind x quotes out h r c →
      ByHost (book_at h c) (call_of x quotes.entry.now) out.entry.now (gave r (c.after (state_in r.state)) out.exit.now)
  asks_by : (w : Caller) (phase : ℕ) (b : Book) (issue unit n : ℕ) (ticket out : List ℕ) → AskIs (day_asked_by w phase b issue unit) n ticket →
      ByHost b (Ask issue unit) out (record { refusal = n; count = 0; cancelled = 0; book = b; out = out })
  commits_by : (w : Caller) (phase : ℕ) (b : Book) (ticket : List ℕ) (out lifts : Column ℕ) (n : ℕ) (count : Place) →
      DayCommittedBy w phase b ticket out lifts n count →
      ByHost b (Commit (ticket_in ticket)) out.entry.now
      (record { refusal = n; count = count.exit.now; cancelled = 0; book = with_lifts b lifts.exit.now; out = out.exit.now })

-- Numbers and columns that can be a book's: the answer is the call's

pub same_made : (phase : ℕ) (b : Book) (c : Call) (out : List ℕ) → holds phase b ≡ true → day_made phase b c out ≡ called b c out
unfolding day_made
same_made phase b c out g = cond_true (holds phase b) _ _ g

same_ask_lem : (phase : ℕ) (b : Book) (i k : ℕ) → holds phase b ≡ true → day_asked phase b i k ≡ asked b i k
same_ask_lem phase b i k g = cond_true (holds phase b) _ _ g

-- an ask's number is the call's, and it changes nothing
ask_number : (b : Book) (i k : ℕ) (out : List ℕ) → (asked b i k).refusal ≡ (called b (Ask i k) out).refusal
unfolding asked called
ask_number b i k out = by_number (first_no (allAsks b (Ask i k) out))
  where
    by_number : (n : ℕ) → (ticket_answer n (ticket_of b.state.day (order_of b) b.lifts i k)).refusal ≡ (answer n b out (effect b (Ask i k))).refusal
    by_number zero = refl
    by_number (suc n) = refl

nothing : (b : Book) (i k n : ℕ) (out : List ℕ) → n ≡ (called b (Ask i k) out).refusal →
    record { refusal = n; count = 0; cancelled = 0; book = b; out = out } ≡ called b (Ask i k) out
nothing b i k n out e =
    λ j. record {
      refusal = e j;
      count = by_answer (λ d. 0 ≡ d.count) b (Ask i k) out (λ y. refl) (λ m. refl) j;
      cancelled = by_answer (λ d. 0 ≡ d.cancelled) b (Ask i k) out (λ y. refl) (λ m. refl) j;
      book = by_answer (λ d. b ≡ d.book) b (Ask i k) out (λ y. refl) (λ m. refl) j;
      out = by_answer (λ d. out ≡ d.out) b (Ask i k) out (λ y. refl) (λ m. refl) j;
    }

-- Any others are refused

-- the 'no' behind questions that have numbers
pub some_no : (ps : List Question) → Numbered ps → 0 < first_no (ps ++ (ask 2 false ∷ []))
some_no [] ks = omega arith
some_no (ask m true ∷ ps) ks = some_no ps ks.1
some_no (ask m false ∷ ps) ks = ks.0

number_if : (l : Bool) (out : List ℕ) → Numbered (asked_of l out)
number_if true out = omega arith
number_if false out = tt

pub numbered : (c : Call) (out : List ℕ) → Numbered (output_asks c out)
numbered c out = number_if (lends c) out

-- an answer with a number leaves the book
module _ (b : Book) (c : Call) (out : List ℕ) (r : Answer) where
  stays : (n : ℕ) → 0 < n → r.refusal ≡ (refusal n b c out).refusal → r.book ≡ (refusal n b c out).book → Step b c out r
  stays zero h p q = absurd (omega arith)
  stays (suc n) h p q = leaves (omega (arith, p)) q

  module _ (phase : ℕ) (g : holds phase b ≡ false) where
    other : day_made phase b c out ≡ refusal (first_no (output_asks c out ++ (ask 2 false ∷ []))) b c out
    unfolding day_made
    other = cond_false (holds phase b) _ _ g

    not_made : r.refusal ≡ (day_made phase b c out).refusal → r.book ≡ (day_made phase b c out).book → Step b c out r
    not_made p q = stays (first_no (output_asks c out ++ (ask 2 false ∷ []))) (some_no (output_asks c out) (numbered c out)) (p ∙ ap (λ d. d.refusal) other) (q ∙ ap (λ d. d.book) other)

-- Each of the three

module _ (kind : ℕ) (x : Instruction) (quotes out : List ℕ) (phase : ℕ) (b : Book) (r : DayTurned) (after : Book) (words : List ℕ) where
  abbrev c : Call
  c = call_of x quotes

  abbrev given : Answer
  given = gave r after words

  pub answers : CallIs (called b c out) phase r after words → given ≡ called b c out
  answers t = λ j. record { refusal = t.refusal j; count = t.count j; cancelled = t.cancelled j; book = t.book j; out = t.out j }

  step_made : CallIs (day_made phase b c out) phase r after words → Step b c out given
  step_made t =
      by_test (holds phase b)
      (λ g. as_called (answers (rw (same_made phase b c out g) at t)))
      (λ g. not_made b c out given phase g t.refusal t.book)

  step_called : CallIs (day_called kind phase b c out) phase r after words → Step b c out given
  step_called t =
      by_test (is_kind kind)
      (λ i. step_made (rw (← of_kind kind phase b c out i) at t))
      (λ i. let u = rw (← not_kind kind phase b c out i) at t in stays b c out given 14 (omega arith) u.refusal u.book)

step_asked : (phase : ℕ) (b : Book) (i k n : ℕ) (ticket out : List ℕ) → AskIs (day_asked phase b i k) n ticket →
    Step b (Ask i k) out (record { refusal = n; count = 0; cancelled = 0; book = b; out = out })
step_asked phase b i k n ticket out t =
    by_test (holds phase b)
    (λ g. as_called (nothing b i k n out (t.refusal ∙ ap (λ d. d.refusal) (same_ask_lem phase b i k g) ∙ ask_number b i k out)))
    (λ g. leaves (rw (t.refusal ∙ ap (λ (d : AskAnswer). d.refusal) (cond_false (holds phase b) (asked b i k) (no_ticket 2) g)) (omega arith)) refl)

step_committed : (phase : ℕ) (b : Book) (t : Ticket) (out : List ℕ) (n k : ℕ) (lifts words : List ℕ) →
    CommitIs b (day_made phase b (Commit t) out) n k lifts words →
    Step b (Commit t) out (record { refusal = n; count = k; cancelled = 0; book = with_lifts b lifts; out = words })
step_committed phase b t out n k lifts words u =
    by_test (holds phase b)
    (λ g. as_called (answers (rw (same_made phase b (Commit t) out g) at u)))
    (λ g. not_made b (Commit t) out _ phase g u.refusal u.book)
  where
    answers : CommitIs b (called b (Commit t) out) n k lifts words →
        record { refusal = n; count = k; cancelled = 0; book = with_lifts b lifts; out = words } ≡ called b (Commit t) out
    answers c = λ j. record { refusal = c.refusal j; count = c.count j; cancelled = c.cancelled j; book = c.book j; out = c.out j }

-- and with a caller: with the right the same, without it a refusal

module _ (w : Caller) (kind : ℕ) (x : Instruction) (quotes out : List ℕ) (phase : ℕ) (b : Book) (r : DayTurned) (after : Book) (words : List ℕ) where
  abbrev made : Call
  made = call_of x quotes

  step_called_by : CallIs (day_called_by w kind phase b made out) phase r after words → Step b made out (gave r after words)
  step_called_by t =
      by_test (has_right w made)
      (λ h. step_called kind x quotes out phase b r after words (rw (← called_right w phase b kind made out h) at t))
      (λ h. by_test (is_kind kind)
      (λ i.
      let e = made_without w phase b made out h ∙ of_kind_by w kind phase b made out i in
      stays b made out _ (first_no (asks_at phase b made out)) (some_number phase b made out) (t.refusal ∙ ap (λ d. d.refusal) (sym e)) (t.book ∙ ap (λ d. d.book) (sym e)))
      (λ i.
      let e = not_kind_by w kind phase b made out i in
      stays b made out _ 14 (omega arith) (t.refusal ∙ ap (λ d. d.refusal) (sym e)) (t.book ∙ ap (λ d. d.book) (sym e))))

step_asked_by : (w : Caller) (phase : ℕ) (b : Book) (i k n : ℕ) (ticket out : List ℕ) → AskIs (day_asked_by w phase b i k) n ticket →
    Step b (Ask i k) out (record { refusal = n; count = 0; cancelled = 0; book = b; out = out })
step_asked_by w phase b i k n ticket out t =
    by_test (is_operator w)
    (λ h. step_asked phase b i k n ticket out (rw (← operator_ask w phase b h i k) at t))
    (λ h. leaves (rw t.refusal (asked_number w phase b i k h)) refl)

step_committed_by : (w : Caller) (phase : ℕ) (b : Book) (t : Ticket) (out : List ℕ) (n k : ℕ) (lifts words : List ℕ) →
    CommitIs b (day_made_by w phase b (Commit t) out) n k lifts words →
    Step b (Commit t) out (record { refusal = n; count = k; cancelled = 0; book = with_lifts b lifts; out = words })
step_committed_by w phase b t out n k lifts words u =
    by_test (has_right w (Commit t))
    (λ h. step_committed phase b t out n k lifts words (rw (← made_right w phase b (Commit t) out h) at u))
    (λ h. stays b (Commit t) out _ (first_no (asks_at phase b (Commit t) out)) (some_number phase b (Commit t) out)
    (u.refusal ∙ ap (λ d. d.refusal) (sym (made_without w phase b (Commit t) out h))) (u.book ∙ ap (λ d. d.book) (sym (made_without w phase b (Commit t) out h))))

pub step : (b : Book) (c : Call) (out : List ℕ) (r : Answer) → ByHost b c out r → Step b c out r
step _ _ _ _ (told kind x quotes out h r c t) =
    step_called kind x quotes.entry.now out.entry.now h.phase (book_at h c) r (c.after (state_in r.state)) out.exit.now t
step _ _ _ _ (asks phase b issue unit n ticket out t) = step_asked phase b issue unit n ticket out t
step _ _ _ _ (commits phase b ticket out lifts n count t) =
    step_committed phase b (ticket_in ticket) out.entry.now n count.exit.now lifts.exit.now out.exit.now t
step _ _ _ _ (told_by w kind x quotes out h r c t) =
    step_called_by w kind x quotes.entry.now out.entry.now h.phase (book_at h c) r (c.after (state_in r.state)) out.exit.now t
step _ _ _ _ (asks_by w phase b issue unit n ticket out t) = step_asked_by w phase b issue unit n ticket out t
step _ _ _ _ (commits_by w phase b ticket out lifts n count t) =
    step_committed_by w phase b (ticket_in ticket) out.entry.now n count.exit.now lifts.exit.now out.exit.now t

-- so demand 3 holds after every list of calls that a host makes
pub demand3_of_hosts : {s : Tallied} → Made ByHost s → Demand3 s
demand3_of_hosts m = demand3_of ByHost step m

-- None of them is refused for its columns

right_lengths : (b : Book) → LengthsOf b → lengths_right b ≡ true
unfolding lengths_right
right_lengths b l =
    rw (l.cells.nets, l.cells.delivered, l.lifts, l.charges, l.ledger.issues, l.ledger.froms, l.ledger.tos, l.ledger.lots, l.ledger.days)

module _ {s : Tallied} (m : Made ByHost s) where
  -- the columns that the last call left have a book's lengths, and with the number of a phase hold a sound book
  pub hosts_lengths : lengths_right s.book ≡ true
  hosts_lengths = right_lengths s.book (made_reached ByHost step m).lengths

  module _ (phase : ℕ) (p : phase ≤ 2) where
    in_range : holds phase s.book ≡ true
    unfolding holds
    in_range = rw (le-leb phase 2 p, hosts_lengths)

    pub hosts_sound : sound_at phase s.book ≡ true
    hosts_sound = rw (in_range, (made_reached ByHost step m).sound)

    -- so with a kind and the number of a phase the next call is answered as the definitions say
    pub hosts_called : (kind : ℕ) (c : Call) (out : List ℕ) → is_kind kind ≡ true → day_called kind phase s.book c out ≡ called s.book c out
    hosts_called kind c out i = sym (of_kind kind phase s.book c out i) ∙ same_made phase s.book c out in_range

    pub hosts_asked : (i k : ℕ) → day_asked phase s.book i k ≡ asked s.book i k
    hosts_asked i k = same_ask_lem phase s.book i k in_range

    pub hosts_committed : (t : Ticket) (out : List ℕ) → day_made phase s.book (Commit t) out ≡ called s.book (Commit t) out
    hosts_committed t out = same_made phase s.book (Commit t) out in_range

-- and the number that a call leaves is that of its book's phase
pub phase_left : (kind : ℕ) (x : Instruction) (quotes : SharedColumn ℕ) (out : Column ℕ) (h : DayState) (r : DayTurned) (c : Columns) → h.phase ≤ 2 →
    DayCalled kind x quotes out h r c → r.state.phase ≡ number_of (c.after (state_in r.state)).state.phase
phase_left kind x quotes out h r c p t =
    t.stage ∙ cond_true (leb h.phase 2) _ _ (le-leb h.phase 2 p) ∙ ap (λ b. number_of b.state.phase) (sym t.book)
