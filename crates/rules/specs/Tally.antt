-- The tally of a list of calls, and demand 3.
use Rattle.std.specs.Prelude.{◌≡◌, Bool, true, false, cond, ◌&&◌, List, [], ◌∷◌, ◌++◌, ℕ, zero, suc, ◌+◌, ◌-◌, ◌≤◌, ◌<◌, eqb, length, get_or, ℤ, pos, ◌+ℤ◌, ◌-ℤ◌}
use Rattle.rules.specs.declared.Book.{Book}
use Rattle.rules.specs.declared.Ticket.{Ticket}
use Rattle.rules.specs.Measures.{issue_count, account_count, unit_lots, total, sum}
use Rattle.rules.specs.Units.{AccountLots, account_lots, sum_lots, of_account}
use Rattle.rules.specs.Lifts.{Lift, lift_of, lifted}
use Rattle.rules.specs.Ledger.{is_from, is_to, lots_of}
use Rattle.rules.specs.Book.{tabulate, units_by, in_force, ledger_of, fresh}
use Rattle.rules.specs.Records.{Rec, records_in}
use Rattle.rules.specs.Calls.{Call, Trade, Close, Deliver, Ask, Commit, Cutoff, Resolve, PairOff, Roll, Mark, Turn, Answer, lends, called}

-- the records of a kind in an issue: to whom, and how many lots
abbrev pub records_of : ℕ → ℕ → List Rec → List AccountLots
records_of k i [] = []
records_of k i (r ∷ rs) =
    cond (eqb r.kind k && eqb r.issue i) (account_lots r.to r.lots ∷ records_of k i rs) (records_of k i rs)

-- a number for each issue and account
abbrev pub Grid : Type 0
Grid = ℕ → ℕ → ℕ

abbrev pub zeros : Grid
zeros i a = 0

abbrev pub raise : ℕ → ℕ → ℕ → Grid → Grid
raise i a x g j c = g j c + cond (eqb j i && eqb c a) x 0

abbrev pub plus : Grid → Grid → Grid
plus g h i a = g i a + h i a

-- lots of the records of a kind, by their issue and 'to'
abbrev pub lots_to : ℕ → List Rec → Grid
lots_to k rs i a = total (of_account a) (records_of k i rs)

-- for each issue and account: bought, sold, given and handed
pub record Counts : Type 0 where
  pub bought : Grid
  pub sold : Grid
  pub given : Grid
  pub handed : Grid

abbrev pub no_counts : Counts
no_counts = record { bought = zeros; sold = zeros; given = zeros; handed = zeros }

abbrev pub both_counts : Counts → Counts → Counts
both_counts x y =
    record {
      bought = plus x.bought y.bought;
      sold = plus x.sold y.sold;
      given = plus x.given y.given;
      handed = plus x.handed y.handed;
    }

-- each once for today and once in all; for each issue, a row of today's 10s, and the lifts of the commits accepted since
-- the last roll
pub record Tally : Type 0 where
  pub today : Counts
  pub in_all : Counts
  pub rows : ℕ → List AccountLots
  pub lifts : ℕ → List Lift
  -- the count of rolls accepted so far, and the day of the last accepted `turn`, 0 before there is one
  pub day : ℕ
  pub turn : ℕ

-- a fresh tally is all 0, rows empty, no lift
abbrev pub fresh_tally : Tally
fresh_tally = record { today = no_counts; in_all = no_counts; rows = λ i. []; lifts = λ i. []; day = 0; turn = 0 }

-- sold of from and bought of to rise by the lots
abbrev pub count_trade : ℕ → ℕ → ℕ → ℕ → Counts → Counts
count_trade i f t x n =
    record { bought = raise i t x n.bought; sold = raise i f x n.sold; given = n.given; handed = n.handed }

-- given of the account rises by the lots
abbrev pub count_given : ℕ → ℕ → ℕ → Counts → Counts
count_given i a x n =
    record { bought = n.bought; sold = n.sold; given = raise i a x n.given; handed = n.handed }

-- handed of each record's to rises by that record's lots
abbrev pub count_handed : ℕ → List Rec → Counts → Counts
count_handed k rs n =
    record { bought = n.bought; sold = n.sold; given = n.given; handed = plus n.handed (lots_to k rs) }

-- each 10 joins its issue's row
abbrev pub join_rows : List Rec → (ℕ → List AccountLots) → ℕ → List AccountLots
join_rows rs rows i = rows i ++ records_of 10 i rs

-- the ticket's unit moves before all unhanded ones: each 10 of the row is a unit handed
abbrev pub join_lift : Ticket → (ℕ → List AccountLots) → (ℕ → List Lift) → ℕ → List Lift
join_lift t rows ls i = ls i ++ cond (eqb i t.issue) (lift_of t.unit (length (rows i)) ∷ []) []

-- what an accepted call does to the tally
abbrev pub counted : Call → List Rec → Tally → Tally
counted (Trade i f c x) rs t = record { today = count_trade i f c x t.today; in_all = t.in_all; rows = t.rows; lifts = t.lifts; day = t.day; turn = t.turn }
counted Close rs t = t
counted (Deliver i a x) rs t =
    record { today = count_handed 10 rs (count_given i a x t.today); in_all = t.in_all; rows = join_rows rs t.rows; lifts = t.lifts; day = t.day; turn = t.turn }
counted (Ask i k) rs t = t
counted (Commit w) rs t =
    record { today = count_handed 10 rs t.today; in_all = t.in_all; rows = join_rows rs t.rows; lifts = join_lift w t.rows t.lifts; day = t.day; turn = t.turn }
counted Cutoff rs t =
    record {
      today = count_handed 10 rs t.today;
      in_all = both_counts t.in_all (count_handed 10 rs t.today);
      rows = join_rows rs t.rows;
      lifts = t.lifts;
      day = t.day;
      turn = t.turn;
    }
counted (Resolve i a x) rs t =
    record { today = t.today; in_all = count_handed 11 rs (count_given i a x t.in_all); rows = t.rows; lifts = t.lifts; day = t.day; turn = t.turn }
counted (PairOff i a) rs t = t
counted (Roll days rate quotes) rs t = record { today = no_counts; in_all = t.in_all; rows = λ i. []; lifts = λ i. []; day = t.day + 1; turn = t.turn }
counted (Mark i m) rs t = t
counted (Turn d) rs t = record { today = t.today; in_all = t.in_all; rows = t.rows; lifts = t.lifts; day = t.day; turn = d }

-- 'between close and cutoff': a close was accepted and no cutoff since
abbrev pub settling_after : Call → Bool → Bool
settling_after (Trade i f c x) s = s
settling_after Close s = true
settling_after (Deliver i a x) s = s
settling_after (Ask i k) s = s
settling_after (Commit w) s = s
settling_after Cutoff s = false
settling_after (Resolve i a x) s = s
settling_after (PairOff i a) s = s
settling_after (Roll days rate quotes) s = s
settling_after (Mark i m) s = s
settling_after (Turn d) s = s

-- whether a call was accepted, from its number
abbrev pub accepted : ℕ → Bool
accepted zero = true
accepted (suc r) = false

-- the tally is fed the call, whether it was accepted, and the records that it wrote; nothing comes from a book
abbrev pub fed : Call → Bool → List Rec → Tally → Tally
fed c true rs t = counted c rs t
fed c false rs t = t

abbrev pub settling_with : Call → Bool → Bool → Bool
settling_with c true s = settling_after c s
settling_with c false s = s

-- what a list of calls has led to: the book that the last one returned, and beside it the tally
pub record Tallied : Type 0 where
  pub book : Book
  pub tally : Tally
  pub settling : Bool

-- the records that an answer wrote, as they stand in the words returned: only a call that is lent the output writes any, and
-- pair-off's count is of steps
abbrev pub written : Call → Answer → List Rec
written c r = cond (lends c) (records_in r.count r.out) []

-- after an answer
abbrev pub answered : Call → Answer → Tallied → Tallied
answered c r s =
    record {
      book = r.book;
      tally = fed c (accepted r.refusal) (written c r) s.tally;
      settling = settling_with c (accepted r.refusal) s.settling;
    }

abbrev pub after : Tallied → Call → List ℕ → Tallied
after s c out = answered c (called s.book c out) s

-- a list of calls, each with the output that stands beside it
abbrev pub CallList : Type 0
CallList = List (Call × List ℕ)

-- each call gets the book that the last one returned
abbrev pub after_all : Tallied → CallList → Tallied
after_all s [] = s
after_all s (c ∷ cs) = after_all (after s c.0 c.1) cs

abbrev pub start : Tallied
start = record { book = fresh; tally = fresh_tally; settling = false }

-- What demand 3 says of a state.

-- the sum over an issue's accounts
unfoldable pub in_issue : Grid → ℕ → ℕ
in_issue g i = sum (tabulate (g i) 0 account_count)

-- today's units are those of today's bought less sold, taken as nets
abbrev pub nets_today : Tally → ℕ → List ℤ
nets_today t i = tabulate (λ a. pos (t.today.bought i a) -ℤ pos (t.today.sold i a)) 0 account_count

-- in the order of the day, as lifted so far
abbrev pub units_today : Tally → ℕ → List AccountLots
units_today t i = lifted (t.lifts i) (units_by (in_force t.turn t.day) (nets_today t i))

-- 'delivered today less those handed on' is 0 to 99,999 lots, and 0 except between close and cutoff
pub record StockHeld (given handed : ℕ) (settling : Bool) : Type 0 where
  pub least : handed ≤ given
  pub most : given - handed < unit_lots
  pub handed_on : settling ≡ false → given ≡ handed

abbrev pub no_lots : AccountLots
no_lots = account_lots 0 0

-- the k-th 10 of the row is what unit k was handed
pub record InTurn (handed us : List AccountLots) (k : ℕ) : Type 0 where
  -- that unit exists
  pub exists : k < length us
  -- the 10 names its account
  pub named : (get_or handed k no_lots).account ≡ (get_or us k no_lots).account
  -- with at least 1 lot and at most the unit's
  pub some : 1 ≤ (get_or handed k no_lots).lots
  pub most : (get_or handed k no_lots).lots ≤ (get_or us k no_lots).lots
  -- and each 10 but the last has its unit's lots in full
  pub full : suc k < length handed → (get_or handed k no_lots).lots ≡ (get_or us k no_lots).lots

abbrev pub sumℤ : List ℤ → ℤ
sumℤ [] = pos 0
sumℤ (n ∷ ns) = n +ℤ sumℤ ns

-- fails owed to an account, or by it: the lots of the issue's entries with it as to, or as from
abbrev pub fails_to : Book → ℕ → ℕ → ℕ
fails_to b i a = lots_of (is_to i a) (ledger_of b)

abbrev pub fails_by : Book → ℕ → ℕ → ℕ
fails_by b i a = lots_of (is_from i a) (ledger_of b)

pub record Demand3 (s : Tallied) : Type 0 where
  -- the bonds delivered today less those handed on are 0 to 99,999 lots, and 0 except between close and cutoff
  pub stock : (i : ℕ) → i < issue_count →
      StockHeld (in_issue s.tally.today.given i) (sum_lots (s.tally.rows i)) s.settling
  -- no unit has been handed a lot while a unit before it lacked one
  pub turns : (i : ℕ) → i < issue_count → (k : ℕ) → k < length (s.tally.rows i) →
      InTurn (s.tally.rows i) (units_today s.tally i) k
  -- bought less sold equals handed less given, plus the fails owed to the account, less the fails it owes
  pub balance : (i a : ℕ) → i < issue_count → a < account_count →
      pos (s.tally.in_all.bought i a) -ℤ pos (s.tally.in_all.sold i a)
      ≡ pos (s.tally.in_all.handed i a) -ℤ pos (s.tally.in_all.given i a)
      +ℤ pos (fails_to s.book i a) -ℤ pos (fails_by s.book i a)
  -- all charges sum to 0 yen
  pub charges : sumℤ s.book.charges ≡ pos 0

-- demand 3: of every list of calls, with any arguments and any lent outputs, from a fresh book and a fresh tally
abbrev pub Demand3OfAll : Type 0
Demand3OfAll = (cs : CallList) → Demand3 (after_all start cs)
