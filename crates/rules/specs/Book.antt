-- The book: its views, when it is sound, the setters of its state and its columns, the fresh book.
use Rattle.std.specs.Prelude.{◌≡◌, Bool, true, false, cond, not, ◌&&◌, ℕ, zero, suc, ◌+◌, ◌-◌, ◌*◌, ◌%◌, leb, ltb, eqb, length, get_or, take, drop, replicate, ℤ, pos, nat_abs}
use mathlib.Core.List.{List, [], ◌∷◌, ◌++◌, map, tail}
use Rattle.rules.specs.declared.Book.{Book}
use Rattle.rules.specs.declared.Entry.{Entry}
use Rattle.rules.specs.declared.Phase.{Phase}
use Rattle.rules.specs.declared.Phase.TheVariants.{Taking, Settling, Cut}
use Rattle.rules.specs.declared.State.{State}
use Rattle.rules.specs.Measures.{issue_count, last_issue, account_count, last_account, cell_count, unit_lots, most_lots, most_entries, most_lifts, lift_words, lift_cells, most_charge, between, sum, due_of, owed_of}
use Rattle.rules.specs.Units.{AccountLots, units_of_nets}
use Rattle.rules.specs.Handover.{covered, stock}
use Rattle.rules.specs.Dealt.{dealt}
use Rattle.rules.specs.Lifts.{Lift, lift_of, lifted}
use Rattle.rules.specs.Ledger.{entry}

abbrev pub is_taking : Phase → Bool
is_taking Taking = true
is_taking Settling = false
is_taking Cut = false

abbrev pub is_settling : Phase → Bool
is_settling Taking = false
is_settling Settling = true
is_settling Cut = false

abbrev pub is_cut : Phase → Bool
is_cut Taking = false
is_cut Settling = false
is_cut Cut = true

-- f k, f (k + 1), .., n of them
abbrev pub tabulate {ℓ} : {A : Type ℓ} → (ℕ → A) → ℕ → ℕ → List A
tabulate f k zero = []
tabulate f k (suc n) = f k ∷ tabulate f (suc k) n

-- every element passes
abbrev pub all {ℓ} : {A : Type ℓ} → (A → Bool) → List A → Bool
all p [] = true
all p (x ∷ xs) = p x && all p xs

-- Views

-- for each issue and account: where its number stands, and the numbers of an issue, in a column that has so many of each
abbrev pub cell : ℕ → ℕ → ℕ
cell i a = i * account_count + a

abbrev pub block {ℓ} : {A : Type ℓ} → ℕ → ℕ → List A → List A
block width i xs = take width (drop (i * width) xs)

abbrev pub row {ℓ} : {A : Type ℓ} → ℕ → List A → List A
row i xs = block account_count i xs

abbrev pub net_at : List ℤ → ℕ → ℕ → ℤ
net_at nets i a = get_or nets (cell i a) (pos 0)

abbrev pub delivered_at : List ℕ → ℕ → ℕ → ℕ
delivered_at delivered i a = get_or delivered (cell i a) 0

abbrev pub dues_of : List ℤ → ℕ → List ℕ
dues_of nets i = map due_of (row i nets)

abbrev pub obligations_of : List ℤ → ℕ → List ℕ
obligations_of nets i = map owed_of (row i nets)

-- the issue's delivered total
abbrev pub delivered_total : List ℕ → ℕ → ℕ
delivered_total delivered i = sum (row i delivered)

-- an issue's words of lifts: where they stand; how many lifts there are; the count of the day's accepted deliveries and
-- lifts; and of each lift its old and its new place
abbrev pub lift_cell : ℕ → ℕ → ℕ
lift_cell i j = i * lift_words + j

abbrev pub lift_number : List ℕ → ℕ → ℕ
lift_number lifts i = get_or (block lift_words i lifts) 0 0

abbrev pub count_at : List ℕ → ℕ → ℕ
count_at lifts i = get_or (block lift_words i lifts) 1 0

abbrev pub places_in : ℕ → List ℕ → List Lift
places_in zero ws = []
places_in (suc n) ws = lift_of (get_or ws 0 0) (get_or ws 1 0) ∷ places_in n (drop 2 ws)

abbrev pub lifts_at : List ℕ → ℕ → List Lift
lifts_at lifts i = places_in (lift_number lifts i) (drop 2 (block lift_words i lifts))

-- from a named day on full units are dealt in turn; 0 names none
abbrev pub in_force : ℕ → ℕ → Bool
in_force turn day = ltb 0 turn && leb turn day

abbrev pub dealt_today : Book → Bool
dealt_today b = in_force b.state.turn b.state.day

-- the units of accounts with these nets, in the new order or the old
abbrev pub units_by : Bool → List ℤ → List AccountLots
units_by new ns = cond new (dealt unit_lots (map due_of ns)) (units_of_nets unit_lots ns)

-- the issue's units in the order of the day: the order without lifts, as lifted so far
unfoldable pub order_in : Bool → List ℤ → List ℕ → ℕ → List AccountLots
order_in new nets lifts i = lifted (lifts_at lifts i) (units_by new (row i nets))

-- of each issue; the calls take a book's orders from here
abbrev pub Orders : Type 0
Orders = ℕ → List AccountLots

abbrev pub order_of : Book → Orders
order_of b = order_in (dealt_today b) b.nets b.lifts

abbrev pub stock_of : Book → ℕ → ℕ
stock_of b i = stock (order_of b i) (delivered_total b.delivered i)

abbrev pub head_or0 : List ℕ → ℕ
head_or0 [] = 0
head_or0 (x ∷ xs) = x

-- the first n entries of five columns
abbrev pub entries : ℕ → List ℕ → List ℕ → List ℕ → List ℕ → List ℕ → List Entry
entries zero is fs ts xs ds = []
entries (suc n) is fs ts xs ds =
    entry (head_or0 is) (head_or0 fs) (head_or0 ts) (head_or0 xs) (head_or0 ds)
    ∷ entries n (tail is) (tail fs) (tail ts) (tail xs) (tail ds)

abbrev pub ledger_of : Book → List Entry
ledger_of b = entries b.state.entries b.issues b.froms b.tos b.lots b.days

-- Soundness

-- each issue's nets sum to 0, and so do the charges: what is due and what is owed have the same sum
abbrev pub balanced : List ℤ → Bool
balanced ns = eqb (sum (map due_of ns)) (sum (map owed_of ns))

abbrev pub within_size : ℕ → ℤ → Bool
within_size most n = leb (nat_abs n) most

-- delivered lots lie in 0..−net where the net is negative, are 0 elsewhere
abbrev pub within_owed : List ℤ → List ℕ → Bool
within_owed [] ds = true
within_owed (n ∷ ns) [] = true
within_owed (n ∷ ns) (d ∷ ds) = leb d (owed_of n) && within_owed ns ds

abbrev pub is_zero : ℕ → Bool
is_zero x = eqb x 0

-- entries have numbers in range, from unlike to, lots 1..20,000,000
abbrev pub entry_sound : Entry → Bool
entry_sound e =
    leb e.issue last_issue && leb e.from last_account && leb e.to last_account && not (eqb e.from e.to)
    && between 1 most_lots e.lots

-- days never fall along the ledger, from `least` on, nor are above today
abbrev pub days_sound : ℕ → ℕ → List Entry → Bool
days_sound least today [] = leb least today
days_sound least today (e ∷ es) = leb least e.day && days_sound e.day today es

-- new ≤ old < number of units, new places never falling, from `least` on, and at most the units handed
abbrev pub places_sound : ℕ → ℕ → ℕ → List Lift → Bool
places_sound number handed least [] = true
places_sound number handed least (l ∷ ls) =
    leb least l.new && leb l.new l.old && ltb l.old number && leb l.new handed
    && places_sound number handed l.new ls

-- what an issue's lifts have
unfoldable pub lift_conditions : Phase → List AccountLots → ℕ → List ℕ → ℕ → List Bool
lift_conditions phase us d lifts i =
    -- at most eight lifts stand for an issue
    leb (lift_number lifts i) most_lifts
    -- their places
    ∷ places_sound (length us) (covered us d) 0 (lifts_at lifts i)
    -- no lift in Taking
    ∷ cond (is_taking phase) (is_zero (lift_number lifts i)) true
    -- the count is at most lots delivered plus lifts
    ∷ leb (count_at lifts i) (d + lift_number lifts i)
    ∷ []

unfoldable pub lifts_sound : Phase → Orders → List ℕ → List ℕ → ℕ → Bool
lifts_sound phase us delivered lifts i = all (λ c. c) (lift_conditions phase (us i) (delivered_total delivered i) lifts i)

-- an issue in lots of 100,000 yen: is it marked?
abbrev pub is_marked : List ℕ → ℕ → Bool
is_marked marks i = ltb 0 (get_or marks i 0)

abbrev pub is_even : ℕ → Bool
is_even x = is_zero (x % 2)

-- a marked issue has even lots only
abbrev pub lots_even : List ℕ → ℕ → ℕ → Bool
lots_even marks i x = cond (is_marked marks i) (is_even x) true

-- in its nets and delivered lots
unfoldable pub cells_even : List ℕ → List ℤ → List ℕ → ℕ → Bool
cells_even marks nets delivered i =
    cond (is_marked marks i) (all (λ n. is_even (nat_abs n)) (row i nets) && all is_even (row i delivered)) true

-- and in its entries
abbrev pub entry_even : List ℕ → Entry → Bool
entry_even marks e = lots_even marks e.issue e.lots

-- what a sound book has
unfoldable pub conditions : Book → List Bool
conditions b =
    -- each net lies in −20,000,000..20,000,000
    all (within_size most_lots) b.nets
    -- each issue's nets sum to 0
    ∷ all (λ i. balanced (row i b.nets)) (tabulate (λ i. i) 0 issue_count)
    -- delivered lots are at most what is owed
    ∷ within_owed b.nets b.delivered
    -- and are 0 throughout in Taking
    ∷ cond (is_taking b.state.phase) (all is_zero b.delivered) true
    -- the entry count is at most 2,048
    ∷ leb b.state.entries most_entries
    ∷ all entry_sound (ledger_of b)
    ∷ days_sound 0 b.state.day (ledger_of b)
    -- unused entries are zero
    ∷ all is_zero (drop b.state.entries b.issues)
    ∷ all is_zero (drop b.state.entries b.froms)
    ∷ all is_zero (drop b.state.entries b.tos)
    ∷ all is_zero (drop b.state.entries b.lots)
    ∷ all is_zero (drop b.state.entries b.days)
    -- charges sum to 0
    ∷ balanced b.charges
    -- each of size at most 134,663,013,697,536 × day
    ∷ all (within_size (most_charge * b.state.day)) b.charges
    -- each issue's lifts are sound
    ∷ all (lifts_sound b.state.phase (order_of b) b.delivered b.lifts) (tabulate (λ i. i) 0 issue_count)
    -- nets and delivered lots of a marked issue are even
    ∷ all (cells_even b.state.marks b.nets b.delivered) (tabulate (λ i. i) 0 issue_count)
    -- and so are its entries' lots
    ∷ all (entry_even b.state.marks) (ledger_of b)
    ∷ []

-- a book is sound when all of them hold
unfoldable pub sound : Book → Bool
unfolding conditions
sound b = all (λ c. c) (conditions b)

-- Setters: nobody else writes a state or a book out field by field

-- a state of its numbers
abbrev pub state_of : ℕ → Phase → ℕ → ℕ → List ℕ → State
state_of day phase n turn marks = record { day = day; phase = phase; entries = n; turn = turn; marks = marks }

abbrev pub with_phase : State → Phase → State
with_phase s p = state_of s.day p s.entries s.turn s.marks

abbrev pub with_entries : State → ℕ → State
with_entries s n = state_of s.day s.phase n s.turn s.marks

-- the first day of the new order
abbrev pub with_turn : State → ℕ → State
with_turn s t = state_of s.day s.phase s.entries t s.marks

abbrev pub with_marks : State → List ℕ → State
with_marks s ms = state_of s.day s.phase s.entries s.turn ms

-- day rises by 1, to Taking
abbrev pub next_day : State → State
next_day s = state_of (s.day + 1) Taking s.entries s.turn s.marks

-- a book of its state and all its columns
abbrev pub book_of : State → List ℤ → List ℕ → List ℕ → List ℤ → List ℕ → List ℕ → List ℕ → List ℕ → List ℕ → Book
book_of s nets delivered lifts charges issues froms tos lots days =
    record {
      state = s;
      nets = nets;
      delivered = delivered;
      lifts = lifts;
      charges = charges;
      issues = issues;
      froms = froms;
      tos = tos;
      lots = lots;
      days = days;
    }

abbrev pub with_state : Book → State → Book
with_state b s = book_of s b.nets b.delivered b.lifts b.charges b.issues b.froms b.tos b.lots b.days

abbrev pub with_nets : Book → List ℤ → Book
with_nets b ns = book_of b.state ns b.delivered b.lifts b.charges b.issues b.froms b.tos b.lots b.days

abbrev pub with_delivered : Book → List ℕ → Book
with_delivered b ds = book_of b.state b.nets ds b.lifts b.charges b.issues b.froms b.tos b.lots b.days

abbrev pub with_lifts : Book → List ℕ → Book
with_lifts b ls = book_of b.state b.nets b.delivered ls b.charges b.issues b.froms b.tos b.lots b.days

abbrev pub with_charges : Book → List ℤ → Book
with_charges b cs = book_of b.state b.nets b.delivered b.lifts cs b.issues b.froms b.tos b.lots b.days

-- a column of a ledger, 0 where it is not used
abbrev pub column : (Entry → ℕ) → List Entry → List ℕ
column f es = map f es ++ replicate (most_entries - length es) 0

abbrev pub with_ledger : Book → List Entry → Book
with_ledger b es =
    book_of (with_entries b.state (length es)) b.nets b.delivered b.lifts b.charges
    (column (λ e. e.issue) es) (column (λ e. e.from) es) (column (λ e. e.to) es) (column (λ e. e.lots) es)
    (column (λ e. e.day) es)

-- Lengths: those of a book's columns

pub record CellLengths (ns : List ℤ) (ds : List ℕ) : Type 0 where
  pub nets : length ns ≡ cell_count
  pub delivered : length ds ≡ cell_count

pub record LedgerLengths (is fs ts xs ds : List ℕ) : Type 0 where
  pub issues : length is ≡ most_entries
  pub froms : length fs ≡ most_entries
  pub tos : length ts ≡ most_entries
  pub lots : length xs ≡ most_entries
  pub days : length ds ≡ most_entries

pub record Lengths (ns : List ℤ) (ds ls : List ℕ) (cs : List ℤ) (is fs ts xs es : List ℕ) : Type 0 where
  pub cells : CellLengths ns ds
  pub lifts : length ls ≡ lift_cells
  pub charges : length cs ≡ account_count
  pub ledger : LedgerLengths is fs ts xs es

-- a fresh book is day 0, Taking, all zero, ledger empty, no issue marked
abbrev pub fresh : Book
fresh =
    book_of (state_of 0 Taking 0 0 (replicate issue_count 0)) (replicate cell_count (pos 0)) (replicate cell_count 0) (replicate lift_cells 0) (replicate account_count (pos 0))
    (replicate most_entries 0) (replicate most_entries 0) (replicate most_entries 0) (replicate most_entries 0) (replicate most_entries 0)
