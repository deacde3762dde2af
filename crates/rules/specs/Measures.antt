-- Measures: lots, yen and prices; the limits, each named once; value and charge.
use Rattle.std.specs.Prelude.{◌≡◌, Bool, cond, ◌&&◌, ℕ, suc, ◌+◌, ◌*◌, ◌/◌, leb, ℤ, pos, negsuc, get_or, List, [], ◌∷◌}

-- 16 issues (0 to 15)
abbrev pub issue_count : ℕ
issue_count = 16

abbrev pub last_issue : ℕ
last_issue = 15

-- 64 netting accounts (0 to 63)
abbrev pub account_count : ℕ
account_count = 64

abbrev pub last_account : ℕ
last_account = 63

-- a number for each issue and account
abbrev pub cell_count : ℕ
cell_count = 1024

-- a unit is at most 5 billion yen (001), so 100,000 lots
abbrev pub unit_lots : ℕ
unit_lots = 100000

-- lots of a trade, a delivery or an entry, and the size of a net, are at most 20,000,000
abbrev pub most_lots : ℕ
most_lots = 20000000

-- a ledger of at most 2,048 fail entries
abbrev pub most_entries : ℕ
most_entries = 2048

-- day 0 to 65,535
abbrev pub last_day : ℕ
last_day = 65535

-- days of a roll are 1..12
abbrev pub most_days : ℕ
most_days = 12

-- rate 0..10,000, in hundredths of a percent a year (house)
abbrev pub most_rate : ℕ
most_rate = 10000

-- prices 1..200,000, in thousandths of a yen per 100 yen face
abbrev pub most_price : ℕ
most_price = 200000

-- accrued amounts 0..10,000, in the same measure; price and accrued together are at most 200,000
abbrev pub most_accrued : ℕ
most_accrued = 10000

-- roll takes 32 quotes: sixteen prices, then sixteen accrued amounts, issue 0 first in both
abbrev pub quote_count : ℕ
quote_count = 32

-- each charge is of size at most this × day
abbrev pub most_charge : ℕ
most_charge = 134663013697536

-- at most eight lifts stand for an issue
abbrev pub most_lifts : ℕ
most_lifts = 8

-- an issue's words of lifts: their number, the count, eight times an old and a new place; and those of all issues
abbrev pub lift_words : ℕ
lift_words = 18

abbrev pub lift_cells : ℕ
lift_cells = 288

-- a caller is 0 to 15, a participant, or 16, the operator
abbrev pub last_participant : ℕ
last_participant = 15

abbrev pub operator : ℕ
operator = 16

-- the output lent to deliver, commit, cutoff or resolve has at least 4,096 words
abbrev pub output_words : ℕ
output_words = 4096

-- and that of the tape writer at least 33
abbrev pub tape_words : ℕ
tape_words = 33

-- x lies in lo..hi
abbrev pub between : ℕ → ℕ → ℕ → Bool
between lo hi x = leb lo x && leb x hi

-- the sum of a number of each element
abbrev pub total {ℓ} : {A : Type ℓ} → (A → ℕ) → List A → ℕ
total f [] = 0
total f (x ∷ xs) = f x + total f xs

abbrev pub sum : List ℕ → ℕ
sum xs = total (λ x. x) xs

-- what each element of a list has
abbrev pub Every {ℓ} : {A : Type ℓ} → (A → Type 0) → List A → Type 0
Every P [] = Unit {0}
Every P (x ∷ xs) = P x × Every P xs

-- how often a list has an element, by a test of what is the same
abbrev pub times : {A : Type 0} → (A → A → Bool) → A → List A → ℕ
times same x xs = total (λ y. cond (same x y) 1 0) xs

-- rearrangements of each other: each element as often in the one list as in the other
abbrev pub Rearranged : {A : Type 0} → (A → A → Bool) → List A → List A → Type 0
Rearranged {A} same xs ys = (x : A) → times same x xs ≡ times same x ys

-- the lots due to an account: its net where that is positive
abbrev pub due_of : ℤ → ℕ
due_of (pos n) = n
due_of (negsuc n) = 0

-- the lots that an account owes: its net's size where that is negative
abbrev pub owed_of : ℤ → ℕ
owed_of (pos n) = 0
owed_of (negsuc n) = suc n

-- the price of an issue, and its accrued amount
abbrev pub price_in : List ℕ → ℕ → ℕ
price_in quotes i = get_or quotes i 0

abbrev pub accrued_in : List ℕ → ℕ → ℕ
accrued_in quotes i = get_or quotes (issue_count + i) 0

-- value = lots × price / 2 rounded down plus lots × accrued / 2 rounded down
unfoldable pub value_of : ℕ → ℕ → ℕ → ℕ
value_of lots price accrued = lots * price / 2 + lots * accrued / 2

-- charge = value × rate × days / 3,650,000 rounded down
unfoldable pub charge_of : ℕ → ℕ → ℕ → ℕ → ℕ → ℕ
charge_of lots price days rate accrued = value_of lots price accrued * rate * days / 3650000
