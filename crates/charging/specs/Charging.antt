-- What charging entries in place may count on, and what it leaves.
use Rattle.std.specs.Prelude.{◌≡◌, List, ℕ, ◌+◌, ◌*◌, ◌≤◌, ◌<◌, ◌^◌, length, get_or, set, ℤ, pos, nat_abs, ◌+ℤ◌, ◌-ℤ◌}
use Rattle.rules.specs.Measures.{most_lots, most_price, most_entries, most_charge, last_day, price_in, accrued_in}
use Rattle.rules.specs.Ledger.{charged}
use Rattle.rules.specs.Book.{entries}
use Rattle.measures.specs.Range.{Termed}
use Rattle.book.specs.States.{Lent, Column, Shared, SharedColumn}
use Rattle.columns.specs.declared.SharedLedger.{SharedLedger}

-- the charges after y yen were taken from f and given to t
abbrev pub paid : ℕ → ℕ → ℕ → List ℤ → List ℤ
paid f t y cs =
    let taken = set cs f (get_or cs f (pos 0) -ℤ pos y) in
    set taken t (get_or taken t (pos 0) +ℤ pos y)

pub record Payable (cs : List ℤ) (f t y : ℕ) : Type 0 where
  pub accounts : length cs ≡ 64
  pub from : f < 64
  pub to : t < 64
  pub room : (a : ℕ) → nat_abs (get_or cs a (pos 0)) + (y + y) < 2 ^ 63

-- terms in range, entries with numbers in range, charges of a day before the last
pub record Chargeable (days rate : ℕ) (quotes : List ℕ) (n : ℕ) (is fs ts xs : List ℕ) (cs : List ℤ) : Type 0 where
  pub term : Termed days rate
  pub counted : length quotes ≡ 32
  pub quoted : (i : ℕ) → i < 16 → price_in quotes i + accrued_in quotes i ≤ most_price
  pub count : n ≤ most_entries
  pub issues : length is ≡ 2048
  pub froms : length fs ≡ 2048
  pub tos : length ts ≡ 2048
  pub lots : length xs ≡ 2048
  pub issue : (k : ℕ) → k < n → get_or is k 0 < 16
  pub from : (k : ℕ) → k < n → get_or fs k 0 < 64
  pub to : (k : ℕ) → k < n → get_or ts k 0 < 64
  pub most : (k : ℕ) → k < n → get_or xs k 0 ≤ most_lots
  pub accounts : length cs ≡ 64
  pub charge : (a : ℕ) → nat_abs (get_or cs a (pos 0)) ≤ most_charge * last_day

-- the same of a ledger and lent charges
abbrev pub can_charge : SharedLedger → ℕ → ℕ → ℕ → Shared ℕ → Lent ℤ → Type 0
can_charge l n days rate quotes charges =
    Chargeable days rate quotes.now n l.issues.now l.froms.now l.tos.now l.lots.now charges.now

-- each entry was charged
abbrev pub was_charged : SharedLedger → ℕ → ℕ → ℕ → SharedColumn ℕ → Column ℤ → Type 0
was_charged l n days rate quotes charges =
    charges.exit.now ≡ charged days rate quotes.entry.now (entries n l.issues.now l.froms.now l.tos.now l.lots.now l.days.now) charges.entry.now
