-- Soundness in the parts that a scan goes through: nets beside delivered lots, the ledger, the charges.
use Rattle.std.specs.Prelude.{◌≡◌, Bool, true, cond, ◌&&◌, List, ℕ, ◌*◌, length, drop, ℤ, leb}
use Rattle.rules.specs.declared.Phase.{Phase}
use Rattle.rules.specs.declared.Entry.{Entry}
use Rattle.rules.specs.Measures.{issue_count, most_lots, most_entries, most_charge}
use Rattle.rules.specs.Book.{is_taking, tabulate, all, row, entries, balanced, within_size, within_owed, is_zero, entry_sound, days_sound}

-- each issue's nets are in balance
unfoldable pub all_balanced : List ℤ → Bool
all_balanced ns = all (λ i. balanced (row i ns)) (tabulate (λ i. i) 0 issue_count)

-- and each net is in bounds, and no more delivered than owed
unfoldable pub nets_sound : List ℤ → List ℕ → Bool
nets_sound ns ds =
    all (within_size most_lots) ns
    && (all (λ i. balanced (row i ns)) (tabulate (λ i. i) 0 issue_count) && within_owed ns ds)

-- delivered lots are 0 throughout in Taking
unfoldable pub delivered_sound : Phase → List ℕ → Bool
delivered_sound phase ds = cond (is_taking phase) (all is_zero ds) true

-- entries are right and their days in order
unfoldable pub entries_sound : ℕ → List Entry → Bool
entries_sound today es = all entry_sound es && days_sound 0 today es

-- unused entries are zero
unfoldable pub unused_zero : ℕ → List ℕ → List ℕ → List ℕ → List ℕ → List ℕ → Bool
unused_zero n is fs ts xs ds =
    all is_zero (drop n is) && all is_zero (drop n fs) && all is_zero (drop n ts) && all is_zero (drop n xs)
    && all is_zero (drop n ds)

unfoldable pub ledger_sound : ℕ → ℕ → List ℕ → List ℕ → List ℕ → List ℕ → List ℕ → Bool
ledger_sound today n is fs ts xs ds =
    leb n most_entries && (entries_sound today (entries n is fs ts xs ds) && unused_zero n is fs ts xs ds)

-- charges are in balance and in bounds
unfoldable pub charges_sound : ℕ → List ℤ → Bool
charges_sound today cs = balanced cs && all (within_size (most_charge * today)) cs

-- the lengths of a row's two parts
pub record RowLengths (ns : List ℤ) (ds : List ℕ) : Type 0 where
  pub nets : length ns ≡ 64
  pub delivered : length ds ≡ 64

-- a row of nets, each in bounds
pub record RowWithin (ns : List ℤ) : Type 0 where
  pub accounts : length ns ≡ 64
  pub size : all (within_size most_lots) ns ≡ true
