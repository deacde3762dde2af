-- The cutoff of all issues.
use Rattle.std.specs.Prelude.{◌≡◌, Bool, List, ◌++◌, ℕ, ◌+◌, ◌≤◌, leb, length, ℤ}
use Rattle.rules.specs.declared.Phase.{Phase}
use Rattle.rules.specs.Measures.{most_entries, output_words}
use Rattle.rules.specs.Records.{words, over}
use Rattle.rules.specs.Questions.{first_no}
use Rattle.rules.specs.Book.{order_in}
use Rattle.rules.specs.Calls.{new_entries, cutoff_records, cutoff_asks}
use Rattle.book.specs.Cells.{SoundCells}
use Rattle.ledger.specs.Columns.{Columns}
use Rattle.cutting.specs.declared.Counts.{Counts}
use Rattle.cutting.specs.Write.{Lent, ledger_in, HeldIn}

-- is there room for the entries that a cutoff makes behind so many old ones, whatever the day?
abbrev pub Fits : Bool → ℕ → List ℤ → List ℕ → List ℕ → Bool → Type 0
Fits new old nets delivered lifts r = (today : ℕ) → r ≡ leb (old + length (new_entries today (order_in new nets lifts) nets delivered)) most_entries

-- the first 'no' of a cutoff's questions, whatever the day
abbrev pub Asked : Bool → Phase → ℕ → List ℤ → List ℕ → List ℕ → ℕ → Type 0
Asked new phase old nets delivered lifts r = (today : ℕ) → r ≡ first_no (cutoff_asks phase old (length (new_entries today (order_in new nets lifts) nets delivered)))

-- what a sound book and the answered questions give
pub record CanCutAll (new : Bool) (nets : List ℤ) (delivered lifts : List ℕ) (day n : ℕ) (a : Lent) : Type 0 where
  pub sound : SoundCells nets delivered lifts
  pub held : HeldIn n a
  pub most : n + length (new_entries day (order_in new nets lifts) nets delivered) ≤ most_entries
  pub room : output_words ≤ length a.out

-- the ledger with the new entries, in its columns, and the output with the records over it
pub record WasCutAll (new : Bool) (nets : List ℤ) (delivered lifts : List ℕ) (day n : ℕ) (a : Lent) (r : Counts) (b : Lent) : Type 0 where
  pub entries : r.entries ≡ length (ledger_in n a ++ new_entries day (order_in new nets lifts) nets delivered)
  pub columns : Columns (ledger_in n a ++ new_entries day (order_in new nets lifts) nets delivered) b.issues b.froms b.tos b.lots b.days
  pub records : r.records ≡ length (cutoff_records day (order_in new nets lifts) nets delivered)
  pub out : b.out ≡ over (words (cutoff_records day (order_in new nets lifts) nets delivered)) a.out
