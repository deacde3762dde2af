-- Resolve in place: one entry met, and the whole ledger.
use Rattle.std.specs.Prelude.{◌≡◌, true, List, ℕ, ◌≤◌, length}
use Rattle.rules.specs.declared.Entry.{Entry}
use Rattle.rules.specs.Measures.{output_words}
use Rattle.rules.specs.Ledger.{is_from, meet}
use Rattle.rules.specs.Book.{all, entries, entry_sound}
use Rattle.rules.specs.Records.{words, over}
use Rattle.rules.specs.Calls.{resolve_records}
use Rattle.ledger.specs.declared.Ledger.{Ledger}
use Rattle.ledger.specs.Columns.{Columns, Held}
use Rattle.resolution.specs.declared.Counts.{Counts}

-- a ledger whose entries are sound, in its columns, and an output with room for a record an entry
pub record Resolvable (n : ℕ) (is fs ts xs ds out : List ℕ) : Type 0 where
  pub held : Held n is fs ts xs ds
  pub sound : all entry_sound (entries n is fs ts xs ds) ≡ true
  pub room : output_words ≤ length out

-- the ledger after a resolve in its columns, and the records in the output
pub record Resolved (es : List Entry) (i a x : ℕ) (r : Counts) (is fs ts xs ds out out' : List ℕ) : Type 0 where
  pub entries : r.entries ≡ length (meet (is_from i a) x es)
  pub columns : Columns (meet (is_from i a) x es) is fs ts xs ds
  pub records : r.records ≡ length (resolve_records es i a x)
  pub written : out' ≡ over (words (resolve_records es i a x)) out

-- The same by name

abbrev pub resolvable : ℕ → Ledger → List ℕ → Type 0
resolvable n l out = Resolvable n l.issues.now l.froms.now l.tos.now l.lots.now l.days.now out

abbrev pub resolved : List Entry → ℕ → ℕ → ℕ → Counts → Ledger → List ℕ → List ℕ → Type 0
resolved es i a x r l out out' =
    Resolved es i a x r l.issues.now l.froms.now l.tos.now l.lots.now l.days.now out out'
