-- One entry met in place, and its record.
use Rattle.std.specs.Prelude.{◌≡◌, true, List, [], map, ℕ, ◌+◌, ◌-◌, ◌*◌, ◌≤◌, ◌<◌, length, get_or, set}
use Rattle.std.proofs.lemmas.List.Edits.{sets}
use Rattle.rules.specs.declared.Entry.{Entry}
use Rattle.rules.specs.Ledger.{put_entry, is_from, met_by}
use Rattle.rules.specs.Book.{entry_sound}
use Rattle.rules.specs.Records.{record_of, words}
use Rattle.meeting.specs.declared.Met.{Met}

-- an entry of x lots, or nothing where x is 0
abbrev pub alone : Entry → ℕ → List Entry
alone e x = put_entry e x []

-- its record behind n others, unless x is 0
pub record Recorded (e : Entry) (x n r : ℕ) (o₀ o : List ℕ) : Type 0 where
  pub next : r ≡ n + length (alone e x)
  pub out : o ≡ sets o₀ (2 * n) (words (map (record_of 11) (alone e x)))

-- an entry whose lots stand at place k can be met, a record put behind n others
pub record CanMeet (k : ℕ) (e : Entry) (n : ℕ) (xs out : List ℕ) : Type 0 where
  pub place : k < length xs
  pub here : e.lots ≡ get_or xs k 0
  pub room : 2 * n + 2 ≤ length out
  pub sound : entry_sound e ≡ true

-- and was, by as much of x lots as it takes
pub record WasMet (i a x k n : ℕ) (r : Met) (e : Entry) (xs xs' out out' : List ℕ) : Type 0 where
  pub left : r.left ≡ x - met_by (is_from i a) x e
  pub lots : xs' ≡ set xs k (get_or xs k 0 - met_by (is_from i a) x e)
  pub met : Recorded e (met_by (is_from i a) x e) n r.records out out'
