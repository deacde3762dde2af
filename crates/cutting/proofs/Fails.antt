-- A fail's entry and record, the stock's record, and the entries of a cursor's overlaps one by one.
use mathlib.Core.Path.{◌≡◌, ap}
use mathlib.Core.List.{List, [], ◌∷◌, ◌++◌, map}
use Prim.Native.Nat.{ℕ, ◌+◌, ◌≤◌, ◌<◌}
use native.Mathlib.Omega.{arith}
use Rattle.std.specs.Prelude.{Some, None}
use lib.ListN.{length, take, length-append}
use Rattle.rules.specs.declared.Entry.{Entry}
use Rattle.rules.specs.Measures.{most_entries}
use Rattle.rules.specs.Ledger.{entry}
use Rattle.rules.specs.Records.{words, over}
use Rattle.rules.specs.Calls.{fail_entry}
use Rattle.ledger.specs.Columns.{Kept}
use Rattle.ledger.proofs.Entries.{kept_held, kept_entries}
use Rattle.units.specs.declared.Cursor.{Cursor}
use Rattle.units.specs.declared.Overlap.{Overlap}
use Rattle.units.specs.Cursor.{Advanced}
use Rattle.cutting.specs.Write.{Lent, ledger_in, fail_records, Wrote}
use Rattle.cutting.specs.Issue.{entries_on}
use Rattle.cutting.proofs.Writing.{ledger_length}

-- an entry appended and its record put
pub entered : (e : Entry) (n : ℕ) (a b : Lent) → n < most_entries →
    Kept (ledger_in n a ++ (e ∷ [])) (n + 1) b.issues b.froms b.tos b.lots b.days →
    b.out ≡ over (words (fail_records (e ∷ []))) a.out → Wrote (e ∷ []) (fail_records (e ∷ [])) n a (n + 1) b
entered e n a b h k o =
    let es = ledger_in n a ++ (e ∷ []) in
    let l : length es ≤ most_entries = omega (arith, length-append (ledger_in n a) (e ∷ []), ledger_length n a) in
    record {
      held = kept_held es (n + 1) b.issues b.froms b.tos b.lots b.days k l;
      ledger = kept_entries es (n + 1) b.issues b.froms b.tos b.lots b.days k;
      out = o;
    }

-- a step of the cursor, as entries
module _ (day i : ℕ) (runs : List ℕ) (k : ℕ) (missing : List ℕ) (c : Cursor) where
  pub entries_more : (o : Overlap) (c' : Cursor) → Advanced (take k runs) missing c (Some (o, c')) →
      entries_on day i runs k missing c ≡ entry i o.from o.to o.lots day ∷ entries_on day i runs k missing c'
  unfolding entries_on
  entries_more o c' l = ap (map (fail_entry day i)) l.list

  pub entries_end : Advanced (take k runs) missing c None → entries_on day i runs k missing c ≡ []
  unfolding entries_on
  entries_end l = ap (map (fail_entry day i)) l.list
