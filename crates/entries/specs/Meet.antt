-- An entry met in a list of entries.
use Rattle.std.specs.Prelude.{◌≡◌, List, ℕ, ◌<◌, ◌≤◌, ◌-◌, min, length, get_or, set}
use Rattle.rules.specs.declared.Entry.{Entry}
use Rattle.rules.specs.Ledger.{entry}

-- what stands where there is no entry
abbrev pub unused : Entry
unused = entry 0 0 0 0 0

abbrev pub with_lots : Entry → ℕ → Entry
with_lots e n = entry e.issue e.from e.to n e.day

-- entry i falls by r, the smaller of n and its lots; where there is none, nothing changes
pub record Met (es : List Entry) (i n r : ℕ) (after : List Entry) : Type 0 where
  pub none : length es ≤ i → (r ≡ 0) × (after ≡ es)
  pub one : i < length es →
      (r ≡ min (get_or es i unused).lots n) × (after ≡ set es i (with_lots (get_or es i unused) ((get_or es i unused).lots - r)))
