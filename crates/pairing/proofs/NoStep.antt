-- Where there is no step.
use mathlib.Core.Path.{◌≡◌, sym, ◌∙◌}
use mathlib.Core.Bool.{true}
use mathlib.Core.List.{List, append-nil}
use Prim.Native.Nat.{ℕ}
use Rattle.rules.specs.Ledger.{pairing}
use Rattle.rules.specs.Book.{entries, entry_sound}
use Rattle.laws.proofs.Basics.{each_map}
use Rattle.laws.proofs.Sound.{SoundEntry, all_each, entry_parts}
use Rattle.ledger.specs.Columns.{without_zeros}
use Rattle.ledger.proofs.Entries.{entries_length}
use Rattle.stepping.specs.Steps.{Pairable, WasMade}
use Rattle.pairing.specs.Pairs.{WasPaired}
use Rattle.stepping.proofs.Turns.{zeros_none}

-- where no step is made the ledger stays as it is
pub none_paired : (today i a n : ℕ) (is fs ts xs ds mi mf mt mx md : List ℕ) → Pairable n i is fs ts xs ds →
    WasMade (pairing today i a (entries n is fs ts xs ds)) n (record { steps = 0; cancelled = 0; more = 0 }) is fs ts xs ds mi mf mt mx md →
    WasPaired (pairing today i a (entries n is fs ts xs ds)) (record { steps = 0; cancelled = 0; entries = n }) is fs ts xs ds
none_paired today i a n is fs ts xs ds mi mf mt mx md p w =
    let es = entries n is fs ts xs ds in
    let ss = each_map (λ e. entry_sound e ≡ true) SoundEntry entry_parts es (all_each entry_sound es p.sound) in
    let e : (pairing today i a es).ledger ≡ es = w.ledger ∙ append-nil (without_zeros es) ∙ zeros_none es ss in
    record {
      steps = w.steps;
      cancelled = w.cancelled;
      ledger = rw e (record { count = sym (entries_length n is fs ts xs ds); columns = p.held.columns });
    }
