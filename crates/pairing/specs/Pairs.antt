-- Pair-off in place: its steps, and the ledger that they leave.
use Rattle.std.specs.Prelude.{◌≡◌, List, ℕ, ◌≤◌}
use Rattle.rules.specs.declared.Entry.{Entry}
use Rattle.rules.specs.Ledger.{is_from, is_to, count_of, Pairing, most_steps}
use Rattle.ledger.specs.declared.Ledger.{Ledger}
use Rattle.ledger.specs.Columns.{Kept}
use Rattle.pairing.specs.declared.Steps.{Steps}

-- pair-off done
pub record WasPaired (p : Pairing) (r : Steps) (is fs ts xs ds : List ℕ) : Type 0 where
  pub steps : r.steps ≡ p.steps
  pub cancelled : r.cancelled ≡ p.cancelled
  pub ledger : Kept p.ledger r.entries is fs ts xs ds

abbrev pub was_paired : Pairing → Steps → Ledger → Type 0
was_paired p r l = WasPaired p r l.issues.now l.froms.now l.tos.now l.lots.now l.days.now

abbrev pub few_steps : ℕ → ℕ → List Entry → Steps → Type 0
few_steps i a es r = r.steps ≤ most_steps (count_of (is_to i a) es) (count_of (is_from i a) es)
