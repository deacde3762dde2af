-- Charging all entries from the start is the same as charging from here those that are left.
use Rattle.std.proofs.Common.{◌≡◌, ◌+◌, ◌*◌, length, drop}
use Rattle.rules.specs.Measures.{most_charge, last_day}
use Rattle.rules.specs.Ledger.{charged}
use Rattle.rules.specs.Book.{entries}
use Rattle.charging.proofs.Charging.{Within}
use Rattle.charging.proofs.charge_entries.Given as goal

abbrev pub invariant-loop-k : goal.invariant-loop-k
invariant-loop-k l =
    record {
      accounts : length l.charges ≡ 64;
      within : Within (most_charge * last_day + l.k * 131506849314) l.charges;
      rest :
          charged l.days l.rate l.quotes (drop l.k (entries l.entries l.ledger.issues.now l.ledger.froms.now l.ledger.tos.now l.ledger.lots.now l.ledger.days.now)) l.charges
          ≡ charged l.days l.rate l.quotes (entries l.entries l.ledger.issues.now l.ledger.froms.now l.ledger.tos.now l.ledger.lots.now l.ledger.days.now) l.initial.charges;
    }
