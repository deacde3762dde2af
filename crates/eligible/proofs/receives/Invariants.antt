-- Both sums and what is left of each are the whole; no report adds more than a word can hold, and there are few.
use Rattle.std.proofs.Common.{◌≡◌, ◌+◌, ◌*◌, ◌≤◌, length, drop}
use Rattle.reports.specs.Reports.{numbers, receipt_of, delivery_of, receipts, deliveries}
use Rattle.rules.specs.Measures.{total}
use Rattle.eligible.specs.Steps.{unfaced}
use Rattle.eligible.proofs.receives.Given as goal

abbrev pub invariant-loop-k : goal.invariant-loop-k
invariant-loop-k l =
    let rs = unfaced l.subs l.lots l.earlier in
    (l.received ≤ l.k * 4294967296) × (l.delivered ≤ l.k * 4294967296)
    × (l.received + total (receipt_of rs l.s) (drop l.k (numbers (length rs.subs))) ≡ receipts rs l.s)
    × (l.delivered + total (delivery_of rs l.s) (drop l.k (numbers (length rs.subs))) ≡ deliveries rs l.s)
