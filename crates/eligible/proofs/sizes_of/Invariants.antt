-- The sizes of the first k reports are written, and their sum with what is left is the eligible lots.
use Rattle.std.proofs.Common.{◌≡◌, ℕ, ◌+◌, ◌*◌, ◌≤◌, ◌<◌, length, get_or, drop}
use Rattle.reports.specs.Reports.{numbers, size_of, eligible_lots}
use Rattle.eligible.specs.Steps.{unfaced}
use Rattle.rules.specs.Measures.{total}
use Rattle.eligible.proofs.sizes_of.Given as goal

abbrev pub invariant-loop-k : goal.invariant-loop-k
invariant-loop-k l =
    let rs = unfaced l.subs l.lots l.earlier in
    (length l.place-items ≡ length l.subs) × (l.sum ≤ l.k * 4294967296)
    × (l.sum + total (size_of rs) (drop l.k (numbers (length rs.subs))) ≡ eligible_lots rs)
    × ((j : ℕ) → j < l.k → get_or l.place-items j 0 ≡ size_of rs j)
