-- What is summed and the full lots from this run on are all.
use Rattle.std.proofs.Common.{◌≡◌, ℕ, ◌+◌, length, map, drop, get_or}
use Rattle.rules.specs.Fails.{full_lots}
use Rattle.rules.specs.Measures.{unit_lots}
use Rattle.laws.proofs.Basics.{Every}
use Rattle.runs.specs.Runs.{part_of, Plain}
use Rattle.gathering.specs.Gathering.{fulls_of}
use Rattle.gathering.proofs.sums.Given as goal

abbrev pub invariant-loop-key : goal.invariant-loop-key
invariant-loop-key l =
    (length l.full ≡ 64) × Every Plain (map part_of (drop l.key-index l.runs))
    × ((a : ℕ) → get_or l.full a 0 + full_lots unit_lots a (map part_of (drop l.key-index l.runs)) ≡ fulls_of l.runs a)
