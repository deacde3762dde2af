-- The runs up to this one, and what is laid from it on with what is left, are what all is.
use Rattle.std.proofs.Common.{◌≡◌, ℕ, ◌≤◌, ◌++◌, length, map, take, drop, get_or}
use Rattle.runs.specs.Runs.{part_of}
use Rattle.gathering.specs.Gathering.{laid}
use Rattle.gathering.proofs.Gathers.{left}
use Rattle.gathering.proofs.spread.Given as goal

abbrev pub invariant-loop-key : goal.invariant-loop-key
invariant-loop-key l =
    (length l.full ≡ 64) × ((a : ℕ) → get_or l.full a 0 ≤ 20000000)
    × (laid (left l.fn.full) (map part_of l.fn.runs)
    ≡ map part_of (take l.key-index l.key-items) ++ laid (left l.full) (map part_of (drop l.key-index l.key-items)))
