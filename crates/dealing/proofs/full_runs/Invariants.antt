-- The runs of full units in front are those up to this one and those in front of the rest.
use Rattle.std.proofs.Common.{◌≡◌, ◌+◌, map, drop}
use Rattle.runs.specs.Runs.{part_of}
use Rattle.dealing.specs.Dealing.{full_number}
use Rattle.dealing.proofs.full_runs.Given as goal

abbrev pub invariant-loop-m : goal.invariant-loop-m
invariant-loop-m l = l.m + full_number (drop l.m (map part_of l.runs)) ≡ full_number (map part_of l.runs)
