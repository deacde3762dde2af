-- The units put out, and those behind the place, are the units from k on.
use Rattle.std.proofs.Common.{◌≡◌, ◌++◌, map, length, take, drop}
use Rattle.runs.specs.Runs.{part_of}
use Rattle.inturn.specs.InTurn.{Seated, dealt_runs, dealt_from}
use Rattle.inturn.proofs.deal_out.Given as goal

abbrev pub invariant-loop-word : goal.invariant-loop-word
invariant-loop-word l =
    Seated l.runs l.m l.d
    × (map part_of (take l.word-index l.word-items) ++ dealt_from l.runs (length l.runs) l.m l.d ≡ drop l.k (dealt_runs l.runs (length l.runs) l.m))
