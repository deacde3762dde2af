-- The records of all units are those of the units behind the place, from here; each turn hands over the next.
use Rattle.std.proofs.Common.{◌-◌, drop}
use Rattle.rules.specs.Records.{words}
use Rattle.runs.specs.Runs.{units_of_words}
use Rattle.handover.specs.Walking.{units_from}
use Rattle.handing.specs.Handing.{hand_records}
use Rattle.handing.proofs.Handing.{Handing}
use Rattle.handing.proofs.hand.Given as goal

abbrev pub invariant-loop-m : goal.invariant-loop-m
invariant-loop-m l =
    Handing l.i l.m (l.count - l.m) (units_from l.runs l.seat) (words (hand_records l.i l.count (drop l.c (units_of_words l.runs)))) l.fn.out l.out
