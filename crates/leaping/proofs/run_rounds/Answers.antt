-- A total that stands in a full run leaps by the rounds that the run has room for; elsewhere there is no leap.
use Rattle.std.proofs.Common.{◌≡◌, ◌-◌, ◌/◌, ◌%◌, ◌<◌, get_or, length, map, arith}
use Rattle.runs.specs.Runs.{part_of}
use Rattle.ranking.specs.Runs.{units_of_runs}
use Rattle.leaping.proofs.Leaping.{again_here, again_never, room_for, sum_next}
use Rattle.leaping.proofs.run_rounds.Goals as goal

pub returns-then-x-size-ne0 : goal.returns-then-x-size-ne0
returns-then-x-size-ne0 c = let a = c.args in again_never (units_of_runs a.size (map part_of a.runs.now)) a.d a.x

pub returns-then-lots-size-ne0 : goal.returns-then-lots-size-ne0
returns-then-lots-size-ne0 c = let a = c.args in again_never (units_of_runs a.size (map part_of a.runs.now)) a.d a.x

pub returns-then-room-x : goal.returns-then-room-x
returns-then-room-x c = let a = c.args in again_never (units_of_runs a.size (map part_of a.runs.now)) a.d a.x

pub returns-then-b-lots : goal.returns-then-b-lots
returns-then-b-lots c =
    let a = c.args in
    let l = c.loop-key in
    let lots = get_or a.runs.now l.key-index 0 / 64 in
    let full : lots % a.size ≡ 0 = omega arith in
    let here : l.key-index < length a.runs.now = omega arith in
    again_here a.size a.runs.now l.key-index a.d a.x l.b ((lots - l.b - a.x - 1) / a.x) c.requires.some here
    l.invariant.full l.invariant.left full (room_for lots l.b a.x c.requires.each (omega arith))

pub loop-key-preserved : goal.loop-key-preserved
loop-key-preserved c =
    let l = c.loop-key in
    record {
      left = omega (arith, l.invariant.left, sum_next c.args.runs.now l.key-index (omega arith));
      full = l.invariant.full;
    }

pub returns : goal.returns
returns c = let a = c.args in again_never (units_of_runs a.size (map part_of a.runs.now)) a.d a.x
