-- The unit is a small one, or one of the round; behind the last of a round the next one begins.
use Prim.Native.Nat.{◌+◌}
use native.Mathlib.Omega.{arith}
use lib.ListN.{length}
use Rattle.inturn.proofs.Dealing.{falling_less, small_there, step_to_small, step_within, step_over, lent_falling, lent_narrowed}
use Rattle.inturn.proofs.step.Goals as goal

pub overflow_add-next : goal.overflow_add-next
overflow_add-next c =
    omega (arith, small_there c.args.runs.now (length c.args.runs.now) c.args.m c.args.d c.requires (omega arith), c.requires.ready.few)

pub overflow_add-result : goal.overflow_add-result
overflow_add-result c =
    omega (arith, small_there c.args.runs.now (length c.args.runs.now) c.args.m c.args.d c.requires (omega arith), c.requires.ready.few)

pub offset_bounds-runs-m : goal.offset_bounds-runs-m
offset_bounds-runs-m c =
    omega (arith, small_there c.args.runs.now (length c.args.runs.now) c.args.m c.args.d c.requires (omega arith), c.requires.ready.few)

pub bounds-runs-m : goal.bounds-runs-m
bounds-runs-m c =
    omega (arith, small_there c.args.runs.now (length c.args.runs.now) c.args.m c.args.d c.requires (omega arith), c.requires.ready.held)

pub returns-then-w-eq0 : goal.returns-then-w-eq0
returns-then-w-eq0 c =
    step_to_small c.args.runs.now (length c.args.runs.now) c.args.m c.args.d c.requires (omega arith)

pub returns-then-at-w : goal.returns-then-at-w
returns-then-at-w c =
    step_within c.args.runs.now (length c.args.runs.now) c.args.m c.args.d c.requires (omega arith)

pub narrow-v-requires : goal.narrow-v-requires
narrow-v-requires c =
    lent_falling c.args.runs.now c.args.d.wide (falling_less c.args.runs.now c.args.m c.args.d.wide c.requires.ready.falling c.requires.seated.few)

pub returns : goal.returns
returns c =
    let v = c.narrow-v.result in
    let f = lent_narrowed c.args.runs.now c.args.d.wide (c.args.d.round + 1) v (omega (arith, c.requires.seated.few, c.requires.ready.falling.there)) c.narrow-v.ensures in
    step_over c.args.runs.now (length c.args.runs.now) c.args.m c.args.d c.requires v (omega arith) (omega arith) f
