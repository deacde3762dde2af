-- A round alone, or with its leap.
use Rattle.std.proofs.Common.{arith}
use Rattle.sizes.proofs.Stepping.{stepped_round, stepped_copied, equal_columns, can_leap}
use Rattle.sizes.proofs.round_and_leap.Goals as goal

pub returns-then-made-eq0 : goal.returns-then-made-eq0
returns-then-made-eq0 c =
    let a = c.args in
    stepped_round a.nets.now a.settles.now a.runs.now a.counts.now a.size a.delivered.now a.inventories.now _ _ c.round-made.result c.requires
    c.round-made.ensures

pub returns-then-ne : goal.returns-then-ne
returns-then-ne c =
    let a = c.args in
    stepped_round a.nets.now a.settles.now a.runs.now a.counts.now a.size a.delivered.now a.inventories.now _ _ c.round-made.result c.requires
    c.round-made.ensures

pub leap_rounds-leapt-requires : goal.leap_rounds-leapt-requires
leap_rounds-leapt-requires c =
    let a = c.args in
    let g = stepped_round a.nets.now a.settles.now a.runs.now a.counts.now a.size a.delivered.now a.inventories.now _ _ c.round-made.result c.requires c.round-made.ensures in
    can_leap a.nets.now a.settles.now a.runs.now a.counts.now a.size a.delivered.now a.inventories.now _ _ _ _ c.requires g.can
    c.copy_from_slice.ensures.after c.changes.ensures

pub returns : goal.returns
returns c =
    let a = c.args in
    stepped_copied a.nets.now a.settles.now a.runs.now a.counts.now a.size c.requires c.round-made.ensures c.copy_from_slice.ensures.after c.copy_from_slice-2.ensures.after
    (equal_columns _ _ c.if-ne.ensures) c.changes.ensures (omega arith) c.leap_rounds-leapt.ensures c.advance.ensures
