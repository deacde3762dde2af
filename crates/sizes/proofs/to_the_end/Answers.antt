use Rattle.std.proofs.Common.{◌<◌, arith}
use Rattle.sizes.proofs.Stepping.{loop_begin, loop_more, loop_last, times_more}
use Rattle.sizes.proofs.to_the_end.Goals as goal

pub loop-rounds-init : goal.loop-rounds-init
loop-rounds-init c =
    let a = c.args in
    record {
      can = c.requires.can;
      falls = omega arith;
      few = omega arith;
      same = loop_begin a.nets.now a.settles.now a.runs.now a.counts.now a.size a.delivered.now a.inventories.now;
    }

pub returns-then-made-eq0 : goal.returns-then-made-eq0
returns-then-made-eq0 c =
    let a = c.args in
    let l = c.loop-rounds in
    loop_last a.nets.now a.settles.now a.runs.now a.counts.now a.size a.delivered.now a.inventories.now l.deliveries l.rounds
    l.invariant.same c.round_and_leap-s.ensures c.if-made-eq0.true

pub loop-rounds-preserved : goal.loop-rounds-preserved
loop-rounds-preserved c =
    let a = c.args in
    let l = c.loop-rounds in
    let g = c.round_and_leap-s in
    let h : 0 < g.result.made = omega arith in
    record {
      can = g.ensures.can;
      falls = omega (arith, g.ensures.falls, l.invariant.falls);
      few = omega (arith, l.invariant.few, times_more g.result.leapt g.result.made h);
      same = loop_more a.nets.now a.settles.now a.runs.now a.counts.now a.size a.delivered.now a.inventories.now l.deliveries l.rounds _ _
          l.invariant.same g.ensures h (omega arith) (omega arith);
    }
