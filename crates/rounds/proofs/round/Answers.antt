-- A turn leaves what the next one asks, and the turns behind it make the round.
use Rattle.std.proofs.Common.{sym, ◌∙◌, ◌/◌, ◌%◌, arith}
use Rattle.rounds.proofs.Rounding.{can_turn, can_again, round_begin, round_step}
use Rattle.rounds.proofs.round.Goals as goal

pub loop-t-init : goal.loop-t-init
loop-t-init c =
    let a = c.args in
    record {
      few = omega arith;
      can = c.requires;
      turns = λ m. round_begin a.nets.now a.settles.now a.runs.now a.counts.now a.size a.delivered.now a.inventories.now m;
    }

pub turn-made-requires : goal.turn-made-requires
turn-made-requires c =
    let a = c.args in
    let l = c.loop-t in
    can_turn a.nets.now a.settles.now a.runs.now a.counts.now a.size l.delivered l.inventories (l.t / 16) (l.t % 16)
    l.invariant.can (omega arith) (omega arith)

pub loop-t-preserved : goal.loop-t-preserved
loop-t-preserved c =
    let a = c.args in
    let l = c.loop-t in
    let g = c.turn-made.ensures in
    record {
      few = omega (arith, g.one, l.invariant.few);
      can = can_again a.nets.now a.settles.now a.runs.now a.counts.now a.size l.delivered _ l.inventories _ (l.t / 16) (l.t % 16)
          c.turn-made.result l.invariant.can (omega arith) (omega arith) g;
      turns = λ m.
          sym (round_step a.nets.now a.settles.now a.runs.now a.counts.now a.size l.t l.made m l.delivered _ l.inventories _
          c.turn-made.result (omega arith) g)
          ∙ l.invariant.turns m;
    }
