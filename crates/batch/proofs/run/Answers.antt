-- An instruction that is read, with room for what it gives, is one more, and the trades and deliveries behind it are passed; else
-- the run stops here.
use Rattle.std.proofs.Common.{rules, arith, ◌*◌, refl, sym, ap, ◌∙◌}
use Rattle.rules.specs.Refusals.{numbered}
use Rattle.rereading.proofs.Sized.{read_sized}
use Rattle.columns.proofs.Same.{same_then}
use Rattle.batch.specs.declared.Stand.{Stand}
use Rattle.tape.proofs.Rest.{begins}
use Rattle.batch.proofs.Batches.{starts, stops_at_end, stops_refused, stops_full, turned, roomy}
use Rattle.batch.proofs.run.Goals as goal

pub loop-stand-init : goal.loop-stand-init
loop-stand-init c = (c.requires, starts _ _ _ _, refl, refl, search rules, search rules)

pub returns-in-Err-clause-done : goal.returns-in-Err-clause-done
returns-in-Err-clause-done c =
    let l = c.loop-stand in
    rw c.ended.ensures
    (stops_refused _ _ _ _ _ _ _ _ l.invariant.1 c.loop-stand-test.true _ (begins c.args.words.now l.stand.used _ _ c.read.ensures c.in-Err.is))

pub returns-then-not-has_room-clause-done : goal.returns-then-not-has_room-clause-done
returns-then-not-has_room-clause-done c =
    let l = c.loop-stand in
    rw c.ended-then-not-has_room.ensures
    (stops_full _ _ _ _ _ _ _ _ l.invariant.1 c.in-Ok.read.0 c.in-Ok.read.1 (begins c.args.words.now l.stand.used _ _ c.read.ensures c.in-Ok.is)
    (sym c.has_room.ensures ∙ c.if-not-has_room.true))

pub turn-t-requires : goal.turn-t-requires
turn-t-requires c =
    let l = c.loop-stand in
    let r = roomy l.answers l.out (3 * l.stand.answered) l.stand.written (sym c.has_room.ensures ∙ c.if-not-has_room.false) in (
      record { count = c.in-Ok.read.1; read = sym c.read.ensures ∙ ap numbered c.in-Ok.is },
      record { lengths = l.invariant.0.lengths; sound = l.invariant.0.sound; room = r.1 },
      r.0,
    )

pub behind-next-requires : goal.behind-next-requires
behind-next-requires c =
    let l = c.loop-stand in
    let n = turned _ _ _ _ _ _ _ _ l.invariant.1 c.in-Ok.read.0 c.in-Ok.read.1 (begins c.args.words.now l.stand.used _ _ c.read.ensures c.in-Ok.is)
    (sym c.has_room.ensures ∙ c.if-not-has_room.false) _ _ _ _ c.turn-t.ensures.done in
    record {
      words = omega (arith, n.within);
      numbers = omega (arith, n.told, c.turn-t.auto.answers, l.auto.answers);
      records = omega (arith, n.put, c.turn-t.auto.out, l.auto.out);
    }

pub overflow_sub-room : goal.overflow_sub-room
overflow_sub-room c =
    let l = c.loop-stand in
    rw c.behind-next.ensures
    (turned _ _ _ _ _ _ _ _ l.invariant.1 c.in-Ok.read.0 c.in-Ok.read.1 (begins c.args.words.now l.stand.used _ _ c.read.ensures c.in-Ok.is)
    (sym c.has_room.ensures ∙ c.if-not-has_room.false) _ _ _ _ c.turn-t.ensures.done).put

pub trades-p-requires : goal.trades-p-requires
trades-p-requires c =
    let l = c.loop-stand in
    let s = c.turn-t.ensures.done in
    let n = turned _ _ _ _ _ _ _ _ l.invariant.1 c.in-Ok.read.0 c.in-Ok.read.1 (begins c.args.words.now l.stand.used _ _ c.read.ensures c.in-Ok.is)
    (sym c.has_room.ensures ∙ c.if-not-has_room.false) _ _ _ _ s in
    rw c.behind-next.ensures (record { lengths = s.lengths; sound = s.sound }, (n.within, n.told))

pub deliveries-stand-requires : goal.deliveries-stand-requires
deliveries-stand-requires c =
    let l = c.loop-stand in
    let n = turned _ _ _ _ _ _ _ _ l.invariant.1 c.in-Ok.read.0 c.in-Ok.read.1 (begins c.args.words.now l.stand.used _ _ c.read.ensures c.in-Ok.is)
    (sym c.has_room.ensures ∙ c.if-not-has_room.false) _ _ _ _ c.turn-t.ensures.done in
    let p = (c.trades-p.ensures.done _ refl).going _ _ _ (rw (← c.behind-next.ensures) at n) in
    (c.trades-p.ensures.sound, l.invariant.4, (p.within, p.told), p.put)

pub loop-stand-smaller : goal.loop-stand-smaller
loop-stand-smaller c =
    let l = c.loop-stand in
    let z = read_sized _ _ c.in-Ok.read.1 (begins c.args.words.now l.stand.used _ _ c.read.ensures c.in-Ok.is) in
    omega (arith, z.0, c.loop-stand-test.true, ap (λ (q : Stand). q.used) c.behind-next.ensures, (c.trades-p.ensures.done _ refl).on, c.deliveries-stand.ensures.done.on)

pub loop-stand-preserved : goal.loop-stand-preserved
loop-stand-preserved c =
    let l = c.loop-stand in
    let t = c.trades-p.ensures in
    let d = c.deliveries-stand.ensures in
    let n = turned _ _ _ _ _ _ _ _ l.invariant.1 c.in-Ok.read.0 c.in-Ok.read.1 (begins c.args.words.now l.stand.used _ _ c.read.ensures c.in-Ok.is)
    (sym c.has_room.ensures ∙ c.if-not-has_room.false) _ _ _ _ c.turn-t.ensures.done in (
      d.sound,
      d.done.going _ _ _ ((t.done _ refl).going _ _ _ (rw (← c.behind-next.ensures) at n)),
      search rules,
      search rules,
      search rules,
      same_then (same_then (same_then l.invariant.5 c.turn-t.ensures.same) t.same) d.same,
    )

pub returns-clause-done : goal.returns-clause-done
returns-clause-done c = rw c.ended-2.ensures (stops_at_end _ _ _ _ _ _ _ _ c.loop-stand.invariant.1 c.loop-stand-test.false)
