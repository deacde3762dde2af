-- An instruction that is read is one more turn; a refusal, or too few words, end the part.
use mathlib.Core.Path.{sym, ap, ◌∙◌}
use Rattle.std.proofs.Common.{rules, arith}
use lib.ListN.{length-drop}
use Rattle.rules.specs.Refusals.{numbered}
use Rattle.columns.specs.Books.{lent_book}
use Rattle.columns.proofs.Same.{same_then}
use Rattle.rereading.proofs.Sized.{read_sized}
use Rattle.answers.specs.Turns.{within_nets}
use Rattle.passing.specs.Going.{Held}
use Rattle.tape.proofs.Rest.{rest_part, begins}
use Rattle.passing.proofs.Goings.{going_again, going_refused, going_ends, rest_enough}
use Rattle.turns.proofs.run.Goals as goal

pub returns-in_default-clause-done : goal.returns-in_default-clause-done
returns-in_default-clause-done c =
    let a = c.args in
    let l = c.loop-found in
    going_refused a.words.now a.last a.stray a.index _ _ l.text _ l.at l.end l.invariant.4
    _ c.answer_line-end.result
    (rest_enough a.words.now l.at a.last _ c.is_enough.ensures ∙ c.loop-found-test.true)
    (begins a.words.now l.at _ _ c.read-found.ensures c.unread-no.ensures)
    c.answer_line-end.ensures l.invariant.0.sound

pub turn-t-requires : goal.turn-t-requires
turn-t-requires c =
    let l = c.loop-found in (
      record { count = c.in-Ok.n; read = sym c.read-found.ensures ∙ ap numbered c.in-Ok.is },
      l.invariant.0,
      omega (arith, l.invariant.4.short, l.invariant.4.within, l.invariant.2, c.requires.2),
    )

pub overflow_add-at : goal.overflow_add-at
overflow_add-at c =
    let a = c.args in
    let l = c.loop-found in
    let z = read_sized _ _ c.in-Ok.n (begins a.words.now l.at _ _ c.read-found.ensures c.in-Ok.is) in
    record { fits = omega (arith, z.1, l.invariant.4.within, length-drop l.at a.words.now, c.requires.3) }

pub trades-p-requires : goal.trades-p-requires
trades-p-requires c =
    let a = c.args in
    let l = c.loop-found in
    let t = c.turn-t.ensures.done in
    let z = read_sized _ _ c.in-Ok.n (begins a.words.now l.at _ _ c.read-found.ensures c.in-Ok.is) in (
      record { rest = lent_book c.turn-t.result.state c.turn-t.new.columns; held = record { lengths = t.lengths; sound = t.sound } },
      (omega (arith, z.1, l.invariant.4.within, length-drop l.at a.words.now), omega (arith, z.0, l.invariant.4.short, t.printed.few), search rules, c.requires.3),
    )

pub deliveries-d-requires : goal.deliveries-d-requires
deliveries-d-requires c =
    let a = c.args in
    let l = c.loop-found in
    let t = c.turn-t.ensures.done in
    let p = c.trades-p.ensures in
    let turned = lent_book c.turn-t.result.state c.turn-t.new.columns in
    let h : Held turned = record { lengths = t.lengths; sound = t.sound } in
    let b = begins a.words.now l.at _ _ c.read-found.ensures c.in-Ok.is in
    let g = p.going a.stray _ turned h
    (going_again a.words.now a.last a.stray a.index _ _ l.text _ l.at l.end l.invariant.4 c.in-Ok.x c.in-Ok.n c.turn-t.result.end _
    (rest_enough a.words.now l.at a.last _ c.is_enough.ensures ∙ c.loop-found-test.true) b
    (rw (rest_part a.words.now l.at) at t)) in (
      record { rest = within_nets turned.state c.trades-p.new.nets turned; held = p.held turned h },
      l.invariant.3 ∙ c.requires.1,
      (g.within, g.short, search rules, c.requires.3),
    )

pub loop-found-smaller : goal.loop-found-smaller
loop-found-smaller c =
    let a = c.args in
    let l = c.loop-found in
    let z = read_sized _ _ c.in-Ok.n (begins a.words.now l.at _ _ c.read-found.ensures c.in-Ok.is) in
    omega (arith, z.0, z.1, l.invariant.4.within, length-drop l.at a.words.now, c.trades-p.ensures.on, c.deliveries-d.ensures.on)

pub loop-found-preserved : goal.loop-found-preserved
loop-found-preserved c =
    let a = c.args in
    let l = c.loop-found in
    let t = c.turn-t.ensures.done in
    let turned = lent_book c.turn-t.result.state c.turn-t.new.columns in
    let p = c.trades-p.ensures in
    let q = c.deliveries-d.ensures in
    let b = begins a.words.now l.at _ _ c.read-found.ensures c.in-Ok.is in
    let h : Held turned = record { lengths = t.lengths; sound = t.sound } in
    let nets = c.trades-p.new.nets in
    let traded = within_nets turned.state nets turned in
    let m = q.held traded (p.held turned h) in
    let k = same_then l.invariant.5 c.turn-t.ensures.same in (
      record { lengths = m.lengths; sound = m.sound; room = search rules },
      search rules,
      search rules,
      search rules,
      q.going a.stray _ traded (p.held turned h)
          (p.going a.stray _ turned h
          (going_again a.words.now a.last a.stray a.index _ _ l.text _ l.at l.end l.invariant.4 c.in-Ok.x c.in-Ok.n c.turn-t.result.end _
          (rest_enough a.words.now l.at a.last _ c.is_enough.ensures ∙ c.loop-found-test.true) b
          (rw (rest_part a.words.now l.at) at t))),
      record {
        nets = k.nets;
        delivered = k.delivered;
        lifts = k.lifts;
        charges = k.charges;
        issues = k.issues;
        froms = k.froms;
        tos = k.tos;
        lots = k.lots;
        days = k.days;
      },
    )

pub returns-clause-done : goal.returns-clause-done
returns-clause-done c =
    let a = c.args in
    let l = c.loop-found in
    going_ends a.words.now a.last a.stray a.index _ _ l.text _ l.at l.end l.invariant.4 c.stray_line-end.result
    (rest_enough a.words.now l.at a.last _ c.is_enough.ensures ∙ c.loop-found-test.false)
    c.stray_line-end.ensures l.invariant.0.sound
