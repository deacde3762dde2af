-- A delivery that was found is one more that is passed.
use Rattle.std.proofs.Common.{rules, arith, ◌∙◌}
use lib.ListN.{length-drop}
use Rattle.rereading.proofs.Sized.{read_sized}
use Rattle.answers.specs.Turns.{within_cells}
use Rattle.tape.proofs.Found.{found_delivery}
use Rattle.passing.proofs.Goings.{rest_enough}
use Rattle.passing.proofs.Passing.{deliver_on}
use Rattle.passing.proofs.deliveries_on.Goals as goal

pub loop-s-preserved : goal.loop-s-preserved
loop-s-preserved c =
    let a = c.args in
    let l = c.loop-s in
    let i = l.invariant in
    let d = c.in-Some.d in
    let b = found_delivery a.words.now l.at _ d c.in-Some.is c.delivery_of.ensures in
    let z = read_sized _ _ 2 b in
    let r = c.deliver_counted-r in
    let k = c.answer_line-end in (
      omega (arith, z.1, i.0, length-drop l.at a.words.now),
      omega (arith, k.ensures.few, i.1),
      r.auto.delivered ∙ i.2,
      r.auto.lifts ∙ i.3,
      search rules,
      r.ensures.kept,
      deliver_on a.words.now a.last a.index a.s (within_cells a.s a.nets.now a.delivered.now a.lifts.now) a.nets.now l.delivered _ l.lifts _ a.text.now l.text _
          a.from a.to l.at l.end k.result d.issue d.account d.lots r.result i.6 (rest_enough a.words.now l.at a.last _ c.is_enough.ensures ∙ c.loop-s-test.true) b
          r.auto.delivered r.auto.lifts r.ensures.told k.ensures,
    )
