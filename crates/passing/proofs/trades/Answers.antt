-- A trade that was found is one more that is passed.
use Rattle.std.proofs.Common.{rules, arith, ◌∙◌}
use lib.ListN.{length-drop}
use Rattle.rereading.proofs.Sized.{read_sized}
use Rattle.rules.specs.Run.{any_output}
use Rattle.answers.specs.Turns.{within_nets}
use Rattle.tape.proofs.Found.{found_trade}
use Rattle.passing.proofs.Goings.{rest_enough}
use Rattle.passing.proofs.Passing.{trade_on}
use Rattle.passing.proofs.trades.Goals as goal

pub loop-s-preserved : goal.loop-s-preserved
loop-s-preserved c =
    let a = c.args in
    let l = c.loop-s in
    let t = c.in-Some.t in
    let b = found_trade a.words.now l.at _ t c.in-Some.is c.trade_of.ensures in
    let z = read_sized _ _ 2 b in
    let k = c.answer_line-end in (
      omega (arith, z.1, l.invariant.0, length-drop l.at a.words.now),
      omega (arith, k.ensures.few, l.invariant.1),
      search rules,
      search rules,
      trade_on a.words.now a.last a.index a.s (within_nets a.s a.nets.now) l.nets _ a.text.now l.text _ a.from a.to l.at l.end k.result
          t.issue t.from t.to t.lots c.trade-r.result l.invariant.4 (rest_enough a.words.now l.at a.last _ c.is_enough.ensures ∙ c.loop-s-test.true) b
          (search rules) (c.trade-r.ensures any_output) k.ensures,
    )
