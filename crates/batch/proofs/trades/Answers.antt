-- A trade that was found is one more that is passed.
use Rattle.std.proofs.Common.{[], rules, arith, sym, ap, ◌∙◌}
use lib.ListN.{length-drop}
use Rattle.rules.specs.Calls.{Trade}
use Rattle.rereading.proofs.Sized.{read_sized}
use Rattle.tape.proofs.Found.{found_trade}
use Rattle.columns.proofs.Same.{same_then}
use Rattle.batch.specs.declared.Stand.{Stand}
use Rattle.batch.proofs.Batches.{told_fits}
use Rattle.batch.proofs.Stepping.{trade_turn, still_sound, trade_passed}
use Rattle.batch.proofs.trades.Goals as goal

pub loop-s-smaller : goal.loop-s-smaller
loop-s-smaller c =
    let a = c.args in
    let p = c.loop-s.p in
    let z = read_sized _ _ 2 (found_trade a.words.now p.used _ c.in-Some.t c.in-Some.is c.trade_of.ensures) in
    omega (arith, ap (λ (q : Stand). q.used) c.behind-p.ensures, z.1, c.loop-s.invariant.0.0, length-drop p.used a.words.now)

pub loop-s-preserved : goal.loop-s-preserved
loop-s-preserved c =
    let a = c.args in
    let l = c.loop-s in
    let i = l.invariant in
    let t = c.in-Some.t in
    let r = c.trade-r in
    let b = found_trade a.words.now l.p.used _ t c.in-Some.is c.trade_of.ensures in
    let z = read_sized _ _ 2 b in
    let room = sym c.has_room.ensures ∙ c.loop-s-test.true in
    rw c.behind-p.ensures (
      (omega (arith, z.1, i.0.0, length-drop l.p.used a.words.now), told_fits l.p.answered _ _ a.room room (search rules)),
      omega (arith, i.1),
      search rules,
      still_sound a.s l.columns r.new.columns (Trade t.issue t.from t.to t.lots) r.result [] [] i.3
          (trade_turn a.s l.columns r.new.columns t.issue t.from t.to t.lots r.result [] (r.ensures.made [])),
      trade_passed a.words.now a.s a.columns.now l.columns r.new.columns a.answers.now l.answers c.tell.new.answers a.from l.p i.3 r.result c.tell.ensures
          t.issue t.from t.to t.lots a.room i.1 i.4 b room r.ensures.made,
      same_then i.5 r.ensures.same,
    )
