-- One issue more is ranked, in its part of the table.
use Rattle.std.proofs.Common.{◌≡◌, ◌+◌, ◌-◌, ◌*◌, length, drop, arith, length-set, length-take, length-drop}
use Rattle.ranking.proofs.Sized.{length_put, rank_more}
use Rattle.ranking.proofs.rank_all.Goals as goal

pub loop-i-preserved : goal.loop-i-preserved
loop-i-preserved c =
    let a = c.args in
    let l = c.loop-i in
    let g = c.rank_issue-n in
    let part = l.i * 128 + 128 - l.i * 128 in
    let k : length g.new.runs ≡ 128 = omega (arith, g.auto.runs, length-take part (drop (l.i * 128) l.runs), length-drop (l.i * 128) l.runs) in
    record {
      table = length_put l.runs g.new.runs l.i l.invariant.table (omega arith) k;
      numbers = simp length-set l.invariant.numbers;
      ranked = rank_more a.size a.nets.now l.runs g.new.runs l.counts l.i g.result l.invariant.table l.invariant.numbers (omega arith) k l.invariant.ranked g.ensures;
    }
