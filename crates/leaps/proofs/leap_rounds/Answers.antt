-- One issue more allows so many rounds.
use Rattle.std.proofs.Common.{◌≡◌, ◌+◌, ◌-◌, ◌*◌, ◌<◌, get_or, take, drop, map, ap, ◌∙◌, arith}
use Rattle.rules.specs.Measures.{sum}
use Rattle.rules.specs.Units.{units}
use Rattle.rules.specs.Book.{delivered_total, dues_of}
use Rattle.runs.specs.Runs.{part_of}
use Rattle.runs.proofs.Cells.{row_part}
use Rattle.ranking.specs.Runs.{units_of_runs}
use Rattle.leaping.proofs.Leaping.{again_more, moved}
use Rattle.rounds.proofs.Rounding.{part_block}
use Rattle.leaps.proofs.Columns.{room_fewer}
use Rattle.leaps.proofs.leap_rounds.Goals as goal

pub loop-i-preserved : goal.loop-i-preserved
loop-i-preserved c =
    let a = c.args in
    let l = c.loop-i in
    let f = c.issue_rounds-k.ensures in
    let r = c.issue_rounds-k.result in
    let hi : l.i < 16 = omega arith in
    let n = get_or a.counts.now l.i 0 in
    let q = c.requires.ranked.orders l.i hi in
    let d : c.total-d.result ≡ delivered_total a.before.now l.i = c.total-d.ensures ∙ ap sum (row_part a.before.now l.i) in
    let x : c.total-x.result ≡ delivered_total a.xs.now l.i = c.total-x.ensures ∙ ap sum (row_part a.xs.now l.i) in
    let us : units_of_runs a.size (map part_of (take (l.i * 128 + n - l.i * 128) (drop (l.i * 128) a.runs.now))) ≡ units a.size (dues_of a.nets.now l.i) =
    ap (λ w. units_of_runs a.size (map part_of w)) (part_block a.runs.now l.i n q.few) ∙ q.units in
    record {
      most = omega (arith, f.0, l.invariant.most);
      owed = λ b h. room_fewer l.k r _ _ f.0 (l.invariant.owed b h);
      units = again_more (λ i. units a.size (dues_of a.nets.now i)) (delivered_total a.before.now) (delivered_total a.xs.now) l.k r l.i f.0 l.invariant.units
          (moved us d x f.1);
    }

pub returns : goal.returns
returns c =
    let l = c.loop-i in
    record { owed = l.invariant.owed; most = l.invariant.most; units = λ b h. l.invariant.units b (omega arith) }
