-- Each return by the answers that led there.
use mathlib.Core.Path.{◌≡◌, sym, ap, ◌∙◌}
use mathlib.Core.Bool.{false}
use native.Mathlib.Omega.{arith}
use lib.Seq.{length-take-le}
use Rattle.rules.specs.Measures.{sum}
use Rattle.runs.specs.Runs.{units_in}
use Rattle.laws.proofs.SoundRows.{order_in_lem}
use Rattle.runs.proofs.Cells.{row_part, can_order, dues_sum, total_small}
use Rattle.status.proofs.Telling.{is_taking_lem, no_issue, of_unit}
use Rattle.status.proofs.status_in.Goals as goal

pub returns-then-taking : goal.returns-then-taking
returns-then-taking c new =
    let a = c.args in
    is_taking_lem new a.phase a.nets.now a.delivered.now a.lifts.now a.i a.k (sym c.taking.ensures ∙ c.if-taking.true)

pub returns-then-i-gt-LAST_ISSUE : goal.returns-then-i-gt-LAST_ISSUE
returns-then-i-gt-LAST_ISSUE c new =
    let a = c.args in
    no_issue new a.phase a.nets.now a.delivered.now a.lifts.now a.i a.k
    (sym c.taking.ensures ∙ c.if-taking.false) c.if-i-gt-LAST_ISSUE.true

pub prepare-n-requires : goal.prepare-n-requires
prepare-n-requires c =
    let s = c in
    record {
      order = can_order s.args.nets.now s.args.delivered.now s.args.lifts.now s.args.i s.requires (omega arith);
      room = omega arith;
    }

pub total-d-requires : goal.total-d-requires
total-d-requires c =
    rw (row_part c.args.delivered.now c.args.i)
    (total_small c.args.nets.now c.args.delivered.now c.args.lifts.now c.requires c.args.i (omega arith))

pub tell-requires : goal.tell-requires
unfolding units_in
tell-requires c =
    let a = c.args in
    let p = c.prepare-n.ensures in
    record {
      few = omega (arith, p.held.few, length-take-le c.prepare-n.result c.prepare-n.new.runs p.held.there);
      small = rw (p.units) (omega (arith, (order_in_lem false a.nets.now a.lifts.now a.i).whole, dues_sum a.nets.now a.i c.requires.size c.requires.cells (omega arith)));
    }

pub returns : goal.returns
unfolding units_in
returns c new =
    let a = c.args in
    c.tell.ensures
    ∙ of_unit new a.phase a.nets.now a.delivered.now a.lifts.now a.i a.k _ _ c.prepare-n.ensures.units
    (c.total-d.ensures ∙ ap sum (row_part a.delivered.now a.i)) (sym c.taking.ensures ∙ c.if-taking.false) (omega arith)
