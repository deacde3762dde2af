-- Each return is one condition answered 'no'; else the places tell.
use Rattle.std.proofs.Common.{refl, ap, sym, ◌∙◌, ◌+◌, ◌*◌, false, arith, get_or}
use Rattle.rules.specs.Measures.{sum}
use Rattle.rules.specs.Book.{order_in}
use Rattle.runs.proofs.Cells.{row_part}
use Rattle.placing.proofs.LiftLaws.{number_at, count_at_lem, lifts_many, lifts_over, lifts_none, lifts_taking, lifts_placed, scan_total, scan_sized}
use Rattle.placing.proofs.issue_lifts.Goals as goal

pub returns-then-m-gt-MOST_LIFTS : goal.returns-then-m-gt-MOST_LIFTS
returns-then-m-gt-MOST_LIFTS c =
    lifts_many c.args.phase (order_in false c.args.nets.now c.args.lifts.now) c.args.delivered.now c.args.lifts.now c.args.i
    (get_or c.args.lifts.now (c.args.i * 18) 0) (get_or c.args.lifts.now (c.args.i * 18 + 1) 0) _
    (number_at c.args.lifts.now c.args.i) (count_at_lem c.args.lifts.now c.args.i) refl c.if-m-gt-MOST_LIFTS.true

pub total-d-requires : goal.total-d-requires
total-d-requires c = rw (row_part c.args.delivered.now c.args.i) (omega (arith, scan_total c.args.nets.now c.args.delivered.now c.args.lifts.now c.args.i c.requires.0 c.requires.1))

pub overflow_add-d : goal.overflow_add-d
overflow_add-d c = omega (arith, c.total-d.ensures ∙ ap sum (row_part c.args.delivered.now c.args.i), scan_total c.args.nets.now c.args.delivered.now c.args.lifts.now c.args.i c.requires.0 c.requires.1)

pub returns-then-d-m : goal.returns-then-d-m
returns-then-d-m c =
    lifts_over c.args.phase (order_in false c.args.nets.now c.args.lifts.now) c.args.delivered.now c.args.lifts.now c.args.i
    (get_or c.args.lifts.now (c.args.i * 18) 0) (get_or c.args.lifts.now (c.args.i * 18 + 1) 0) c.total-d.result
    (number_at c.args.lifts.now c.args.i) (count_at_lem c.args.lifts.now c.args.i)
    (c.total-d.ensures ∙ ap sum (row_part c.args.delivered.now c.args.i)) c.if-d-m.true

pub returns-then-m-eq0 : goal.returns-then-m-eq0
returns-then-m-eq0 c =
    lifts_none c.args.phase (order_in false c.args.nets.now c.args.lifts.now) c.args.delivered.now c.args.lifts.now c.args.i
    (get_or c.args.lifts.now (c.args.i * 18) 0) (get_or c.args.lifts.now (c.args.i * 18 + 1) 0) c.total-d.result
    (number_at c.args.lifts.now c.args.i) (count_at_lem c.args.lifts.now c.args.i)
    (c.total-d.ensures ∙ ap sum (row_part c.args.delivered.now c.args.i)) (omega arith) c.if-m-eq0.true

pub returns-then-taking : goal.returns-then-taking
returns-then-taking c =
    lifts_taking c.args.phase (order_in false c.args.nets.now c.args.lifts.now) c.args.delivered.now c.args.lifts.now c.args.i
    (get_or c.args.lifts.now (c.args.i * 18) 0) (get_or c.args.lifts.now (c.args.i * 18 + 1) 0) c.total-d.result
    (number_at c.args.lifts.now c.args.i) (count_at_lem c.args.lifts.now c.args.i)
    (c.total-d.ensures ∙ ap sum (row_part c.args.delivered.now c.args.i)) (λ z. omega arith) (sym c.taking.ensures ∙ c.if-taking.true)

pub placed-requires : goal.placed-requires
placed-requires c =
    record {
      nets = c.requires.0.nets;
      lifts = c.requires.0.lifts;
      issue = c.requires.1;
      size = scan_sized c.args.nets.now c.args.delivered.now c.args.lifts.now c.requires.0;
      few = omega (arith, number_at c.args.lifts.now c.args.i);
    }

pub returns : goal.returns
returns c =
    lifts_placed c.args.phase (order_in false c.args.nets.now c.args.lifts.now) c.args.delivered.now c.args.lifts.now c.args.i
    (get_or c.args.lifts.now (c.args.i * 18) 0) (get_or c.args.lifts.now (c.args.i * 18 + 1) 0) c.total-d.result
    (number_at c.args.lifts.now c.args.i) (count_at_lem c.args.lifts.now c.args.i)
    (c.total-d.ensures ∙ ap sum (row_part c.args.delivered.now c.args.i)) c.placed.result (omega arith) (omega arith)
    (sym c.taking.ensures ∙ c.if-taking.false) c.placed.ensures
