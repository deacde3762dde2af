-- The unit is found first; then the total's covering, the phase and the stock say what is told.
use Rattle.std.proofs.Common.{◌≡◌, ◌∙◌, sym, arith, ◌<◌, true, length, drop, length-drop}
use borrow.Author.Tests.{eqb-true}
use Rattle.laws.proofs.Basics.{and_left}
use Rattle.runs.specs.Runs.{units_of_words}
use Rattle.status.proofs.Telling.{wanted_some, stock_less, is_missing, is_handed_lem, is_waiting, is_partly, is_wholly, IsFirst, first_found, none_found}
use Rattle.status.proofs.tell.Goals as goal
use Rattle.status.proofs.tell.Goals.{In-Some}

-- the unit is there
first : (c : In-Some) → IsFirst c.in-Some.unit (drop c.args.k (units_of_words c.args.runs.now))
first c = first_found _ _ (sym c.in-Some.is ∙ c.unit_at.ensures)

there : (c : In-Some) → c.args.k < length (units_of_words c.args.runs.now)
there c = omega (arith, (first c).there, length-drop c.args.k (units_of_words c.args.runs.now))

pub returns-in_default : goal.returns-in_default
returns-in_default c = is_missing _ _ _ _ (none_found _ (sym c.in_default.is ∙ c.unit_at.ensures))

pub returns-then-k-h : goal.returns-then-k-h
returns-then-k-h c =
    is_handed_lem _ _ _ _ (there (goal.at.returns-then-k-h c).In-Some) (omega (arith, c.handover-h.ensures.covers))

pub overflow_sub-result : goal.overflow_sub-result
overflow_sub-result c =
    omega (
      arith,
      c.lots_up_to.ensures,
      wanted_some (units_of_words c.args.runs.now) c.args.d c.args.k (there (goal.at.overflow_sub-result c).In-Some) (omega (arith, c.handover-h.ensures.covers)),
    )

pub returns-then-not-cut : goal.returns-then-not-cut
returns-then-not-cut c =
    rw c.lots_up_to.ensures
    (is_waiting _ _ _ _ (there (goal.at.returns-then-not-cut c).In-Some) (sym c.cut.ensures ∙ c.if-not-cut.true) (omega (arith, c.handover-h.ensures.covers)))

pub overflow_sub-result-then-k-h-2 : goal.overflow_sub-result-then-k-h-2
overflow_sub-result-then-k-h-2 c =
    let w = (goal.at.overflow_sub-result-then-k-h-2 c).In-Some in
    let l = c.handover-h.ensures.covers in
    let k = eqb-true c.args.k c.handover-h.result.count (and_left _ _ c.if-k-h-2.true) in
    omega (
      arith,
      c.handover-h.ensures.left,
      stock_less (units_of_words c.args.runs.now) c.args.d c.args.k (there w) (omega (arith, l)) (k ∙ l),
      (first w).lots,
    )

pub returns-then-k-h-2 : goal.returns-then-k-h-2
returns-then-k-h-2 c =
    let w = (goal.at.returns-then-k-h-2 c).In-Some in
    is_partly _ _ _ _ (there w) _ _ c.handover-h.ensures.covers c.handover-h.ensures.left (sym c.cut.ensures ∙ c.if-not-cut.false)
    (omega arith) _ (first w).lots c.if-k-h-2.true

pub returns : goal.returns
returns c =
    is_wholly _ _ _ _ (there (goal.at.returns c).In-Some) _ _ c.handover-h.ensures.covers c.handover-h.ensures.left (sym c.cut.ensures ∙ c.if-not-cut.false)
    (omega arith) c.if-k-h-2.false
