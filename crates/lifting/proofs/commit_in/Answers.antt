-- The questions are asked one after the other; where none is answered 'no', the unit is lifted.
use Rattle.std.proofs.Common.{◌≡◌, ◌∙◌, sym, arith, ℕ, ◌*◌}
use lib.ListN.{get_or}
use Rattle.rules.specs.Book.{order_in}
use Rattle.rules.specs.Questions.{first_no}
use Rattle.rules.specs.Calls.{asked_answer, commit_asks}
use Rattle.tickets.specs.Tickets.{commit_no}
use Rattle.std.proofs.lemmas.Result.{err_from_is_err_and}
use Rattle.runs.proofs.Cells.{can_order}
use Rattle.tickets.proofs.Places.{number_at}
use Rattle.lifting.proofs.Committing.{not_settling, no_issue, by_ticket, all_yes, can_hand_on, is_refused, is_done}
use Rattle.lifting.proofs.commit_in.Goals as goal
use Rattle.lifting.proofs.commit_in.Goals.{After-ticket_asks}

pub returns-then-not-settling : goal.returns-then-not-settling
returns-then-not-settling c = is_refused _ _ _ _ _ _ _ _ _ (not_settling _ _ _ _ _ _ _ (sym c.settling.ensures ∙ c.if-not-settling.true))

pub returns-then-t-gt-LAST_ISSUE : goal.returns-then-t-gt-LAST_ISSUE
returns-then-t-gt-LAST_ISSUE c =
    is_refused _ _ _ _ _ _ _ _ _
    (no_issue _ _ _ _ _ _ _ (sym c.settling.ensures ∙ c.if-not-settling.false) c.if-t-gt-LAST_ISSUE.true)

pub ticket_in-asked-requires : goal.ticket_in-asked-requires
ticket_in-asked-requires c =
    let a = c.args in
    record {
      order = can_order a.nets.now a.delivered.now a.lifts.now a.t.issue c.requires.0 (omega arith);
      there = c.stand_of-p.ensures.there;
      units = c.stand_of-p.ensures.units;
    }

-- the answers to 16, 17 and 18, of an n that they give
number : (c : After-ticket_asks) (n : ℕ) →
    let a = c.args in
    n ≡ commit_no a.t (asked_answer c.ticket_in-asked.result) (get_or a.lifts.now (a.t.issue * 18) 0) →
    n ≡ first_no (commit_asks a.phase a.day (order_in a.dealt a.nets.now a.lifts.now) a.delivered.now a.lifts.now a.t)
number c n e =
    let a = c.args in
    by_ticket a.dealt a.phase a.day a.nets.now a.delivered.now a.lifts.now a.t (asked_answer c.ticket_in-asked.result) n _ _
    (sym c.settling.ensures ∙ c.if-not-settling.false) (omega arith) (c.stand_of-p.ensures.covers a.dealt)
    c.ticket_in-asked.ensures (sym (number_at a.lifts.now a.t.issue)) e

pub returns-in_err-ticket_asks : goal.returns-in_err-ticket_asks
returns-in_err-ticket_asks c =
    let p = err_from_is_err_and c.from_residual.result c.from_residual.ensures.1 in
    rw (p.1, p.2) (is_refused _ _ _ _ _ _ _ _ _ (number (goal.at.returns-in_err-ticket_asks c).After-ticket_asks _ c.in_err-ticket_asks.ensures))

pub hand_on-count-requires : goal.hand_on-count-requires
hand_on-count-requires c =
    let a = c.args in
    let u = all_yes a.dealt a.phase a.day a.nets.now a.delivered.now a.lifts.now a.t (sym (number (goal.at.hand_on-count-requires c).After-ticket_asks 0 c.in_ok-ticket_asks.ensures)) in
    can_hand_on a.dealt a.phase a.day a.nets.now a.delivered.now a.lifts.now a.t a.out.now u c.requires.0.cells c.if-t-gt-LAST_ISSUE.false c.requires.1

pub put_lift-requires : goal.put_lift-requires
put_lift-requires c =
    let a = c.args in
    let u = all_yes a.dealt a.phase a.day a.nets.now a.delivered.now a.lifts.now a.t (sym (number (goal.at.put_lift-requires c).After-ticket_asks 0 c.in_ok-ticket_asks.ensures)) in
    record {
      cells = c.requires.0.lifted;
      issue = omega arith;
      few = u.few;
      counted = c.requires.0.counted a.t.issue (omega arith);
    }

pub returns : goal.returns
returns c =
    is_done _ _ _ _ _ _ _ _ _ _ _ _ _ (number (goal.at.returns c).After-ticket_asks 0 c.in_ok-ticket_asks.ensures) c.stand_of-p.ensures c.hand_on-count.ensures c.put_lift.ensures
