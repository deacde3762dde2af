-- Each return by the answers that led there.
use Rattle.std.proofs.Common.{◌∙◌, sym, arith}
use Rattle.runs.proofs.Cells.{can_order}
use Rattle.lifting.proofs.Asking.{not_settling, no_issue, asked_unit}
use Rattle.lifting.proofs.ask_in.Goals as goal

pub returns-then-not-settling : goal.returns-then-not-settling
returns-then-not-settling c = not_settling _ _ _ _ _ _ _ _ (sym c.settling.ensures ∙ c.if-not-settling.true)

pub returns-then-i-gt-LAST_ISSUE : goal.returns-then-i-gt-LAST_ISSUE
returns-then-i-gt-LAST_ISSUE c =
    no_issue _ _ _ _ _ _ _ _ (sym c.settling.ensures ∙ c.if-not-settling.false) c.if-i-gt-LAST_ISSUE.true

pub ticket_in-requires : goal.ticket_in-requires
ticket_in-requires c =
    let a = c.args in
    let p = c.stand_of-p.ensures in
    record {
      order = can_order a.nets.now a.delivered.now a.lifts.now a.i c.requires (omega arith);
      there = p.there;
      units = p.units;
    }

pub returns : goal.returns
returns c =
    c.ticket_in.ensures
    ∙ asked_unit c.args.dealt _ _ _ _ _ _ _ _ (c.stand_of-p.ensures.covers c.args.dealt)
    (sym c.settling.ensures ∙ c.if-not-settling.false) (omega arith)
