-- Each return is the first question answered with no: those before it were answered yes.
use Rattle.std.proofs.Common.{◌≡◌, sym, ◌∙◌, Bool, leb, ltb, le-leb}
use borrow.Author.Tests.{lt-leb}
use Rattle.reports.specs.Lent.{reports_in}
use Rattle.reports.specs.declared.Columns.{Columns}
use Rattle.rules.specs.Book.{all}
use Rattle.rules.specs.Measures.{last_account, most_lots}
use Rattle.reports.specs.Trust.{report_asks}
use Rattle.laws.proofs.Basics.{and_both}
use Rattle.laws.proofs.Scans.{and_false}
use Rattle.laws.proofs.Answers.{stops, no_no}
use Rattle.trust.proofs.Asks.{below_most}
use Rattle.trust.proofs.report_asks.Goals as goal

-- the test of the counterparties, by the last account
parties : (columns : Columns) (r : Bool) → r ≡ all (λ x. ltb x 64) columns.parties.now → r ≡ all (λ a. leb a last_account) columns.parties.now
parties columns r e = e ∙ below_most last_account columns.parties.now

pub returns-then-out-lt-MOST_REPORTS : goal.returns-then-out-lt-MOST_REPORTS
returns-then-out-lt-MOST_REPORTS c =
    stops 0 (report_asks (reports_in c.args.columns) c.args.draw.now c.args.fail c.args.failing c.args.out.now)
    tt
    (lt-leb _ _ c.if-out-lt-MOST_REPORTS.true)

pub returns-then-failing-gt-LAST_ACCOUNT : goal.returns-then-failing-gt-LAST_ACCOUNT
returns-then-failing-gt-LAST_ACCOUNT c =
    stops 1 (report_asks (reports_in c.args.columns) c.args.draw.now c.args.fail c.args.failing c.args.out.now)
    (le-leb _ _ c.if-out-lt-MOST_REPORTS.false, tt)
    (lt-leb _ _ c.if-failing-gt-LAST_ACCOUNT.true)

pub returns-then-not-below : goal.returns-then-not-below
returns-then-not-below c =
    stops 2 (report_asks (reports_in c.args.columns) c.args.draw.now c.args.fail c.args.failing c.args.out.now)
    (le-leb _ _ c.if-out-lt-MOST_REPORTS.false, (le-leb _ _ c.if-failing-gt-LAST_ACCOUNT.false, tt))
    (sym (parties c.args.columns c.below.result c.below.ensures) ∙ c.if-not-below.true)

pub returns-then-fail-lt1 : goal.returns-then-fail-lt1
returns-then-fail-lt1 c =
    stops 3 (report_asks (reports_in c.args.columns) c.args.draw.now c.args.fail c.args.failing c.args.out.now)
    (le-leb _ _ c.if-out-lt-MOST_REPORTS.false, (le-leb _ _ c.if-failing-gt-LAST_ACCOUNT.false, (sym (parties c.args.columns c.below.result c.below.ensures) ∙ c.if-not-below.false, tt)))
    (rw (lt-leb _ _ c.if-fail-lt1.true))

pub returns-then-fail-gt-MOST_LOTS : goal.returns-then-fail-gt-MOST_LOTS
returns-then-fail-gt-MOST_LOTS c =
    stops 3 (report_asks (reports_in c.args.columns) c.args.draw.now c.args.fail c.args.failing c.args.out.now)
    (le-leb _ _ c.if-out-lt-MOST_REPORTS.false, (le-leb _ _ c.if-failing-gt-LAST_ACCOUNT.false, (sym (parties c.args.columns c.below.result c.below.ensures) ∙ c.if-not-below.false, tt)))
    (simp (lt-leb _ _ c.if-fail-gt-MOST_LOTS.true, and_false))

pub returns-then-not-lots_right : goal.returns-then-not-lots_right
returns-then-not-lots_right c =
    stops 4 (report_asks (reports_in c.args.columns) c.args.draw.now c.args.fail c.args.failing c.args.out.now)
    (le-leb _ _ c.if-out-lt-MOST_REPORTS.false, (le-leb _ _ c.if-failing-gt-LAST_ACCOUNT.false, (sym (parties c.args.columns c.below.result c.below.ensures) ∙ c.if-not-below.false, (and_both (leb 1 c.args.fail) (leb c.args.fail most_lots) (le-leb _ _ c.if-fail-lt1.false) (le-leb _ _ c.if-fail-gt-MOST_LOTS.false), tt))))
    (sym c.lots_right.ensures ∙ c.if-not-lots_right.true)

pub returns-then-not-drawn : goal.returns-then-not-drawn
returns-then-not-drawn c =
    stops 5 (report_asks (reports_in c.args.columns) c.args.draw.now c.args.fail c.args.failing c.args.out.now)
    (le-leb _ _ c.if-out-lt-MOST_REPORTS.false, (le-leb _ _ c.if-failing-gt-LAST_ACCOUNT.false, (sym (parties c.args.columns c.below.result c.below.ensures) ∙ c.if-not-below.false, (and_both (leb 1 c.args.fail) (leb c.args.fail most_lots) (le-leb _ _ c.if-fail-lt1.false) (le-leb _ _ c.if-fail-gt-MOST_LOTS.false), (sym c.lots_right.ensures ∙ c.if-not-lots_right.false, tt)))))
    (sym c.drawn.ensures ∙ c.if-not-drawn.true)

pub returns-then-not-few : goal.returns-then-not-few
returns-then-not-few c =
    stops 6 (report_asks (reports_in c.args.columns) c.args.draw.now c.args.fail c.args.failing c.args.out.now)
    (le-leb _ _ c.if-out-lt-MOST_REPORTS.false, (le-leb _ _ c.if-failing-gt-LAST_ACCOUNT.false, (sym (parties c.args.columns c.below.result c.below.ensures) ∙ c.if-not-below.false, (and_both (leb 1 c.args.fail) (leb c.args.fail most_lots) (le-leb _ _ c.if-fail-lt1.false) (le-leb _ _ c.if-fail-gt-MOST_LOTS.false), (sym c.lots_right.ensures ∙ c.if-not-lots_right.false, (sym c.drawn.ensures ∙ c.if-not-drawn.false, tt))))))
    (sym c.few.ensures ∙ c.if-not-few.true)

pub returns : goal.returns
returns c =
    no_no (report_asks (reports_in c.args.columns) c.args.draw.now c.args.fail c.args.failing c.args.out.now)
    (le-leb _ _ c.if-out-lt-MOST_REPORTS.false, (le-leb _ _ c.if-failing-gt-LAST_ACCOUNT.false, (sym (parties c.args.columns c.below.result c.below.ensures) ∙ c.if-not-below.false, (and_both (leb 1 c.args.fail) (leb c.args.fail most_lots) (le-leb _ _ c.if-fail-lt1.false) (le-leb _ _ c.if-fail-gt-MOST_LOTS.false), (sym c.lots_right.ensures ∙ c.if-not-lots_right.false, (sym c.drawn.ensures ∙ c.if-not-drawn.false, (sym c.few.ensures ∙ c.if-not-few.false, tt)))))))
