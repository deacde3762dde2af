-- Questions 4 and 5, and then the statement's numbers.
use Rattle.statement.proofs.Counted.{above_issues, above_accounts, in_range}
use Rattle.statement.proofs.day_statement.Goals as goal

pub returns-then-issue-gt-LAST_ISSUE : goal.returns-then-issue-gt-LAST_ISSUE
returns-then-issue-gt-LAST_ISSUE c =
    let a = c.args in above_issues a.words.now a.issue a.account c.if-issue-gt-LAST_ISSUE.true

pub returns-then-account-gt-LAST_ACCOUNT : goal.returns-then-account-gt-LAST_ACCOUNT
returns-then-account-gt-LAST_ACCOUNT c =
    let a = c.args in
    above_accounts a.words.now a.issue a.account c.if-issue-gt-LAST_ISSUE.false c.if-account-gt-LAST_ACCOUNT.true

pub returns : goal.returns
returns c =
    let a = c.args in
    let f = c.on_fresh in
    in_range a.words.now a.issue a.account c.if-issue-gt-LAST_ISSUE.false c.if-account-gt-LAST_ACCOUNT.false f.result f.ensures
