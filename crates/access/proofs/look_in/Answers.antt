-- Each return by the answers that led there.
use Rattle.std.proofs.Common.{sym, ◌∙◌}
use Rattle.access.proofs.Placing.{look_4, look_5, look_27, look_seen}
use Rattle.access.proofs.look_in.Goals as goal

pub returns-then-i-gt-LAST_ISSUE : goal.returns-then-i-gt-LAST_ISSUE
returns-then-i-gt-LAST_ISSUE c = look_4 _ _ _ _ _ _ _ _ c.if-i-gt-LAST_ISSUE.true

pub returns-then-a-gt-LAST_ACCOUNT : goal.returns-then-a-gt-LAST_ACCOUNT
returns-then-a-gt-LAST_ACCOUNT c = look_5 _ _ _ _ _ _ _ _ c.if-i-gt-LAST_ISSUE.false c.if-a-gt-LAST_ACCOUNT.true

pub returns-then-not-may_read : goal.returns-then-not-may_read
returns-then-not-may_read c =
    look_27 _ _ _ _ _ _ _ _ c.if-i-gt-LAST_ISSUE.false c.if-a-gt-LAST_ACCOUNT.false
    (sym c.may_read.ensures ∙ c.if-not-may_read.true)

pub returns : goal.returns
returns c =
    c.see.ensures
    ∙ look_seen _ _ _ _ _ _ _ _ c.if-i-gt-LAST_ISSUE.false c.if-a-gt-LAST_ACCOUNT.false
    (sym c.may_read.ensures ∙ c.if-not-may_read.false)
