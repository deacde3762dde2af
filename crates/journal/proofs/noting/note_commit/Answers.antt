-- Room, then the commit's words, then the rest of the record.
use Rattle.journal.proofs.Stored.{commit_short, commit_done}
use Rattle.journal.proofs.noting.note_commit.Goals as goal

pub returns-then-out-lt36 : goal.returns-then-out-lt36
returns-then-out-lt36 c = let a = c.args in commit_short a.number a.ticket.now a.out.now c.if-out-lt36.true

pub returns : goal.returns
returns c =
    let a = c.args in
    commit_done a.number a.ticket.now a.out.now c.put_commit.new.out c.finish.new.out c.if-out-lt36.false
    c.put_commit.ensures c.finish.ensures
