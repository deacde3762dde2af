use native.Mathlib.Omega.{arith}
use borrow.Author.Rules.{rules}
use Rattle.ledger.proofs.Same.{same_then}
use Rattle.cutting.specs.Write.{lending}
use Rattle.cutoff.proofs.Going.{starts, Turn, turn, ends}
use Rattle.cutoff.proofs.cutoff_in.Goals.{In-loop-i}
use Rattle.cutoff.proofs.cutoff_in.Goals as goal

-- in a turn, issue i is the next
turned : (c : In-loop-i) →
    let a = c.args in
    let l = c.loop-i in
    Turn a.dealt a.nets.now a.delivered.now a.lifts.now a.day a.entries (lending a.ledger.now a.out.now) l.i l.n l.w (lending l.ledger l.out)
turned c =
    let a = c.args in
    let l = c.loop-i in
    turn a.dealt a.nets.now a.delivered.now a.lifts.now a.day a.entries (lending a.ledger.now a.out.now) c.requires l.i l.n l.w
    (lending l.ledger l.out) l.invariant.done c.loop-i-test.true

pub loop-i-init : goal.loop-i-init
loop-i-init c =
    let a = c.args in
    record {
      done = starts a.dealt a.nets.now a.delivered.now a.lifts.now a.day a.entries (lending a.ledger.now a.out.now) c.requires;
      same = search rules;
    }

pub cut_issue-k-requires : goal.cut_issue-k-requires
cut_issue-k-requires c = (turned (goal.at.cut_issue-k-requires c).In-loop-i).can

pub loop-i-preserved : goal.loop-i-preserved
loop-i-preserved c =
    let e = c.cut_issue-k in
    record {
      done = (turned (goal.at.loop-i-preserved c).In-loop-i).more e.result (lending e.new.ledger e.new.out) e.ensures.done;
      same = same_then c.loop-i.invariant.same e.ensures.same;
    }

pub returns-clause-done : goal.returns-clause-done
returns-clause-done c =
    let a = c.args in
    let l = c.loop-i in
    rw c.numbers.ensures
    (ends a.dealt a.nets.now a.delivered.now a.lifts.now a.day a.entries (lending a.ledger.now a.out.now) c.requires l.i l.n l.w
    (lending l.ledger l.out) l.invariant.done (omega (arith, c.loop-i-test.false)))

pub overflow_mul-w : goal.overflow_mul-w
overflow_mul-w c = let t = turned (goal.at.overflow_mul-w c).In-loop-i in omega (arith, t.room, t.few)

pub offset_bounds-out-w : goal.offset_bounds-out-w
offset_bounds-out-w c = let t = turned (goal.at.offset_bounds-out-w c).In-loop-i in omega (arith, t.room, t.few)

pub slice_bounds-cut_issue-count : goal.slice_bounds-cut_issue-count
slice_bounds-cut_issue-count c = let t = turned (goal.at.slice_bounds-cut_issue-count c).In-loop-i in omega (arith, t.room, t.few)

pub slice_bounds-cut_issue-start : goal.slice_bounds-cut_issue-start
slice_bounds-cut_issue-start c = let t = turned (goal.at.slice_bounds-cut_issue-start c).In-loop-i in omega (arith, t.room, t.few)

pub overflow_add-w : goal.overflow_add-w
overflow_add-w c = let t = turned (goal.at.overflow_add-w c).In-loop-i in omega (arith, t.few, c.cut_issue-k.ensures.done.records)
