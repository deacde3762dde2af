use mathlib.Core.Path.{◌≡◌, ap, sym}
use Prim.Native.Nat.{◌+◌, ◌-◌, ◌≤◌}
use native.Mathlib.Omega.{arith}
use borrow.Author.Tests.{le-leb, lt-leb}
use lib.Dec.{leb}
use lib.ListN.{length}
use Rattle.rules.specs.Book.{order_in}
use Rattle.rules.specs.Calls.{new_entries}
use Rattle.cutting.proofs.Issues.{few}
use Rattle.cutoff.proofs.Going.{entries_all, entries_none, count_on, few_on}
use Rattle.cutoff.proofs.has_room.Goals.{After-count_issue-n}
use Rattle.cutoff.proofs.has_room.Goals as goal

-- an issue's fails are few
one : (c : After-count_issue-n) → c.count_issue-n.result ≤ 126
one c =
    let a = c.args in
    omega (arith, c.count_issue-n.ensures, few a.dealt a.nets.now a.delivered.now a.lifts.now c.loop-i.i c.loop-i-test.true c.requires.0)

pub overflow_add-n-in-loop-i : goal.overflow_add-n-in-loop-i
overflow_add-n-in-loop-i c = omega (arith, one (goal.at.overflow_add-n-in-loop-i c).After-count_issue-n, c.loop-i.invariant.0, c.loop-i-test.true)

pub loop-i-preserved : goal.loop-i-preserved
loop-i-preserved c =
    let a = c.args in
    let l = c.loop-i in (
      omega (arith, one (goal.at.loop-i-preserved c).After-count_issue-n, l.invariant.0),
      (λ today.
          omega (
            arith,
            l.invariant.1 today,
            c.count_issue-n.ensures,
            count_on a.dealt today a.nets.now a.delivered.now a.lifts.now l.i c.loop-i-test.true,
          )),
    )

-- the issues left cannot make too many
pub returns-then-n-i-le-MOST_ENTRIES : goal.returns-then-n-i-le-MOST_ENTRIES
returns-then-n-i-le-MOST_ENTRIES c today =
    let a = c.args in
    let l = c.loop-i in
    let e = ap length (entries_all a.dealt today a.nets.now a.delivered.now a.lifts.now) in
    let m = a.old + length (new_entries today (order_in a.dealt a.nets.now a.lifts.now) a.nets.now a.delivered.now) in
    sym (le-leb m 2048
    (omega (
      arith,
      l.invariant.1 today,
      few_on a.dealt today a.nets.now a.delivered.now a.lifts.now c.requires.0 l.i (16 - l.i) (omega (arith, c.loop-i-test.true)),
      e,
      c.if-n-i-le-MOST_ENTRIES.true,
    )))

-- there are too many already
pub returns-then-n-gt-MOST_ENTRIES : goal.returns-then-n-gt-MOST_ENTRIES
returns-then-n-gt-MOST_ENTRIES c today =
    let a = c.args in
    let l = c.loop-i in
    let e = ap length (entries_all a.dealt today a.nets.now a.delivered.now a.lifts.now) in
    let m = a.old + length (new_entries today (order_in a.dealt a.nets.now a.lifts.now) a.nets.now a.delivered.now) in
    sym (lt-leb m 2048 (omega (arith, l.invariant.1 today, e, c.if-n-gt-MOST_ENTRIES.true)))

-- all are counted
pub returns : goal.returns
returns c today =
    let a = c.args in
    let l = c.loop-i in
    let e = ap length (entries_all a.dealt today a.nets.now a.delivered.now a.lifts.now) in
    let m = a.old + length (new_entries today (order_in a.dealt a.nets.now a.lifts.now) a.nets.now a.delivered.now) in
    let f = ap length (entries_none a.dealt today a.nets.now a.delivered.now a.lifts.now l.i (omega (arith, c.loop-i-test.false))) in
    let n : l.n ≡ m = omega (arith, l.invariant.1 today, e, f) in
    ap (λ k. leb k 2048) n
