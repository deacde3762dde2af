use mathlib.Core.Path.{ap}
use native.Mathlib.Nat.{add-zero}
use native.Mathlib.Omega.{arith}
use borrow.Author.Rules.{rules}
use Rattle.ledger.proofs.Same.{same_then}
use Rattle.cutting.specs.Write.{lending, fail_records}
use Rattle.cutting.proofs.Writing.{laying_starts, laying_ends}
use Rattle.cutting.proofs.Laying.{Turn, turn}
use Rattle.cutting.proofs.Fails.{entries_end}
use Rattle.cutting.proofs.lay.Goals.{In-Some}
use Rattle.cutting.proofs.lay.Goals as goal

-- the overlap that was handed out, from here and from the start
turned : (c : In-Some) →
    let a = c.args in
    let l = c.overlaps in
    let g = c.in-Some in
    Turn a.day a.i a.n a.runs.now a.missing.now a.p (lending a.ledger.now a.out.now) l.cur l.done (lending l.ledger l.out) g.rest g.o
turned c =
    let a = c.args in
    let l = c.overlaps in
    turn a.day a.i a.n a.runs.now a.missing.now a.p (lending a.ledger.now a.out.now)
    l.cur l.done (lending l.ledger l.out) _ _ c.requires l.invariant.1 c.in-Some.ensures

pub overlaps-init : goal.overlaps-init
overlaps-init c = (c.requires.range, simp add-zero (laying_starts _ _ _ _ c.requires.write), search rules)

pub returns-clause-done : goal.returns-clause-done
returns-clause-done c =
    let a = c.args in
    let l = c.overlaps in
    let e = entries_end a.day a.i a.runs.now a.p.n a.missing.now l.cur c.in_default.ensures in
    laying_ends _ _ _ _ _ _ _ (lending a.ledger.now a.out.now) (lending l.ledger l.out) e (ap fail_records e) l.invariant.1

pub enter-requires : goal.enter-requires
enter-requires c = rw c.fail-e.ensures (turned (goal.at.enter-requires c).In-Some).can

pub overlaps-preserved : goal.overlaps-preserved
overlaps-preserved c =
    let t = turned (goal.at.overlaps-preserved c).In-Some in
    (t.range.cursor, t.more _ (lending c.enter.new.ledger c.enter.new.out) c.fail-e.ensures c.enter.ensures.done, same_then c.overlaps.invariant.2 c.enter.ensures.same)

pub overlaps-smaller : goal.overlaps-smaller
overlaps-smaller c = omega (arith, (turned (goal.at.overlaps-smaller c).In-Some).less)
