-- Two digits more, and at the end the one that is left.
use Rattle.std.proofs.Common.{◌-◌, arith, refl, length-set}
use Rattle.report.proofs.Spelled.{spell_two, spell_one, spelled}
use Rattle.report.proofs.text.spell.Goals as goal

pub loop-k-preserved : goal.loop-k-preserved
loop-k-preserved c =
    let a = c.args in
    let l = c.loop-k in
    let h = l.invariant.1 in (
      simp length-set l.invariant.0,
      spell_two a.text.now l.text a.at l.k a.end a.n l.rest h (l.k - 2) _ _ (omega (arith, h.low)) (omega (arith, h.low)) (omega arith) (omega arith),
    )

pub returns-then-at-k : goal.returns-then-at-k
returns-then-at-k c =
    let a = c.args in
    let l = c.loop-k in
    spelled a.text.now _ a.at a.at a.end a.n 0
    (spell_one a.text.now l.text a.at l.k a.end a.n l.rest l.invariant.1 _ (omega arith) refl) refl

pub returns-else-at-k : goal.returns-else-at-k
returns-else-at-k c =
    let a = c.args in
    let l = c.loop-k in
    spelled a.text.now l.text a.at l.k a.end a.n l.rest l.invariant.1 (omega (arith, l.invariant.1.low))
