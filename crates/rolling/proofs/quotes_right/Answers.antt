use Rattle.std.proofs.Common.{refl, arith}
use Rattle.rules.specs.Questions.{quotes_right}
use Rattle.laws.proofs.Scans.{issues_more, issues_end}
use Rattle.rolling.proofs.quotes_right.Goals as goal

pub loop-i-init : goal.loop-i-init
unfolding quotes_right
loop-i-init c = refl

pub loop-i-preserved : goal.loop-i-preserved
loop-i-preserved c =
    let l = c.loop-i in
    issues_more _ l.i l.good _ _ c.loop-i-test.true c.quote_right-good.ensures l.invariant

pub returns : goal.returns
returns c = let l = c.loop-i in issues_end _ l.i l.good _ (omega arith) l.invariant
