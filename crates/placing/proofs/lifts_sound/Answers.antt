-- An issue more.
use Rattle.std.proofs.Common.{arith, false}
use Rattle.rules.specs.Book.{order_in, lifts_sound}
use Rattle.laws.proofs.Scans.{issues_more}
use Rattle.placing.proofs.LiftLaws.{lifts_start}
use Rattle.placing.proofs.lifts_sound.Goals as goal

pub loop-i-init : goal.loop-i-init
loop-i-init c = lifts_start _ _ _ _

pub loop-i-preserved : goal.loop-i-preserved
loop-i-preserved c =
    issues_more (lifts_sound c.args.phase (order_in false c.args.nets.now c.args.lifts.now) c.args.delivered.now c.args.lifts.now)
    c.loop-i.i c.loop-i.good _ _ (omega arith) c.issue_lifts-good.ensures c.loop-i.invariant
