-- An entry is passed, or skipped where it is not one of the account's.
use Rattle.std.proofs.Common.{sym, ◌∙◌, arith}
use Rattle.access.proofs.Placing.{seek_passed, seek_skipped}
use Rattle.access.proofs.place_of.Goals as goal
use Rattle.access.proofs.place_of.Goals.{then-either_end+else-left-eq0, else-either_end}

pub loop-n-preserved : goal.loop-n-preserved
loop-n-preserved c =
    elim c.if-either_end.branch [
      | then-either_end+else-left-eq0 w ↦ rw w.left-is (seek_passed _ _ _ _ _ _ _ _ _ c.loop-n.invariant (omega arith) (sym c.either_end.ensures ∙ w.if-either_end.true) (λ z. omega arith))
      | else-either_end w ↦ rw w.left-is (seek_skipped _ _ _ _ _ _ _ _ _ c.loop-n.invariant (omega arith) (sym c.either_end.ensures ∙ w.if-either_end.false))
    ]
