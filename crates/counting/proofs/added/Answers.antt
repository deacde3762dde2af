-- A refused instruction adds nothing; each arm knows which one it has.
use Rattle.std.proofs.Common.{sym, ap, ◌∙◌}
use lib.IntN.{ℤ}
use mir.Syntax.{w32}
use mir.ValLaws.{to_z-of_z}
use Rattle.counting.specs.Counting.{cut_in}
use Rattle.counting.proofs.Numbers.{refused_added, done_added, stays, one_refused, none_refused}
use Rattle.counting.proofs.added.Goals as goal

pub returns-then-is_err : goal.returns-then-is_err
returns-then-is_err g c =
    let a = c.args in (refused_added a.c a.x _ a.net a.given a.issue a.account (one_refused a.answer (sym c.is_err.ensures.value ∙ c.if-is_err.true)), stays a.c)

pub returns-in-Trade : goal.returns-in-Trade
returns-in-Trade g c = let a = c.args in (done_added a.c a.x _ _ a.net a.given a.issue a.account (none_refused a.answer (sym c.is_err.ensures.value ∙ c.if-is_err.false)) c.in-Trade.is, stays a.c)

pub returns-in-Deliver : goal.returns-in-Deliver
returns-in-Deliver g c = let a = c.args in (done_added a.c a.x _ _ a.net a.given a.issue a.account (none_refused a.answer (sym c.is_err.ensures.value ∙ c.if-is_err.false)) c.in-Deliver.is, stays a.c)

pub returns-in-PairOff : goal.returns-in-PairOff
returns-in-PairOff g c = let a = c.args in (done_added a.c a.x _ _ a.net a.given a.issue a.account (none_refused a.answer (sym c.is_err.ensures.value ∙ c.if-is_err.false)) c.in-PairOff.is, stays a.c)

pub returns-in-Close : goal.returns-in-Close
returns-in-Close g c = let a = c.args in (done_added a.c a.x _ _ a.net a.given a.issue a.account (none_refused a.answer (sym c.is_err.ensures.value ∙ c.if-is_err.false)) c.in-Close.is, stays a.c)

pub returns-in-Roll : goal.returns-in-Roll
returns-in-Roll g c = let a = c.args in (done_added a.c a.x _ _ a.net a.given a.issue a.account (none_refused a.answer (sym c.is_err.ensures.value ∙ c.if-is_err.false)) c.in-Roll.is, stays a.c)

pub returns-in-Mark : goal.returns-in-Mark
returns-in-Mark g c = let a = c.args in (done_added a.c a.x _ _ a.net a.given a.issue a.account (none_refused a.answer (sym c.is_err.ensures.value ∙ c.if-is_err.false)) c.in-Mark.is, stays a.c)

pub returns-in-Cutoff : goal.returns-in-Cutoff
returns-in-Cutoff g c =
    let a = c.args in
    let r = c.cut in (
      r.ensures.0 ∙ ap (λ (n : ℤ). cut_in a.c n a.given) (to_z-of_z w32 a.net c.ranges.net) ∙ done_added a.c a.x _ _ a.net a.given a.issue a.account (none_refused a.answer (sym c.is_err.ensures.value ∙ c.if-is_err.false)) c.in-Cutoff.is,
      r.ensures.1,
    )
