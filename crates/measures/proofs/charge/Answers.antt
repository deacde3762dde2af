-- The questions are the definition's; the laws say what follows from the first 'no', and from none.
use Rattle.std.proofs.Common.{◌∙◌, refl}
use Rattle.std.proofs.lemmas.Result.{err_from_is_err_and}
use Rattle.laws.proofs.Refused.{above_0}
use Rattle.measures.proofs.Answers.{same_number, charge_refused, charge_yen}
use Rattle.measures.proofs.charge.Goals as goal

pub returns-in_err-asked : goal.returns-in_err-asked
returns-in_err-asked c =
    let p = err_from_is_err_and c.from_residual.result c.from_residual.ensures.1 in
    rw (p.1, p.2) (charge_refused _ _ _ _ _ _ (c.in_err-asked.ensures ∙ same_number c.lots_right.ensures c.charge_right.ensures) (above_0 _))

pub returns : goal.returns
returns c = charge_yen _ _ _ _ _ _ (c.in_ok-asked.ensures ∙ same_number c.lots_right.ensures c.charge_right.ensures) refl _ c.charge_of.ensures.exact
