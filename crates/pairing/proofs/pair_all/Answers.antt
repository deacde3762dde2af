use Rattle.ledger.proofs.Same.{same_then}
use Rattle.pairing.proofs.Joining.{made_removable, join_few, join_held, joined, few_steps_lem}
use Rattle.pairing.proofs.pair_all.Goals as goal

pub remove_zeros-stay-requires : goal.remove_zeros-stay-requires
remove_zeros-stay-requires c = made_removable c.make_steps-made.ensures.done

pub append_all-requires : goal.append_all-requires
append_all-requires c =
    let m = c.make_steps-made.ensures.done in
    let z = c.remove_zeros-stay.ensures.done in
    let r = c.shared.ensures in
    (join_few m z, join_held m z, rw (r.issues, r.froms, r.tos, r.lots, r.days) m.more.whole)

pub returns-clause-paired : goal.returns-clause-paired
returns-clause-paired c =
    let r = c.shared.ensures in
    joined c.make_steps-made.ensures.done c.remove_zeros-stay.ensures.done
    (rw (r.issues, r.froms, r.tos, r.lots, r.days) at c.append_all.ensures.done)

pub returns-clause-few : goal.returns-clause-few
returns-clause-few c = few_steps_lem _ _ _ _ _ _ _ _ _ _ c.requires.0 c.make_steps-made.ensures.done.steps

pub returns-clause-same : goal.returns-clause-same
returns-clause-same c =
    let s = same_then c.remove_zeros-stay.ensures.same c.append_all.ensures.same in
    record { issues = s.issues; froms = s.froms; tos = s.tos; lots = s.lots; days = s.days }
