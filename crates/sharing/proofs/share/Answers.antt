-- The places cleared, then one group after the other.
use Rattle.std.proofs.Common.{rules, ◌≡◌, ℕ, zero, suc, ◌+◌, ◌-◌, ◌*◌, ◌/◌, ◌%◌, ◌≤◌, ◌<◌, min, List, [], ◌∷◌, ◌++◌, map, length, get_or, take, drop, set, replicate, refl, sym, ap, ◌∙◌, arith, Bool, true, false, cond, ◌&&◌, not, length-set, add-one, leb, ltb, eqb, eq-eqb, ne_eqb, le-leb, lt-ltb, le-ltb, ltb-true, ltb-false, leb-true, leb-false, eqb-true, subst, get_or-set_other, get_or-set_same}
use borrow.Author.Tests.{lt-leb}
use Rattle.reports.specs.Allotting.{Allotment, allotment}
use Rattle.sharing.specs.declared.Group.{Group}
use Rattle.sharing.specs.declared.Group.TheVariants as the
use Rattle.sharing.specs.Steps.{allot_group, shared_out}
use Rattle.sharing.proofs.share.Goals as goal

pub returns : goal.returns
unfolding shared_out
returns c =
    let a = c.args in
    let group : Group → Allotment → Allotment = λ group x. allot_group group a.failing a.sizes.now a.parties.now a.draw.now x in
    ap (λ x. x.shares)
    (c.allot.ensures
    ∙ ap (group the.Others) (c.allot-left.ensures ∙ ap (λ o. group the.Facing (allotment a.fail o)) c.clear.ensures))
