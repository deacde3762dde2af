-- What the rest of the draw makes of the shares so far is what the whole draw makes of those lent.
use Rattle.std.proofs.Common.{rules, ◌≡◌, ℕ, zero, suc, ◌+◌, ◌-◌, ◌*◌, ◌/◌, ◌%◌, ◌≤◌, ◌<◌, min, List, [], ◌∷◌, ◌++◌, map, length, get_or, take, drop, set, replicate, refl, sym, ap, ◌∙◌, arith, Bool, true, false, cond, ◌&&◌, not, length-set, add-one, leb, ltb, eqb, eq-eqb, ne_eqb, le-leb, lt-ltb, le-ltb, ltb-true, ltb-false, leb-true, leb-false, eqb-true, subst, get_or-set_other, get_or-set_same}
use borrow.Author.Tests.{lt-leb}
use Rattle.reports.specs.Allotting.{allotment}
use Rattle.sharing.specs.Steps.{allot_group}
use Rattle.sharing.proofs.allot.Given as goal

abbrev pub invariant-loop-number : goal.invariant-loop-number
invariant-loop-number l =
    (length l.out ≡ length l.fn.out)
    × (allot_group l.group l.failing l.sizes l.parties (drop l.number-index l.draw) (allotment l.rest l.out)
    ≡ allot_group l.group l.failing l.sizes l.parties l.draw (allotment l.left l.fn.out))
