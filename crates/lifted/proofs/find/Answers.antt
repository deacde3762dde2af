-- The invariant: unit k of all is, from run j on, the one that is left.
use mathlib.Core.Path.{◌≡◌, ap}
use native.Mathlib.Omega.{arith}
use borrow.Author.Rules.{rules}
use lib.ListN.{length}
use Rattle.runs.specs.Runs.{units_in}
use Rattle.runs.proofs.Numbers.{number_more}
use Rattle.lifted.proofs.find.Goals as goal

pub loop-j-init : goal.loop-j-init
unfolding units_in
loop-j-init c = search rules

pub loop-j-preserved : goal.loop-j-preserved
loop-j-preserved c =
    let l = c.loop-j in
    omega (arith, l.invariant, number_more c.args.runs.now l.j (search rules))

pub returns : goal.returns
returns c =
    let l = c.loop-j in
    let e : l.j ≡ length c.args.runs.now = omega arith in
    absurd (omega (arith, c.requires.there, l.invariant, ap (λ j. length (units_in c.args.runs.now j)) e))
