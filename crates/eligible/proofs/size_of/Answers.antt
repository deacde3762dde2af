-- The three tests of a report that takes part; one without lots has size 0 either way.
use Rattle.std.proofs.Common.{rules, get_or, sym, ap, ◌∙◌, eq-eqb, ne_eqb}
use Rattle.eligible.specs.Steps.{unfaced}
use Rattle.rules.specs.Measures.{due_of}
use Rattle.eligible.proofs.Sizes.{size_own, size_earlier, size_no_receiver}
use lib.IntN.{pos}
use mir.Syntax.{w32}
use mir.ValLaws.{to_z-of_z}
use Rattle.eligible.proofs.size_of.Goals as goal

pub returns-then-earlier-k-ne0 : goal.returns-then-earlier-k-ne0
returns-then-earlier-k-ne0 c = size_earlier (unfaced c.args.subs.now c.args.lots.now c.args.earlier.now) c.args.k (ne_eqb _ _ c.if-earlier-k-ne0.true)

pub returns-then-not-receives : goal.returns-then-not-receives
returns-then-not-receives c =
    size_no_receiver (unfaced c.args.subs.now c.args.lots.now c.args.earlier.now) c.args.k (sym c.receives.ensures ∙ c.if-not-receives.true)

pub returns : goal.returns
returns c =
    let rs = unfaced c.args.subs.now c.args.lots.now c.args.earlier.now in
    let n = get_or rs.lots c.args.k (pos 0) in
    c.due.ensures ∙ ap due_of (to_z-of_z w32 n (search rules))
    ∙ size_own rs c.args.k (eq-eqb _ _ c.if-earlier-k-ne0.false) (sym c.receives.ensures ∙ c.if-not-receives.false)
