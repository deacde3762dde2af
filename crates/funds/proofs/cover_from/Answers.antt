-- The bases fill the places lent for them.
use Rattle.std.proofs.Common.{sym, ap, ◌∙◌}
use Rattle.contributions.specs.Bases.{bases_of}
use Rattle.funds.specs.Steps.{covered_answer}
use Rattle.apportioning.proofs.Lists.{over_all}
use Rattle.apportioning.proofs.Turns.{length_bases}
use Rattle.funds.proofs.cover_from.Goals as goal

pub returns : goal.returns
returns c =
    let w = bases_of c.args.averages.now c.args.tenths in
    let b = c.bases_of in
    c.cover.ensures
    ∙ ap (λ bs. covered_answer c.args.averages.now bs c.args.funds c.args.out.now)
    (b.ensures ∙ over_all w c.args.bases.now (c.requires.places ∙ sym (length_bases c.args.averages.now c.args.tenths)))
