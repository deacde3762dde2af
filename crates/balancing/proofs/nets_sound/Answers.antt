-- Bounds are tested first; where they hold, the rest is.
use Rattle.std.proofs.Common.{sym, ◌∙◌}
use Rattle.balancing.proofs.RowLaws.{nets_out, nets_in}
use Rattle.balancing.proofs.nets_sound.Goals as goal

pub returns-then-not-nets_within : goal.returns-then-not-nets_within
returns-then-not-nets_within c =
    nets_out c.args.nets.now c.args.delivered.now (sym c.nets_within.ensures ∙ c.if-not-nets_within.true)

pub returns : goal.returns
returns c =
    nets_in c.args.nets.now c.args.delivered.now _ _ (sym c.nets_within.ensures ∙ c.if-not-nets_within.false)
    c.rows_balanced-balance.ensures c.rows_owed-owing.ensures
