use mathlib.Core.Path.{sym, ◌∙◌}
use Rattle.cutoff.proofs.Going.{no_phase, no_room, all_yes}
use Rattle.cutoff.proofs.cutoff_asks.Goals as goal

pub returns-then-not-settling : goal.returns-then-not-settling
returns-then-not-settling c =
    let a = c.args in
    no_phase a.dealt a.s.phase a.s.entries a.nets.now a.delivered.now a.lifts.now (sym c.settling.ensures ∙ c.if-not-settling.true)

pub returns-then-not-has_room : goal.returns-then-not-has_room
returns-then-not-has_room c =
    let a = c.args in
    no_room a.dealt a.s.phase a.s.entries a.nets.now a.delivered.now a.lifts.now (sym c.settling.ensures ∙ c.if-not-settling.false)
    (λ today. sym c.if-not-has_room.true ∙ c.has_room.ensures today)

pub returns : goal.returns
returns c =
    let a = c.args in
    all_yes a.dealt a.s.phase a.s.entries a.nets.now a.delivered.now a.lifts.now (sym c.settling.ensures ∙ c.if-not-settling.false)
    (λ today. sym c.if-not-has_room.false ∙ c.has_room.ensures today)
