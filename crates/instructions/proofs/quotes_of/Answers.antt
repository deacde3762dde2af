-- Where the instruction is no roll, any quotes will do.
use Rattle.std.proofs.Common.{sym, ◌∙◌}
use mathlib.Core.Bool.{false≢true}
use Rattle.instructions.proofs.Answered.{quoted}
use Rattle.instructions.proofs.quotes_of.Goals as goal

pub returns-then-rolls : goal.returns-then-rolls
returns-then-rolls c =
    let a = c.args in
    quoted a.words.now a.quotes.now _ a.x c.requires.0 c.requires.1 (λ e. c.quotes.ensures)

pub returns-else-rolls : goal.returns-else-rolls
returns-else-rolls c =
    let a = c.args in
    quoted a.words.now a.quotes.now _ a.x c.requires.0 c.requires.1
    (λ e. absurd (false≢true (sym c.if-rolls.false ∙ c.rolls.ensures ∙ e)))
