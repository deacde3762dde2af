-- Where nothing is delivered each place passes.
use Rattle.std.proofs.Common.{sym, ◌∙◌}
use Rattle.laws.proofs.Cells.{within_zeros}
use Rattle.balancing.proofs.row_owed.Goals as goal

pub returns-then-zeros : goal.returns-then-zeros
returns-then-zeros c = sym (within_zeros c.args.net.now c.args.delivered.now (sym c.zeros.ensures ∙ c.if-zeros.true))
