-- As many digits as the number has stand behind the first `at` bytes.
use Rattle.std.proofs.Common.{arith}
use Rattle.report.proofs.Spelled.{few_digits, spells, added_number}
use Rattle.report.proofs.text.number.Goals as goal

pub overflow_add-end : goal.overflow_add-end
overflow_add-end c = omega (arith, few_digits c.width.result c.args.n c.ranges.n.fits c.width.ensures)

pub spell-requires : goal.spell-requires
spell-requires c = spells c.args.at c.args.n c.width.result c.ranges.n.fits c.width.ensures c.args.text.now c.requires

pub returns : goal.returns
returns c = added_number c.args.at c.args.n c.width.result c.ranges.n.fits c.width.ensures c.args.text.now _ c.spell.ensures
