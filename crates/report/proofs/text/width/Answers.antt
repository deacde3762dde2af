-- A number without its last eight or sixteen digits has as many digits less.
use Rattle.std.proofs.Common.{arith, ◌/◌}
use Rattle.report.proofs.Spelled.{few_digits, wider}
use Rattle.report.proofs.text.width.Goals as goal

pub overflow_add-result : goal.overflow_add-result
overflow_add-result c =
    let k = c.short_width-then-n-lt10000000000000000 in
    omega (arith, few_digits k.result (c.args.n / 100000000) (omega (arith, c.ranges.n.fits)) k.ensures)

pub returns-then-n-lt10000000000000000 : goal.returns-then-n-lt10000000000000000
returns-then-n-lt10000000000000000 c =
    let k = c.short_width-then-n-lt10000000000000000 in
    wider 8 c.args.n k.result c.if-n-lt100000000.false k.ensures

pub overflow_add-result-2 : goal.overflow_add-result-2
overflow_add-result-2 c =
    let k = c.short_width-2 in
    omega (arith, few_digits k.result (c.args.n / 10000000000000000) (omega (arith, c.ranges.n.fits)) k.ensures)

pub returns : goal.returns
returns c = wider 16 c.args.n c.short_width-2.result c.if-n-lt10000000000000000.false c.short_width-2.ensures
