-- A report more in each sum, and the whole of them.
use Rattle.std.proofs.Common.{rules, ◌≡◌, ◌<◌, length, get_or, ap, ◌∙◌, arith}
use Rattle.reports.specs.Reports.{numbers, receipt_of, delivery_of, receipts, deliveries}
use Rattle.rules.specs.Measures.{due_of, owed_of}
use Rattle.eligible.specs.Steps.{unfaced, counted_for}
use Rattle.reports.proofs.Sums.{total_number, total_numbers_end}
use lib.IntN.{pos}
use mir.Syntax.{w32}
use mir.ValLaws.{to_z-of_z}
use Rattle.eligible.proofs.receives.Goals as goal

pub loop-k-init : goal.loop-k-init
unfolding receipts deliveries numbers
loop-k-init c = (search rules, search rules, omega arith, omega arith)

pub loop-k-preserved : goal.loop-k-preserved
loop-k-preserved c =
    let l = c.loop-k in
    let rs = unfaced c.args.subs.now c.args.lots.now c.args.earlier.now in
    let s = c.args.s in
    let n = length rs.subs in
    let z = to_z-of_z w32 (get_or rs.lots l.k (pos 0)) (search rules) in
    let counts = counted_for s (get_or rs.earlier l.k 0) (get_or rs.subs l.k 0) in
    let r : c.counted.result ≡ receipt_of rs s l.k =
    c.counted.ensures ∙ ap counts (c.due.ensures ∙ ap due_of z) in
    let d : c.counted-in-loop-k.result ≡ delivery_of rs s l.k =
    c.counted-in-loop-k.ensures ∙ ap counts (c.owed.ensures ∙ ap owed_of z) in
    let h : l.k < n = search rules in (
      omega (arith, l.invariant.0, c.counted.type_inv),
      omega (arith, l.invariant.1, c.counted-in-loop-k.type_inv),
      omega (arith, l.invariant.2, r, total_number (receipt_of rs s) n l.k h),
      omega (arith, l.invariant.3, d, total_number (delivery_of rs s) n l.k h),
    )

pub returns : goal.returns
returns c =
    let l = c.loop-k in
    let rs = unfaced c.args.subs.now c.args.lots.now c.args.earlier.now in
    let s = c.args.s in
    let n = length rs.subs in
    let r : l.received ≡ receipts rs s = omega (arith, l.invariant.2, total_numbers_end (receipt_of rs s) n l.k (omega arith)) in
    let d : l.delivered ≡ deliveries rs s = omega (arith, l.invariant.3, total_numbers_end (delivery_of rs s) n l.k (omega arith)) in
    rw (r, d)
