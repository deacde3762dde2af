-- A size more, and all of them.
use Rattle.std.proofs.Common.{rules, length, drop, ◌∙◌, arith, length-set}
use lib.ListN.{get_or-append}
use lib.Seq.{length-take-le}
use Rattle.reports.specs.Reports.{numbers, size_of, eligible_lots}
use Rattle.eligible.specs.Steps.{unfaced}
use Rattle.reports.proofs.Sums.{total_number, total_numbers_end}
use Rattle.eligible.proofs.Sizes.{fills}
use Rattle.eligible.proofs.sizes_of.Goals as goal

pub loop-k-init : goal.loop-k-init
unfolding eligible_lots numbers
loop-k-init c = (length-take-le (length c.args.subs.now) c.args.sizes.now c.requires.room, search rules, omega arith, λ j h. absurd (omega arith))

pub loop-k-preserved : goal.loop-k-preserved
loop-k-preserved c =
    let l = c.loop-k in
    let rs = unfaced c.args.subs.now c.args.lots.now c.args.earlier.now in (
      simp length-set l.invariant.0,
      omega (arith, l.invariant.1, c.size_of-size.type_inv),
      omega (arith, l.invariant.2, c.size_of-size.ensures, total_number (size_of rs) (length rs.subs) l.k (omega arith)),
      fills (size_of rs) l.place-items l.k c.size_of-size.result (omega (arith, l.invariant.0)) c.size_of-size.ensures l.invariant.3,
    )

pub returns : goal.returns
returns c =
    let l = c.loop-k in
    let rs = unfaced c.args.subs.now c.args.lots.now c.args.earlier.now in
    record {
      each = λ j h. get_or-append l.place-items (drop (length c.args.subs.now) c.args.sizes.now) 0 j (omega (arith, l.invariant.0)) ∙ l.invariant.3 j (omega arith);
      lots = omega (arith, l.invariant.2, total_numbers_end (size_of rs) (length rs.subs) l.k (omega arith));
    }
