-- The first questions, the sizes and the last question; then the code's two groups are those of the definitions.
use Rattle.std.proofs.Common.{◌≡◌, ℕ, ◌<◌, get_or, take, sym, ap, ◌∙◌, arith}
use Rattle.reports.specs.Lent.{reports_in}
use Rattle.std.proofs.lemmas.Result.{err_from_is_err_and}
use Rattle.reports.specs.Reports.{number_of, size_of}
use Rattle.reports.specs.Trust.{answered}
use Rattle.reports.proofs.Draws.{right_draw}
use lib.Seq.{length-take-le, get_or-take}
use Rattle.trust.proofs.Sharing.{size_unfaced, lots_unfaced, shared_over, refused_by, refused_last, allotted, admitted}
use Rattle.trust.proofs.day_trust.Goals as goal

pub returns-in_err-report_asks : goal.returns-in_err-report_asks
returns-in_err-report_asks c =
    let a = c.args in
    let p = err_from_is_err_and c.from_residual.result c.from_residual.ensures.1 in
    rw (p.1, p.2) (refused_by (reports_in a.columns) a.draw.now a.fail a.failing a.out.now _ c.in_err-report_asks.ensures)

pub sizes_of-sum-requires : goal.sizes_of-sum-requires
sizes_of-sum-requires c =
    let a = c.args in
    let h = admitted (reports_in a.columns) a.draw.now a.fail a.failing a.out.now (sym c.in_ok-report_asks.ensures) in
    record { columns = record { places = h.lotted; fails = h.failed; few = h.few }; room = h.few }

pub returns-then-sum-fail : goal.returns-then-sum-fail
returns-then-sum-fail c =
    let a = c.args in
    refused_last (reports_in a.columns) a.draw.now a.fail a.failing a.out.now (sym c.in_ok-report_asks.ensures)
    (omega (arith, c.sizes_of-sum.ensures.lots, lots_unfaced a.columns.subs.now a.columns.parties.now a.columns.lots.now a.columns.earlier.now, c.if-sum-fail.true))

pub slice_bounds-share-end : goal.slice_bounds-share-end
slice_bounds-share-end c =
    let a = c.args in
    let rs = reports_in a.columns in
    let h = admitted rs a.draw.now a.fail a.failing a.out.now (sym c.in_ok-report_asks.ensures) in
    sym (length-take-le (number_of rs) c.sizes_of-sum.new.sizes (omega (arith, h.few, c.sizes_of-sum.auto.sizes)))

pub share-requires : goal.share-requires
share-requires c =
    let a = c.args in
    let rs = reports_in a.columns in
    let h = admitted rs a.draw.now a.fail a.failing a.out.now (sym c.in_ok-report_asks.ensures) in
    let places = length-take-le (number_of rs) c.sizes_of-sum.new.sizes (omega (arith, h.few, c.sizes_of-sum.auto.sizes)) in
    record {
      below = rw places (right_draw (number_of rs) a.draw.now h.drawn).below;
      faced = omega (arith, places, h.faced);
      room = omega (arith, places, h.few, h.room);
    }

pub returns : goal.returns
returns c =
    let a = c.args in
    let rs = reports_in a.columns in
    let n = number_of rs in
    let yes = sym c.in_ok-report_asks.ensures in
    let h = admitted rs a.draw.now a.fail a.failing a.out.now yes in
    let z = c.sizes_of-sum in
    let places = length-take-le n z.new.sizes (omega (arith, h.few, z.auto.sizes)) in
    let each : (k : ℕ) → k < n → get_or (take n z.new.sizes) k 0 ≡ size_of rs k = λ k l.
    get_or-take n z.new.sizes k 0 l ∙ z.ensures.each k l
    ∙ size_unfaced a.columns.subs.now a.columns.parties.now a.columns.lots.now a.columns.earlier.now k in
    ap (answered 0)
    (c.share.ensures
    ∙ shared_over rs (take n z.new.sizes) a.draw.now a.failing each (right_draw n a.draw.now h.drawn).below places a.fail a.out.now)
    ∙ allotted rs a.draw.now a.fail a.failing a.out.now yes (omega (arith, z.ensures.lots, lots_unfaced a.columns.subs.now a.columns.parties.now a.columns.lots.now a.columns.earlier.now, c.if-sum-fail.false))
