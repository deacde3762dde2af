-- The invariant: what is summed and the full lots from j on are all.
use mathlib.Core.Path.{◌≡◌, ap, ◌∙◌}
use mathlib.Core.List.{map}
use Prim.Native.Nat.{◌%◌}
use native.Mathlib.Omega.{arith}
use lib.Seq.{drop-length}
use lib.ListN.{length, length-set, drop, get_or}
use Rattle.rules.specs.Fails.{full_lots}
use Rattle.rules.specs.Measures.{unit_lots}
use Rattle.runs.specs.Runs.{part_of}
use Rattle.gathering.specs.Gathering.{fulls_of}
use Rattle.gathering.proofs.Gathers.{plain_next, sum_fits, sums_next}
use Rattle.gathering.proofs.sums.Goals as goal

pub loop-key-init : goal.loop-key-init
loop-key-init c = (c.requires.accounts, c.requires.ready.plain, (λ a. omega (arith, c.requires.none a)))

pub overflow_mul-full : goal.overflow_mul-full
overflow_mul-full c =
    let l = c.loop-key in
    let rs = c.args.runs.now in
    let k = get_or rs l.key-index 0 % 64 in
    omega (arith, sum_fits rs l.full l.key-index (omega arith) l.invariant.0 l.invariant.1 (fulls_of rs) l.invariant.2, c.requires.ready.small k)

pub overflow_add-full : goal.overflow_add-full
overflow_add-full c =
    let l = c.loop-key in
    let rs = c.args.runs.now in
    let k = get_or rs l.key-index 0 % 64 in
    omega (arith, sum_fits rs l.full l.key-index (omega arith) l.invariant.0 l.invariant.1 (fulls_of rs) l.invariant.2, c.requires.ready.small k)

pub loop-key-preserved : goal.loop-key-preserved
loop-key-preserved c =
    let l = c.loop-key in
    let rs = c.args.runs.now in (
      simp length-set l.invariant.0,
      plain_next rs l.full l.key-index (omega arith) l.invariant.0 l.invariant.1 (fulls_of rs) l.invariant.2,
      sums_next rs l.full l.key-index (omega arith) l.invariant.0 l.invariant.1 (fulls_of rs) l.invariant.2,
    )

pub returns : goal.returns
returns c =
    let rs = c.args.runs.now in
    let l = c.loop-key in
    let e : l.key-index ≡ length rs = omega arith in
    λ a. omega (arith, l.invariant.2 a, ap (λ ws. full_lots unit_lots a (map part_of ws)) (ap (λ j. drop j rs) e ∙ drop-length rs))
