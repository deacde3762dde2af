-- The last run takes part, and so do all in front of it; or it takes none.
use mathlib.Core.Path.{◌≡◌, refl, ◌∙◌}
use Prim.Native.Nat.{◌+◌, ◌-◌}
use native.Mathlib.Omega.{arith}
use lib.ListN.{length}
use Rattle.inturn.proofs.Dealing.{narrow_less, narrow_all}
use Rattle.inturn.proofs.narrow.Goals as goal

pub returns-then-r-runs : goal.returns-then-r-runs
returns-then-r-runs c =
    let l = c.loop-last in
    let e : l.last - 1 + 1 ≡ l.last = omega arith in
    rw e
    (record {
      few = l.auto.last;
      rest = l.invariant;
      all = narrow_all c.args.runs.now (length c.args.runs.now) l.last (l.last - 1) c.args.r c.requires (omega arith) l.auto.last (omega arith);
      some = λ h. omega arith;
    })

pub loop-last-preserved : goal.loop-last-preserved
loop-last-preserved c =
    let l = c.loop-last in
    λ s h. l.invariant s h ∙ narrow_less c.args.runs.now l.last (l.last - 1) c.args.r (omega arith) (omega (arith, l.auto.last, c.requires.there)) (omega arith) s h

pub returns : goal.returns
returns c =
    let l = c.loop-last in
    let z : l.last ≡ 0 = omega arith in
    record { few = omega arith; rest = rw z at l.invariant; all = refl; some = λ h. absurd (omega arith) }
