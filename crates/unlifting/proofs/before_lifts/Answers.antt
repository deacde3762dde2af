-- No lift is undone at first; each turn undoes one more; in the end all are undone.
use mathlib.Core.Path.{◌≡◌, ap}
use Prim.Native.Nat.{◌+◌, ◌-◌}
use native.Mathlib.Omega.{arith}
use lib.ListN.{drop, get_or}
use Rattle.unlifting.specs.Unlifting.{place_of}
use Rattle.unlifting.proofs.Places.{places_none, back_one}
use Rattle.unlifting.proofs.before_lifts.Goals as goal

pub loop-j-init : goal.loop-j-init
loop-j-init c =
    let a = c.args in
    let ws = a.words.now in
    (omega arith, (λ t h. ap (λ ls. place_of ls (a.k + t)) (places_none (get_or ws 0 0) (drop 2 ws))))

pub loop-j-preserved : goal.loop-j-preserved
loop-j-preserved c =
    let a = c.args in
    let l = c.loop-j in
    let f = c.before_lift-s in (
      f.ensures.one,
      back_one a.words.now l.j (l.j - 1) a.k l.s.base l.s.len f.result.base f.result.len (omega arith) (omega (arith, l.auto.j)) l.invariant.1
          f.ensures.places f.ensures.fewer,
    )

pub returns : goal.returns
returns c =
    let l = c.loop-j in
    let z : l.j ≡ 0 = omega arith in
    record { one = l.invariant.0; places = rw z at l.invariant.1 }
