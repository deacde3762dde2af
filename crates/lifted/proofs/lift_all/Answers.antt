-- The invariant: the lifts that are left, from the runs as they are, give what all give from the first ones.
use mathlib.Core.Path.{◌≡◌, refl, sym, ◌∙◌}
use Prim.Native.Nat.{ℕ, ◌+◌, ◌-◌, ◌*◌}
use native.Mathlib.Omega.{arith}
use lib.ListN.{get_or}
use mathlib.Core.List.{List}
use Rattle.rules.specs.Lifts.{lift_of, lift}
use Rattle.runs.specs.Runs.{units_in}
use Rattle.lifted.proofs.Lifted.{next_among, lifted_next, among_next}
use Rattle.lifted.proofs.lift_all.Goals as goal

-- what is left of the lifts before and after one
next_left : (ps : List ℕ) (i n : ℕ) → (2 * i + 2 + 1 ≡ 2 * i + 3) × (2 * i + 2 + 2 ≡ 2 * (i + 1) + 2) × (n - i - 1 ≡ n - (i + 1))
next_left ps i n = (omega arith, omega arith, omega arith)

pub loop-i-init : goal.loop-i-init
loop-i-init c =
    let z : get_or c.args.words.now 0 0 - 0 ≡ get_or c.args.words.now 0 0 = omega arith in
    (refl, omega arith, rw z refl, rw z c.requires.places, (λ ps. ps))

pub lift-r-requires : goal.lift-r-requires
lift-r-requires c =
    let l = c.loop-i in
    let n = get_or c.args.words.now 0 0 in
    let x = next_left c.args.words.now l.i n in
    let m = rw x.0 at (next_among c.args.words.now (2 * l.i + 2) (n - l.i) (units_in l.runs l.r) (omega arith) l.invariant.3) in
    record { held = omega (arith, c.requires.held, c.requires.few, l.invariant.0, l.invariant.1); back = m.back; there = m.there }

pub loop-i-preserved : goal.loop-i-preserved
loop-i-preserved c =
    let ps = c.args.words.now in
    let l = c.loop-i in
    let f = c.lift-r in
    let n = get_or ps 0 0 in
    let x = next_left ps l.i n in
    let us = units_in l.runs l.r in
    let vs = units_in f.new.runs f.result in
    let e : vs ≡ lift (lift_of (get_or ps (2 * l.i + 2) 0) (get_or ps (2 * l.i + 2 + 1) 0)) us = rw x.0 f.ensures.units in (
      f.auto.runs ∙ l.invariant.0,
      omega (arith, f.ensures.few, l.invariant.1),
      rw (← x.1, ← x.2) (l.invariant.2 ∙ lifted_next ps (2 * l.i + 2) (n - l.i) us (omega arith) l.invariant.3 vs e),
      rw (← x.1, ← x.2) (among_next ps (2 * l.i + 2) (n - l.i) us (omega arith) l.invariant.3 vs e),
      (λ ps. f.ensures.plain (l.invariant.4 ps)),
    )

pub returns : goal.returns
returns c =
    let l = c.loop-i in
    let n = get_or c.args.words.now 0 0 in
    let z : n - l.i ≡ 0 = omega arith in
    record { few = omega (arith, l.invariant.1); units = sym (rw z at l.invariant.2); plain = l.invariant.4 }
