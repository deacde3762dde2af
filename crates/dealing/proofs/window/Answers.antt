-- The invariant: the words put out are the units from k on, in the order as lifted.
use mathlib.Core.Path.{◌≡◌, refl, sym, ap, ◌∙◌}
use mathlib.Core.List.{map}
use Prim.Native.Nat.{◌+◌, ◌-◌}
use native.Mathlib.Omega.{arith}
use lib.ListN.{length, take, drop, get_or, length-take, length-drop}
use lib.Seq.{take_all}
use borrow.Rule.Slice.PartMut.{same_len_mid}
use Rattle.rules.specs.Book.{places_in}
use Rattle.runs.specs.Runs.{part_of}
use Rattle.inturn.specs.InTurn.{dealt_runs}
use Rattle.dealing.specs.Dealing.{lifted_runs}
use Rattle.unlifting.proofs.Places.{span_part, window_next}
use Rattle.dealing.proofs.window.Goals as goal

pub loop-done-init : goal.loop-done-init
loop-done-init c = (refl, omega arith, refl)

pub deal_out-requires : goal.deal_out-requires
deal_out-requires c =
    let l = c.loop-done in
    let g = c.before_lifts-s in
    let x = c.min-x in
    let ws = c.args.words.now in
    let us = dealt_runs c.args.runs.now (length c.args.runs.now) c.args.m in
    let p = span_part (places_in (get_or ws 0 0) (drop 2 ws)) us (c.args.k + l.done) g.result.base g.result.len x.result c.requires.places
    (omega (arith, x.ensures)) (omega (arith, x.ensures, g.ensures.one, l.invariant.0)) (omega (arith, x.ensures, c.requires.there, l.invariant.0)) g.ensures.places in
    (c.requires.ready, omega (arith, p.0, length-take (l.done + x.result - l.done) (drop l.done l.out)))

pub loop-done-preserved : goal.loop-done-preserved
unfolding lifted_runs
loop-done-preserved c =
    let l = c.loop-done in
    let g = c.before_lifts-s in
    let x = c.min-x in
    let f = c.deal_out in
    let ws = c.args.words.now in
    let us = dealt_runs c.args.runs.now (length c.args.runs.now) c.args.m in
    let ys = f.new.out in
    let p = span_part (places_in (get_or ws 0 0) (drop 2 ws)) us (c.args.k + l.done) g.result.base g.result.len x.result c.requires.places
    (omega (arith, x.ensures)) (omega (arith, x.ensures, g.ensures.one, l.invariant.0)) (omega (arith, x.ensures, c.requires.there, l.invariant.0)) g.ensures.places in
    let n : length (take (l.done + x.result - l.done) (drop l.done l.out)) ≡ x.result =
    length-take (l.done + x.result - l.done) (drop l.done l.out) ∙ rw length-drop (omega (arith, x.ensures, l.invariant.0)) in
    let m : length ys ≡ x.result = f.auto.out ∙ n in (
      same_len_mid l.done (l.done + x.result - l.done) l.out ys f.auto.out ∙ l.invariant.0,
      omega (arith, x.ensures, l.invariant.0),
      window_next (places_in (get_or ws 0 0) (drop 2 ws)) us l.out ys c.args.k l.done x.result g.result.base (l.done + x.result - l.done) (omega (arith, l.invariant.0)) m l.invariant.2
          (rw n at f.ensures) p.1,
    )

pub returns : goal.returns
returns c =
    let l = c.loop-done in
    let us = lifted_runs c.args.runs.now (length c.args.runs.now) c.args.m c.args.words.now in
    let e : l.done ≡ length c.args.out.now = omega (arith, l.invariant.0) in
    ap (map part_of) (sym (take_all l.done l.out (omega (arith, l.invariant.0)))) ∙ l.invariant.2 ∙ ap (λ i. take i (drop c.args.k us)) e
