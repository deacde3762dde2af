-- All units are still to be handed over; the next unit stands in front of what is left.
use mathlib.Core.Path.{◌≡◌}
use mathlib.Core.List.{[], ◌∷◌}
use Prim.Native.Nat.{◌+◌, ◌-◌, ◌*◌}
use native.Mathlib.Nat.{sub-zero}
use native.Mathlib.Omega.{arith}
use lib.ListN.{drop}
use Rattle.rules.specs.Units.{account_lots}
use Rattle.rules.specs.Records.{handover, words}
use Rattle.runs.specs.Runs.{units_of_words}
use Rattle.words.proofs.Stores.{part_over}
use Rattle.handing.proofs.Handing.{handing_starts, handing_more}
use Rattle.handing.proofs.hand.Goals as goal

pub loop-m-init : goal.loop-m-init
loop-m-init c =
    let a = c.args in
    rw (c.seek-seat.ensures a.runs.now, sub-zero)
    (handing_starts a.i a.count (drop a.c (units_of_words a.runs.now)) a.out.now c.requires.there c.requires.room)

pub loop-m-preserved : goal.loop-m-preserved
loop-m-preserved c =
    let l = c.loop-m in
    let unit = c.in-Some.unit in
    let w = words (handover c.args.i (account_lots unit.account unit.lots) ∷ []) in
    let e : c.args.count - (l.m + 1) ≡ c.args.count - l.m - 1 = omega arith in
    rw e
    (handing_more c.args.i l.m _ _ _ _ l.out l.invariant _ _ _ _ (omega arith) c.in-Some.ensures.list
    (part_over l.out c.«record».new.part w (2 * l.m) (omega (arith, l.invariant.same, c.requires.room)) c.«record».ensures))
