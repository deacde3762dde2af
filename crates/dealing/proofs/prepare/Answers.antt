-- The issue's runs are ranked, copied, and the copy lifted.
use native.Mathlib.Omega.{arith}
use mathlib.Core.List.{List, ◌++◌}
use mathlib.Core.Path.{◌≡◌}
use Prim.Native.Nat.{ℕ, ◌≤◌}
use lib.Seq.{length-take-le}
use lib.ListN.{length, take, drop, length-append, length-drop}
use Rattle.lifted.proofs.Lifted.{can_lift_all, prepared}
use Rattle.dealing.proofs.Dealer.{copied, copy_ranked}
use Rattle.dealing.proofs.prepare.Goals as goal

-- the array with the copy in front is as long as before
copy_length : (part runs : List ℕ) (n : ℕ) → length part ≡ length (take n runs) → n ≤ 128 → 144 ≤ length runs → 144 ≤ length (part ++ drop n runs)
copy_length part runs n e few wide =
    omega (arith, e, length-take-le n runs (omega arith), length-append part (drop n runs), length-drop n runs)

pub lift_all-lifted-requires : goal.lift_all-lifted-requires
lift_all-lifted-requires c =
    let a = c.args in
    let f = c.rank-ranks in
    let k = c.copy_from_slice in
    can_lift_all a.nets.now a.lifts.now a.i (k.new.self ++ drop f.result.n a.runs.now) f.result.n c.requires.order
    (copy_ranked a.nets.now a.i f.new.keys _ f.result.n (copied f.new.keys a.runs.now k.new.self f.result.n f.ensures.held k.ensures.after) f.ensures.order)
    (copy_length k.new.self a.runs.now f.result.n k.ensures.len f.ensures.order.few c.requires.wide)

pub returns : goal.returns
returns c =
    let a = c.args in
    let f = c.rank-ranks in
    let k = c.copy_from_slice in
    let g = c.lift_all-lifted in
    record {
      ranks = f.ensures;
      lifted = prepared a.nets.now a.lifts.now a.i (k.new.self ++ drop f.result.n a.runs.now) f.result.n c.requires.order
          (copy_ranked a.nets.now a.i f.new.keys _ f.result.n (copied f.new.keys a.runs.now k.new.self f.result.n f.ensures.held k.ensures.after) f.ensures.order)
          g.new.runs g.result (rw g.auto.runs (copy_length k.new.self a.runs.now f.result.n k.ensures.len f.ensures.order.few c.requires.wide)) g.ensures;
    }
