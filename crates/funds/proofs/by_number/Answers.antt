-- One share more, and all of them.
use Rattle.std.proofs.Common.{rules, ◌≡◌, ℕ, ◌≤◌, ◌<◌, List, [], ◌++◌, length, take, drop, refl, ap, sym, ◌∙◌, arith, length-set}
use lib.Seq.{take_all, length-take-le, drop-length}
use mathlib.Core.List.{append-nil}
use Rattle.rules.specs.Records.{over}
use Rattle.contributions.specs.Funds.{numbered}
use Rattle.apportioning.proofs.Lists.{copy_more}
use Rattle.apportioning.proofs.Turns.{length_numbered, share_wanted}
use Rattle.funds.proofs.by_number.Goals as goal

-- the front places are filled, and those behind are as they came
filled : (wanted out items : List ℕ) (n k : ℕ) → length wanted ≡ n → n ≤ length out → k ≡ n →
    items ≡ take k wanted ++ drop k (take n out) → items ++ drop n out ≡ over wanted out
filled wanted out items n k e h q i =
    let p : k ≡ length (take n out) = omega (arith, length-take-le n out h) in
    let t : take k wanted ≡ wanted = take_all k wanted (omega arith) in
    let d : drop k (take n out) ≡ [] = ap (λ j. drop j (take n out)) p ∙ drop-length (take n out) in
    let w : items ≡ wanted = i ∙ rw (t, d) (append-nil wanted) in
    rw (w, e) refl

pub loop-k-preserved : goal.loop-k-preserved
loop-k-preserved c =
    let l = c.loop-k in
    let wanted = numbered c.args.order.now c.args.given.now in
    let n = length_numbered c.args.order.now c.args.given.now in
    let h : l.k < length c.args.order.now = search rules in (
      simp length-set l.invariant.0,
      rw l.invariant.1
          (copy_more wanted (take (length c.args.order.now) c.args.out.now) l.k c.share_in.result (omega arith) (omega (arith, l.invariant.0))
          (c.share_in.ensures ∙ sym (share_wanted c.args.order.now c.args.given.now l.k h))),
    )

pub returns : goal.returns
returns c =
    let l = c.loop-k in
    let n = length_numbered c.args.order.now c.args.given.now in
    filled (numbered c.args.order.now c.args.given.now) c.args.out.now l.place-items (length c.args.order.now) l.k n c.requires.1
    (omega (arith, l.invariant.0, length-take-le (length c.args.order.now) c.args.out.now c.requires.1)) l.invariant.1
