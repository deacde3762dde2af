-- One word more, the last of those that are left; at the end none is.
use Rattle.std.proofs.Common.{◌≡◌, ◌+◌, arith}
use Rattle.checksums.proofs.Bounds.{Summed, summed_none, summed_next, summed_fits, summed_all}
use Rattle.checksums.proofs.checksum.Goals as goal

pub loop-word-init : goal.loop-word-init
loop-word-init c =
    let e : c.into_iter-word-iterator.result.iter.rest.now ≡ c.args.words.now = cc in
    rw e (summed_none c.args.words.now)

next : (c : goal.After-row_known-1) → Summed c.args.words.now c.next.new.self.iter.rest.now (c.loop-word.end + c.in-Some.word.now) (c.loop-word.total + (c.loop-word.end + c.in-Some.word.now))
next c = summed_next c.args.words.now _ _ c.in-Some.word.now _ _ c.in-Some.ensures.steps c.loop-word.invariant

pub overflow_add-end : goal.overflow_add-end
overflow_add-end c = let f = summed_fits c.args.words.now _ _ _ c.requires (λ k. omega (arith, c.type_inv.words k)) (next c) in omega (arith, f.0)

pub overflow_add-total : goal.overflow_add-total
overflow_add-total c = let f = summed_fits c.args.words.now _ _ _ c.requires (λ k. omega (arith, c.type_inv.words k)) (next c) in omega (arith, f.1)

pub loop-word-preserved : goal.loop-word-preserved
loop-word-preserved c = next c

pub returns : goal.returns
returns c = summed_all c.args.words.now _ _ _ c.in-None.ensures.steps.0 c.loop-word.invariant
