-- The invariant: the runs up to j, and what is laid from j on with what is left, are what all is.
use mathlib.Core.Path.{◌≡◌, refl, sym, ◌∙◌}
use Prim.Native.Nat.{◌%◌}
use native.Mathlib.Omega.{arith}
use borrow.Author.Rules.{rules}
use Rattle.std.proofs.lemmas.List.{set-get_or}
use lib.ListN.{length, length-set, get_or}
use Rattle.gathering.proofs.Gathers.{spread_small, spread_full, spent_small, spread_end}
use Rattle.gathering.proofs.spread.Goals as goal

pub loop-key-init : goal.loop-key-init
loop-key-init c = (c.requires.accounts, c.requires.small, refl)

pub overflow_mul-key : goal.overflow_mul-key
overflow_mul-key c =
    let l = c.loop-key in
    omega (arith, l.invariant.1 (get_or l.key-items l.key-index 0 % 64))

pub overflow_add-key : goal.overflow_add-key
overflow_add-key c =
    let l = c.loop-key in
    omega (arith, l.invariant.1 (get_or l.key-items l.key-index 0 % 64))

pub loop-key-preserved-then-key-lt-UNIT_WORD : goal.loop-key-preserved-then-key-lt-UNIT_WORD
loop-key-preserved-then-key-lt-UNIT_WORD c =
    let l = c.loop-key in
    rw (set-get_or l.key-items l.key-index 0)
    (l.invariant.0, l.invariant.1, spread_small l.key-items l.full l.key-index (search rules) _ l.invariant.2 (omega arith))

pub loop-key-preserved : goal.loop-key-preserved
loop-key-preserved c =
    let l = c.loop-key in
    let k = get_or l.key-items l.key-index 0 in (
      simp length-set l.invariant.0,
      spent_small l.full (k % 64) l.invariant.1,
      spread_full l.key-items l.full l.key-index (search rules) _ l.invariant.2 l.invariant.0 (omega arith) _ refl,
    )

pub returns : goal.returns
returns c =
    let l = c.loop-key in
    let e : l.key-index ≡ length l.key-items = omega arith in
    sym (l.invariant.2 ∙ spread_end l.key-items l.full l.key-index e)
