-- A turn is made where all lines are written, the run goes on and a read is left; behind the last the run is the definition's.
use mathlib.Core.Path.{◌≡◌, refl, sym, ap, ◌∙◌}
use mathlib.Core.Bool.{Bool, true, false, not, ◌&&◌}
use Prim.Native.Nat.{ℕ, zero, suc, ◌≤◌, ◌<◌}
use native.Mathlib.Omega.{arith}
use lib.Dec.{ltb}
use lib.Seq.{length-take-le}
use borrow.Author.Tests.{not-true, ltb-true, ltb-false}
use Rattle.rules.specs.Book.{sound}
use Rattle.laws.proofs.Basics.{and_left, and_right}
use Rattle.laws.proofs.Called.{fresh_sound}
use Rattle.playing.proofs.Sofar.{sofar_starts, sofar_on, few_words, shown, played}
use Rattle.playing.proofs.play.Goals as goal

-- a turn is made where all lines are written, the run goes on and a read is left
record Going (w o f : Bool) (r most : ℕ) : Type 0 where
  pub written : w ≡ true
  pub over : o ≡ false
  pub failed : f ≡ false
  pub reads : r < most

going : (written over failed : Bool) (reads most : ℕ) → (((written && not over) && not failed) && ltb reads most) ≡ true →
    Going written over failed reads most
going written over failed reads most t =
    let a = and_left ((written && not over) && not failed) (ltb reads most) t in
    let b = and_left (written && not over) (not failed) a in
    record {
      written = and_left written (not over) b;
      over = not-true over (and_right written (not over) b);
      failed = not-true failed (and_right (written && not over) (not failed) a);
      reads = ltb-true reads most (and_right ((written && not over) && not failed) (ltb reads most) t);
    }

-- and none more where one of these is not so
stops : (written over failed : Bool) (reads most : ℕ) → (((written && not over) && not failed) && ltb reads most) ≡ false →
    over ≡ false → failed ≡ false → written ≡ true → most ≤ reads
stops written over failed reads most t o f w =
    let e = ap (λ (b : Bool). ((b && not over) && not failed) && ltb reads most) w
    ∙ ap (λ (b : Bool). ((true && not b) && not failed) && ltb reads most) o
    ∙ ap (λ (b : Bool). ((true && not false) && not b) && ltb reads most) f in
    ltb-false reads most (sym e ∙ t)

-- at least one is made
begun : (written over failed : Bool) (reads most : ℕ) → (((written && not over) && not failed) && ltb reads most) ≡ false → 0 < most →
    (reads ≡ 0 → (written ≡ true) × (over ≡ false) × (failed ≡ false)) → 0 < reads
begun written over failed zero most t m h = absurd (let e = stops written over failed 0 most t (h refl).1 (h refl).2 (h refl).0 in omega (arith, e, m))
begun written over failed (suc n) most t m h = omega arith

pub loop-sent-init : goal.loop-sent-init
loop-sent-init g c = (
  c.requires,
  record { order = omega arith; within = omega arith; few = λ e. omega arith; waits = λ e. refl; sound = ap sound c.fresh-book.ensures ∙ fresh_sound },
  omega arith,
  omega arith,
  omega arith,
  sofar_starts _ _ c.fresh-book.ensures refl,
  λ e. (refl, refl, refl),
)

-- its text has room
pub slice_bounds-show-end : goal.slice_bounds-show-end
slice_bounds-show-end g c =
    let k = c.step-p in
    let few = few_words c.loop-sent.p k.result c.loop-sent.bytes _ _ k.ensures.0 k.ensures.2.input in
    omega (arith, few.1, k.ensures.2.lines)

pub slice_bounds-show-end-in-loop-sent : goal.slice_bounds-show-end-in-loop-sent
slice_bounds-show-end-in-loop-sent g c =
    let k = c.step-p in
    let few = few_words c.loop-sent.p k.result c.loop-sent.bytes _ _ k.ensures.0 k.ensures.2.input in
    sym (length-take-le k.result.printed k.new.text (omega (arith, few.1, k.ensures.2.lines)))

pub show-sent-requires : goal.show-sent-requires
show-sent-requires g c =
    let l = c.loop-sent in
    let k = c.step-p in
    let t = going l.sent.written l.p.over l.p.failed l.reads _ c.loop-sent-test.true in
    let few = few_words l.p k.result l.bytes _ _ k.ensures.0 k.ensures.2.input in
    let size = length-take-le k.result.printed k.new.text (omega (arith, few.1, k.ensures.2.lines)) in (
      t.written,
      shown l.p k.result l.bytes _ _ k.ensures.0 l.sent.count l.reads t.over l.invariant.5,
      omega (arith, size, few.1, l.invariant.3, t.reads),
    )

pub loop-sent-preserved : goal.loop-sent-preserved
loop-sent-preserved g c =
    let l = c.loop-sent in
    let k = c.step-p in
    let i = l.invariant in
    let t = going l.sent.written l.p.over l.p.failed l.reads _ c.loop-sent-test.true in
    let few = few_words l.p k.result l.bytes _ _ k.ensures.0 k.ensures.2.input in
    let size = length-take-le k.result.printed k.new.text (omega (arith, few.1, k.ensures.2.lines)) in
    let e = c.show-sent.ensures in (
      k.ensures.2,
      k.ensures.1,
      omega (arith, few.0, i.2),
      omega (arith, size, few.1, e, i.3),
      omega (arith, t.reads),
      sofar_on l.p k.result l.bytes _ _ k.ensures.0 l.sent.count l.reads t.over i.5 c.show-sent.result.count e t.failed,
      λ z. absurd (omega (arith, z)),
    )

pub returns : goal.returns
returns g c =
    let l = c.loop-sent in
    let t = c.loop-sent-test.false in
    let m = stops l.sent.written l.p.over l.p.failed l.reads _ t in
    let i = l.invariant in (
      played _ l.p.index _ (omega (arith, i.3, i.4)) i.1.sound (λ o f w. omega (arith, m o f w, i.4)) i.1.waits (begun _ _ _ _ _ t (omega arith) i.6) i.5,
      i.0,
    )
