-- The invariant: unit k of all is, from the round on, the one that is left.
use mathlib.Core.Path.{refl, ◌∙◌}
use Prim.Native.Nat.{◌+◌, ◌-◌, ◌/◌, ◌<◌}
use native.Mathlib.Omega.{arith}
use native.Mathlib.Nat.{mod-lt}
use lib.ListN.{length, get_or}
use Rattle.inturn.specs.InTurn.{dealt_from}
use Rattle.inturn.proofs.Dealing.{falling_less, seat_start, block_over, block_in, block_fits, block_some, narrowed_on, front_block, seat_in, lent_falling, lent_narrowed}
use Rattle.inturn.proofs.seat.Goals as goal

pub narrow-w-requires : goal.narrow-w-requires
narrow-w-requires c = lent_falling c.args.runs.now c.args.m c.requires.falling

pub loop-w-init : goal.loop-w-init
loop-w-init c =
    let w = c.narrow-w.result in
    let f = lent_narrowed c.args.runs.now c.args.m 0 w c.requires.falling.there c.narrow-w.ensures in (
      f.few,
      f.some,
      seat_start c.args.runs.now (length c.args.runs.now) c.args.m c.requires c.args.k w f,
      omega arith,
      omega arith,
      f,
      omega arith,
    )

pub overflow_cast-v : goal.overflow_cast-v
overflow_cast-v c = omega (arith, c.loop-w.invariant.0, c.requires.fulls, c.requires.few)

pub overflow_sub-c-in-loop-w : goal.overflow_sub-c-in-loop-w
overflow_sub-c-in-loop-w c = omega (arith, c.loop-w.invariant.1 (omega arith))

pub overflow_mul-b : goal.overflow_mul-b
overflow_mul-b c =
    let l = c.loop-w in
    let o : 0 < l.w = omega arith in
    let q = get_or c.args.runs.now (l.w - 1) 0 / 6400000 in
    omega (arith, block_fits c.args.runs.now (length c.args.runs.now) c.args.m c.requires l.w l.invariant.0 o (q - l.r) (omega (arith, c.requires.small (l.w - 1) (omega (arith, l.invariant.0)))))

pub overflow_add-result : goal.overflow_add-result
overflow_add-result c =
    let l = c.loop-w in
    let o : 0 < l.w = omega arith in
    let q = get_or c.args.runs.now (l.w - 1) 0 / 6400000 in
    omega (arith, (block_in c.args.runs.now (length c.args.runs.now) c.args.m c.requires l.w l.invariant.0 o (q - l.r) l.r l.left (omega (arith, l.invariant.1 o)) (omega arith)).0, c.requires.small (l.w - 1) (omega (arith, l.invariant.0)))

pub overflow_cast-result : goal.overflow_cast-result
overflow_cast-result c =
    let l = c.loop-w in
    let o : 0 < l.w = omega arith in
    omega (arith, mod-lt l.left o)

pub returns-then-left-b : goal.returns-then-left-b
unfolding dealt_from
returns-then-left-b c =
    let l = c.loop-w in
    let o : 0 < l.w = omega arith in
    let q = get_or c.args.runs.now (l.w - 1) 0 / 6400000 in
    let b = block_in c.args.runs.now (length c.args.runs.now) c.args.m c.requires l.w l.invariant.0 o (q - l.r) l.r l.left (omega (arith, l.invariant.1 o)) (omega arith) in (
      l.invariant.2 ∙ b.1,
      record { few = l.invariant.0; within = λ h. mod-lt l.left o; some = λ h. omega (arith, b.0, c.requires.small (l.w - 1) (omega (arith, l.invariant.0))) },
      seat_in c.args.runs.now (length c.args.runs.now) c.args.m c.requires l.w o l.r l.invariant.5 (l.left / l.w) l.left c.args.k l.invariant.4 refl
          (omega (arith, b.0, l.invariant.1 o)),
    )

pub overflow_add-r : goal.overflow_add-r
overflow_add-r c =
    let l = c.loop-w in
    let o : 0 < l.w = omega arith in
    let q = get_or c.args.runs.now (l.w - 1) 0 / 6400000 in
    omega (arith, c.requires.small (l.w - 1) (omega (arith, l.invariant.0)), l.invariant.1 o)

pub loop-w-smaller : goal.loop-w-smaller
loop-w-smaller c =
    let l = c.loop-w in
    let o : 0 < l.w = omega arith in
    let q = get_or c.args.runs.now (l.w - 1) 0 / 6400000 in
    omega (arith, block_some c.args.runs.now (length c.args.runs.now) c.args.m c.requires l.w l.invariant.0 o (q - l.r) (omega (arith, l.invariant.1 o)), (lent_narrowed c.args.runs.now l.w (l.r + (q - l.r)) c.narrow-w-in-loop-w.result (omega (arith, l.invariant.0, c.requires.falling.there)) c.narrow-w-in-loop-w.ensures).few)

pub loop-w-preserved : goal.loop-w-preserved
loop-w-preserved c =
    let l = c.loop-w in
    let o : 0 < l.w = omega arith in
    let q = get_or c.args.runs.now (l.w - 1) 0 / 6400000 in
    let w = c.narrow-w-in-loop-w.result in
    let f = lent_narrowed c.args.runs.now l.w (l.r + (q - l.r)) w (omega (arith, l.invariant.0, c.requires.falling.there)) c.narrow-w-in-loop-w.ensures in (
      omega (arith, f.few, l.invariant.0),
      f.some,
      l.invariant.2 ∙ block_over c.args.runs.now (length c.args.runs.now) c.args.m c.requires l.w l.invariant.0 o (q - l.r) l.r w l.left (omega (arith, l.invariant.1 o)) (omega (arith, l.invariant.1 o)) (omega arith) f,
      omega (arith, l.invariant.3),
      omega (arith, l.invariant.4, front_block c.args.runs.now (length c.args.runs.now) c.args.m c.requires l.w o l.r l.invariant.5 (q - l.r) (omega (arith, l.invariant.1 o))),
      narrowed_on c.args.runs.now c.args.m l.r l.w (l.r + (q - l.r)) w l.invariant.5 f (omega arith),
      omega (arith, l.invariant.1 o, c.requires.small (l.w - 1) (omega (arith, l.invariant.0))),
    )

pub narrow-w-requires-in-loop-w : goal.narrow-w-requires-in-loop-w
narrow-w-requires-in-loop-w c =
    let l = c.loop-w in
    lent_falling c.args.runs.now l.w (falling_less c.args.runs.now c.args.m l.w c.requires.falling l.invariant.0)

pub returns : goal.returns
unfolding dealt_from
returns c =
    let l = c.loop-w in (
      l.invariant.2,
      record { few = l.invariant.0; within = λ h. absurd (omega arith); some = λ h. absurd (omega arith) },
      record { place = l.invariant.4; narrowed = l.invariant.5; most = l.invariant.6 },
    )
