-- The runs that wait are gathered, and the cursor stands at the first, by the contracts of `hand_on` and `gather`.
use mathlib.Core.Path.{refl, sym}
use native.Mathlib.Omega.{arith}
use lib.ListN.{length}
use Rattle.units.proofs.Begins.{all_handed, begins_none, can_gather, fits_lent, begins_lent, started_as}
use Rattle.units.proofs.start.Goals as goal

pub returns-then-runs-j : goal.returns-then-runs-j
returns-then-runs-j c =
    let a = c.args in
    let f = c.hand_on-w in
    let n = length a.runs.now in
    let h = all_handed a.runs.now f.new.runs n a.d f.result refl (sym f.auto.runs) c.requires.plain f.ensures in
    rw c.stand.ensures (begins_none a.runs.now f.new.runs n a.d f.result (omega (arith, f.auto.runs)) h (omega (arith, f.auto.runs)))

pub gather-requires : goal.gather-requires
gather-requires c =
    let a = c.args in
    let f = c.hand_on-w in
    let h = all_handed a.runs.now f.new.runs (length f.new.runs) a.d f.result f.auto.runs refl c.requires.plain f.ensures in
    can_gather a.runs.now f.new.runs (length f.new.runs) a.d f.result h (λ b. rw f.auto.runs (c.requires.small b))

pub overflow_sub-key : goal.overflow_sub-key
overflow_sub-key c =
    let a = c.args in
    let f = c.hand_on-w in
    let g = c.gather in
    let h = all_handed a.runs.now f.new.runs (length f.new.runs) a.d f.result f.auto.runs refl c.requires.plain f.ensures in
    fits_lent a.runs.now f.new.runs (length f.new.runs) a.d f.result h g.new.runs (omega arith) (omega arith) g.auto.runs g.ensures

pub returns : goal.returns
returns c =
    let a = c.args in
    let f = c.hand_on-w in
    let g = c.gather in
    let h = all_handed a.runs.now f.new.runs (length f.new.runs) a.d f.result f.auto.runs refl c.requires.plain f.ensures in
    rw c.stand-2.ensures
    (started_as a.runs.now _ (length f.new.runs) (length a.runs.now) a.d _ f.auto.runs
    (begins_lent a.runs.now f.new.runs (length f.new.runs) a.d f.result h g.new.runs (omega arith) (omega arith) g.auto.runs g.ensures))
