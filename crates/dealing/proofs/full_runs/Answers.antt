-- The first run without a full unit, or one more with one.
use native.Mathlib.Omega.{arith}
use borrow.Author.Rules.{rules}
use Rattle.dealing.proofs.Fulls.{number_full, number_small}
use Rattle.dealing.proofs.full_runs.Goals as goal

pub returns-then-run-lt-UNIT_WORD : goal.returns-then-run-lt-UNIT_WORD
returns-then-run-lt-UNIT_WORD c =
    let l = c.loop-m in
    omega (arith, l.invariant, number_small c.args.runs.now l.m (search rules) (search rules))

pub loop-m-preserved : goal.loop-m-preserved
loop-m-preserved c =
    let l = c.loop-m in
    omega (arith, l.invariant, number_full c.args.runs.now l.m (search rules) (search rules))
