-- Either a word is passed, or the unit stands in it.
use Rattle.std.proofs.Common.{rules, ◌≡◌, refl, sym, ap, arith, suc, take, ◌+◌, ◌/◌, ◌<◌}
use lib.ListN.{get_or}
use Rattle.rules.specs.Units.{sum_lots}
use Rattle.runs.specs.Runs.{units_of_runs}
use Rattle.runs.proofs.Words.{words_end}
use Rattle.status.proofs.UpTo.{sum_next, up_next, up_last}
use Rattle.status.proofs.lots_up_to.Goals as goal
use Rattle.status.proofs.lots_up_to.Goals.{In-loop-run}

-- what is summed up to a word, and that word, are at most all units
fits_run : (c : In-loop-run) → c.loop-run.sum + get_or c.args.runs.now c.loop-run.run-index 0 / 64 < 4294967296
fits_run c = omega (arith, c.requires, c.loop-run.invariant.all, sum_next c.args.runs.now c.loop-run.run-index (search rules))

pub overflow_add-result : goal.overflow_add-result
overflow_add-result c = record { fits = omega (arith, c.min.ensures, fits_run (goal.at.overflow_add-result c).In-loop-run) }

pub returns-then-left-c : goal.returns-then-left-c
returns-then-left-c c =
    sym (omega (arith, c.min.ensures, c.loop-run.invariant.up_to, up_last c.args.runs.now c.loop-run.run-index (search rules) c.loop-run.left (omega arith)))

pub overflow_add-sum : goal.overflow_add-sum
overflow_add-sum c = record { fits = fits_run (goal.at.overflow_add-sum c).In-loop-run }

pub loop-run-preserved : goal.loop-run-preserved
loop-run-preserved c =
    let a = c.args in
    let l = c.loop-run in
    record {
      left = omega arith;
      all = omega (arith, l.invariant.all, sum_next a.runs.now l.run-index (search rules));
      up_to = omega (arith, l.invariant.up_to, up_next a.runs.now l.run-index (search rules) l.left ((get_or a.runs.now l.run-index 0 / 64 + 99999) / 100000) refl c.if-left-c.false);
    }

pub returns : goal.returns
returns c =
    omega (arith, c.loop-run.invariant.up_to, ap (λ us. sum_lots (take (suc c.loop-run.left) (units_of_runs us))) (words_end c.args.runs.now c.loop-run.run-index (search rules)))
