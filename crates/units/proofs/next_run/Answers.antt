-- From a run that lacks nothing the cursor goes on to the first that lacks something.
use mathlib.Core.Path.{◌≡◌, refl, ◌∙◌}
use mathlib.Core.List.{◌∷◌, map}
use native.Mathlib.Omega.{arith}
use borrow.Author.Rules.{rules}
use lib.ListN.{drop}
use Rattle.rules.specs.Units.{account_lots, by_account}
use Rattle.runs.specs.Runs.{part_of}
use Rattle.units.proofs.Steps.{front_run, run_none, run_some, run_end}
use Rattle.units.proofs.next_run.Goals as goal

pub returns-then-runs-run-ge-ACCOUNTS : goal.returns-then-runs-run-ge-ACCOUNTS
returns-then-runs-run-ge-ACCOUNTS c =
    let k = c.args.c in
    let l = c.loop-run in
    let rs = c.args.runs.now in
    let z : k.lack ≡ 0 = omega arith in
    record {
      same = λ missing.
          let ss = account_lots k.from k.short ∷ by_account k.account (drop k.account missing) in
          front_run (map part_of rs) k z missing ∙ l.invariant ss ∙ run_some ss rs l.run (search rules);
      some = omega arith;
      short = refl;
      range = record { from = c.requires.from; to = omega arith; short = c.requires.short };
    }

pub loop-run-preserved : goal.loop-run-preserved
loop-run-preserved c =
    let l = c.loop-run in
    λ ss. l.invariant ss ∙ run_none ss c.args.runs.now l.run (search rules) (omega arith)

pub returns : goal.returns
returns c =
    let k = c.args.c in
    let l = c.loop-run in
    let rs = c.args.runs.now in
    let z : k.lack ≡ 0 = omega arith in
    λ missing.
    let ss = account_lots k.from k.short ∷ by_account k.account (drop k.account missing) in
    front_run (map part_of rs) k z missing ∙ l.invariant ss ∙ run_end ss rs l.run (search rules)
