-- From a shortfall of 0 lots the cursor goes on to the first that is not 0.
use mathlib.Core.Path.{◌≡◌, ap, ◌∙◌}
use mathlib.Core.List.{◌∷◌}
use native.Mathlib.Omega.{arith}
use borrow.Author.Rules.{rules}
use lib.ListN.{drop}
use Rattle.rules.specs.Units.{account_lots}
use Rattle.rules.specs.Fails.{overlaps}
use Rattle.units.proofs.Steps.{short_none, short_some, short_end, front_short}
use Rattle.units.proofs.next_short.Goals as goal

pub returns-then-missing-account-gt0 : goal.returns-then-missing-account-gt0
returns-then-missing-account-gt0 c =
    let k = c.args.c in
    let l = c.loop-account in
    let z : k.short ≡ 0 = omega arith in
    record {
      same = λ us.
          front_short c.args.missing.now k z us
          ∙ ap (λ ss. overlaps ss (account_lots k.to k.lack ∷ drop k.run us))
          (l.invariant ∙ short_some c.args.missing.now l.account (search rules) (search rules));
      some = search rules;
      range = record { from = omega (arith, c.requires.0.accounts); to = c.requires.1.to; short = c.requires.0.small l.account };
    }

pub loop-account-preserved : goal.loop-account-preserved
loop-account-preserved c =
    let l = c.loop-account in
    l.invariant ∙ short_none c.args.missing.now l.account (search rules) (omega arith)

pub returns : goal.returns
returns c =
    let k = c.args.c in
    let l = c.loop-account in
    let z : k.short ≡ 0 = omega arith in
    λ us.
    front_short c.args.missing.now k z us
    ∙ ap (λ ss. overlaps ss (account_lots k.to k.lack ∷ drop k.run us)) (l.invariant ∙ short_end c.args.missing.now l.account (search rules))
