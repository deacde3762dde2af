-- Each number is tested, and they pass together.
use Rattle.std.proofs.Common.{rules, ◌≤◌, leb, leb-true, le-leb, refl}
use Rattle.std.specs.Bool.{Decides}
use Rattle.std.specs.List.{All}
use Rattle.std.proofs.lemmas.Bool.Decides.{same_from_decides, Decides-by_and}
use Rattle.rules.specs.Book.{all}
use Rattle.sizes.proofs.asks.at_most.Goals as goal

pub returns : goal.returns
returns c =
    let xs = c.args.xs.now in
    let most = c.args.most in
    let each : Decides c.all.result (All (λ x. x ≤ most) xs) = search rules in
    same_from_decides c.all.result (all (λ x. leb x most) xs) each
    (Decides-by_and (λ x. leb x most) (λ x. x ≤ most) (all (λ x. leb x most)) (λ x. (leb-true x most, le-leb x most)) refl (λ _ _. refl) xs)
