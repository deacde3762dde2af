-- Each place is tested.
use Rattle.std.proofs.Common.{rules, ◌≡◌, ℕ, ◌≤◌, ◌<◌, length, get_or, true}
use mathlib.Core.Logic.{◌↔◌}
use Rattle.apportioning.proofs.Lists.{each_most}
use Rattle.funds.proofs.small.Goals as goal

pub returns : goal.returns
returns c =
    let xs = c.args.column.now in
    let each : (c.all.result ≡ true) ↔ ((k : ℕ) → k < length xs → get_or xs k 0 ≤ 1000000) = search rules in
    each_most 1000000 xs c.all.result each
