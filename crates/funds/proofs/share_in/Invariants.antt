-- What is looked for in the whole is what is looked for in the rest.
use Rattle.std.proofs.Common.{◌≡◌, drop}
use Rattle.contributions.specs.Funds.{share_in}
use Rattle.funds.proofs.share_in.Given as goal

abbrev pub invariant-loop-i : goal.invariant-loop-i
invariant-loop-i l = share_in (drop l.i l.order) (drop l.i l.given) l.k ≡ share_in l.order l.given l.k
