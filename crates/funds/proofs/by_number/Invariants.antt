-- The shares of the first k numbers are written, and the other places are as they came.
use Rattle.std.proofs.Common.{◌≡◌, ◌++◌, length, take, drop}
use Rattle.contributions.specs.Funds.{numbered}
use Rattle.funds.proofs.by_number.Given as goal

abbrev pub invariant-loop-k : goal.invariant-loop-k
invariant-loop-k l =
    let places = take (length l.order) l.fn.out in
    (length l.place-items ≡ length places) × (l.place-items ≡ take l.k (numbered l.order l.given) ++ drop l.k places)
