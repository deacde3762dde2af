-- The shortfalls from this account on are those from the start.
use Rattle.std.proofs.Common.{◌≡◌, drop}
use Rattle.rules.specs.Units.{by_account}
use Rattle.units.proofs.next_short.Given as goal

abbrev pub invariant-loop-account : goal.invariant-loop-account
invariant-loop-account l =
    by_account l.fn.c.account (drop l.fn.c.account l.missing) ≡ by_account l.account (drop l.account l.missing)
