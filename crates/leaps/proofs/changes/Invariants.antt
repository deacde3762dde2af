-- The places so far have what was delivered.
use Rattle.std.proofs.Common.{◌≡◌, ℕ, ◌-◌, ◌<◌, get_or}
use Rattle.leaps.proofs.changes.Given as goal

abbrev pub invariant-loop-c : goal.invariant-loop-c
invariant-loop-c l = (b : ℕ) → b < l.c → get_or l.xs b 0 ≡ get_or l.after b 0 - get_or l.before b 0
