-- The places so far have risen, the others are as they were.
use Rattle.std.proofs.Common.{◌≡◌, ℕ, ◌+◌, ◌*◌, ◌<◌, ◌≤◌, get_or}
use Rattle.leaps.proofs.advance.Given as goal

abbrev pub invariant-loop-c : goal.invariant-loop-c
invariant-loop-c l = record {
  risen : (b : ℕ) → b < l.c → get_or l.delivered b 0 ≡ get_or l.initial.delivered b 0 + l.k * get_or l.xs b 0;
  rest : (b : ℕ) → l.c ≤ b → get_or l.delivered b 0 ≡ get_or l.initial.delivered b 0;
}
