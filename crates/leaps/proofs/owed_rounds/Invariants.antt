-- So many rounds more have room in the cells so far.
use Rattle.std.proofs.Common.{ℕ, ◌-◌, ◌*◌, ◌<◌, ◌≤◌, get_or}
use lib.IntN.{pos}
use Rattle.rules.specs.Measures.{owed_of}
use Rattle.leaps.proofs.owed_rounds.Given as goal

abbrev pub invariant-loop-c : goal.invariant-loop-c
invariant-loop-c l = record {
  most : l.k ≤ 20000000;
  room : (b : ℕ) → b < l.c → l.k * get_or l.xs b 0 ≤ owed_of (get_or l.nets b (pos 0)) - get_or l.delivered b 0;
}
