use Rattle.std.proofs.Common.{◌≡◌, ℕ, ◌+◌, ◌-◌, ◌*◌, ◌≤◌, length}
use Rattle.cutoff.proofs.Going.{entries_from}
use Rattle.cutoff.proofs.has_room.Given as goal

-- what is counted behind the old entries and the entries of the issues from i on are all, whatever the day
abbrev pub invariant-loop-i : goal.invariant-loop-i
invariant-loop-i l =
    (l.n ≤ 2048 + 126 * l.i)
    × ((today : ℕ) → l.n + length (entries_from l.dealt today l.nets l.delivered l.lifts l.i (16 - l.i)) ≡ l.old + length (entries_from l.dealt today l.nets l.delivered l.lifts 0 16))
