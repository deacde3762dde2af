-- The lifts that are left, from the runs as they are, give what all give from the first ones.
use Rattle.std.proofs.Common.{◌≡◌, ◌+◌, ◌-◌, ◌*◌, ◌≤◌, length, drop, get_or}
use Rattle.rules.specs.Lifts.{Among, lifted}
use Rattle.rules.specs.Book.{places_in}
use Rattle.laws.proofs.Basics.{Every}
use Rattle.runs.specs.Runs.{units_in, PlainIn}
use Rattle.lifted.proofs.lift_all.Given as goal

abbrev pub invariant-loop-i : goal.invariant-loop-i
invariant-loop-i l =
    (length l.runs ≡ length l.fn.runs) × (l.r ≤ l.n + 2 * l.i)
    × (lifted (places_in (get_or l.words 0 0) (drop 2 l.words)) (units_in l.fn.runs l.n)
    ≡ lifted (places_in (get_or l.words 0 0 - l.i) (drop (2 * l.i + 2) l.words)) (units_in l.runs l.r))
    × Every (Among (length (units_in l.runs l.r))) (places_in (get_or l.words 0 0 - l.i) (drop (2 * l.i + 2) l.words))
    × (PlainIn l.fn.runs l.n → PlainIn l.runs l.r)
