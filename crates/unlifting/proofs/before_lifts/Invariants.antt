-- So far back as the lifts from j on, the places are those of the span.
use Rattle.std.proofs.Common.{◌≡◌, ℕ, ◌+◌, ◌≤◌, ◌<◌, get_or, drop}
use Rattle.rules.specs.Book.{places_in}
use Rattle.unlifting.specs.Unlifting.{place_of}
use Rattle.unlifting.proofs.before_lifts.Given as goal

abbrev pub invariant-loop-j : goal.invariant-loop-j
invariant-loop-j l =
    (1 ≤ l.s.len)
    × ((t : ℕ) → t < l.s.len → place_of (drop l.j (places_in (get_or l.words 0 0) (drop 2 l.words))) (l.k + t) ≡ l.s.base + t)
