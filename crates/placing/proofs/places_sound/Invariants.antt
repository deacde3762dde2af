-- The flag and the tests of the places that are left are those of all places.
use Rattle.std.proofs.Common.{◌≡◌, ◌&&◌, ◌+◌, ◌*◌, ◌-◌, get_or, drop}
use Rattle.rules.specs.Book.{places_in, places_sound}
use Rattle.placing.proofs.LiftLaws.{rest_of_places}
use Rattle.placing.proofs.places_sound.Given as goal

abbrev pub invariant-loop-k : goal.invariant-loop-k
invariant-loop-k l =
    l.good && rest_of_places l.words l.number l.handed l.least (get_or l.words 0 0 - l.k) (2 * l.k + 2)
    ≡ places_sound l.number l.handed 0 (places_in (get_or l.words 0 0) (drop 2 l.words))
