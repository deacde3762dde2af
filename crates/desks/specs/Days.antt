-- Worked desks: three accounts in a ring that jams at one size of units and runs free at another, and what is refused.
use Rattle.std.specs.Prelude.{refl, true, false, List, [], ◌∷◌, ◌++◌, ℕ, replicate, ℤ, pos, negsuc}
use Rattle.rules.specs.Units.{units}
use Rattle.rules.specs.Handover.{handovers}
use Rattle.rules.specs.Days.{Case, case, Holds}
use Rattle.desks.specs.Desk.{amount, delivers, turn, round, owed_lots, simulated, owed_of_each}
use Rattle.desks.specs.Simulation.{Tried, tried, refused, simulation_where}

-- account 0 owes 100,000 lots, of which 1 is due 60,000 and 2 is due 40,000; all three share settlement account 0, so that
-- what 1 and 2 are handed is what 0 can deliver
abbrev pub ring : List ℤ
ring = negsuc 99999 ∷ pos 60000 ∷ pos 40000 ∷ replicate 1021 (pos 0)

abbrev pub one_for_all : List ℕ
one_for_all = replicate 64 0

-- 50,000 lots of issue 0 are in it
abbrev pub half : List ℕ
half = 50000 ∷ replicate 255 0

unfoldable pub ring_at : ℕ → Tried
ring_at size = simulation_where true ring one_for_all half size

-- of issue 0 so many lots still owed
abbrev pub leaves : ℕ → List ℕ
leaves x = x ∷ replicate 15 0

abbrev pub ring_days : List Case
ring_days =
    -- 50,000 lots do not cover the unit of 60,000: all wait for it
    case (ring_at 100000) (tried 0 1 2 (leaves 50000))
    -- five units of 10,000 are handed to account 1, and account 0 delivers them a second time
    ∷ case (ring_at 10000) (tried 0 2 3 (leaves 0))
    ∷ []

-- account 0 owes 10 and has them; 1, which is due 15, shares settlement account 1 with 2, which owes 5 and has none: it
-- delivers in the same round what 1 was just handed
unfoldable pub passed_on : Tried
passed_on =
    simulation_where true (negsuc 9 ∷ pos 15 ∷ negsuc 4 ∷ replicate 1021 (pos 0)) (0 ∷ 1 ∷ 1 ∷ replicate 61 0) (10 ∷ replicate 255 0) 5

abbrev pub passed_days : List Case
passed_days = case passed_on (tried 0 2 2 (leaves 0)) ∷ []

abbrev pub refused_days : List Case
refused_days =
    case (simulation_where false ring one_for_all half 10000) (refused 2)
    ∷ case (simulation_where true ring (replicate 63 0) half 10000) (refused 5)
    ∷ case (simulation_where true ring (16 ∷ replicate 63 0) half 0) (refused 5)
    ∷ case (simulation_where true ring one_for_all half 0) (refused 7)
    ∷ case (simulation_where true ring one_for_all half 100001) (refused 7)
    ∷ case (simulation_where true ring one_for_all (replicate 255 0) 10000) (refused 7)
    ∷ case (simulation_where true ring one_for_all (20000001 ∷ replicate 255 0) 10000) (refused 7)
    ∷ []

unfoldable pub worked_desks : List Case
worked_desks = ring_days ++ passed_days ++ refused_days

-- each by computing what the definitions give
pub worked : Holds worked_desks
unfolding worked_desks ring_at passed_on simulation_where simulated owed_lots owed_of_each units handovers amount delivers turn round
worked = (refl, (refl, (refl, (refl, (refl, (refl, (refl, (refl, (refl, (refl, tt))))))))))
