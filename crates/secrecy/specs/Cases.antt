-- The place of 27 in the questions of the status and of the simulation, as one list with one proof. The cases of the calls on
-- lists are in `rules` (AccessCases), those on whole books in `days`.
use Rattle.std.specs.Prelude.{refl, true, false, List, [], ◌∷◌, ℕ, replicate}
use Rattle.rules.specs.declared.Phase.TheVariants.{Taking, Settling}
use Rattle.rules.specs.Questions.{ask, first_no}
use Rattle.rules.specs.Access.{with_right}
use Rattle.rules.specs.AccessCases.{numbers_of}
use Rattle.rules.specs.Days.{units_p5, Case, case, Holds}
use Rattle.told.specs.Status.{status_asks}
use Rattle.desks.specs.Simulation.{simulation_asks}

abbrev pub access_cases : List Case
access_cases =
    -- each call's own order of 27
    case (numbers_of (with_right false (ask 2 true ∷ status_asks Settling (λ i. units_p5) 0 8))) (2 ∷ 3 ∷ 4 ∷ 27 ∷ 16 ∷ [])
    ∷ case (numbers_of (with_right false (simulation_asks true [] [] 0))) (2 ∷ 5 ∷ 27 ∷ 7 ∷ [])
    -- a missing unit is the operator's to hear of
    ∷ case
    (first_no (with_right false (status_asks Taking (λ i. units_p5) 16 8)) ∷ first_no (with_right false (status_asks Settling (λ i. units_p5) 16 8))
    ∷ first_no (with_right false (status_asks Settling (λ i. units_p5) 0 8)) ∷ first_no (with_right true (status_asks Settling (λ i. units_p5) 0 8)) ∷ [])
    (3 ∷ 4 ∷ 27 ∷ 16 ∷ [])
    -- settlement accounts out of range, then 27, then sizes
    ∷ case
    (first_no (with_right false (simulation_asks true (16 ∷ replicate 63 0) [] 0)) ∷ first_no (with_right false (simulation_asks true (replicate 64 0) [] 0))
    ∷ first_no (with_right true (simulation_asks true (replicate 64 0) [] 0)) ∷ [])
    (5 ∷ 27 ∷ 7 ∷ [])
    ∷ []

pub cases_settled : Holds access_cases
cases_settled = (refl, (refl, (refl, (refl, tt))))
