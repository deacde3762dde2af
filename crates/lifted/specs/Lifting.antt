-- A lift among runs.
use Rattle.std.specs.Prelude.{◌≡◌, List, ◌++◌, ℕ, suc, ◌+◌, ◌*◌, ◌/◌, ◌≤◌, ◌<◌, length, take, drop, get_or}
use Rattle.rules.specs.Measures.{Every}
use Rattle.rules.specs.Lifts.{Among, lift_of, lift as liftUnits, lifted}
use Rattle.rules.specs.Book.{places_in}
use Rattle.handover.specs.declared.Seat.{Seat}
use Rattle.runs.specs.Runs.{part_of, units_of_run, units_in, Plain, PlainIn}

-- n runs in which there is a unit k
pub record HasUnit (runs : List ℕ) (n k : ℕ) : Type 0 where
  pub held : n ≤ length runs
  pub there : k < length (units_in runs n)

-- unit k stands in this run, behind so many of its units
pub record UnitAt (runs : List ℕ) (n k : ℕ) (r : Seat) : Type 0 where
  pub below : r.run < n
  pub within : r.passed * 100000 < get_or runs r.run 0 / 64
  pub place : k ≡ length (units_in runs r.run) + r.passed

pub record TakenOut (before after : List ℕ) (n k r : ℕ) : Type 0 where
  pub rest : units_in after n ≡ take k (units_in before n) ++ drop (suc k) (units_in before n)
  pub unit : units_of_run (part_of r) ≡ take 1 (drop k (units_in before n))
  pub plain : PlainIn before n → PlainIn after n
  pub one : Plain (part_of r)

pub record CanPut (runs : List ℕ) (n k : ℕ) : Type 0 where
  pub held : n + 2 ≤ length runs
  pub there : k < length (units_in runs n)

pub record PutIn (before after : List ℕ) (n k word : ℕ) : Type 0 where
  pub units : units_in after (n + 2) ≡ take k (units_in before n) ++ (units_of_run (part_of word) ++ drop k (units_in before n))
  pub plain : Plain (part_of word) → PlainIn before n → PlainIn after (n + 2)

pub record CanLift (runs : List ℕ) (n old new : ℕ) : Type 0 where
  pub held : n + 2 ≤ length runs
  pub back : new ≤ old
  pub there : old < length (units_in runs n)

pub record LiftedIs (before after : List ℕ) (n old new r : ℕ) : Type 0 where
  pub few : r ≤ n + 2
  pub units : units_in after r ≡ liftUnits (lift_of old new) (units_in before n)
  pub plain : PlainIn before n → PlainIn after r

-- an issue's words of lifts, and n runs among whose units their places are
pub record CanLiftAll (words runs : List ℕ) (n : ℕ) : Type 0 where
  pub whole : length words ≡ 18
  pub few : get_or words 0 0 ≤ 8
  pub held : n + 16 ≤ length runs
  pub places : Every (Among (length (units_in runs n))) (places_in (get_or words 0 0) (drop 2 words))

pub record AllLifted (words before after : List ℕ) (n r : ℕ) : Type 0 where
  pub few : r ≤ n + 2 * get_or words 0 0
  pub units : units_in after r ≡ lifted (places_in (get_or words 0 0) (drop 2 words)) (units_in before n)
  pub plain : PlainIn before n → PlainIn after r
