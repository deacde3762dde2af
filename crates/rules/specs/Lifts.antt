-- Lifts (001, 1(2)): a unit settled first where parties wait for each other; the order as lifted so far.
use Rattle.std.specs.Prelude.{List, [], ◌∷◌, ◌++◌, ℕ, suc, ◌-◌, ◌≤◌, ◌<◌, take, drop}
use Rattle.rules.specs.Units.{AccountLots}

-- the book keeps each as old and new place
pub record Lift : Type 0 where
  pub old : ℕ
  pub new : ℕ

abbrev pub lift_of : ℕ → ℕ → Lift
lift_of o n = record { old = o; new = n }

-- its old place is that of one of so many units, and the new one is not behind it
pub record Among (number : ℕ) (l : Lift) : Type 0 where
  pub back : l.new ≤ l.old
  pub there : l.old < number

-- the k-th of some units comes before all others of them
abbrev pub to_front : ℕ → List AccountLots → List AccountLots
to_front k us = take 1 (drop k us) ++ (take k us ++ drop (suc k) us)

-- the unit at the old place moves before all units from the new place on
unfoldable pub lift : Lift → List AccountLots → List AccountLots
lift l us = take l.new us ++ to_front (l.old - l.new) (drop l.new us)

-- one lift after the other, each of the order as lifted before it
abbrev pub lifted : List Lift → List AccountLots → List AccountLots
lifted [] us = us
lifted (l ∷ ls) us = lifted ls (lift l us)
