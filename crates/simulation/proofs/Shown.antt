-- Of every call that is not refused: it has stopped, within so many rounds and deliveries, no account that still owes an
-- issue has any of it, and no lots were made or lost.
use mathlib.Core.Path.{◌≡◌, refl, ap}
use mathlib.Core.Bool.{Bool, true, false, ◌&&◌}
use mathlib.Core.List.{List, [], ◌∷◌}
use Prim.Native.Nat.{ℕ, zero, suc, ◌≤◌, ◌<◌}
use native.Mathlib.Omega.{arith}
use lib.Dec.{leb, eqb}
use lib.ListN.{length, get_or}
use lib.IntN.{ℤ}
use borrow.Author.Tests.{leb-true, eqb-true}
use Rattle.rules.specs.Measures.{Every, unit_lots, most_lots, between}
use Rattle.rules.specs.Book.{all}
use Rattle.rules.specs.Questions.{ask, first_no}
use Rattle.laws.proofs.Basics.{and_left, and_right, each_map}
use Rattle.laws.proofs.Sound.{all_each, each_get_or}
use Rattle.desks.specs.Desk.{Plan, plan, Ended, inventory_at, settlement_of, still_owed, round, owed_lots, simulated}
use Rattle.desks.specs.Simulation.{Tried, outcome, tried_answer, simulation_asks, simulation_where}
use Rattle.simulation.proofs.Stops.{none_left, simulated_stops, simulated_few}
use Rattle.simulation.proofs.Keeps.{LotsKept, lots_kept}

all_yes : (g l x : Bool) → first_no (ask 2 g ∷ ask 5 l ∷ ask 7 x ∷ []) ≡ 0 → (g ≡ true) × (l ≡ true) × (x ≡ true)
all_yes false l x e = absurd (omega arith)
all_yes true false x e = absurd (omega arith)
all_yes true true false e = absurd (omega arith)
all_yes true true true e = (refl, refl, refl)

-- nothing is refused
pub record Accepted (good : Bool) (settles inventories : List ℕ) (size : ℕ) : Type 0 where
  pub sound : good ≡ true
  pub accounts : length settles ≡ 64
  pub settled : (a : ℕ) → get_or settles a 0 < 16
  pub stocks : length inventories ≡ 256
  pub held : Every (λ x. x ≤ most_lots) inventories
  pub some : 1 ≤ size

pub accepted : (good : Bool) (ss vs : List ℕ) (size : ℕ) → first_no (simulation_asks good ss vs size) ≡ 0 → Accepted good ss vs size
accepted good ss vs size e =
    let l5 = eqb (length ss) 64 in
    let a5 = all (λ s. leb s 15) ss in
    let z7 = between 1 unit_lots size in
    let l7 = eqb (length vs) 256 in
    let a7 = all (λ x. leb x most_lots) vs in
    let y = all_yes good (l5 && a5) (z7 && l7 && a7) e in
    let q = and_left (z7 && l7) a7 y.2 in
    let settled = each_map (λ s. leb s 15 ≡ true) (λ s. s < 16) (λ s h. omega (arith, leb-true s 15 h)) ss (all_each (λ s. leb s 15) ss (and_right l5 a5 y.1)) in
    record {
      sound = y.0;
      accounts = eqb-true (length ss) 64 (and_left l5 a5 y.1);
      settled = λ a. each_get_or (λ s. s < 16) ss a 0 settled (omega arith);
      stocks = eqb-true (length vs) 256 (and_right z7 l7 q);
      held = each_map (λ x. leb x most_lots ≡ true) (λ x. x ≤ most_lots) (λ x h. leb-true x most_lots h) vs (all_each (λ x. leb x most_lots) vs (and_right (z7 && l7) a7 y.2));
      some = leb-true 1 size (and_left (leb 1 size) (leb size unit_lots) (and_left z7 l7 q));
    }

pub record Shown (p : Plan) (st : (a : ℕ) → settlement_of p a < 16) (v : List ℕ) (e : Ended) : Type 0 where
  -- another round would change nothing
  pub stays : round p e.desk ≡ e.desk
  pub rounds : e.rounds ≤ suc (owed_lots p.nets)
  pub deliveries : e.desk.made ≤ owed_lots p.nets
  pub none : (a i : ℕ) → a < 64 → i < 16 → 0 < still_owed p e.desk a i → inventory_at e.desk.inventories i (settlement_of p a) ≡ 0
  pub lots : (i : ℕ) → i < 16 → LotsKept p st v i e.desk

-- what a call that is not refused answers, and what is so of it
pub record Answered (nets : List ℤ) (settles v : List ℕ) (size : ℕ) (t : Tried) : Type 0 where
  pub settled : (a : ℕ) → get_or settles a 0 < 16
  pub answer : t ≡ outcome (plan nets settles size) (simulated (plan nets settles size) v)
  pub shown : Shown (plan nets settles size) settled v (simulated (plan nets settles size) v)

answer_zero : (k : ℕ) (t : Tried) → (tried_answer k t).refusal ≡ 0 → k ≡ 0
answer_zero zero t e = refl
answer_zero (suc k) t e = absurd (omega arith)

pub simulation_shown : (good : Bool) (nets : List ℤ) (ss vs : List ℕ) (size : ℕ) → (simulation_where good nets ss vs size).refusal ≡ 0 →
    Answered nets ss vs size (simulation_where good nets ss vs size)
unfolding simulation_where
simulation_shown good nets ss vs size e =
    let p = plan nets ss size in
    let t = outcome p (simulated p vs) in
    let k = first_no (simulation_asks good ss vs size) in
    let z : k ≡ 0 = answer_zero k t e in
    let c = accepted good ss vs size z in
    let few = simulated_few p vs in
    record {
      settled = c.settled;
      answer = ap (λ n. tried_answer n t) z;
      shown = record {
        stays = (simulated_stops p vs).same;
        rounds = few.0;
        deliveries = few.1;
        none = none_left p vs;
        lots = lots_kept p c.settled vs c.stocks;
      };
    }
