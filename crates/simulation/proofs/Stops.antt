-- The desk stops: what is still owed falls with each delivery, and a round without one leaves every account that owes an
-- issue with none of it in its settlement account.
use mathlib.Core.Path.{◌≡◌, refl, sym, ap, subst, ◌∙◌}
use mathlib.Core.Bool.{false}
use mathlib.Core.List.{List, [], ◌∷◌, map}
use Prim.Native.Nat.{ℕ, zero, suc, ◌+◌, ◌-◌, ◌*◌, ◌/◌, ◌%◌, ◌≤◌, ◌<◌}
use native.Mathlib.Omega.{arith}
use lib.Dec.{eqb}
use lib.ListN.{length, get_or, set, length-set, get_or-map, replicate, length-replicate}
use lib.IntN.{ℤ, pos}
use borrow.Author.Tests.{eqb-true, eqb-false}
use Rattle.rules.specs.Measures.{total, sum, owed_of}
use Rattle.rules.specs.Fails.{undelivered}
use Rattle.rules.specs.Book.{cell, delivered_at}
use Rattle.laws.proofs.Basics.{by_test}
use Rattle.simulation.specs.Repeated.{left}
use Rattle.desks.specs.Desk.{Plan, Desk, Ended, inventory_at, settlement_of, still_owed, amount, delivers, turn, turns_from, round, rounds_of, opening, owed_lots, simulated}

-- a number set higher by x within its limit: what is left falls by x
left_set : (os ds : List ℕ) (k x : ℕ) → k < length ds → get_or ds k 0 + x ≤ get_or os k 0 →
    sum (undelivered os (set ds k (get_or ds k 0 + x))) + x ≡ sum (undelivered os ds)
left_set [] ds k x h le = omega arith
left_set (o ∷ os) [] k x h le = absurd (omega arith)
left_set (o ∷ os) (d ∷ ds) zero x h le = omega arith
left_set (o ∷ os) (d ∷ ds) (suc k) x h le = omega (arith, left_set os ds k x (omega arith) le)

-- a desk has a number of delivered lots for each issue and account
abbrev pub Whole : Desk → Type 0
Whole d = length d.delivered ≡ 1024

pub amount_le : (p : Plan) (d : Desk) (a i : ℕ) → amount p d a i ≤ still_owed p d a i
unfolding amount
amount_le p d a i = omega arith

-- a turn with nothing to deliver, and one with a delivery
pub turn_none : (p : Plan) (a i : ℕ) (d : Desk) → amount p d a i ≡ 0 → turn p a i d ≡ d
unfolding turn
turn_none p a i d e = rw e

pub turn_some : (p : Plan) (a i : ℕ) (d : Desk) → eqb (amount p d a i) 0 ≡ false → turn p a i d ≡ delivers p d a i (amount p d a i)
unfolding turn
turn_some p a i d e = rw e

delivers_made : (p : Plan) (d : Desk) (a i x : ℕ) → (delivers p d a i x).made ≡ suc d.made
unfolding delivers
delivers_made p d a i x = refl

delivers_whole : (p : Plan) (d : Desk) (a i x : ℕ) → Whole d → Whole (delivers p d a i x)
unfolding delivers
delivers_whole p d a i x w = length-set d.delivered (cell i a) (delivered_at d.delivered i a + x) ∙ w

delivers_left : (p : Plan) (d : Desk) (a i x : ℕ) → Whole d → a < 64 → i < 16 → 0 < x → x ≤ still_owed p d a i →
    left p (delivers p d a i x) + x ≡ left p d
unfolding delivers left
delivers_left p d a i x w ha hi h le =
    left_set (map owed_of p.nets) d.delivered (cell i a) x (omega arith)
    (omega (arith, get_or-map owed_of p.nets (cell i a) (pos 0)))

-- along a turn: the desk stays whole, deliveries never fall, and each takes one lot at least off what is still owed
pub record Goes (p : Plan) (d e : Desk) : Type 0 where
  pub whole : Whole e
  pub more : d.made ≤ e.made
  pub falls : left p e + e.made ≤ left p d + d.made

pub goes_turn : (p : Plan) (a i : ℕ) (d : Desk) → Whole d → a < 64 → i < 16 → Goes p d (turn p a i d)
goes_turn p a i d w ha hi =
    by_test (eqb (amount p d a i) 0)
    (λ e. rw (turn_none p a i d (eqb-true (amount p d a i) 0 e)) (record { whole = w; more = omega arith; falls = omega arith }))
    (λ e.
    let x = amount p d a i in
    let h : 0 < x = let n = eqb-false x 0 e in omega (arith, n) in
    rw (turn_some p a i d e)
    (record {
      whole = delivers_whole p d a i x w;
      more = omega (arith, delivers_made p d a i x);
      falls = omega (arith, delivers_made p d a i x, delivers_left p d a i x w ha hi h (amount_le p d a i));
    }))

goes_on : (p : Plan) (d e f : Desk) → Goes p d e → Goes p e f → Goes p d f
goes_on p d e f g h = record { whole = h.whole; more = omega (arith, g.more, h.more); falls = omega (arith, g.falls, h.falls) }

-- a turn of a round is one of an account and an issue
turn_account : (t : ℕ) → t < 1024 → t / 16 < 64
turn_account t h = omega arith

turn_issue : (t : ℕ) → t % 16 < 16
turn_issue t = omega arith

pub goes_turns : (p : Plan) (t n : ℕ) (d : Desk) → Whole d → t + n ≤ 1024 → Goes p d (turns_from p t n d)
goes_turns p t zero d w h = record { whole = w; more = omega arith; falls = omega arith }
goes_turns p t (suc n) d w h =
    let g = goes_turn p (t / 16) (t % 16) d w (turn_account t (omega arith)) (turn_issue t) in
    goes_on p d (turn p (t / 16) (t % 16) d) (turns_from p (suc t) n (turn p (t / 16) (t % 16) d)) g
    (goes_turns p (suc t) n (turn p (t / 16) (t % 16) d) g.whole (omega arith))

pub goes_round : (p : Plan) (d : Desk) → Whole d → Goes p d (round p d)
unfolding round
goes_round p d w = goes_turns p 0 1024 d w (omega arith)

-- turns without a delivery change nothing, and at each of them there was nothing to deliver
pub record Still (p : Plan) (t n : ℕ) (d : Desk) : Type 0 where
  pub same : turns_from p t n d ≡ d
  pub none : (k : ℕ) → t ≤ k → k < t + n → amount p d (k / 16) (k % 16) ≡ 0

still_first : (p : Plan) (t n : ℕ) (d : Desk) → amount p d (t / 16) (t % 16) ≡ 0 → Still p (suc t) n d → Still p t (suc n) d
still_first p t n d e s =
    record {
      same = ap (turns_from p (suc t) n) (turn_none p (t / 16) (t % 16) d e) ∙ s.same;
      none = λ k h l.
          by_test (eqb k t)
          (λ q. rw (eqb-true k t q) e)
          (λ q. s.none k (let ne = eqb-false k t q in omega (arith, ne)) (omega arith));
    }

pub still_turns : (p : Plan) (t n : ℕ) (d : Desk) → Whole d → t + n ≤ 1024 → (turns_from p t n d).made ≡ d.made → Still p t n d
still_turns p t zero d w h e = record { same = refl; none = λ k q l. absurd (omega arith) }
still_turns p t (suc n) d w h e =
    let a = t / 16 in
    let i = t % 16 in
    by_test (eqb (amount p d a i) 0)
    (λ q.
    let z = eqb-true (amount p d a i) 0 q in
    let u = turn_none p a i d z in
    still_first p t n d z (still_turns p (suc t) n d w (omega arith) (sym (ap (λ f. (turns_from p (suc t) n f).made) u) ∙ e)))
    (λ q.
    let f = turn p a i d in
    let g = goes_turn p a i d w (turn_account t (omega arith)) (turn_issue t) in
    let m : f.made ≡ suc d.made = ap (λ r. r.made) (turn_some p a i d q) ∙ delivers_made p d a i (amount p d a i) in
    absurd (omega (arith, (goes_turns p (suc t) n f g.whole (omega arith)).more)))

-- no account that still owes an issue has any of it in its settlement account
abbrev pub Stuck : Plan → Desk → Type 0
Stuck p d = (a i : ℕ) → a < 64 → i < 16 → amount p d a i ≡ 0

pub still_round : (p : Plan) (d : Desk) → Whole d → (round p d).made ≡ d.made → (round p d ≡ d) × Stuck p d
unfolding round
still_round p d w e =
    let s = still_turns p 0 1024 d w (omega arith) e in (
      s.same,
      λ a i ha hi.
          let k = a * 16 + i in
          let q : k / 16 ≡ a = omega arith in
          let r : k % 16 ≡ i = omega arith in
          sym (ap (λ b. amount p d b (k % 16)) q ∙ ap (λ j. amount p d a j) r) ∙ s.none k (omega arith) (omega arith),
    )

-- with more rounds than lots still owed: it has stopped, no account can deliver, another round would change nothing; and how
-- many rounds and deliveries there were at most
pub record Stopped (p : Plan) (d : Desk) (r : Ended) : Type 0 where
  pub stuck : Stuck p r.desk
  pub same : round p r.desk ≡ r.desk
  pub few : r.rounds ≤ suc (left p d)
  pub made : left p r.desk + r.desk.made ≤ left p d + d.made

pub stops : (p : Plan) (n : ℕ) (d : Desk) → Whole d → left p d < n → Stopped p d (rounds_of n p d)
stops p zero d w h = absurd (omega arith)
stops p (suc n) d w h =
    let e = round p d in
    let g = goes_round p d w in
    by_test (eqb e.made d.made)
    (λ q.
    let s = still_round p d w (eqb-true e.made d.made q) in
    simp q
    (record {
      stuck = subst (λ f. Stuck p f) (sym s.0) s.1;
      same = ap (round p) s.0;
      few = omega arith;
      made = g.falls;
    }))
    (λ q.
    let ne = eqb-false e.made d.made q in
    let s = stops p n e g.whole (omega (arith, g.more, g.falls, ne)) in
    simp q
    (record {
      stuck = s.stuck;
      same = s.same;
      few = omega (arith, s.few, g.more, g.falls, ne);
      made = omega (arith, s.made, g.falls);
    }))

left_opening : (os : List ℕ) (n : ℕ) → sum (undelivered os (replicate n 0)) ≤ sum os
left_opening [] n = omega arith
left_opening (o ∷ os) zero = omega arith
left_opening (o ∷ os) (suc n) = omega (arith, left_opening os n)

owed_sum : (nets : List ℤ) → sum (map owed_of nets) ≡ total owed_of nets
owed_sum [] = refl
owed_sum (n ∷ ns) = ap (λ s. owed_of n + s) (owed_sum ns)

pub left_owed : (p : Plan) (inventories : List ℕ) → left p (opening inventories) ≤ owed_lots p.nets
unfolding owed_lots left
left_owed p inventories = omega (arith, left_opening (map owed_of p.nets) 1024, owed_sum p.nets)

pub simulated_stops : (p : Plan) (inventories : List ℕ) → Stopped p (opening inventories) (simulated p inventories)
unfolding simulated owed_lots left
simulated_stops p inventories =
    stops p (suc (total owed_of p.nets)) (opening inventories) (let z : ℕ = 0 in length-replicate 1024 z)
    (omega (arith, left_opening (map owed_of p.nets) 1024, owed_sum p.nets))

-- an account that still owes an issue has none of it in its settlement account
pub none_left : (p : Plan) (inventories : List ℕ) (a i : ℕ) → a < 64 → i < 16 →
    0 < still_owed p (simulated p inventories).desk a i →
    inventory_at (simulated p inventories).desk.inventories i (settlement_of p a) ≡ 0
unfolding amount
none_left p inventories a i ha hi h = omega (arith, (simulated_stops p inventories).stuck a i ha hi)

-- with at least one round, and at most one more than there are lots owed; deliveries are at most the lots owed
pub simulated_few : (p : Plan) (inventories : List ℕ) →
    ((simulated p inventories).rounds ≤ suc (owed_lots p.nets)) × ((simulated p inventories).desk.made ≤ owed_lots p.nets)
unfolding owed_lots left
simulated_few p inventories =
    let s = simulated_stops p inventories in
    let l = left_opening (map owed_of p.nets) 1024 in
    let o = owed_sum p.nets in
    (omega (arith, s.few, l, o), omega (arith, s.made, l, o))
