-- Where every settlement account holds at least what its accounts owe of an issue, all of it is delivered and handed over in
-- the first round; and where that is so of every issue, the second round is the one without a delivery.
use mathlib.Core.Path.{◌≡◌, refl, sym, ap, subst, ◌∙◌}
use mathlib.Core.Bool.{true}
use mathlib.Core.List.{List, [], ◌∷◌}
use Prim.Native.Nat.{ℕ, zero, suc, ◌+◌, ◌-◌, ◌*◌, ◌/◌, ◌%◌, ◌≤◌, ◌<◌}
use native.Mathlib.Omega.{arith}
use native.Mathlib.Nat.{div-add-mod'}
use lib.Dec.{eqb}
use lib.ListN.{length, get_or, set, take, replicate, length-replicate}
use lib.Seq.{get_or-set_same, get_or-set_other, take_all}
use borrow.Author.Tests.{eqb-true, eqb-false, eq-eqb}
use Rattle.rules.specs.Measures.{sum}
use Rattle.rules.specs.Units.{AccountLots, account_lots, by_account, sum_lots, largest_first, fulls, smalls, units}
use Rattle.rules.specs.Handover.{handed, handovers}
use Rattle.rules.specs.Fails.{undelivered}
use Rattle.rules.specs.Book.{balanced, block, row, cell, delivered_at, delivered_total, dues_of, obligations_of}
use Rattle.laws.proofs.Basics.{by_test, total_append, total_replicate, total_put, total_sort, sum_parts}
use Rattle.laws.proofs.Units.{small_part, total_smalls}
use Rattle.laws.proofs.Fails.{get_or_shorts}
use Rattle.laws.proofs.Cutoff.{balance_sum}
use Rattle.laws.proofs.Cells.{get_or_block, block_other, get_or_row, length_row, row_same, row_other, owed_at, length_oweds}
use Rattle.desks.specs.Desk.{Plan, Desk, units_at, inventory_at, settlement_of, still_owed, amount, joined, delivers, turn, turns_from, round, Ended, rounds_of, opening, owed_lots, simulated}
use Rattle.simulation.specs.Shared.{shared_by, shared_owed, Holds}
use Rattle.simulation.proofs.Stops.{Whole, amount_le, goes_round, turn_none, turn_some}
use Rattle.simulation.proofs.Keeps.{kept_turn, other_joined}
use Rattle.simulation.proofs.Leaps.{covered_whole, turn_at, turn_own, turns_past}

-- Numbers of the accounts of a settlement account

shared_one : (s : ℕ) (ts xs : List ℕ) (k : ℕ) → k < length ts → get_or ts k 0 ≡ s → get_or xs k 0 ≤ shared_by s ts xs
shared_one s [] xs k h e = absurd (omega arith)
shared_one s (t ∷ ts) [] k h e = omega arith
shared_one s (t ∷ ts) (x ∷ xs) zero h e = simp (eq-eqb t s e) (omega arith)
shared_one s (t ∷ ts) (x ∷ xs) (suc k) h e = omega (arith, shared_one s ts xs k (omega arith) e)

-- a number set higher by x within its limit: what its settlement account's accounts owe falls by x
shared_own : (s : ℕ) (ts os ds : List ℕ) (k x : ℕ) → k < length ts → k < length ds → get_or ds k 0 + x ≤ get_or os k 0 → get_or ts k 0 ≡ s →
    shared_by s ts (undelivered os (set ds k (get_or ds k 0 + x))) + x ≡ shared_by s ts (undelivered os ds)
shared_own s [] os ds k x h g le e = absurd (omega arith)
shared_own s (t ∷ ts) [] ds k x h g le e = omega arith
shared_own s (t ∷ ts) (o ∷ os) [] k x h g le e = absurd (omega arith)
shared_own s (t ∷ ts) (o ∷ os) (d ∷ ds) zero x h g le e = simp (eq-eqb t s e) (omega arith)
shared_own s (t ∷ ts) (o ∷ os) (d ∷ ds) (suc k) x h g le e = omega (arith, shared_own s ts os ds k x (omega arith) (omega arith) le e)

-- and of none does it rise
shared_falls : (s : ℕ) (ts os ds : List ℕ) (k x : ℕ) →
    shared_by s ts (undelivered os (set ds k (get_or ds k 0 + x))) ≤ shared_by s ts (undelivered os ds)
shared_falls s [] os ds k x = omega arith
shared_falls s (t ∷ ts) [] ds k x = omega arith
shared_falls s (t ∷ ts) (o ∷ os) [] k x = omega arith
shared_falls s (t ∷ ts) (o ∷ os) (d ∷ ds) zero x = by_test (eqb t s) (λ e. simp e (omega arith)) (λ e. simp e (omega arith))
shared_falls s (t ∷ ts) (o ∷ os) (d ∷ ds) (suc k) x = omega (arith, shared_falls s ts os ds k x)

-- Inventories never fall by what is handed

set_grows : (v : List ℕ) (k y c : ℕ) → get_or v k 0 ≤ y → get_or v c 0 ≤ get_or (set v k y) c 0
set_grows [] k y c h = omega arith
set_grows (x ∷ xs) zero y zero h = h
set_grows (x ∷ xs) zero y (suc c) h = omega arith
set_grows (x ∷ xs) (suc k) y zero h = omega arith
set_grows (x ∷ xs) (suc k) y (suc c) h = set_grows xs k y c h

joined_grows : (p : Plan) (i : ℕ) (us : List AccountLots) (v : List ℕ) (c : ℕ) → get_or v c 0 ≤ get_or (joined p i us v) c 0
joined_grows p i [] v c = omega arith
joined_grows p i (u ∷ us) v c =
    let k = i * 16 + settlement_of p u.account in
    let y = get_or v k 0 + u.lots in
    omega (arith, set_grows v k y c (omega arith), joined_grows p i us (set v k y) c)

sum_le : (os ds : List ℕ) → length os ≡ length ds → ((k : ℕ) → k < length os → get_or os k 0 ≤ get_or ds k 0) → sum os ≤ sum ds
sum_le [] ds l h = omega arith
sum_le (o ∷ os) [] l h = absurd (omega arith)
sum_le (o ∷ os) (d ∷ ds) l h = omega (arith, h 0 (omega arith), sum_le os ds (omega arith) (λ k q. h (suc k) (omega arith)))

-- units of any size have the lots that are due
abbrev lots_in : AccountLots → ℕ
lots_in u = u.lots

parts_sum : (size : ℕ) (rs : List AccountLots) → sum_lots (fulls size rs) + sum_lots (smalls size rs) ≡ sum_lots rs
parts_sum size [] = refl
parts_sum size (r ∷ rs) =
    let u = account_lots r.account size in
    omega (
      arith,
      total_append lots_in (replicate (r.lots / size) u) (fulls size rs),
      total_replicate lots_in (r.lots / size) u,
      total_put lots_in r.account (r.lots % size) (smalls size rs) refl,
      div-add-mod' r.lots size,
      parts_sum size rs,
    )

units_sum : (size : ℕ) (dues : List ℕ) → sum_lots (units size dues) ≡ sum dues
unfolding units
units_sum size dues =
    let rs = by_account 0 dues in
    let ss = largest_first rs in
    omega (
      arith,
      total_append lots_in (fulls size ss) (largest_first (smalls size rs)),
      total_sort lots_in (smalls size rs),
      total_sort lots_in rs,
      parts_sum size ss,
      total_smalls size lots_in (λ a. refl) ss,
      total_smalls size lots_in (λ a. refl) rs,
      total_sort (small_part size lots_in) rs,
      sum_parts 0 dues,
    )

-- 64 settlement accounts of netting accounts, each at most 15
module _ (p : Plan) (st : (a : ℕ) → settlement_of p a < 16) (n : length p.nets ≡ 1024) (l : length p.settles ≡ 64) where
  -- what an account owes is in its settlement account
  owed_held : (a i : ℕ) (d : Desk) → Whole d → a < 64 → i < 16 → Holds p d i → still_owed p d a i ≤ inventory_at d.inventories i (settlement_of p a)
  unfolding shared_owed
  owed_held a i d w ha hi h =
      let s = settlement_of p a in
      let xs = undelivered (obligations_of p.nets i) (row i d.delivered) in
      omega (
        arith,
        h s (st a),
        shared_one s p.settles xs a (omega arith) refl,
        get_or_shorts (obligations_of p.nets i) (row i d.delivered) a (length_oweds p.nets i n hi ∙ sym (length_row d.delivered i w hi)),
        owed_at p.nets i a ha,
        get_or_row d.delivered i a 0 ha,
      )

  amount_all : (a i : ℕ) (d : Desk) → Whole d → a < 64 → i < 16 → Holds p d i → amount p d a i ≡ still_owed p d a i
  unfolding amount
  amount_all a i d w ha hi h = omega (arith, owed_held a i d w ha hi h)

  -- a delivery of the issue
  holds_own : (a i x : ℕ) (d : Desk) → Whole d → length d.inventories ≡ 256 → a < 64 → i < 16 → x ≤ still_owed p d a i →
      0 < x → Holds p d i → Holds p (delivers p d a i x) i
  unfolding delivers shared_owed
  holds_own a i x d w v ha hi le q h s hs =
      let r = row i d.delivered in
      let os = obligations_of p.nets i in
      let g = get_or_row d.delivered i a 0 ha in
      let y = delivered_at d.delivered i a + x in
      let z : row i (set d.delivered (cell i a) y) ≡ set r a (get_or r a 0 + x) =
      row_same d.delivered i a y ha ∙ ap (λ m. set r a (m + x)) (sym g) in
      let e = ap (λ ds. shared_by s p.settles (undelivered os ds)) z in
      let k = i * 16 + settlement_of p a in
      let inv = d.inventories in
      let us = handovers (units_at p i) (delivered_total d.delivered i) x in
      let low = set inv k (get_or inv k 0 - x) in
      let up = joined_grows p i us low (i * 16 + s) in
      by_test (eqb (settlement_of p a) s)
      (λ t.
      let b = eqb-true (settlement_of p a) s t in
      let o = shared_own s p.settles os r a x (omega arith) (omega (arith, length_row d.delivered i w hi)) (omega (arith, g, owed_at p.nets i a ha)) b in
      omega (arith, e, o, h s hs, up, ap (λ m. get_or low (i * 16 + m) 0) b, ap (λ m. get_or inv (i * 16 + m) 0) b, get_or-set_same inv k (get_or inv k 0 - x) 0 (let c = st a in omega (arith, c))))
      (λ t.
      let b = eqb-false (settlement_of p a) s t in
      omega (
        arith,
        e,
        shared_falls s p.settles os r a x,
        h s hs,
        up,
        get_or-set_other inv k (i * 16 + s) (get_or inv k 0 - x) 0 (λ c. b (let f = st a in omega (arith, c))),
      ))

  -- and one of another issue
  holds_other : (a j i x : ℕ) (d : Desk) → a < 64 → (i ≡ j → ⊥) → Holds p d i → Holds p (delivers p d a j x) i
  unfolding delivers shared_owed
  holds_other a j i x d ha ne h s hs =
      let k = j * 16 + settlement_of p a in
      let inv = d.inventories in
      let us = handovers (units_at p j) (delivered_total d.delivered j) x in
      let y = delivered_at d.delivered j a + x in
      let low = set inv k (get_or inv k 0 - x) in
      let b : block 16 i (joined p j us low) ≡ block 16 i inv =
      other_joined p st j i us low ne ∙ block_other 16 inv j (settlement_of p a) i (get_or inv k 0 - x) (st a) ne in
      omega (
        arith,
        h s hs,
        ap (λ ds. shared_by s p.settles (undelivered (obligations_of p.nets i) ds)) (row_other d.delivered j a i y ha ne),
        ap (λ c. get_or c s 0) b,
        get_or_block 16 (joined p j us low) i s 0 hs,
        get_or_block 16 inv i s 0 hs,
      )

  holds_turn : (a j i : ℕ) (d : Desk) → Whole d → length d.inventories ≡ 256 → a < 64 → j < 16 → Holds p d i → Holds p (turn p a j d) i
  holds_turn a j i d w v ha hj h =
      by_test (eqb (amount p d a j) 0)
      (λ e. subst (λ f. Holds p f i) (sym (turn_none p a j d (eqb-true (amount p d a j) 0 e))) h)
      (λ e.
      let x = amount p d a j in
      let some : 0 < x = let c = eqb-false x 0 e in omega (arith, c) in
      subst (λ f. Holds p f i) (sym (turn_some p a j d e))
      (by_test (eqb i j)
      (λ t.
      let q = eqb-true i j t in
      subst (λ m. Holds p (delivers p d a j x) m) (sym q)
      (holds_own a j x d w v ha hj (amount_le p d a j) some (subst (λ m. Holds p d m) q h)))
      (λ t. holds_other a j i x d ha (eqb-false i j t) h)))

  -- the turns of a round, one after the other: each account of the issue delivers all that it owes
  all_delivered : (i t m : ℕ) (d : Desk) → Whole d → length d.inventories ≡ 256 → t + m ≤ 1024 → Holds p d i →
      (k : ℕ) → t ≤ k → k < t + m → k % 16 ≡ i → still_owed p (turns_from p t m d) (k / 16) (k % 16) ≡ 0
  all_delivered i t zero d w v h g k a b q = absurd (omega arith)
  all_delivered i t (suc m) d w v h g k a b q =
      let e = turn_at p t d in
      let kept = kept_turn p st (t / 16) (t % 16) d w v (omega arith) (omega arith) in
      by_test (eqb k t)
      (λ c.
      let r = eqb-true k t c in
      let hold : Holds p d (t % 16) = subst (λ z. Holds p d z) (sym (ap (λ z. z % 16) (sym r) ∙ q)) g in
      let all = amount_all (t / 16) (t % 16) d w (omega arith) (omega arith) hold in
      let own = turn_own p t d w (omega arith) in
      let past = turns_past p t (suc t) m e (omega arith) (omega arith) in
      let done : still_owed p (turns_from p (suc t) m e) (t / 16) (t % 16) ≡ 0 = omega (arith, all, own, past) in
      ap (λ z. still_owed p (turns_from p (suc t) m e) (z / 16) (z % 16)) r ∙ done)
      (λ c.
      let ne = eqb-false k t c in
      all_delivered i (suc t) m e kept.whole kept.stocks (omega arith)
      (holds_turn (t / 16) (t % 16) i d w v (omega arith) (omega arith) g) k (omega (arith, ne)) (omega arith) q)

  -- after the first round no account owes any of the issue
  pub first_delivers : (v : List ℕ) → length v ≡ 256 → (i : ℕ) → i < 16 → Holds p (opening v) i →
      (a : ℕ) → a < 64 → still_owed p (round p (opening v)) a i ≡ 0
  unfolding round
  first_delivers v lv i hi h a ha =
      let k = a * 16 + i in
      let q : k / 16 ≡ a = omega arith in
      let r : k % 16 ≡ i = omega arith in
      let e = turns_from p 0 1024 (opening v) in
      let z : ℕ = 0 in
      sym (ap (λ b. still_owed p e b (k % 16)) q ∙ ap (λ j. still_owed p e a j) r)
      ∙ all_delivered i 0 1024 (opening v) (length-replicate 1024 z) lv (omega arith) h k (omega arith) (omega arith) r

  -- and all its units are handed over
  pub first_hands : (v : List ℕ) → length v ≡ 256 → (i : ℕ) → i < 16 → balanced (row i p.nets) ≡ true → Holds p (opening v) i →
      handed (units_at p i) (delivered_total (round p (opening v)).delivered i) ≡ units_at p i
  first_hands v lv i hi b h =
      let us = units_at p i in
      let ds = (round p (opening v)).delivered in
      let z : ℕ = 0 in
      let w : length ds ≡ 1024 = (goes_round p (opening v) (length-replicate 1024 z)).whole in
      let os = obligations_of p.nets i in
      let ln : length os ≡ 64 = length_oweds p.nets i n hi in
      let ge : sum os ≤ delivered_total ds i =
      sum_le os (row i ds) (ln ∙ sym (length_row ds i w hi))
      (λ a q. let ha : a < 64 = omega (arith, ln) in omega (arith, first_delivers v lv i hi h a ha, owed_at p.nets i a ha, get_or_row ds i a 0 ha)) in
      let all : sum_lots us ≤ delivered_total ds i = omega (arith, ge, balance_sum (row i p.nets) b, units_sum p.size (dues_of p.nets i)) in
      ap (λ m. take m us) (covered_whole us (delivered_total ds i) all) ∙ take_all (length us) us (omega arith)

-- turns with nothing to deliver
turns_none : (p : Plan) (t m : ℕ) (d : Desk) → t + m ≤ 1024 → ((a i : ℕ) → a < 64 → i < 16 → amount p d a i ≡ 0) → turns_from p t m d ≡ d
turns_none p t zero d h g = refl
turns_none p t (suc m) d h g =
    ap (turns_from p (suc t) m) (turn_none p (t / 16) (t % 16) d (g (t / 16) (t % 16) (omega arith) (omega arith)))
    ∙ turns_none p (suc t) m d (omega arith) g

-- a desk that the second round leaves as it is
pub record Ends (p : Plan) (d : Desk) (r : Ended) : Type 0 where
  pub few : r.rounds ≤ 2
  pub desk : r.desk ≡ round p d

two_rounds : (n : ℕ) (p : Plan) (d : Desk) → round p (round p d) ≡ round p d → Ends p d (rounds_of (suc n) p d)
two_rounds n p d e =
    by_test (eqb (round p d).made d.made)
    (λ q. simp q (record { few = omega arith; desk = refl }))
    (λ q. simp q (second n))
  where
    second : (m : ℕ) → Ends p d (record { desk = (rounds_of m p (round p d)).desk; rounds = suc (rounds_of m p (round p d)).rounds })
    second zero = record { few = omega arith; desk = refl }
    second (suc m) =
        simp (eq-eqb (round p (round p d)).made (round p d).made (ap (λ f. f.made) e)) (record { few = omega arith; desk = e })

-- every settlement account holds what its accounts owe, of every issue: at most two rounds, the second without a delivery
pub first_ends : (p : Plan) → ((a : ℕ) → settlement_of p a < 16) → length p.nets ≡ 1024 → length p.settles ≡ 64 → (v : List ℕ) → length v ≡ 256 →
    ((i : ℕ) → i < 16 → Holds p (opening v) i) → Ends p (opening v) (simulated p v)
unfolding simulated round amount
first_ends p st n l v lv h =
    let e = round p (opening v) in
    two_rounds (owed_lots p.nets) p (opening v)
    (turns_none p 0 1024 e (omega arith) (λ a i ha hi. omega (arith, first_delivers p st n l v lv i hi (h i hi) a ha)))
