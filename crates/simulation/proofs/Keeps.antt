-- Lots are neither made nor lost: an issue's inventories and the house's stock of it are together what they were.
use mathlib.Core.Path.{◌≡◌, refl, sym, ap, subst, ◌∙◌}
use mathlib.Core.List.{List, [], ◌∷◌}
use Prim.Native.Nat.{ℕ, zero, suc, ◌+◌, ◌-◌, ◌*◌, ◌/◌, ◌%◌, ◌≤◌, ◌<◌}
use native.Mathlib.Omega.{arith}
use lib.Dec.{eqb}
use lib.ListN.{length, get_or, set, length-set, length-replicate}
use borrow.Author.Tests.{eqb-true, eqb-false}
use Rattle.rules.specs.Measures.{sum}
use Rattle.rules.specs.Units.{AccountLots, sum_lots}
use Rattle.rules.specs.Handover.{stock, handed, handovers}
use Rattle.rules.specs.Book.{block, cell, delivered_at, delivered_total}
use Rattle.laws.proofs.Basics.{by_test}
use Rattle.laws.proofs.Handover.{handed_stock, handovers_sum}
use Rattle.laws.proofs.Cells.{block_same, block_other, get_or_block, length_block, total_set, delivered_rises, row_other, row_zeros}
use Rattle.desks.specs.Desk.{Plan, Desk, units_at, settlement_of, inventory_at, amount, joined, delivers, turn, turns_from, round, rounds_of, opening, owed_lots, simulated}
use Rattle.simulation.proofs.Stops.{Whole, turn_none, turn_some}

-- the inventories of an issue
abbrev pub held : List ℕ → ℕ → ℕ
held v i = sum (block 16 i v)

held_set : (v : List ℕ) (i s y : ℕ) → length v ≡ 256 → i < 16 → s < 16 → held (set v (i * 16 + s) y) i + get_or v (i * 16 + s) 0 ≡ held v i + y
held_set v i s y l hi hs =
    omega (
      arith,
      ap sum (block_same 16 v i s y hs),
      total_set (λ n. n) (block 16 i v) s y 0 (omega (arith, length_block 16 v i (omega arith))),
      get_or_block 16 v i s 0 hs,
    )

-- what is handed joins it
module _ (p : Plan) (st : (a : ℕ) → settlement_of p a < 16) where
  held_joined : (i : ℕ) (us : List AccountLots) (v : List ℕ) → length v ≡ 256 → i < 16 → held (joined p i us v) i ≡ held v i + sum_lots us
  held_joined i [] v l hi = omega arith
  held_joined i (u ∷ us) v l hi =
      let s = settlement_of p u.account in
      let y = get_or v (i * 16 + s) 0 + u.lots in
      omega (
        arith,
        held_joined i us (set v (i * 16 + s) y) (length-set v (i * 16 + s) y ∙ l) hi,
        held_set v i s y l hi (st u.account),
      )

  pub other_joined : (i j : ℕ) (us : List AccountLots) (v : List ℕ) → (j ≡ i → ⊥) → block 16 j (joined p i us v) ≡ block 16 j v
  other_joined i j [] v ne = refl
  other_joined i j (u ∷ us) v ne =
      let s = settlement_of p u.account in
      let y = get_or v (i * 16 + s) 0 + u.lots in
      other_joined i j us (set v (i * 16 + s) y) ne ∙ block_other 16 v i s j y (st u.account) ne

  length_joined : (i : ℕ) (us : List AccountLots) (v : List ℕ) → length (joined p i us v) ≡ length v
  length_joined i [] v = refl
  length_joined i (u ∷ us) v =
      let k = i * 16 + settlement_of p u.account in
      length_joined i us (set v k (get_or v k 0 + u.lots)) ∙ length-set v k (get_or v k 0 + u.lots)

  -- an issue's lots: its inventories and the house's stock
  abbrev pub lots_of : Desk → ℕ → ℕ
  lots_of d i = held d.inventories i + stock (units_at p i) (delivered_total d.delivered i)

  pub record Kept (d e : Desk) : Type 0 where
    pub whole : Whole e
    pub stocks : length e.inventories ≡ 256
    pub lots : (j : ℕ) → j < 16 → lots_of e j ≡ lots_of d j

  kept_delivers : (a i x : ℕ) (d : Desk) → Whole d → length d.inventories ≡ 256 → a < 64 → i < 16 →
      x ≤ inventory_at d.inventories i (settlement_of p a) → Kept d (delivers p d a i x)
  unfolding delivers
  kept_delivers a i x d w l ha hi h =
      let v = d.inventories in
      let s = settlement_of p a in
      let k = i * 16 + s in
      let v₁ = set v k (get_or v k 0 - x) in
      let t = delivered_total d.delivered i in
      let us = handovers (units_at p i) t x in
      let l₁ : length v₁ ≡ 256 = length-set v k (get_or v k 0 - x) ∙ l in
      let y = delivered_at d.delivered i a + x in
      record {
        whole = length-set d.delivered (cell i a) y ∙ w;
        stocks = length_joined i us v₁ ∙ l₁;
        lots = λ j hj.
            by_test (eqb j i)
            (λ e.
            let q = eqb-true j i e in
            subst (λ n. held (joined p i us v₁) n + stock (units_at p n) (delivered_total (set d.delivered (cell i a) y) n) ≡ lots_of d n) (sym q)
            (omega (
              arith,
              held_joined i us v₁ l₁ hi,
              held_set v i s (get_or v k 0 - x) l hi (st a),
              handovers_sum (units_at p i) t x,
              ap (stock (units_at p i)) (delivered_rises d.delivered i a x w hi ha),
            )))
            (λ e.
            let ne = eqb-false j i e in
            omega (
              arith,
              ap sum (other_joined i j us v₁ ne ∙ block_other 16 v i s j (get_or v k 0 - x) (st a) ne),
              ap (λ r. stock (units_at p j) (sum r)) (row_other d.delivered i a j y ha ne),
            ));
      }

  amount_held : (a i : ℕ) (d : Desk) → amount p d a i ≤ inventory_at d.inventories i (settlement_of p a)
  unfolding amount
  amount_held a i d = omega arith

  pub kept_turn : (a i : ℕ) (d : Desk) → Whole d → length d.inventories ≡ 256 → a < 64 → i < 16 → Kept d (turn p a i d)
  kept_turn a i d w l ha hi =
      by_test (eqb (amount p d a i) 0)
      (λ e. subst (Kept d) (sym (turn_none p a i d (eqb-true (amount p d a i) 0 e))) (record { whole = w; stocks = l; lots = λ j h. refl }))
      (λ e. subst (Kept d) (sym (turn_some p a i d e)) (kept_delivers a i (amount p d a i) d w l ha hi (amount_held a i d)))

  kept_on : (d e f : Desk) → Kept d e → Kept e f → Kept d f
  kept_on d e f g h = record { whole = h.whole; stocks = h.stocks; lots = λ j k. h.lots j k ∙ g.lots j k }

  pub kept_turns : (t n : ℕ) (d : Desk) → Whole d → length d.inventories ≡ 256 → t + n ≤ 1024 → Kept d (turns_from p t n d)
  kept_turns t zero d w l h = record { whole = w; stocks = l; lots = λ j k. refl }
  kept_turns t (suc n) d w l h =
      let e = turn p (t / 16) (t % 16) d in
      let g = kept_turn (t / 16) (t % 16) d w l (omega arith) (omega arith) in
      kept_on d e (turns_from p (suc t) n e) g (kept_turns (suc t) n e g.whole g.stocks (omega arith))

  pub kept_round : (d : Desk) → Whole d → length d.inventories ≡ 256 → Kept d (round p d)
  unfolding round
  kept_round d w l = kept_turns 0 1024 d w l (omega arith)

  pub kept_rounds : (n : ℕ) (d : Desk) → Whole d → length d.inventories ≡ 256 → Kept d (rounds_of n p d).desk
  kept_rounds zero d w l = record { whole = w; stocks = l; lots = λ j k. refl }
  kept_rounds (suc n) d w l =
      let e = round p d in
      let g = kept_round d w l in
      by_test (eqb e.made d.made)
      (λ q. simp q g)
      (λ q. simp q (kept_on d e (rounds_of n p e).desk g (kept_rounds n e g.whole g.stocks)))

  -- from the opening on: what lies in inventories at the end and what the house holds are what lay in inventories; and what
  -- was delivered is handed over or held by the house
  pub record LotsKept (v : List ℕ) (i : ℕ) (e : Desk) : Type 0 where
    pub kept : held e.inventories i + stock (units_at p i) (delivered_total e.delivered i) ≡ held v i
    pub parts : sum_lots (handed (units_at p i) (delivered_total e.delivered i)) + stock (units_at p i) (delivered_total e.delivered i)
        ≡ delivered_total e.delivered i

  pub lots_kept : (v : List ℕ) → length v ≡ 256 → (i : ℕ) → i < 16 → LotsKept v i (simulated p v).desk
  unfolding simulated
  lots_kept v l i h =
      let us = units_at p i in
      let o = opening v in
      let e = (simulated p v).desk in
      let k = (kept_rounds (suc (owed_lots p.nets)) o (let z : ℕ = 0 in length-replicate 1024 z) l).lots i h in
      record {
        kept = omega (arith, k, ap (stock us) (row_zeros i 1024), handed_stock us 0);
        parts = handed_stock us (delivered_total e.delivered i);
      }
