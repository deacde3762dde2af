-- The end of a desk, whatever the fuel; after a round, and after a leap.
use mathlib.Core.Path.{◌≡◌, refl, sym, ap, subst, ◌∙◌}
use mathlib.Core.Bool.{true}
use mathlib.Core.List.{List}
use Prim.Native.Nat.{ℕ, zero, suc, ◌+◌, ◌-◌, ◌/◌, ◌%◌, ◌≤◌, ◌<◌}
use native.Mathlib.Omega.{arith}
use lib.Dec.{eqb}
use lib.ListN.{length}
use borrow.Author.Tests.{eqb-false, eq-eqb}
use Rattle.rules.specs.Book.{within_owed, cell, delivered_at}
use Rattle.laws.proofs.Basics.{by_test}
use Rattle.laws.proofs.Cells.{within_set}
use Rattle.laws.proofs.Sound.{within_at}
use Rattle.simulation.specs.Repeated.{left, ending, later}
use Rattle.desks.specs.Desk.{Plan, Desk, ended, one_round_more, settlement_of, amount, turn, turns_from, round, rounds_of, opening, owed_lots, simulated}
use Rattle.simulation.proofs.Stops.{Whole, goes_round, amount_le, left_owed}
use Rattle.simulation.proofs.Leaps.{shift, Repeats, round_again, leap, rounds_on, turn_column, shift_shift}
use Rattle.simulation.proofs.Keeps.{kept_turn, lots_of}

pub fuel : (n m : ℕ) (p : Plan) (d : Desk) → Whole d → left p d < n → left p d < m → rounds_of n p d ≡ rounds_of m p d
fuel zero m p d w h k = absurd (omega arith)
fuel (suc n) zero p d w h k = absurd (omega arith)
fuel (suc n) (suc m) p d w h k =
    let e = round p d in
    let g = goes_round p d w in
    by_test (eqb e.made d.made)
    (λ q. simp q refl)
    (λ q.
    let ne = eqb-false e.made d.made q in
    simp q (ap one_round_more (fuel n m p e g.whole (omega (arith, g.more, g.falls, ne)) (omega (arith, g.more, g.falls, ne)))))

pub ending_last : (p : Plan) (d : Desk) → (round p d).made ≡ d.made → ending p d ≡ ended (round p d) 1
unfolding ending
ending_last p d e = simp (eq-eqb (round p d).made d.made e) refl

pub ending_more : (p : Plan) (d : Desk) → Whole d → ((round p d).made ≡ d.made → ⊥) → ending p d ≡ one_round_more (ending p (round p d))
unfolding ending
ending_more p d w ne =
    let g = goes_round p d w in
    rounds_on (left p d) p d (round p d) refl ne
    ∙ ap one_round_more (fuel (left p d) (suc (left p (round p d))) p (round p d) g.whole (omega (arith, g.more, g.falls, ne)) (omega arith))

pub simulated_ending : (p : Plan) (v : List ℕ) → Whole (opening v) → simulated p v ≡ ending p (opening v)
unfolding simulated ending
simulated_ending p v w = fuel (suc (owed_lots p.nets)) (suc (left p (opening v))) p (opening v) w (omega (arith, left_owed p v)) (omega arith)

-- What every desk of the run has: delivered lots within what is owed, and an issue's lots as at the start
module _ (p : Plan) (st : (a : ℕ) → settlement_of p a < 16) where
  pub record Fine (d : Desk) : Type 0 where
    pub whole : Whole d
    pub nets : length p.nets ≡ 1024
    pub stocks : length d.inventories ≡ 256
    pub owed : within_owed p.nets d.delivered ≡ true
    pub lots : (j : ℕ) → j < 16 → lots_of p st d j ≤ 320000000

  fine_turn : (a i : ℕ) (d : Desk) → Fine d → a < 64 → i < 16 → Fine (turn p a i d)
  fine_turn a i d f ha hi =
      let k = kept_turn p st a i d f.whole f.stocks ha hi in
      record {
        whole = k.whole;
        nets = f.nets;
        stocks = k.stocks;
        owed = ap (within_owed p.nets) (turn_column p a i d)
            ∙ within_set p.nets d.delivered (cell i a) (delivered_at d.delivered i a + amount p d a i) f.owed
            (omega (arith, amount_le p d a i, within_at p.nets d.delivered (cell i a) (f.nets ∙ sym f.whole) f.owed));
        lots = λ j h. omega (arith, k.lots j h, f.lots j h);
      }

  fine_turns : (t n : ℕ) (d : Desk) → Fine d → t + n ≤ 1024 → Fine (turns_from p t n d)
  fine_turns t zero d f h = f
  fine_turns t (suc n) d f h =
      fine_turns (suc t) n (turn p (t / 16) (t % 16) d) (fine_turn (t / 16) (t % 16) d f (omega arith) (omega arith)) (omega arith)

  pub fine_round : (d : Desk) → Fine d → Fine (round p d)
  unfolding round
  fine_round d f = fine_turns 0 1024 d f (omega arith)

  -- and after a leap
  pub record Leapt (d e : Desk) : Type 0 where
    pub fine : Fine e
    pub more : d.made ≤ e.made
    pub falls : left p e + e.made ≤ left p d + d.made

  leapt_on : (k : ℕ) (d : Desk) (f : Fine d) (r : Repeats p k d) (j : ℕ) → j ≤ k → Leapt (round p d) (shift (suc j) r.xs r.made d)
  leapt_on k d f r zero h =
      subst (Leapt (round p d)) r.after (record { fine = fine_round d f; more = omega arith; falls = omega arith })
  leapt_on k d f r (suc j) h =
      let s = shift (suc j) r.xs r.made d in
      let l = leapt_on k d f r j (omega arith) in
      let g = goes_round p s l.fine.whole in
      subst (Leapt (round p d)) (round_again p k d f.whole r (suc j) h)
      (record { fine = fine_round s l.fine; more = omega (arith, l.more, g.more); falls = omega (arith, l.falls, g.falls) })

  pub leapt : (k : ℕ) (d : Desk) → Fine d → (r : Repeats p k d) → Leapt (round p d) (shift k r.xs r.made (round p d))
  leapt k d f r =
      subst (Leapt (round p d)) (sym (shift_shift k r.xs r.made d) ∙ ap (shift k r.xs r.made) (sym r.after))
      (leapt_on k d f r k (omega arith))

  pub ending_leap : (k : ℕ) (d : Desk) → Fine d → (r : Repeats p k d) →
      ending p (round p d) ≡ later k (ending p (shift k r.xs r.made (round p d)))
  unfolding ending
  ending_leap k d f r =
      let e = round p d in
      let s = shift k r.xs r.made e in
      let l = leapt k d f r in
      let n = suc (left p e) in
      fuel (suc (left p e)) (k + n) p e (fine_round d f).whole (omega arith) (omega arith)
      ∙ leap p k d f.whole r n
      ∙ ap (later k) (fuel n (suc (left p s)) p s l.fine.whole (omega (arith, l.falls, l.more)) (omega arith))
