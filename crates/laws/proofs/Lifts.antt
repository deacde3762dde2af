-- A lift changes no sum and nothing that each unit has, whatever its places, so an order stays an order. Where the
-- place is that of the first unit not handed, what is handed stays in front, and at most one unit more is handed.
use mathlib.Core.Path.{◌≡◌, refl, sym, ap, ◌∙◌}
use mathlib.Core.List.{List, [], ◌∷◌, ◌++◌, append-nil}
use Prim.Native.Nat.{ℕ, zero, suc, ◌+◌, ◌-◌, ◌≤◌, ◌<◌}
use native.Mathlib.Omega.{arith}
use lib.Dec.{leb}
use lib.ListN.{length, get_or, take, drop, length-take}
use lib.Seq.{take-add, get_or-take, take-append-add}
use borrow.Author.Tests.{lt-leb}
use Rattle.rules.specs.Measures.{total, unit_lots}
use Rattle.rules.specs.Units.{AccountLots, sum_lots, of_account}
use Rattle.rules.specs.Handover.{covered, stock, handed, waiting, first_unit, handed_from}
use Rattle.rules.specs.Lifts.{Lift, lift_of, to_front, lift, lifted}
use Rattle.laws.proofs.Basics.{by_test, Every, count_one, total_append, total_split, each_append, each_take, each_drop}
use Rattle.laws.proofs.Units.{UnitSized, Order, of_small, is_of}
use Rattle.laws.proofs.Handover.{covered_past, handed_length, handed_stock, stock_below}

-- Sums

total_front : (f : AccountLots → ℕ) (k : ℕ) (us : List AccountLots) → total f (to_front k us) ≡ total f us
total_front f k us =
    omega (
      arith,
      total_append f (take 1 (drop k us)) (take k us ++ drop (suc k) us),
      total_append f (take k us) (drop (suc k) us),
      total_split f k us,
      total_split f 1 (drop k us),
      ap (total f) (rest k us),
    )
  where
    rest : (k : ℕ) (us : List AccountLots) → drop 1 (drop k us) ≡ drop (suc k) us
    rest zero us = refl
    rest (suc k) [] = refl
    rest (suc k) (u ∷ us) = rest k us

pub total_lift : (f : AccountLots → ℕ) (l : Lift) (us : List AccountLots) → total f (lift l us) ≡ total f us
unfolding lift
total_lift f l us =
    omega (
      arith,
      total_append f (take l.new us) (to_front (l.old - l.new) (drop l.new us)),
      total_front f (l.old - l.new) (drop l.new us),
      total_split f l.new us,
    )

-- the units are as many
pub length_lift : (l : Lift) (us : List AccountLots) → length (lift l us) ≡ length us
length_lift l us = sym (count_one (lift l us)) ∙ total_lift (λ u. 1) l us ∙ count_one us

pub length_lifted : (ls : List Lift) (us : List AccountLots) → length (lifted ls us) ≡ length us
length_lifted [] us = refl
length_lifted (l ∷ ls) us = length_lifted ls (lift l us) ∙ length_lift l us

-- what each unit has

each_front : (P : AccountLots → Type 0) (k : ℕ) (us : List AccountLots) → Every P us → Every P (to_front k us)
each_front P k us ps =
    each_append P (take 1 (drop k us)) (take k us ++ drop (suc k) us) (each_take P 1 (drop k us) (each_drop P k us ps))
    (each_append P (take k us) (drop (suc k) us) (each_take P k us ps) (each_drop P (suc k) us ps))

pub each_lift : (P : AccountLots → Type 0) (l : Lift) (us : List AccountLots) → Every P us → Every P (lift l us)
unfolding lift
each_lift P l us ps =
    each_append P (take l.new us) (to_front (l.old - l.new) (drop l.new us)) (each_take P l.new us ps)
    (each_front P (l.old - l.new) (drop l.new us) (each_drop P l.new us ps))

-- an order stays an order
pub lift_order : (dues : List ℕ) (l : Lift) (us : List AccountLots) → Order dues us → Order dues (lift l us)
lift_order dues l us o =
    record {
      sized = each_lift UnitSized l us o.sized;
      accounts = each_lift (λ u. u.account < length dues) l us o.accounts;
      due = λ a. total_lift (of_account a) l us ∙ o.due a;
      whole = total_lift (λ u. u.lots) l us ∙ o.whole;
      small = λ a. rw (total_lift (of_small unit_lots (is_of a)) l us) (o.small a);
    }

pub lifted_order : (dues : List ℕ) (ls : List Lift) (us : List AccountLots) → Order dues us → Order dues (lifted ls us)
lifted_order dues [] us o = o
lifted_order dues (l ∷ ls) us o = lifted_order dues ls (lift l us) (lift_order dues l us o)

-- What is handed

pub each_handed_from : (P : AccountLots → Type 0) (us : List AccountLots) (h d : ℕ) → Every P us → Every P (handed_from us h d)
each_handed_from P us h d ps = each_take P (covered us d - h) (drop h us) (each_drop P h us ps)

module _ (us : List AccountLots) (d k : ℕ) where
  abbrev vs : List AccountLots
  vs = to_front (k - covered us d) (waiting us d)

  abbrev us' : List AccountLots
  us' = lift (lift_of k (covered us d)) us

  splits : us' ≡ handed us d ++ vs
  unfolding lift
  splits = refl

  pub lift_covered : covered us' d ≡ covered us d + covered vs (stock us d)
  lift_covered =
      let e : d - sum_lots (handed us d) ≡ stock us d = omega (arith, handed_stock us d) in
      rw (splits, covered_past (handed us d) vs d (omega (arith, handed_stock us d)), e, handed_length us d)

  front : take (covered us d) us' ≡ handed us d
  front =
      let z : covered us d ≡ length (handed us d) + 0 = omega (arith, handed_length us d) in
      ap (λ m. take m us') z ∙ ap (take (length (handed us d) + 0)) splits ∙ take-append-add (handed us d) vs 0
      ∙ append-nil (handed us d)

  -- the units handed keep their places
  pub lift_stays : (j : ℕ) (p : AccountLots) → j < covered us d → get_or us' j p ≡ get_or us j p
  lift_stays j p h =
      sym (get_or-take (covered us d) us' j p h) ∙ ap (λ l. get_or l j p) front ∙ get_or-take (covered us d) us j p h

  -- what was handed stays, and units from there on join it
  pub lift_handed : handed us' d ≡ handed us d ++ handed_from us' (covered us d) d
  lift_handed =
      let e : covered us' d ≡ covered us d + (covered us' d - covered us d) = omega (arith, lift_covered) in
      ap (λ m. take m us') e ∙ take-add (covered us d) (covered us' d - covered us d) us'
      ∙ ap (λ l. l ++ take (covered us' d - covered us d) (drop (covered us d) us')) front

  -- the rest of the stock is below the next unit, so no second one is handed
  pub lift_one : d < sum_lots us → covered us d ≤ k → k < length us → covered us' d ≤ suc (covered us d)
  lift_one short h l = omega (arith, lift_covered, once (k - covered us d) (waiting us d) (stock us d) (stock_below us d short))
    where
      after : (k : ℕ) (ws : List AccountLots) (s x : ℕ) → s < (first_unit ws).lots → covered (take (suc k) ws ++ drop (suc (suc k)) ws) (s - x) ≡ 0
      after k [] s x h = absurd (omega arith)
      after k (w ∷ ws) s x h = rw (lt-leb w.lots (s - x) (omega arith))

      once : (k : ℕ) (ws : List AccountLots) (s : ℕ) → s < (first_unit ws).lots → covered (to_front k ws) s ≤ 1
      once k [] s h = absurd (omega arith)
      once zero (w ∷ ws) s h = rw (lt-leb w.lots s h) (omega arith)
      once (suc k) (w ∷ ws) s h = brought (drop k ws) (drop (suc k) ws) refl
        where
          brought : (vs rest : List AccountLots) → drop (suc k) ws ≡ rest → covered (take 1 vs ++ (w ∷ take k ws ++ rest)) s ≤ 1
          brought [] rest e = rw (lt-leb w.lots s h) (omega arith)
          brought (v ∷ vs) rest e =
              by_test (leb v.lots s)
              (λ t. simp (t, lt-leb w.lots (s - v.lots) (omega arith)) (omega arith))
              (λ t. simp t (omega arith))

  -- so at most one handover is written
  pub lift_few : d < sum_lots us → covered us d ≤ k → k < length us → length (handed_from us' (covered us d) d) ≤ 1
  lift_few short h l = rw length-take (omega (arith, lift_one short h l))
