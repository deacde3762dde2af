-- The four cases are a strict order of priorities, and leave only like units undecided. So of all arrangements of a list
-- of units no two are without a contradiction: where they first differ, neither unit ranks before the other.
use mathlib.Core.Path.{◌≡◌, refl, sym, ap, ◌∙◌}
use mathlib.Core.Bool.{true, false, false≢true}
use mathlib.Core.List.{List, [], ◌∷◌}
use Prim.Native.Nat.{ℕ, ◌≤◌, ◌<◌}
use native.Mathlib.Omega.{arith}
use lib.Dec.{eqb}
use lib.ListN.{get_or}
use borrow.Author.Tests.{ltb-true, ltb-false, lt-ltb, eqb-true, eqb-false, eq-eqb, ne_eqb}
use Rattle.rules.specs.declared.Priority.{Priority}
use Rattle.rules.specs.declared.Priority.TheVariants.{Full, Small}
use Rattle.rules.specs.Measures.{times, Rearranged}
use Rattle.rules.specs.Units.{AccountLots}
use Rattle.rules.specs.Ranking.{larger_first, before, priority_of, ranks_before, Uncontradicted, alike}
use Rattle.laws.proofs.Basics.{by_test, and_left, and_right, and_both}
use Rattle.laws.proofs.Rearrangements.{occurring}

-- Larger first, equals by lower account

pub larger_true : (a x b y : ℕ) → y ≤ x → (y ≡ x → a < b) → larger_first a x b y ≡ true
larger_true a x b y h t =
    by_test (eqb x y) (λ e. simp e (lt-ltb a b (t (sym (eqb-true x y e)))))
    (λ e. simp e (lt-ltb y x (omega (arith, eqb-false x y e))))

larger_of : (a x b y : ℕ) → larger_first a x b y ≡ true → (y ≤ x) × (y ≡ x → a < b)
larger_of a x b y h =
    by_test (eqb x y)
    (λ e. (omega (arith, eqb-true x y e), λ q. ltb-true a b (simp e at h)))
    (λ e. let l = ltb-true y x (simp e at h) in (omega arith, λ q. absurd (omega arith)))

larger_asym : (a x b y : ℕ) → larger_first a x b y ≡ true → larger_first b y a x ≡ false
larger_asym a x b y h =
    let p = larger_of a x b y h in
    by_test (larger_first b y a x)
    (λ e.
    let q = larger_of b y a x e in
    let s : x ≡ y = omega (arith, p.0, q.0) in
    absurd (omega (arith, p.1 (sym s), q.1 s)))
    (λ e. e)

larger_chained : (a x b y c z : ℕ) → larger_first a x b y ≡ true → larger_first b y c z ≡ true → larger_first a x c z ≡ true
larger_chained a x b y c z h k =
    let p = larger_of a x b y h in
    let q = larger_of b y c z k in
    larger_true a x c z (omega (arith, p.0, q.0))
    (λ e. omega (arith, p.1 (omega (arith, p.0, q.0)), q.1 (omega (arith, p.0, q.0))))

larger_tied : (a x b y : ℕ) → larger_first a x b y ≡ false → larger_first b y a x ≡ false → (a ≡ b) × (x ≡ y)
larger_tied a x b y h k =
    by_test (eqb x y)
    (λ e.
    let q = eqb-true x y e in
    (omega (arith, ltb-false a b (simp e at h), ltb-false b a (simp (eq-eqb y x (sym q)) at k)), q))
    (λ e.
    let ne = eqb-false x y e in
    absurd (omega (arith, ltb-false y x (simp e at h), ltb-false x y (simp (ne_eqb y x (λ q. ne (sym q))) at k), ne)))

-- The four cases

before_asym : (p q : Priority) → before p q ≡ true → before q p ≡ false
before_asym (Full a x) (Full b y) h = larger_asym a x b y h
before_asym (Full a x) (Small b y) h = refl
before_asym (Small a x) (Full b y) h = absurd (false≢true h)
before_asym (Small a x) (Small b y) h = larger_asym a x b y h

before_chained : (p q r : Priority) → before p q ≡ true → before q r ≡ true → before p r ≡ true
before_chained (Full a x) (Full b y) (Full c z) h k = larger_chained a x b y c z h k
before_chained (Full a x) q (Small c z) h k = refl
before_chained (Full a x) (Small b y) (Full c z) h k = absurd (false≢true k)
before_chained (Small a x) (Full b y) r h k = absurd (false≢true h)
before_chained (Small a x) (Small b y) (Full c z) h k = k
before_chained (Small a x) (Small b y) (Small c z) h k = larger_chained a x b y c z h k

before_tied : (p q : Priority) → before p q ≡ false → before q p ≡ false → p ≡ q
before_tied (Full a x) (Full b y) h k = let t = larger_tied a x b y h k in rw (t.0, t.1) refl
before_tied (Full a x) (Small b y) h k = absurd (false≢true (sym h))
before_tied (Small a x) (Full b y) h k = absurd (false≢true (sym k))
before_tied (Small a x) (Small b y) h k = let t = larger_tied a x b y h k in rw (t.0, t.1) refl

-- Two units

abbrev account_of : Priority → ℕ
account_of (Full a x) = a
account_of (Small a x) = a

abbrev lots_in : ℕ → Priority → ℕ
lots_in size (Full a x) = size
lots_in size (Small a x) = x

module _ (size : ℕ) (dues : List ℕ) where
  full_priority : (u : AccountLots) → u.lots ≡ size → priority_of size dues u ≡ Full u.account (get_or dues u.account 0)
  full_priority u e = rw (eq-eqb u.lots size e)

  small_priority : (u : AccountLots) → (u.lots ≡ size → ⊥) → priority_of size dues u ≡ Small u.account u.lots
  small_priority u ne = rw (ne_eqb u.lots size ne)

  -- the four cases: both full, by what is due to the accounts; full and small; both small, by lots
  pub ranks_full : (u v : AccountLots) → u.lots ≡ size → v.lots ≡ size → get_or dues v.account 0 ≤ get_or dues u.account 0 →
      (get_or dues v.account 0 ≡ get_or dues u.account 0 → u.account < v.account) → ranks_before size dues u v ≡ true
  unfolding ranks_before
  ranks_full u v hu hv h t =
      rw (full_priority u hu, full_priority v hv) (larger_true u.account (get_or dues u.account 0) v.account (get_or dues v.account 0) h t)

  pub ranks_full_small : (u v : AccountLots) → u.lots ≡ size → (v.lots ≡ size → ⊥) → ranks_before size dues u v ≡ true
  unfolding ranks_before
  ranks_full_small u v hu hv = rw (full_priority u hu, small_priority v hv)

  pub ranks_small : (u v : AccountLots) → (u.lots ≡ size → ⊥) → (v.lots ≡ size → ⊥) → v.lots ≤ u.lots →
      (v.lots ≡ u.lots → u.account < v.account) → ranks_before size dues u v ≡ true
  unfolding ranks_before
  ranks_small u v hu hv h t =
      rw (small_priority u hu, small_priority v hv) (larger_true u.account u.lots v.account v.lots h t)

  pub ranks_asym : (u v : AccountLots) → ranks_before size dues u v ≡ true → ranks_before size dues v u ≡ false
  unfolding ranks_before
  ranks_asym u v h = before_asym (priority_of size dues u) (priority_of size dues v) h

  pub ranks_self : (u : AccountLots) → ranks_before size dues u u ≡ false
  ranks_self u = by_test (ranks_before size dues u u) (λ e. ranks_asym u u e) (λ e. e)

  -- a unit ranked before a second, and that before a third, ranks before the third
  pub ranks_chained : (u v w : AccountLots) → ranks_before size dues u v ≡ true → ranks_before size dues v w ≡ true →
      ranks_before size dues u w ≡ true
  unfolding ranks_before
  ranks_chained u v w h k = before_chained (priority_of size dues u) (priority_of size dues v) (priority_of size dues w) h k

  -- neither ranks before the other: they are of the same account and lots
  ranks_tied : (u v : AccountLots) → ranks_before size dues u v ≡ false → ranks_before size dues v u ≡ false → alike u v ≡ true
  unfolding ranks_before
  ranks_tied u v h k =
      let t = before_tied (priority_of size dues u) (priority_of size dues v) h k in
      and_both (eqb u.account v.account) (eqb u.lots v.lots)
      (eq-eqb u.account v.account (sym (account_is u) ∙ ap account_of t ∙ account_is v))
      (eq-eqb u.lots v.lots (sym (lots_are u) ∙ ap (lots_in size) t ∙ lots_are v))
    where
      account_is : (u : AccountLots) → account_of (priority_of size dues u) ≡ u.account
      account_is u = by_test (eqb u.lots size) (λ e. rw e) (λ e. rw e)

      lots_are : (u : AccountLots) → lots_in size (priority_of size dues u) ≡ u.lots
      lots_are u = by_test (eqb u.lots size) (λ e. rw e (sym (eqb-true u.lots size e))) (λ e. rw e)

-- Arrangements of a list

alike_is : (u v : AccountLots) → alike u v ≡ true → u ≡ v
alike_is u v h =
    let p = eqb-true u.account v.account (and_left (eqb u.account v.account) (eqb u.lots v.lots) h) in
    let q = eqb-true u.lots v.lots (and_right (eqb u.account v.account) (eqb u.lots v.lots) h) in
    rw (p, q) refl

alike_self : (u : AccountLots) → alike u u ≡ true
alike_self u =
    and_both (eqb u.account u.account) (eqb u.lots u.lots) (eq-eqb u.account u.account refl)
    (eq-eqb u.lots u.lots refl)

alike_flip : (u v : AccountLots) → alike u v ≡ false → alike v u ≡ false
alike_flip u v e =
    by_test (alike v u) (λ t. absurd (false≢true (sym e ∙ rw (alike_is v u t) (alike_self u)))) (λ f. f)

-- two arrangements of the same units that the ranking nowhere contradicts are one
pub one_arrangement : (size : ℕ) (dues : List ℕ) (us vs : List AccountLots) → Uncontradicted size dues us → Uncontradicted size dues vs →
    Rearranged alike us vs → us ≡ vs
one_arrangement size dues [] [] ku kv r = refl
one_arrangement size dues [] (v ∷ vs) ku kv r = absurd (let h = rw (alike_self v) at (r v) in omega arith)
one_arrangement size dues (u ∷ us) [] ku kv r = absurd (let h = rw (alike_self u) at (r u) in omega arith)
one_arrangement size dues (u ∷ us) (v ∷ vs) ku kv r =
    by_test (alike u v)
    (λ e.
    let q = alike_is u v e in
    rw q (ap (λ l. v ∷ l) (one_arrangement size dues us vs ku.1 kv.1 (λ w. let h = rw q at (r w) in omega arith))))
    (λ e.
    let hu = rw (alike_self u) at (r u) in
    let hv = rw (alike_self v) at (r v) in
    let nu : 1 ≤ times alike u vs = (let h = simp e at hu in omega arith) in
    let nv : 1 ≤ times alike v us = (let h = simp (alike_flip u v e) at hv in omega arith) in
    absurd (false≢true (sym e ∙ ranks_tied size dues u v
    (occurring alike alike_is (λ w. ranks_before size dues w v ≡ false) u vs kv.0 nu)
    (occurring alike alike_is (λ w. ranks_before size dues w u ≡ false) v us ku.0 nv))))
