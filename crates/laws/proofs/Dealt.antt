-- Units dealt in turn. Any number of them is that of the units in the other order, so they are an order too; and place
-- by place they have the same lots, so what a delivered total covers, the stock and the number of units are the same in
-- both orders, lifted or not: the orders differ in accounts alone.
use mathlib.Core.Path.{◌≡◌, refl, sym, ap, ◌∙◌}
use mathlib.Core.Bool.{cond}
use mathlib.Core.List.{List, [], ◌∷◌, ◌++◌, map, map-append}
use Prim.Native.Nat.{ℕ, zero, suc, ◌+◌, ◌-◌, ◌*◌, ◌/◌, ◌≤◌, min}
use native.Mathlib.Omega.{arith}
use lib.Dec.{leb, ltb, lit<}
use lib.ListN.{length, take, drop, replicate, length-map}
use borrow.Author.Tests.{ltb-true, ltb-false}
use Rattle.rules.specs.Measures.{total, sum, unit_lots}
use Rattle.rules.specs.Units.{AccountLots, account_lots, largest_first, receivers, fulls, smalls, units, of_account, sum_lots}
use Rattle.rules.specs.Handover.{covered, stock, first_unit}
use Rattle.rules.specs.Lifts.{Lift, to_front, lift, lifted}
use Rattle.rules.specs.Dealt.{round, rounds, dealt}
use Rattle.laws.proofs.Basics.{by_test, Every, count_one, total_append, total_replicate, total_add, each_append, each_sort, each_replicate, each_map}
use Rattle.laws.proofs.Units.{UnitSized, Order, of_small, is_of, smalls_small, units_account}
use Rattle.laws.proofs.Orders.{order_of_lem, units_order}
use Rattle.laws.proofs.Ranking.{Before, Ordered, ordered_sort, rising_parts}

-- Sums

-- what a receiver's unit counts in a round, and what its units in so many rounds from r on count
abbrev in_round : ℕ → (AccountLots → ℕ) → ℕ → AccountLots → ℕ
in_round size f r v = cond (ltb r (v.lots / size)) (f (account_lots v.account size)) 0

abbrev pub in_rounds : ℕ → (AccountLots → ℕ) → ℕ → ℕ → AccountLots → ℕ
in_rounds size f r n v = min n (v.lots / size - r) * f (account_lots v.account size)

total_round : (size : ℕ) (f : AccountLots → ℕ) (r : ℕ) (vs : List AccountLots) → total f (round size r vs) ≡ total (in_round size f r) vs
total_round size f r [] = refl
total_round size f r (v ∷ vs) =
    by_test (ltb r (v.lots / size))
    (λ e. simp e (omega (arith, total_round size f r vs)))
    (λ e. simp e (omega (arith, total_round size f r vs)))

one_more : (n q r x : ℕ) → cond (ltb r q) x 0 + min n (q - suc r) * x ≡ min (suc n) (q - r) * x
one_more n q r x =
    by_test (ltb r q)
    (λ e.
    let h = ltb-true r q e in
    let m : min (suc n) (q - r) ≡ suc (min n (q - suc r)) = omega arith in
    simp e (rw m (omega arith)))
    (λ e.
    let h = ltb-false r q e in
    let m : min (suc n) (q - r) ≡ 0 = omega arith in
    let k : min n (q - suc r) ≡ 0 = omega arith in
    simp e (rw (m, k) (omega arith)))

pub total_rounds : (size : ℕ) (f : AccountLots → ℕ) (r n : ℕ) (vs : List AccountLots) → total f (rounds size r n vs) ≡ total (in_rounds size f r n) vs
total_rounds size f r zero vs = none vs
  where
    none : (vs : List AccountLots) → 0 ≡ total (in_rounds size f r 0) vs
    none [] = refl
    none (v ∷ vs) = let z : min 0 (v.lots / size - r) ≡ 0 = omega arith in rw z (omega (arith, none vs))
total_rounds size f r (suc n) vs =
    omega (
      arith,
      total_append f (round size r vs) (rounds size (suc r) n vs),
      total_round size f r vs,
      total_rounds size f (suc r) n vs,
      total_add (in_round size f r) (in_rounds size f (suc r) n) (in_rounds size f r (suc n))
          (λ v. one_more n (v.lots / size) r (f (account_lots v.account size))) vs,
    )

-- the largest receiver has the most full units
pub most_first : (rs : List AccountLots) → Ordered rs → Every (λ c. c.lots / unit_lots ≤ (first_unit rs).lots / unit_lots) rs
most_first [] os = tt
most_first (r ∷ rs) os = (omega arith, each_map (Before r) (λ v. v.lots / unit_lots ≤ r.lots / unit_lots) (λ v b. omega (arith, b.size)) rs os.0)

-- all rounds together count what all full units do
total_all : (f : AccountLots → ℕ) (n : ℕ) (vs : List AccountLots) → Every (λ v. v.lots / unit_lots ≤ n) vs →
    total f (rounds unit_lots 0 n vs) ≡ total f (fulls unit_lots vs)
total_all f n vs ps = total_rounds unit_lots f 0 n vs ∙ same vs ps
  where
    same : (vs : List AccountLots) → Every (λ v. v.lots / unit_lots ≤ n) vs → total (in_rounds unit_lots f 0 n) vs ≡ total f (fulls unit_lots vs)
    same [] ps = refl
    same (v ∷ vs) ps =
        let m : min n (v.lots / unit_lots - 0) ≡ v.lots / unit_lots = omega (arith, ps.0) in
        let u = account_lots v.account unit_lots in
        rw (m, total_append f (replicate (v.lots / unit_lots) u) (fulls unit_lots vs), total_replicate f (v.lots / unit_lots) u)
        (ap (λ x. v.lots / unit_lots * f u + x) (same vs ps.1))

module _ (dues : List ℕ) where
  abbrev rs : List AccountLots
  rs = largest_first (receivers dues)

  abbrev ss : List AccountLots
  ss = largest_first (smalls unit_lots (receivers dues))

  abbrev last : ℕ
  last = (first_unit rs).lots / unit_lots

  most : Every (λ c. c.lots / unit_lots ≤ last) rs
  most = most_first rs (ordered_sort (receivers dues) (rising_parts 0 dues))

  -- the dealt units count what the others do
  pub total_dealt : (f : AccountLots → ℕ) → total f (dealt unit_lots dues) ≡ total f (units unit_lots dues)
  unfolding dealt units
  total_dealt f =
      omega (
        arith,
        total_append f (rounds unit_lots 0 last rs) ss,
        total_append f (fulls unit_lots rs) ss,
        total_all f last rs most,
      )

-- Each is a full unit or a small one

each_round : (P : AccountLots → Type 0) (size r : ℕ) (vs : List AccountLots) → ((a : ℕ) → P (account_lots a size)) → Every P (round size r vs)
each_round P size r [] p = tt
each_round P size r (v ∷ vs) p =
    by_test (ltb r (v.lots / size))
    (λ e. simp e ((p v.account, each_round P size r vs p)))
    (λ e. simp e (each_round P size r vs p))

pub each_rounds : (P : AccountLots → Type 0) (size r n : ℕ) (vs : List AccountLots) → ((a : ℕ) → P (account_lots a size)) → Every P (rounds size r n vs)
each_rounds P size r zero vs p = tt
each_rounds P size r (suc n) vs p =
    each_append P (round size r vs) (rounds size (suc r) n vs) (each_round P size r vs p) (each_rounds P size (suc r) n vs p)

dealt_sized : (dues : List ℕ) → Every UnitSized (dealt unit_lots dues)
unfolding dealt
dealt_sized dues =
    let rs = receivers dues in
    each_append UnitSized (rounds unit_lots 0 ((first_unit (largest_first rs)).lots / unit_lots) (largest_first rs)) (largest_first (smalls unit_lots rs))
    (each_rounds UnitSized unit_lots 0 ((first_unit (largest_first rs)).lots / unit_lots) (largest_first rs) (λ a. (lit< tt, omega arith)))
    (each_sort UnitSized (smalls unit_lots rs)
    (each_map _ UnitSized (λ u p. (p.0, omega (arith, p.1))) (smalls unit_lots rs) (smalls_small unit_lots (lit< tt) rs)))

-- the dealt units are an order
pub dealt_order : (dues : List ℕ) → Order dues (dealt unit_lots dues)
dealt_order dues =
    order_of_lem dues (dealt unit_lots dues) (dealt_sized dues)
    (λ a. total_dealt dues (of_account a) ∙ units_account unit_lots a dues)
    (λ a. rw (total_dealt dues (of_small unit_lots (is_of a))) ((units_order dues).small a))

-- Place by place the same lots

abbrev pub lots_in : List AccountLots → List ℕ
lots_in us = map (λ u. u.lots) us

lots_same : (size : ℕ) (us : List AccountLots) → Every (λ u. u.lots ≡ size) us → lots_in us ≡ replicate (length us) size
lots_same size [] ps = refl
lots_same size (u ∷ us) ps = rw (ps.0, lots_same size us ps.1)

fulls_full : (size : ℕ) (rs : List AccountLots) → Every (λ u. u.lots ≡ size) (fulls size rs)
fulls_full size [] = tt
fulls_full size (r ∷ rs) =
    each_append (λ u. u.lots ≡ size) (replicate (r.lots / size) (account_lots r.account size)) (fulls size rs)
    (each_replicate (λ u. u.lots ≡ size) (r.lots / size) (account_lots r.account size) refl) (fulls_full size rs)

pub dealt_lots : (dues : List ℕ) → lots_in (dealt unit_lots dues) ≡ lots_in (units unit_lots dues)
unfolding dealt units
dealt_lots dues =
    let rs = largest_first (receivers dues) in
    let ss = largest_first (smalls unit_lots (receivers dues)) in
    let n = (first_unit rs).lots / unit_lots in
    let ds = rounds unit_lots 0 n rs in
    let l : length ds ≡ length (fulls unit_lots rs) =
    sym (count_one ds) ∙ total_all (λ u. 1) n rs (most_first rs (ordered_sort (receivers dues) (rising_parts 0 dues))) ∙ count_one (fulls unit_lots rs) in
    map-append (λ u. u.lots) ds ss
    ∙ ap (λ ls. ls ++ lots_in ss)
    (lots_same unit_lots ds (each_rounds (λ u. u.lots ≡ unit_lots) unit_lots 0 n rs (λ a. refl))
    ∙ ap (λ k. replicate k unit_lots) l
    ∙ sym (lots_same unit_lots (fulls unit_lots rs) (fulls_full unit_lots rs)))
    ∙ sym (map-append (λ u. u.lots) (fulls unit_lots rs) ss)

map_take : (k : ℕ) (us : List AccountLots) → lots_in (take k us) ≡ take k (lots_in us)
map_take zero us = refl
map_take (suc k) [] = refl
map_take (suc k) (u ∷ us) = ap (λ l. u.lots ∷ l) (map_take k us)

map_drop : (k : ℕ) (us : List AccountLots) → lots_in (drop k us) ≡ drop k (lots_in us)
map_drop zero us = refl
map_drop (suc k) [] = refl
map_drop (suc k) (u ∷ us) = map_drop k us

abbrev front_lots : ℕ → List ℕ → List ℕ
front_lots k xs = take 1 (drop k xs) ++ (take k xs ++ drop (suc k) xs)

front_lots_lem : (k : ℕ) (us : List AccountLots) → lots_in (to_front k us) ≡ front_lots k (lots_in us)
front_lots_lem k us =
    map-append (λ u. u.lots) (take 1 (drop k us)) (take k us ++ drop (suc k) us)
    ∙ rw (map-append (λ u. u.lots) (take k us) (drop (suc k) us), map_take 1 (drop k us), map_drop k us, map_take k us, map_drop (suc k) us)

lift_lots : (l : Lift) (us : List AccountLots) → lots_in (lift l us) ≡ take l.new (lots_in us) ++ front_lots (l.old - l.new) (drop l.new (lots_in us))
unfolding lift
lift_lots l us =
    map-append (λ u. u.lots) (take l.new us) (to_front (l.old - l.new) (drop l.new us))
    ∙ rw (map_take l.new us, front_lots_lem (l.old - l.new) (drop l.new us), map_drop l.new us)

-- lifts keep it so
pub lifted_lots : (ls : List Lift) (us vs : List AccountLots) → lots_in us ≡ lots_in vs → lots_in (lifted ls us) ≡ lots_in (lifted ls vs)
lifted_lots [] us vs e = e
lifted_lots (l ∷ ls) us vs e =
    lifted_lots ls (lift l us) (lift l vs)
    (lift_lots l us ∙ ap (λ xs. take l.new xs ++ front_lots (l.old - l.new) (drop l.new xs)) e ∙ sym (lift_lots l vs))

-- lots alone say what a total covers
abbrev covered_lots : List ℕ → ℕ → ℕ
covered_lots [] d = 0
covered_lots (x ∷ xs) d = cond (leb x d) (suc (covered_lots xs (d - x))) 0

abbrev stock_lots : List ℕ → ℕ → ℕ
stock_lots [] d = d
stock_lots (x ∷ xs) d = cond (leb x d) (stock_lots xs (d - x)) d

covered_by_lots : (us : List AccountLots) (d : ℕ) → covered us d ≡ covered_lots (lots_in us) d
covered_by_lots [] d = refl
covered_by_lots (u ∷ us) d = rw (covered_by_lots us (d - u.lots))

stock_by_lots : (us : List AccountLots) (d : ℕ) → stock us d ≡ stock_lots (lots_in us) d
stock_by_lots [] d = refl
stock_by_lots (u ∷ us) d = rw (stock_by_lots us (d - u.lots))

sum_by_lots : (k : ℕ) (us : List AccountLots) → sum_lots (take k us) ≡ sum (take k (lots_in us))
sum_by_lots zero us = refl
sum_by_lots (suc k) [] = refl
sum_by_lots (suc k) (u ∷ us) = ap (λ n. u.lots + n) (sum_by_lots k us)

module _ (us vs : List AccountLots) (e : lots_in us ≡ lots_in vs) where
  pub same_covered : (d : ℕ) → covered us d ≡ covered vs d
  same_covered d = covered_by_lots us d ∙ ap (λ xs. covered_lots xs d) e ∙ sym (covered_by_lots vs d)

  pub same_stock : (d : ℕ) → stock us d ≡ stock vs d
  same_stock d = stock_by_lots us d ∙ ap (λ xs. stock_lots xs d) e ∙ sym (stock_by_lots vs d)

  pub same_length : length us ≡ length vs
  same_length = sym (length-map us (λ u. u.lots)) ∙ ap length e ∙ length-map vs (λ u. u.lots)

  pub same_sum : (k : ℕ) → sum_lots (take k us) ≡ sum_lots (take k vs)
  same_sum k = sum_by_lots k us ∙ ap (λ xs. sum (take k xs)) e ∙ sym (sum_by_lots k vs)

-- and whatever units have by their lots alone
to_lots : (P : ℕ → Type 0) (us : List AccountLots) → Every (λ u. P u.lots) us → Every P (lots_in us)
to_lots P [] ps = tt
to_lots P (u ∷ us) ps = (ps.0, to_lots P us ps.1)

of_lots : (P : ℕ → Type 0) (us : List AccountLots) → Every P (lots_in us) → Every (λ u. P u.lots) us
of_lots P [] ps = tt
of_lots P (u ∷ us) ps = (ps.0, of_lots P us ps.1)

pub each_by_lots : (P : ℕ → Type 0) (us vs : List AccountLots) → lots_in us ≡ lots_in vs → Every (λ u. P u.lots) us → Every (λ u. P u.lots) vs
each_by_lots P us vs e ps = of_lots P vs (rw e at (to_lots P us ps))
