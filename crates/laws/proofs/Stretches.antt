-- Stretches of any list of units: a stretch takes up the lots of the full units that it joins, so sums stay;
-- of an account there is one stretch of full units at most, and small units are left as they are.
use mathlib.Core.Path.{◌≡◌, refl, sym, ap, ◌∙◌}
use mathlib.Core.Bool.{true, false, false≢true}
use mathlib.Core.List.{List, [], ◌∷◌}
use Prim.Native.Nat.{ℕ, zero, suc, ◌+◌, ◌-◌, ◌≤◌}
use native.Mathlib.Omega.{arith}
use native.Mathlib.Nat.{zero-add}
use lib.Dec.{leb, eqb}
use lib.ListN.{length, drop}
use borrow.Author.Tests.{leb-true, le-leb, eqb-true}
use Rattle.rules.specs.Measures.{total}
use Rattle.rules.specs.Units.{AccountLots, account_lots, sum_lots}
use Rattle.rules.specs.Handover.{covered, stock, waiting}
use Rattle.rules.specs.Fails.{is_full_of, full_lots, without_fulls, join, stretches, lacks}
use Rattle.laws.proofs.Basics.{by_test, either, and_left, and_right, Every, each_drop}
use Rattle.laws.proofs.Units.{of_small, is_of}
use Rattle.laws.proofs.Overlaps.{Additive, additive_zero, sum_skip, every_skip, length_skip}
use Rattle.laws.proofs.Handover.{handed_stock, total_handed}

-- Sums

-- an account's full units and the others are the whole
pub total_without : (size : ℕ) (f : AccountLots → ℕ) → Additive f → (a : ℕ) (vs : List AccountLots) →
    f (account_lots a (full_lots size a vs)) + total f (without_fulls size a vs) ≡ total f vs
total_without size f l a [] = rw (additive_zero f l a)
total_without size f l a (v ∷ vs) =
    by_test (is_full_of size a v)
    (λ e.
    let q = eqb-true v.account a (and_left (eqb v.account a) (leb size v.lots) e) in
    simp e (
    omega (
      arith,
      l a v.lots (full_lots size a vs),
      ap (λ n. f (account_lots n v.lots)) q,
      total_without size f l a vs,
    )
    ))
    (λ e. simp (e, zero-add) (omega (arith, total_without size f l a vs)))

pub total_join : (size : ℕ) (f : AccountLots → ℕ) → Additive f → (u : AccountLots) (vs : List AccountLots) → total f (join size u vs) ≡ f u + total f vs
total_join size f l u vs =
    either (λ r. total f r ≡ f u + total f vs) (leb size u.lots)
    (omega (arith, l u.account u.lots (full_lots size u.account vs), total_without size f l u.account vs))
    refl

-- stretches have the lots of their units, by any number that adds up
pub total_stretches : (size : ℕ) (f : AccountLots → ℕ) → Additive f → (us : List AccountLots) → total f (stretches size us) ≡ total f us
total_stretches size f l [] = refl
total_stretches size f l (u ∷ us) =
    total_join size f l u (stretches size us) ∙ ap (λ n. f u + n) (total_stretches size f l us)

-- units lack what was not delivered
pub lacks_sum : (size : ℕ) (us : List AccountLots) (d : ℕ) → sum_lots (lacks size us d) ≡ sum_lots us - d
unfolding lacks
lacks_sum size us d =
    omega (
      arith,
      sum_skip (stock us d) (stretches size (waiting us d)),
      total_stretches size (λ u. u.lots) (λ a x y. refl) (waiting us d),
      handed_stock us d,
      total_handed (λ u. u.lots) us d,
    )

-- what holds of the accounts of units holds of their stretches', and of what they lack
pub every_without : (size a : ℕ) (P : AccountLots → Type 0) (vs : List AccountLots) → Every P vs → Every P (without_fulls size a vs)
every_without size a P [] ps = tt
every_without size a P (v ∷ vs) ps =
    either (Every P) (is_full_of size a v) (every_without size a P vs ps.1) (ps.0, every_without size a P vs ps.1)

pub every_stretches : (size : ℕ) (A : ℕ → Type 0) (us : List AccountLots) → Every (λ u. A u.account) us →
    Every (λ u. A u.account) (stretches size us)
every_stretches size A [] ps = tt
every_stretches size A (u ∷ us) ps =
    let qs = every_stretches size A us ps.1 in
    either (Every (λ u. A u.account)) (leb size u.lots)
    (ps.0, every_without size u.account (λ u. A u.account) (stretches size us) qs) (ps.0, qs)

pub every_lacks : (size : ℕ) (A : ℕ → Type 0) (us : List AccountLots) (d : ℕ) → Every (λ u. A u.account) us →
    Every (λ u. A u.account × (1 ≤ u.lots)) (lacks size us d)
unfolding lacks
every_lacks size A us d ps =
    every_skip A (stock us d) (stretches size (waiting us d))
    (every_stretches size A (waiting us d) (each_drop (λ u. A u.account) (covered us d) us ps))

-- Full stretches

-- no full units of account a
abbrev pub NotFull : ℕ → ℕ → AccountLots → Type 0
NotFull size a v = is_full_of size a v ≡ false

-- a list in which no account has full units twice
abbrev pub OneEach : ℕ → List AccountLots → Type 0
OneEach size [] = Unit {0}
OneEach size (v ∷ vs) = (leb size v.lots ≡ true → Every (NotFull size v.account) vs) × OneEach size vs

pub without_none : (size a : ℕ) (vs : List AccountLots) → Every (NotFull size a) vs → without_fulls size a vs ≡ vs
without_none size a [] ps = refl
without_none size a (v ∷ vs) ps = simp ps.0 (ap (λ l. v ∷ l) (without_none size a vs ps.1))

pub full_lots_none : (size a : ℕ) (vs : List AccountLots) → Every (NotFull size a) vs → full_lots size a vs ≡ 0
full_lots_none size a [] ps = refl
full_lots_none size a (v ∷ vs) ps = simp (ps.0, zero-add) (full_lots_none size a vs ps.1)

pub none_without : (size a : ℕ) (vs : List AccountLots) → Every (NotFull size a) (without_fulls size a vs)
none_without size a [] = tt
none_without size a (v ∷ vs) =
    by_test (is_full_of size a v) (λ e. simp e (none_without size a vs)) (λ e. simp e (refl, none_without size a vs))

one_without : (size a : ℕ) (vs : List AccountLots) → OneEach size vs → OneEach size (without_fulls size a vs)
one_without size a [] ps = tt
one_without size a (v ∷ vs) ps =
    either (OneEach size) (is_full_of size a v) (one_without size a vs ps.1)
    ((λ e. every_without size a (NotFull size v.account) vs (ps.0 e)), one_without size a vs ps.1)

-- stretches are such a list
pub one_stretches : (size : ℕ) (us : List AccountLots) → OneEach size (stretches size us)
one_stretches size [] = tt
one_stretches size (u ∷ us) =
    let vs = stretches size us in
    by_test (leb size u.lots)
    (λ e. simp e ((λ h. none_without size u.account vs), one_without size u.account vs (one_stretches size us)))
    (λ e. simp e ((λ h. absurd (false≢true h)), one_stretches size us))

-- Their number

pub length_without : (size a : ℕ) (vs : List AccountLots) → length (without_fulls size a vs) ≤ length vs
length_without size a [] = omega arith
length_without size a (v ∷ vs) =
    either (λ r. length r ≤ suc (length vs)) (is_full_of size a v)
    (omega (arith, length_without size a vs)) (omega (arith, length_without size a vs))

one_less : (size a : ℕ) (vs : List AccountLots) → OneEach size vs → length vs ≤ suc (length (without_fulls size a vs))
one_less size a [] ps = omega arith
one_less size a (v ∷ vs) ps =
    by_test (is_full_of size a v)
    (λ e.
    let q = eqb-true v.account a (and_left (eqb v.account a) (leb size v.lots) e) in
    let f = and_right (eqb v.account a) (leb size v.lots) e in
    simp (e, without_none size a vs (rw q at (ps.0 f))) (omega arith))
    (λ e. simp e (omega (arith, one_less size a vs ps.1)))

pub join_more : (size : ℕ) (u : AccountLots) (vs : List AccountLots) → OneEach size vs →
    (length vs ≤ length (join size u vs)) × (length (join size u vs) ≤ suc (length vs))
join_more size u vs ps =
    either (λ r. (length vs ≤ length r) × (length r ≤ suc (length vs))) (leb size u.lots)
    (one_less size u.account vs ps, omega (arith, length_without size u.account vs))
    (omega arith, omega arith)

-- the units left have no more stretches than all
pub stretches_drop : (size k : ℕ) (us : List AccountLots) → length (stretches size (drop k us)) ≤ length (stretches size us)
stretches_drop size zero us = omega arith
stretches_drop size (suc k) [] = omega arith
stretches_drop size (suc k) (u ∷ us) =
    omega (arith, join_more size u (stretches size us) (one_stretches size us), stretches_drop size k us)

pub lacks_length : (size : ℕ) (us : List AccountLots) (d : ℕ) → length (lacks size us d) ≤ length (stretches size us)
unfolding lacks
lacks_length size us d =
    omega (
      arith,
      length_skip (stock us d) (stretches size (waiting us d)),
      stretches_drop size (covered us d) us,
    )

small_without : (size : ℕ) (f : AccountLots → ℕ) (a : ℕ) (vs : List AccountLots) → total (of_small size f) (without_fulls size a vs) ≡ total (of_small size f) vs
small_without size f a [] = refl
small_without size f a (v ∷ vs) =
    by_test (is_full_of size a v)
    (λ e.
    let q = and_left (eqb v.account a) (leb size v.lots) e in
    let g = and_right (eqb v.account a) (leb size v.lots) e in
    simp (q, g, zero-add) (small_without size f a vs))
    (λ e. simp e (ap (λ n. of_small size f v + n) (small_without size f a vs)))

pub small_stretches : (size : ℕ) (f : AccountLots → ℕ) (us : List AccountLots) → total (of_small size f) (stretches size us) ≡ total (of_small size f) us
small_stretches size f [] = refl
small_stretches size f (u ∷ us) =
    let vs = stretches size us in
    by_test (leb size u.lots)
    (λ e.
    let m = le-leb size (u.lots + full_lots size u.account vs) (omega (arith, leb-true size u.lots e)) in
    simp (e, m, zero-add) (small_without size f u.account vs ∙ small_stretches size f us))
    (λ e. simp e (ap (λ n. f u + n) (small_stretches size f us)))

-- of an account, one stretch of full units and as many of small units as it has
none_of_lem : (size a : ℕ) (vs : List AccountLots) → Every (NotFull size a) vs → total (is_of a) vs ≤ total (of_small size (is_of a)) vs
none_of_lem size a [] ps = omega arith
none_of_lem size a (v ∷ vs) ps =
    by_test (leb size v.lots)
    (λ e. by_test (eqb v.account a)
    (λ q. absurd (false≢true (sym ps.0 ∙ rw (q, e))))
    (λ q. simp (e, q) (omega (arith, none_of_lem size a vs ps.1))))
    (λ e. simp e (omega (arith, none_of_lem size a vs ps.1)))

one_of : (size a : ℕ) (vs : List AccountLots) → OneEach size vs → total (is_of a) vs ≤ suc (total (of_small size (is_of a)) vs)
one_of size a [] ps = omega arith
one_of size a (v ∷ vs) ps =
    by_test (leb size v.lots)
    (λ e. by_test (eqb v.account a)
    (λ q. simp (e, q) (omega (arith, none_of_lem size a vs (rw (eqb-true v.account a q) at (ps.0 e)))))
    (λ q. simp (e, q) (omega (arith, one_of size a vs ps.1))))
    (λ e. simp e (omega (arith, one_of size a vs ps.1)))

pub account_stretches : (size a : ℕ) (us : List AccountLots) → total (is_of a) (stretches size us) ≤ suc (total (of_small size (is_of a)) us)
account_stretches size a us =
    omega (arith, one_of size a (stretches size us) (one_stretches size us), small_stretches size (is_of a) us)
