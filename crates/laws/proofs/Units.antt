-- The units of accounts with any dues, for any size of a unit: their sums, sizes and accounts. Full and
-- small units of a receiver are its quotient and its remainder by the size, and sorting changes no sum.
use mathlib.Core.Path.{◌≡◌, refl, sym, ap, ◌∙◌}
use mathlib.Core.Bool.{cond}
use mathlib.Core.List.{List, [], ◌∷◌}
use Prim.Native.Nat.{ℕ, zero, suc, ◌+◌, ◌*◌, ◌/◌, ◌%◌, ◌≤◌, ◌<◌}
use native.Mathlib.Omega.{arith}
use native.Mathlib.Nat.{div-add-mod', mod-lt, mul_assoc, add-mul, zero-add, add-zero, add-suc, suc-add}
use lib.Dec.{leb, eqb}
use lib.ListN.{length, get_or, replicate}
use borrow.Author.Tests.{ne_eqb, eq-eqb}
use Rattle.rules.specs.Measures.{total, sum, unit_lots}
use Rattle.rules.specs.Units.{AccountLots, account_lots, prepend, by_account, sum_lots, of_account, largest_first, receivers, fulls, smalls, units}
use Rattle.laws.proofs.Basics.{by_test, either, Every, total_append, total_replicate, total_put, total_add, total_sort, each_append, each_replicate, each_put, each_sort, every_of}

-- Sums

-- what the full units of a receiver count, and what its small unit counts
pub full_part : ℕ → (AccountLots → ℕ) → AccountLots → ℕ
full_part size f r = (r.lots / size) * f (account_lots r.account size)

pub small_part : ℕ → (AccountLots → ℕ) → AccountLots → ℕ
small_part size f r = f (account_lots r.account (r.lots % size))

pub total_fulls : (size : ℕ) (f : AccountLots → ℕ) (rs : List AccountLots) → total f (fulls size rs) ≡ total (full_part size f) rs
unfolding full_part
total_fulls size f [] = refl
total_fulls size f (r ∷ rs) =
    omega (
      arith,
      total_append f (replicate (r.lots / size) (account_lots r.account size)) (fulls size rs),
      total_replicate f (r.lots / size) (account_lots r.account size),
      total_fulls size f rs,
    )

pub total_smalls : (size : ℕ) (f : AccountLots → ℕ) → ((a : ℕ) → f (account_lots a 0) ≡ 0) → (rs : List AccountLots) →
    total f (smalls size rs) ≡ total (small_part size f) rs
unfolding small_part
total_smalls size f z [] = refl
total_smalls size f z (r ∷ rs) =
    omega (arith, total_put f r.account (r.lots % size) (smalls size rs) (z r.account), total_smalls size f z rs)

-- a number of a part that goes by its account and is so much a lot
pub Linear : (AccountLots → ℕ) → Type 0
Linear f = (a : ℕ) (x : ℕ) → f (account_lots a x) ≡ x * f (account_lots a 1)

-- such a number of the units is that of the dues
pub total_units : (size : ℕ) (f : AccountLots → ℕ) → Linear f → (dues : List ℕ) → total f (units size dues) ≡ total f (receivers dues)
unfolding units Linear full_part small_part
total_units size f l dues =
    let rs = receivers dues in
    omega (
      arith,
      total_append f (fulls size (largest_first rs)) (largest_first (smalls size rs)),
      total_fulls size f (largest_first rs),
      total_sort (full_part size f) rs,
      total_sort f (smalls size rs),
      total_smalls size f (λ a. omega (arith, l a 0)) rs,
      total_add (full_part size f) (small_part size f) f whole rs,
    )
  where
    whole : (u : AccountLots) → full_part size f u + small_part size f u ≡ f u
    whole u =
        let c = f (account_lots u.account 1) in
        let q = u.lots / size in
        let r = u.lots % size in
        let e : q * f (account_lots u.account size) ≡ q * size * c =
        ap (λ n. q * n) (l u.account size) ∙ sym (mul_assoc q size c) in
        rw (e, l u.account r, l u.account u.lots) (sym (add-mul (q * size) r c) ∙ ap (λ n. n * c) (div-add-mod' u.lots size))

pub linear_account : (a : ℕ) → Linear (of_account a)
unfolding Linear
linear_account a b x = by_test (eqb b a) (λ e. simp e (omega arith)) (λ e. simp e (omega arith))

pub account_put : (a k x : ℕ) (us : List AccountLots) → total (of_account a) (prepend k x us) ≡ of_account a (account_lots k x) + total (of_account a) us
account_put a k x us = total_put (of_account a) k x us (either (λ n. n ≡ 0) (eqb k a) refl refl)

pub account_same : (a x : ℕ) → of_account a (account_lots a x) ≡ x
account_same a x = rw (eq-eqb a a refl)

pub account_other : (a b x : ℕ) → (b ≡ a → ⊥) → of_account a (account_lots b x) ≡ 0
account_other a b x h = rw (ne_eqb b a h)

-- none of an account below k
pub account_below : (a k : ℕ) (dues : List ℕ) → a < k → total (of_account a) (by_account k dues) ≡ 0
account_below a k [] h = refl
account_below a k (x ∷ xs) h =
    omega (arith, account_put a k x (by_account (suc k) xs), account_below a (suc k) xs (omega arith), account_other a k x (omega arith))

pub account_parts : (a k : ℕ) (dues : List ℕ) → total (of_account (k + a)) (by_account k dues) ≡ get_or dues a 0
account_parts a k [] = refl
account_parts zero k (x ∷ xs) =
    rw add-zero
    (omega (arith, account_put k k x (by_account (suc k) xs), account_below k (suc k) xs (omega arith), account_same k x))
account_parts (suc a) k (x ∷ xs) =
    omega (
      arith,
      account_put (k + suc a) k x (by_account (suc k) xs),
      account_other (k + suc a) k x (omega arith),
      rw (suc-add, ← add-suc) at (account_parts a (suc k) xs),
    )

-- lots of the accounts 0, 1, .. that are not 0: each account's
pub account_receivers : (a : ℕ) (dues : List ℕ) → total (of_account a) (by_account 0 dues) ≡ get_or dues a 0
account_receivers a dues = ap (λ n. total (of_account n) (by_account 0 dues)) (sym (zero-add a)) ∙ account_parts a 0 dues

-- an account's units have the lots of its due
pub units_account : (size a : ℕ) (dues : List ℕ) → total (of_account a) (units size dues) ≡ get_or dues a 0
units_account size a dues = total_units size (of_account a) (linear_account a) dues ∙ account_receivers a dues

-- Sizes and accounts

abbrev pub Sized : ℕ → AccountLots → Type 0
Sized size u = (1 ≤ u.lots) × (u.lots ≤ size)

abbrev pub UnitSized : AccountLots → Type 0
UnitSized u = Sized unit_lots u

-- less than a full unit
abbrev pub Small : ℕ → AccountLots → Type 0
Small size u = (1 ≤ u.lots) × (u.lots < size)

-- what has any lots of a receiver's account holds of its units
pub each_fulls : (P : AccountLots → Type 0) (size : ℕ) (rs : List AccountLots) → Every (λ r. P (account_lots r.account size)) rs → Every P (fulls size rs)
each_fulls P size [] ps = tt
each_fulls P size (r ∷ rs) ps =
    each_append P (replicate (r.lots / size) (account_lots r.account size)) (fulls size rs)
    (each_replicate P (r.lots / size) (account_lots r.account size) ps.0) (each_fulls P size rs ps.1)

pub each_smalls : (P : AccountLots → Type 0) (size : ℕ) (rs : List AccountLots) →
    Every (λ r. 0 < r.lots % size → P (account_lots r.account (r.lots % size))) rs → Every P (smalls size rs)
each_smalls P size [] ps = tt
each_smalls P size (r ∷ rs) ps =
    each_put P r.account (r.lots % size) (smalls size rs) ps.0 (each_smalls P size rs ps.1)

pub each_units : (P : AccountLots → Type 0) (size : ℕ) (dues : List ℕ) →
    Every P (fulls size (largest_first (receivers dues))) → Every P (smalls size (receivers dues)) → Every P (units size dues)
unfolding units
each_units P size dues ps qs =
    each_append P (fulls size (largest_first (receivers dues))) (largest_first (smalls size (receivers dues)))
    ps (each_sort P (smalls size (receivers dues)) qs)

pub smalls_small : (size : ℕ) → 0 < size → (rs : List AccountLots) → Every (Small size) (smalls size rs)
smalls_small size h rs = each_smalls (Small size) size rs (every_of _ rs (λ r p. (p, mod-lt r.lots h)))

-- every unit has 1 to `size` lots
pub units_sized : (size : ℕ) → 0 < size → (dues : List ℕ) → Every (Sized size) (units size dues)
units_sized size h dues =
    let rs = receivers dues in
    each_units (Sized size) size dues
    (each_fulls (Sized size) size (largest_first rs) (every_of _ (largest_first rs) (λ r. (h, omega arith))))
    (each_smalls (Sized size) size rs (every_of _ rs (λ r p. (p, omega (arith, mod-lt r.lots h)))))

pub each_parts : (n k : ℕ) (dues : List ℕ) → k + length dues ≤ n → Every (λ v. v.account < n) (by_account k dues)
each_parts n k [] h = tt
each_parts n k (x ∷ xs) h =
    each_put (λ v. v.account < n) k x (by_account (suc k) xs) (λ p. omega arith) (each_parts n (suc k) xs (omega arith))

-- what is counted of small units alone
abbrev pub of_small : ℕ → (AccountLots → ℕ) → AccountLots → ℕ
of_small size f v = cond (leb size v.lots) 0 (f v)

abbrev pub is_of : ℕ → AccountLots → ℕ
is_of a v = cond (eqb v.account a) 1 0

-- What laws may assume of a list of units, whatever its order
pub record Order (dues : List ℕ) (us : List AccountLots) : Type 0 where
  pub sized : Every UnitSized us
  pub accounts : Every (λ u. u.account < length dues) us
  pub due : (a : ℕ) → total (of_account a) us ≡ get_or dues a 0
  pub whole : sum_lots us ≡ sum dues
  -- an account has at most one small unit
  pub small : (a : ℕ) → total (of_small unit_lots (is_of a)) us ≤ 1
