-- Three facts make an order: every unit has 1 to 100,000 lots, for each account its units sum to its due, and at most
-- one of them is small. Its accounts are then those of the dues, since none else is due a lot, and summing over
-- accounts gives the whole. The paper's units are an order.
use mathlib.Core.Path.{◌≡◌, refl, sym, ap, ◌∙◌}
use mathlib.Core.Bool.{cond}
use mathlib.Core.List.{List, [], ◌∷◌}
use Prim.Native.Nat.{ℕ, zero, suc, ◌+◌, ◌/◌, ◌≤◌, ◌<◌}
use native.Mathlib.Omega.{arith}
use native.Mathlib.Nat.{add-zero, zero-add, add-suc, suc-add, mul-zero}
use lib.Dec.{leb, ltb, eqb, lit<}
use lib.ListN.{length, get_or, replicate, get_or-eq_default}
use borrow.Author.Tests.{ltb-true, ltb-false, eqb-true, eqb-false, le-leb, ne_eqb}
use Rattle.rules.specs.Measures.{total, sum, unit_lots}
use Rattle.rules.specs.Units.{AccountLots, account_lots, of_account, largest_first, receivers, fulls, smalls, units}
use Rattle.rules.specs.Book.{tabulate}
use Rattle.laws.proofs.Basics.{by_test, either, Every, each_zip, total_append, total_replicate, total_sort}
use Rattle.laws.proofs.Units.{UnitSized, Order, of_small, is_of, units_sized, units_account}
use Rattle.laws.proofs.Ranking.{Rising, rising_parts, rising_smalls}
use Rattle.laws.proofs.Cutoff.{share}

-- Sums over accounts k to k + n - 1

pub tab_add : (f g : ℕ → ℕ) (k n : ℕ) → sum (tabulate (λ a. f a + g a) k n) ≡ sum (tabulate f k n) + sum (tabulate g k n)
tab_add f g k zero = refl
tab_add f g k (suc n) = omega (arith, tab_add f g (suc k) n)

-- a number of an account's units alone
abbrev pub on_account : (AccountLots → ℕ) → ℕ → AccountLots → ℕ
on_account f a u = cond (eqb u.account a) (f u) 0

tab_none : (f : AccountLots → ℕ) (u : AccountLots) (k n : ℕ) → u.account < k → sum (tabulate (λ a. on_account f a u) k n) ≡ 0
tab_none f u k zero h = refl
tab_none f u k (suc n) h = rw (ne_eqb u.account k (λ e. omega arith)) (omega (arith, tab_none f u (suc k) n (omega arith)))

tab_one : (f : AccountLots → ℕ) (u : AccountLots) (k n : ℕ) → k ≤ u.account → u.account < k + n → sum (tabulate (λ a. on_account f a u) k n) ≡ f u
tab_one f u k zero h l = absurd (omega arith)
tab_one f u k (suc n) h l =
    by_test (eqb u.account k)
    (λ e. let q = eqb-true u.account k e in simp e (omega (arith, tab_none f u (suc k) n (omega arith))))
    (λ e. let ne = eqb-false u.account k e in simp e (omega (arith, tab_one f u (suc k) n (omega arith) (omega arith))))

-- each account's number, summed over the accounts, is that of all
pub by_accounts : (f : AccountLots → ℕ) (n : ℕ) (us : List AccountLots) → Every (λ u. u.account < n) us →
    sum (tabulate (λ a. total (on_account f a) us) 0 n) ≡ total f us
by_accounts f n [] ps = zeros 0 n
  where
    zeros : (k m : ℕ) → sum (tabulate (λ a. 0) k m) ≡ 0
    zeros k zero = refl
    zeros k (suc m) = omega (arith, zeros (suc k) m)
by_accounts f n (u ∷ us) ps =
    omega (
      arith,
      tab_add (λ a. on_account f a u) (λ a. total (on_account f a) us) 0 n,
      tab_one f u 0 n (omega arith) (omega (arith, ps.0)),
      by_accounts f n us ps.1,
    )

-- a list by its places
pub sum_tab : (f : ℕ → ℕ) (k : ℕ) (xs : List ℕ) → ((a : ℕ) → f (k + a) ≡ get_or xs a 0) → sum (tabulate f k (length xs)) ≡ sum xs
sum_tab f k [] h = refl
sum_tab f k (x ∷ xs) h =
    let e : f k ≡ x = ap f (sym (add-zero k)) ∙ h 0 in
    omega (arith, sum_tab f (suc k) xs (λ a. ap f (suc-add k a ∙ sym (add-suc k a)) ∙ h (suc a)))

-- an order from its three facts
pub order_of_lem : (dues : List ℕ) (us : List AccountLots) → Every UnitSized us → ((a : ℕ) → total (of_account a) us ≡ get_or dues a 0) →
    ((a : ℕ) → total (of_small unit_lots (is_of a)) us ≤ 1) → Order dues us
order_of_lem dues us ss h one =
    record {
      sized = ss;
      accounts = accounts;
      due = h;
      whole = sym (by_accounts (λ u. u.lots) (length dues) us accounts)
          ∙ sum_tab (λ a. total (of_account a) us) 0 dues (λ a. ap (λ n. total (of_account n) us) (zero-add a) ∙ h a);
      small = one;
    }
  where
    accounts : Every (λ u. u.account < length dues) us
    accounts =
        each_zip UnitSized (λ u. u.lots ≤ total (of_account u.account) us) (λ u. u.account < length dues)
        (λ u p q.
        by_test (ltb u.account (length dues))
        (λ e. ltb-true u.account (length dues) e)
        (λ e.
        let z = get_or-eq_default dues 0 (ltb-false u.account (length dues) e) in
        absurd (omega (arith, p.0, h u.account))))
        us ss (share us us (λ a. omega arith))

-- The paper's units: of an account there is one small unit at most

none_above : (a : ℕ) (us : List AccountLots) → Every (λ v. a < v.account) us → total (is_of a) us ≡ 0
none_above a [] ps = refl
none_above a (u ∷ us) ps = rw (ne_eqb u.account a (λ e. omega (arith, ps.0)), none_above a us ps.1)

once_rising : (a : ℕ) (us : List AccountLots) → Rising us → total (is_of a) us ≤ 1
once_rising a [] rs = omega arith
once_rising a (u ∷ us) rs =
    by_test (eqb u.account a)
    (λ e. simp (e, none_above a us (rw (eqb-true u.account a e) at rs.0)) (omega arith))
    (λ e. simp e (omega (arith, once_rising a us rs.1)))

small_fulls : (size : ℕ) (f : AccountLots → ℕ) (rs : List AccountLots) → total (of_small size f) (fulls size rs) ≡ 0
small_fulls size f [] = refl
small_fulls size f (r ∷ rs) =
    let u = account_lots r.account size in
    let z : of_small size f u ≡ 0 = rw (le-leb size size (omega arith)) in
    total_append (of_small size f) (replicate (r.lots / size) u) (fulls size rs)
    ∙ rw (total_replicate (of_small size f) (r.lots / size) u, z, mul-zero, small_fulls size f rs)

small_le : (size a : ℕ) (us : List AccountLots) → total (of_small size (is_of a)) us ≤ total (is_of a) us
small_le size a [] = omega arith
small_le size a (u ∷ us) =
    either (λ n. n + total (of_small size (is_of a)) us ≤ is_of a u + total (is_of a) us) (leb size u.lots)
    (omega (arith, small_le size a us)) (omega (arith, small_le size a us))

units_small : (size a : ℕ) (dues : List ℕ) → total (of_small size (is_of a)) (units size dues) ≤ 1
unfolding units
units_small size a dues =
    let rs = receivers dues in
    let ss = smalls size rs in
    omega (
      arith,
      total_append (of_small size (is_of a)) (fulls size (largest_first rs)) (largest_first ss),
      small_fulls size (is_of a) (largest_first rs),
      small_le size a (largest_first ss),
      total_sort (is_of a) ss,
      once_rising a ss (rising_smalls size rs (rising_parts 0 dues)),
    )

-- the paper's order is one
pub units_order : (dues : List ℕ) → Order dues (units unit_lots dues)
units_order dues =
    order_of_lem dues (units unit_lots dues) (units_sized unit_lots (lit< tt) dues) (λ a. units_account unit_lots a dues)
    (λ a. units_small unit_lots a dues)
