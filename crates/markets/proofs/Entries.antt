-- A small market has fewer fail entries than accounts, and the five counts sum to the markets counted. Nets below a unit
-- give each receiver one small unit, so that the stretches that lack are no more than receivers.
use mathlib.Core.Path.{◌≡◌, refl, sym, ◌∙◌}
use mathlib.Core.Bool.{Bool, true, false, cond}
use mathlib.Core.List.{List, [], ◌∷◌, map}
use Prim.Native.Nat.{ℕ, zero, suc, ◌+◌, ◌-◌, ◌%◌, ◌≤◌, ◌<◌, min}
use native.Mathlib.Omega.{arith}
use native.Mathlib.Nat.{div-eq_of_lt, mod-eq_of_lt}
use lib.Dec.{leb, eqb}
use lib.IntN.{ℤ, pos, negsuc, nat_abs}
use lib.ListN.{length}
use borrow.Author.Tests.{lt-leb}
use Rattle.rules.specs.Measures.{total, sum, Every, unit_lots, due_of, owed_of}
use Rattle.rules.specs.Units.{AccountLots, prepend, by_account, sum_lots, receivers, fulls, smalls, units, largest_first}
use Rattle.rules.specs.Fails.{join, stretches, lacks, undelivered, shortfalls, fails}
use Rattle.rules.specs.Book.{within_owed}
use Rattle.laws.proofs.Basics.{length_put, length_sort, each_sort, each_put, each_map}
use Rattle.laws.proofs.Orders.{units_order}
use Rattle.laws.proofs.Signed.{size_of_lem}
use Rattle.laws.proofs.Fails.{nonzero, nonzero_le, overlaps_count}
use Rattle.laws.proofs.Stretches.{lacks_length}
use Rattle.laws.proofs.Cutoff.{SoundRow, shorts_lacks}
use Rattle.markets.specs.Markets.{Market, those, markets, most_accounts, most_net}
use Rattle.markets.specs.Counts.{fails_of, eligible, with_entries, by_entries, counts_of}
use Rattle.markets.proofs.Listed.{every_those, markets_only}

-- Nets below a unit

abbrev pub Below : ℕ → Type 0
Below x = x < 100000

abbrev BelowUnit : AccountLots → Type 0
BelowUnit u = u.lots < 100000

-- receivers of less than a unit have one small unit each, and no full one
pub fulls_none : (rs : List AccountLots) → Every BelowUnit rs → fulls unit_lots rs ≡ []
fulls_none [] h = refl
fulls_none (r ∷ rs) h = rw (div-eq_of_lt h.0) (fulls_none rs h.1)

smalls_all : (k : ℕ) (xs : List ℕ) → Every Below xs → smalls unit_lots (by_account k xs) ≡ by_account k xs
smalls_all k [] h = refl
smalls_all k (zero ∷ xs) h = smalls_all (suc k) xs h.1
smalls_all k (suc x ∷ xs) h = rw (mod-eq_of_lt h.0, smalls_all (suc k) xs h.1) refl

pub small_receivers : (k : ℕ) (xs : List ℕ) → Every Below xs → Every BelowUnit (by_account k xs)
small_receivers k [] h = tt
small_receivers k (x ∷ xs) h = each_put BelowUnit k x (by_account (suc k) xs) (λ p. h.0) (small_receivers (suc k) xs h.1)

-- the units are the receivers, largest first
pub small_units : (xs : List ℕ) → Every Below xs → units unit_lots xs ≡ largest_first (receivers xs)
unfolding units
small_units xs h =
    let rs = receivers xs in
    rw (fulls_none (largest_first rs) (each_sort BelowUnit rs (small_receivers 0 xs h)), smalls_all 0 xs h) refl

-- and no two of them join
pub small_stretches : (us : List AccountLots) → Every BelowUnit us → stretches unit_lots us ≡ us
small_stretches [] h = refl
small_stretches (u ∷ us) h = rw (lt-leb unit_lots u.lots h.0, small_stretches us h.1) refl

pub within_small : (m : ℕ) (ns : List ℤ) → m < 100000 → Every (λ x. nat_abs x ≤ m) ns → Every Below (map due_of ns)
within_small m [] h p = tt
within_small m (n ∷ ns) h p = (omega (arith, size_of_lem n, p.0), within_small m ns h p.1)

-- Entries

-- deliverers that are short and receivers are no more than accounts
both_sides : (k : ℕ) (ns : List ℤ) (ds : List ℕ) →
    length (by_account k (map due_of ns)) + length (by_account k (undelivered (map owed_of ns) ds)) ≤ length ns
both_sides k [] ds = omega arith
both_sides k (n ∷ ns) [] =
    omega (arith, length_put k (due_of n) (by_account (suc k) (map due_of ns)), both_sides (suc k) ns [], none ns, one n)
  where
    none : (ms : List ℤ) → length (by_account (suc k) (undelivered (map owed_of ms) [])) ≡ 0
    none [] = refl
    none (m ∷ ms) = refl

    one : (m : ℤ) → min 1 (due_of m) ≤ 1
    one m = omega arith
both_sides k (n ∷ ns) (d ∷ ds) =
    omega (
      arith,
      length_put k (due_of n) (by_account (suc k) (map due_of ns)),
      length_put k (owed_of n - d) (by_account (suc k) (undelivered (map owed_of ns) ds)),
      both_sides (suc k) ns ds,
      one n,
    )
  where
    one : (m : ℤ) → min 1 (due_of m) + min 1 (owed_of m) ≤ 1
    one (pos m) = omega arith
    one (negsuc m) = omega arith

nonzero_sum : (vs : List AccountLots) → (min 1 (sum_lots vs) ≤ nonzero vs) × (nonzero vs ≤ sum_lots vs)
nonzero_sum [] = (omega arith, omega arith)
nonzero_sum (v ∷ vs) = let h = nonzero_sum vs in (omega arith, omega arith)

-- nets below a unit: fewer entries than accounts
pub small_fails : (nets : List ℤ) (delivered : List ℕ) → Every Below (map due_of nets) → SoundRow nets delivered →
    length (fails_of delivered nets) ≤ length nets - 1
unfolding fails_of fails
small_fails nets delivered h r =
    let xs = map due_of nets in
    let us = units unit_lots xs in
    let rs = receivers xs in
    let ss = shortfalls (map owed_of nets) delivered in
    let vs = lacks unit_lots us (sum delivered) in
    let e = shorts_lacks nets delivered us (units_order xs) r unit_lots in
    let l : length vs ≤ length (receivers xs) =
    let k = lacks_length unit_lots us (sum delivered) in
    let f : stretches unit_lots us ≡ largest_first rs =
    rw (small_units xs h) (small_stretches (largest_first rs) (each_sort BelowUnit rs (small_receivers 0 xs h))) in
    omega (arith, length_sort rs, rw f at k) in
    omega (
      arith,
      overlaps_count ss vs e,
      nonzero_sum ss,
      nonzero_sum vs,
      nonzero_le ss,
      nonzero_le vs,
      l,
      both_sides 0 nets delivered,
    )

pub market_entries : (n m : ℕ) (delivered : List ℕ) (v : List ℤ) → m < 100000 → length delivered ≡ n → Market n m v →
    within_owed v delivered ≡ true → length (fails_of delivered v) ≤ n - 1
market_entries n m delivered v h l k o =
    let r : SoundRow v delivered = record { lengths = k.accounts ∙ sym l; balance = k.zero; owed = o } in
    omega (arith, small_fails v delivered (within_small m v h k.within) r, k.accounts)

-- The five counts

one_count : (x : ℕ) → x < 5 → cond (eqb x 0) 1 0 + cond (eqb x 1) 1 0 + cond (eqb x 2) 1 0 + cond (eqb x 3) 1 0 + cond (eqb x 4) 1 0 ≡ 1
one_count zero h = refl
one_count (suc zero) h = refl
one_count (suc (suc zero)) h = refl
one_count (suc (suc (suc zero))) h = refl
one_count (suc (suc (suc (suc zero)))) h = refl
one_count (suc (suc (suc (suc (suc x))))) h = absurd (omega arith)

counts_sum : (delivered : List ℕ) (vs : List (List ℤ)) → Every (λ v. length (fails_of delivered v) < 5) vs →
    total (with_entries delivered 0) vs + total (with_entries delivered 1) vs + total (with_entries delivered 2) vs
    + total (with_entries delivered 3) vs + total (with_entries delivered 4) vs ≡ length vs
counts_sum delivered [] h = refl
counts_sum delivered (v ∷ vs) h = omega (arith, one_count (length (fails_of delivered v)) h.0, counts_sum delivered vs h.1)

-- each market counted has at most 4 entries
pub few_entries : (n m : ℕ) (delivered : List ℕ) → n ≤ most_accounts → m ≤ most_net → length delivered ≡ n →
    Every (λ v. length (fails_of delivered v) < 5) (eligible n m delivered)
unfolding eligible
few_entries n m delivered hn hm l =
    each_map (λ v. Market n m v × (within_owed v delivered ≡ true)) (λ v. length (fails_of delivered v) < 5)
    (λ v k. omega (arith, market_entries n m delivered v (omega arith) l k.0 k.1))
    (those (λ v. within_owed v delivered) (markets n m))
    (every_those (Market n m) (λ v. within_owed v delivered) (markets n m) (markets_only n m))

-- the five counts sum to the markets in which each account owes at least its lots
pub counts_all : (n m : ℕ) (delivered : List ℕ) → n ≤ most_accounts → m ≤ most_net → length delivered ≡ n →
    sum (counts_of n m delivered) ≡ length (eligible n m delivered)
unfolding counts_of
counts_all n m delivered hn hm l =
    omega (arith, counts_sum delivered (eligible n m delivered) (few_entries n m delivered hn hm l))
