-- The runs of an issue stand for its units in order. Then the k-th unit, what a total covers, and the stock, run by
-- run: either the total passes over a whole run, or it ends in it and a division says where.
use mathlib.Core.Path.{◌≡◌, refl, sym, ap, ◌∙◌}
use mathlib.Core.Bool.{cond}
use mathlib.Core.List.{List, [], ◌∷◌, ◌++◌, map, append_assoc, append-nil}
use Prim.Native.Nat.{ℕ, zero, suc, ◌+◌, ◌-◌, ◌*◌, ◌/◌, ◌%◌, ◌≤◌, ◌<◌, min}
use native.Mathlib.Omega.{arith}
use native.Mathlib.Nat.{zero-mod, sub-zero}
use lib.Dec.{leb, ltb, lit<}
use lib.ListN.{length, drop, replicate, length-append, length-replicate}
use lib.Seq.{drop-append-add}
use borrow.Author.Tests.{ltb-true, ltb-false, leb-true, leb-false, le-leb, lt-leb}
use Rattle.rules.specs.Measures.{unit_lots}
use Rattle.rules.specs.Units.{AccountLots, account_lots, prepend, by_account, sum_lots, insert, largest_first, fulls, smalls, units}
use Rattle.rules.specs.Handover.{covered, stock, waiting, first_unit}
use Rattle.laws.proofs.Basics.{by_test, Every, each_map, each_sort, total_append, total_replicate, total_put, put_pos, length_put}
use Rattle.laws.proofs.Units.{Small, smalls_small}
use Rattle.laws.proofs.Ranking.{Before, Ordered, rising_parts, ordered_sort}
use Rattle.laws.proofs.Handover.{covered_past, stock_past}
use Rattle.runs.specs.Runs.{units_of_run, units_of_runs, full_of, small_lots, at_least, runs_of}

pub units_append : (us vs : List AccountLots) → units_of_runs (us ++ vs) ≡ units_of_runs us ++ units_of_runs vs
units_append [] vs = refl
units_append (u ∷ us) vs = ap (λ l. units_of_run u ++ l) (units_append us vs) ∙ sym (append_assoc (units_of_run u) (units_of_runs us) (units_of_runs vs))

run_full : (u : AccountLots) → units_of_run (full_of u) ≡ replicate (u.lots / 100000) (account_lots u.account 100000)
run_full u =
    let q : u.lots / 100000 * 100000 / 100000 ≡ u.lots / 100000 = omega arith in
    let r : u.lots / 100000 * 100000 % 100000 ≡ 0 = omega arith in
    rw (q, r) (append-nil (replicate (u.lots / 100000) (account_lots u.account 100000)))

units_fulls : (us : List AccountLots) → units_of_runs (map full_of us) ≡ fulls unit_lots us
units_fulls [] = refl
units_fulls (u ∷ us) = rw (run_full u, units_fulls us)

units_small : (us : List AccountLots) → Every (Small unit_lots) us → units_of_runs us ≡ us
units_small [] ps = refl
units_small (u ∷ us) ps =
    let q : u.lots / 100000 ≡ 0 = omega (arith, ps.0.1) in
    let r : u.lots % 100000 ≡ u.lots = omega (arith, ps.0.1) in
    rw (q, r, put_pos u.account u.lots [] ps.0.0) (ap (λ l. u ∷ l) (units_small us ps.1))

-- small units are the dues' remainders
pub smalls_parts : (size k : ℕ) (dues : List ℕ) → smalls size (by_account k dues) ≡ by_account k (map (λ x. x % size) dues)
smalls_parts size k [] = refl
smalls_parts size k (zero ∷ xs) = rw (zero-mod size) (smalls_parts size (suc k) xs)
smalls_parts size k (suc n ∷ xs) = ap (prepend k (suc n % size)) (smalls_parts size (suc k) xs)

pub smalls_sorted : (dues : List ℕ) → Every (Small unit_lots) (largest_first (by_account 0 (map small_lots dues)))
smalls_sorted dues =
    rw (← smalls_parts unit_lots 0 dues)
    (each_sort (Small unit_lots) (smalls unit_lots (by_account 0 dues)) (smalls_small unit_lots (lit< tt) (by_account 0 dues)))

-- the receivers with a full unit stand in front
abbrev pub with_full : List AccountLots → List AccountLots
with_full [] = []
with_full (u ∷ us) = cond (leb 100000 u.lots) (u ∷ with_full us) []

full_insert : (u : AccountLots) (us : List AccountLots) → 100000 ≤ u.lots → with_full (insert u us) ≡ insert u (with_full us)
full_insert u [] h = rw (le-leb 100000 u.lots h)
full_insert u (v ∷ vs) h =
    by_test (ltb u.lots v.lots)
    (λ e. simp (e, le-leb 100000 v.lots (omega (arith, ltb-true u.lots v.lots e))) (ap (λ l. v ∷ l) (full_insert u vs h)))
    (λ e. by_test (leb 100000 v.lots) (λ f. simp (e, f, le-leb 100000 u.lots h)) (λ f. simp (e, f, le-leb 100000 u.lots h)))

small_insert : (u : AccountLots) (us : List AccountLots) → u.lots < 100000 → with_full (insert u us) ≡ with_full us
small_insert u [] h = rw (lt-leb 100000 u.lots h)
small_insert u (v ∷ vs) h =
    by_test (ltb u.lots v.lots)
    (λ e. by_test (leb 100000 v.lots) (λ f. simp (e, f) (ap (λ l. v ∷ l) (small_insert u vs h))) (λ f. simp (e, f)))
    (λ e. simp (e, lt-leb 100000 u.lots h, lt-leb 100000 v.lots (omega (arith, ltb-false u.lots v.lots e))))

pub full_sorted : (k : ℕ) (dues : List ℕ) → largest_first (by_account k (map (at_least 100000) dues)) ≡ with_full (largest_first (by_account k dues))
full_sorted k [] = refl
full_sorted k (zero ∷ xs) = full_sorted (suc k) xs
full_sorted k (suc n ∷ xs) =
    by_test (leb 100000 (suc n))
    (λ e.
    simp e (ap (insert (account_lots k (suc n))) (full_sorted (suc k) xs)
    ∙ sym (full_insert (account_lots k (suc n)) (largest_first (by_account (suc k) xs)) (leb-true 100000 (suc n) e))))
    (λ e.
    simp e (full_sorted (suc k) xs
    ∙ sym (small_insert (account_lots k (suc n)) (largest_first (by_account (suc k) xs)) (leb-false 100000 (suc n) e))))

no_fulls : (us : List AccountLots) → Every (λ u. u.lots < 100000) us → fulls unit_lots us ≡ []
no_fulls [] hs = refl
no_fulls (u ∷ us) hs = let q : u.lots / 100000 ≡ 0 = omega (arith, hs.0) in rw q (no_fulls us hs.1)

-- the others have no full units
fulls_front : (us : List AccountLots) → Ordered us → fulls unit_lots (with_full us) ≡ fulls unit_lots us
fulls_front [] os = refl
fulls_front (u ∷ us) os =
    by_test (leb 100000 u.lots)
    (λ e. simp e (ap (λ l. replicate (u.lots / 100000) (account_lots u.account 100000) ++ l) (fulls_front us os.1)))
    (λ e.
    let h = leb-false 100000 u.lots e in
    let q : u.lots / 100000 ≡ 0 = omega arith in
    simp e (sym (rw q (no_fulls us (each_map (Before u) (λ v. v.lots < 100000) (λ v b. omega (arith, b.size)) us os.0)))))

-- the runs are the units' order
pub units_runs : (dues : List ℕ) → units_of_runs (runs_of dues) ≡ units unit_lots dues
unfolding runs_of units
units_runs dues =
    let fs = largest_first (by_account 0 (map (at_least unit_lots) dues)) in
    let ss = largest_first (by_account 0 (map small_lots dues)) in
    let f : fulls unit_lots fs ≡ fulls unit_lots (largest_first (by_account 0 dues)) =
    ap (fulls unit_lots) (full_sorted 0 dues) ∙ fulls_front (largest_first (by_account 0 dues)) (ordered_sort (by_account 0 dues) (rising_parts 0 dues)) in
    rw (smalls_parts unit_lots 0 dues)
    (units_append (map full_of fs) ss ∙ rw (units_fulls fs, units_small ss (smalls_sorted dues), f))

-- how many units a run has, and its lots
pub run_length : (u : AccountLots) → length (units_of_run u) ≡ (u.lots + 99999) / 100000
run_length u =
    omega (
      arith,
      length-append (replicate (u.lots / 100000) (account_lots u.account 100000)) (prepend u.account (u.lots % 100000) []),
      length-replicate (u.lots / 100000) (account_lots u.account 100000),
      length_put u.account (u.lots % 100000) [],
    )

pub run_lots : (u : AccountLots) → sum_lots (units_of_run u) ≡ u.lots
run_lots u =
    omega (
      arith,
      total_append (λ u. u.lots) (replicate (u.lots / 100000) (account_lots u.account 100000)) (prepend u.account (u.lots % 100000) []),
      total_replicate (λ u. u.lots) (u.lots / 100000) (account_lots u.account 100000),
      total_put (λ u. u.lots) u.account (u.lots % 100000) [] refl,
    )

-- a run's first unit, and the run without it
pub run_first : (a x : ℕ) → 0 < x → units_of_run (account_lots a x) ≡ account_lots a (min x 100000) ∷ units_of_run (account_lots a (x - 100000))
run_first a x h =
    by_test (leb 100000 x)
    (λ e.
    let l = leb-true 100000 x e in
    let m : min x 100000 ≡ 100000 = omega arith in
    let q : x / 100000 ≡ suc ((x - 100000) / 100000) = omega arith in
    let r : x % 100000 ≡ (x - 100000) % 100000 = omega arith in
    rw (m, q, r))
    (λ e.
    let l = leb-false 100000 x e in
    let m : min x 100000 ≡ x = omega arith in
    let z : x - 100000 ≡ 0 = omega arith in
    let q : x / 100000 ≡ 0 = omega arith in
    let r : x % 100000 ≡ x = omega arith in
    rw (m, z, q, r) (put_pos a x [] h))

-- a run without its first k units
pub run_drop : (a x k : ℕ) (us : List AccountLots) → k * 100000 < x + 100000 →
    drop k (units_of_run (account_lots a x) ++ us) ≡ units_of_run (account_lots a (x - k * 100000)) ++ us
run_drop a x zero us h = sym (ap (λ y. units_of_run (account_lots a y) ++ us) (sub-zero x))
run_drop a zero (suc k) us h = absurd (omega arith)
run_drop a (suc x) (suc k) us h =
    let e : suc x - 100000 - k * 100000 ≡ suc x - suc k * 100000 = omega arith in
    ap (λ l. drop (suc k) (l ++ us)) (run_first a (suc x) (omega arith))
    ∙ run_drop a (suc x - 100000) k us (omega arith) ∙ ap (λ y. units_of_run (account_lots a y) ++ us) e

-- the k-th unit: past a run, or in it
pub unit_past : (u : AccountLots) (us : List AccountLots) (k : ℕ) → (u.lots + 99999) / 100000 ≤ k →
    drop k (units_of_run u ++ us) ≡ drop (k - (u.lots + 99999) / 100000) us
unit_past u us k h =
    let e : k ≡ length (units_of_run u) + (k - (u.lots + 99999) / 100000) = omega (arith, run_length u) in
    ap (λ n. drop n (units_of_run u ++ us)) e ∙ drop-append-add (units_of_run u) us (k - (u.lots + 99999) / 100000)

pub unit_here : (u : AccountLots) (us : List AccountLots) (k x : ℕ) → k * 100000 < u.lots → x ≡ min (u.lots - k * 100000) 100000 →
    drop k (units_of_run u ++ us) ≡ account_lots u.account x ∷ drop (k + 1) (units_of_run u ++ us)
unit_here u us k x h e =
    let y = u.lots - k * 100000 in
    let f : u.lots - (k + 1) * 100000 ≡ y - 100000 = omega arith in
    run_drop u.account u.lots k us (omega arith)
    ∙ ap (λ l. l ++ us) (run_first u.account y (omega arith))
    ∙ rw (e, run_drop u.account u.lots (k + 1) us (omega arith), f)

-- a total that ends in a run
record Within (us : List AccountLots) (d n s : ℕ) : Type 0 where
  pub count : covered us d ≡ n
  pub left : stock us d ≡ s

within_run : (a q r d : ℕ) (us : List AccountLots) → r < 100000 → d < q * 100000 + r →
    Within (replicate q (account_lots a 100000) ++ (prepend a r [] ++ us)) d (d / 100000) (d % 100000)
within_run a zero zero d us h g = absurd (omega arith)
within_run a zero (suc r) d us h g =
    let e = lt-leb (suc r) d (omega arith) in
    record { count = rw e (omega arith); left = rw e (omega arith) }
within_run a (suc q) r d us h g =
    by_test (leb 100000 d)
    (λ e.
    let l = leb-true 100000 d e in
    let w = within_run a q r (d - 100000) us h (omega arith) in
    record { count = simp e (omega (arith, w.count)); left = simp e (omega (arith, w.left)) })
    (λ e.
    let l = leb-false 100000 d e in
    record { count = simp e (omega arith); left = simp e (omega arith) })

module _ (u : AccountLots) (us : List AccountLots) (d : ℕ) (h : d < u.lots) where
  within : Within (units_of_run u ++ us) d (d / 100000) (d % 100000)
  within =
      rw (append_assoc (replicate (u.lots / 100000) (account_lots u.account 100000)) (prepend u.account (u.lots % 100000) []) us)
      (within_run u.account (u.lots / 100000) (u.lots % 100000) d us (omega arith) (omega arith))

  pub covered_run : covered (units_of_run u ++ us) d ≡ d / 100000
  covered_run = within.count

  pub stock_run : stock (units_of_run u ++ us) d ≡ d % 100000
  stock_run = within.left

  -- what waits of the run
  pub waits_run : waiting (units_of_run u ++ us) d ≡ units_of_run (account_lots u.account (u.lots - d / 100000 * 100000)) ++ us
  waits_run = rw covered_run (run_drop u.account u.lots (d / 100000) us (omega arith))

  pub first_run : (first_unit (waiting (units_of_run u ++ us) d)).account ≡ u.account
  first_run =
      ap (λ l. (first_unit l).account)
      (waits_run ∙ ap (λ l. l ++ us) (run_first u.account (u.lots - d / 100000 * 100000) (omega arith)))

-- and one that passes over it
module _ (u : AccountLots) (us : List AccountLots) (d : ℕ) (h : u.lots ≤ d) where
  pub covered_over : covered (units_of_run u ++ us) d ≡ (u.lots + 99999) / 100000 + covered us (d - u.lots)
  covered_over = rw (← run_length u) (rw (run_lots u) at (covered_past (units_of_run u) us d (omega (arith, run_lots u))))

  pub stock_over : stock (units_of_run u ++ us) d ≡ stock us (d - u.lots)
  stock_over = rw (run_lots u) at (stock_past (units_of_run u) us d (omega (arith, run_lots u)))

  pub waits_over : waiting (units_of_run u ++ us) d ≡ waiting us (d - u.lots)
  waits_over =
      rw (covered_over, ← run_length u) (drop-append-add (units_of_run u) us (covered us (d - u.lots)))
