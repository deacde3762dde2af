-- What a turn of each loop does: a list filled or changed place by place, and the runs from j on taken one by one.
use mathlib.Core.Path.{◌≡◌, refl, ap, ◌∙◌}
use mathlib.Core.Bool.{true}
use mathlib.Core.List.{List, [], ◌∷◌, ◌++◌, map, map-append}
use Prim.Native.Nat.{ℕ, zero, suc, ◌+◌, ◌-◌, ◌*◌, ◌/◌, ◌%◌, ◌≤◌, ◌<◌, min}
use native.Mathlib.Omega.{arith}
use native.Mathlib.Numerals.{add-one}
use lib.ListN.{length, take, drop, get_or, set, length-map, get_or-map, drop_of_length-le}
use lib.Dec.{lit<}
use lib.Seq.{take-suc, take-suc-set, drop-cons, get_or-take, length-take-le, take-append-add, take-append-le}
use borrow.Author.Tests.{le-leb}
use lib.IntN.{ℤ, pos, nat_abs}
use Rattle.rules.specs.Measures.{Every, unit_lots, most_lots, due_of}
use Rattle.rules.specs.Units.{AccountLots, account_lots, by_account, largest_first, units}
use Rattle.rules.specs.Ranking.{OnlyOrder}
use Rattle.rules.specs.Handover.{covered, stock}
use Rattle.rules.specs.Book.{all, row, within_size, dues_of}
use Rattle.laws.proofs.Basics.{each_append, each_map}
use Rattle.laws.proofs.Units.{Small}
use Rattle.laws.proofs.Ranking.{only_order}
use Rattle.laws.proofs.Cells.{length_dues}
use Rattle.laws.proofs.Sound.{each_get_or}
use Rattle.laws.proofs.Signed.{size_of_lem}
use Rattle.runs.specs.Runs.{part_of, runs_in, units_of_run, units_of_runs, units_in, full_of, small_lots, at_least, runs_of, Plain, CanRank, CanRankNets, RankedNets}
use Rattle.runs.proofs.Units.{units_runs, unit_past, unit_here, covered_run, stock_run, covered_over, stock_over, smalls_sorted}
use Rattle.runs.proofs.Cells.{row_sized}

-- a list filled by a function of another's elements
pub fill_more : (f : ℕ → ℕ) (src out : List ℕ) (i : ℕ) → i < length src → i < length out →
    take i out ≡ map f (take i src) → take (i + 1) (set out i (f (get_or src i 0))) ≡ map f (take (i + 1) src)
fill_more f src out i h g e =
    rw (add-one, take-suc-set out i (f (get_or src i 0)) g, take-suc src i 0 h, map-append, e)

-- the same in place, seen through g and h
pub turn_more : {B : Type 0} (g h : ℕ → B) (k₀ ks : List ℕ) (i v : ℕ) → i < length k₀ → i < length ks → g v ≡ h (get_or k₀ i 0) →
    map g (take i ks) ≡ map h (take i k₀) → map g (take (i + 1) (set ks i v)) ≡ map h (take (i + 1) k₀)
turn_more g h k₀ ks i v l m e f =
    rw (add-one, take-suc-set ks i v m, take-suc k₀ i 0 l, map-append, map-append, f, e)

pub full_key : (k : ℕ) → part_of (k - k / 64 % 100000 * 64) ≡ full_of (part_of k)
full_key k =
    let p : (k - k / 64 % 100000 * 64) % 64 ≡ k % 64 = omega arith in
    let q : (k - k / 64 % 100000 * 64) / 64 ≡ k / 64 / 100000 * 100000 = omega arith in
    rw (p, q)

module _ (runs : List ℕ) (n j : ℕ) (l : n ≤ length runs) where
  pub runs_length : length (runs_in runs n) ≡ n
  runs_length = length-map (take n runs) part_of ∙ length-take-le n runs l

  pub runs_end : n ≤ j → drop j (runs_in runs n) ≡ []
  runs_end h = let e : length (runs_in runs n) ≤ j = omega (arith, runs_length) in drop_of_length-le (runs_in runs n) e

  pub runs_at_lem : j < n → drop j (runs_in runs n) ≡ part_of (get_or runs j 0) ∷ drop (suc j) (runs_in runs n)
  runs_at_lem h =
      drop-cons (runs_in runs n) j (part_of 0) (omega (arith, runs_length))
      ∙ ap (λ u. u ∷ drop (suc j) (runs_in runs n)) (get_or-map part_of (take n runs) j 0 ∙ ap part_of (get_or-take n runs j 0 h))

  pub units_at : j < n → units_of_runs (drop j (runs_in runs n)) ≡ units_of_run (part_of (get_or runs j 0)) ++ units_of_runs (drop (suc j) (runs_in runs n))
  units_at h = ap units_of_runs (runs_at_lem h)

  -- the k-th unit: past a run, or in it
  pub unit_next : (k c : ℕ) → j < n → c ≡ (get_or runs j 0 / 64 + 99999) / 100000 → c ≤ k →
      drop k (units_of_runs (drop j (runs_in runs n))) ≡ drop (k - c) (units_of_runs (drop (j + 1) (runs_in runs n)))
  unit_next k c h e g =
      rw (units_at h, add-one, e) (unit_past (part_of (get_or runs j 0)) (units_of_runs (drop (suc j) (runs_in runs n))) k (omega arith))

  pub unit_is : (k x : ℕ) → j < n → k * 100000 < get_or runs j 0 / 64 → x ≡ min (get_or runs j 0 / 64 - k * 100000) 100000 →
      drop k (units_of_runs (drop j (runs_in runs n)))
      ≡ account_lots (get_or runs j 0 % 64) x ∷ drop (k + 1) (units_of_runs (drop j (runs_in runs n)))
  unit_is k x h g e = rw (units_at h) (unit_here (part_of (get_or runs j 0)) (units_of_runs (drop (suc j) (runs_in runs n))) k x g e)

  -- what a total covers
  pub covered_next : (d : ℕ) → j < n → get_or runs j 0 / 64 ≤ d →
      covered (units_of_runs (drop j (runs_in runs n))) d
      ≡ (get_or runs j 0 / 64 + 99999) / 100000 + covered (units_of_runs (drop (j + 1) (runs_in runs n))) (d - get_or runs j 0 / 64)
  covered_next d h g = rw (units_at h, add-one) (covered_over (part_of (get_or runs j 0)) (units_of_runs (drop (suc j) (runs_in runs n))) d g)

  pub stock_next : (d : ℕ) → j < n → get_or runs j 0 / 64 ≤ d →
      stock (units_of_runs (drop j (runs_in runs n))) d ≡ stock (units_of_runs (drop (j + 1) (runs_in runs n))) (d - get_or runs j 0 / 64)
  stock_next d h g = rw (units_at h, add-one) (stock_over (part_of (get_or runs j 0)) (units_of_runs (drop (suc j) (runs_in runs n))) d g)

  pub covered_last : (d : ℕ) → j < n → d < get_or runs j 0 / 64 → covered (units_of_runs (drop j (runs_in runs n))) d ≡ d / 100000
  covered_last d h g = rw (units_at h) (covered_run (part_of (get_or runs j 0)) (units_of_runs (drop (suc j) (runs_in runs n))) d g)

  pub stock_last : (d : ℕ) → j < n → d < get_or runs j 0 / 64 → stock (units_of_runs (drop j (runs_in runs n))) d ≡ d % 100000
  stock_last d h g = rw (units_at h) (stock_run (part_of (get_or runs j 0)) (units_of_runs (drop (suc j) (runs_in runs n))) d g)

pub full_keys : (ks : List ℕ) → map (λ k. full_of (part_of k)) ks ≡ map full_of (map part_of ks)
full_keys [] = refl
full_keys (k ∷ ks) = ap (λ l. full_of (part_of k) ∷ l) (full_keys ks)

pub rest_small : (dues rests : List ℕ) → rests ≡ map small_lots dues → (a : ℕ) → get_or rests a 0 ≤ 20000000
rest_small dues rests e a = rw (e, get_or-map small_lots dues a 0) (omega arith)

-- n keys, and m behind them in the part that was lent
pub behind : (r₁ r₂ : List ℕ) (n m k : ℕ) → n ≤ length r₁ → m ≤ length r₂ →
    take (n + m) (take n r₁ ++ (r₂ ++ drop k (drop n r₁))) ≡ take n r₁ ++ take m r₂
behind r₁ r₂ n m k h g =
    let e : n + m ≡ length (take n r₁) + m = omega (arith, length-take-le n r₁ h) in
    ap (λ i. take i (take n r₁ ++ (r₂ ++ drop k (drop n r₁)))) e ∙ take-append-add (take n r₁) (r₂ ++ drop k (drop n r₁)) m
    ∙ ap (λ l. take n r₁ ++ l) (take-append-le m r₂ (drop k (drop n r₁)) g)

at_least_one : (xs : List ℕ) → map (at_least 1) xs ≡ xs
at_least_one [] = refl
at_least_one (zero ∷ xs) = ap (λ l. 0 ∷ l) (at_least_one xs)
at_least_one (suc n ∷ xs) = rw (le-leb 1 (suc n) (omega arith)) (ap (λ l. suc n ∷ l) (at_least_one xs))

pub ordered : (dues rests r₀ r₁ r₂ : List ℕ) (n m k : ℕ) → n ≤ length r₁ → m ≤ length r₂ →
    map part_of (take n r₀) ≡ largest_first (by_account 0 (map (at_least unit_lots) dues)) →
    map part_of (take n r₁) ≡ map full_of (map part_of (take n r₀)) →
    rests ≡ map small_lots dues →
    map part_of (take m r₂) ≡ largest_first (by_account 0 (map (at_least 1) rests)) →
    map part_of (take (n + m) (take n r₁ ++ (r₂ ++ drop k (drop n r₁)))) ≡ runs_of dues
unfolding runs_of
ordered dues rests r₀ r₁ r₂ n m k h g e f r s =
    ap (map part_of) (behind r₁ r₂ n m k h g) ∙ map-append part_of (take n r₁) (take m r₂)
    ∙ rw (f, e, s, at_least_one rests, r)

-- and they hold the one order of their units that the four cases nowhere contradict
only_units : (dues : List ℕ) (us : List AccountLots) → us ≡ units unit_lots dues → OnlyOrder unit_lots dues us
only_units dues us e = rw e (only_order unit_lots (lit< tt) dues)

pub ordered_only : (dues runs : List ℕ) (n : ℕ) → runs_in runs n ≡ runs_of dues → OnlyOrder unit_lots dues (units_in runs n)
unfolding units_in
ordered_only dues runs n r = only_units dues (units_of_runs (runs_in runs n)) (ap units_of_runs r ∙ units_runs dues)

-- the dues of an issue can be ranked
module _ (nets : List ℤ) (i : ℕ) (dues : List ℕ) (e : dues ≡ dues_of nets i) (s : all (within_size most_lots) nets ≡ true) where
  pub dues_small : (a : ℕ) → get_or dues a 0 ≤ most_lots
  dues_small a =
      rw (e, get_or-map due_of (row i nets) a (pos 0))
      (omega (
        arith,
        size_of_lem (get_or (row i nets) a (pos 0)),
        each_get_or (λ m. nat_abs m ≤ most_lots) (row i nets) a (pos 0) (row_sized nets i s) (omega arith),
      ))

pub can_rank : (nets : List ℤ) (i : ℕ) (dues runs : List ℕ) → dues ≡ dues_of nets i → CanRankNets nets i runs → CanRank 128 dues runs
can_rank nets i dues runs e c =
    record {
      accounts = ap length e ∙ length_dues nets i c.cells c.issue;
      held = c.room;
      small = dues_small nets i dues e c.size;
    }

-- ranked, they hold the issue's units
fulls_plain : (us : List AccountLots) → Every Plain (map full_of us)
fulls_plain [] = tt
fulls_plain (u ∷ us) = ((λ g. omega arith), fulls_plain us)

runs_plain : (dues : List ℕ) → Every Plain (runs_of dues)
unfolding runs_of
runs_plain dues =
    let fs = largest_first (by_account 0 (map (at_least unit_lots) dues)) in
    let ss = largest_first (by_account 0 (map small_lots dues)) in
    each_append Plain (map full_of fs) ss (fulls_plain fs)
    (each_map (Small unit_lots) Plain (λ v p h. absurd (omega (arith, p.1))) ss (smalls_sorted dues))

pub ranked_nets : (nets : List ℤ) (i : ℕ) (dues runs : List ℕ) (n : ℕ) → dues ≡ dues_of nets i → n ≤ 128 → runs_in runs n ≡ runs_of dues →
    RankedNets nets i runs n
unfolding units_in
ranked_nets nets i dues runs n e few r =
    record {
      few = few;
      units = ap units_of_runs (r ∙ ap runs_of e) ∙ units_runs (dues_of nets i);
      plain = rw r (runs_plain dues);
      runs = r ∙ ap runs_of e;
    }
