-- The runs of an issue can be dealt, and dealt are the definition's units.
use mathlib.Core.Path.{◌≡◌, refl, sym, ap, ◌∙◌}
use mathlib.Core.List.{List, [], ◌∷◌, ◌++◌, map, append-nil}
use Prim.Native.Nat.{ℕ, zero, suc, ◌+◌, ◌-◌, ◌*◌, ◌/◌, ◌≤◌, ◌<◌}
use native.Mathlib.Omega.{arith}
use lib.Dec.{leb, ltb}
use lib.ListN.{length, take, drop, get_or, length-append, get_or-map}
use lib.Seq.{take-append-add, drop-append-add, get_or-take, take-take}
use borrow.Author.Tests.{lt-leb, le-leb, ltb-true, ltb-false, leb-true, leb-false}
use Rattle.rules.specs.Measures.{Every, unit_lots}
use Rattle.rules.specs.Units.{AccountLots, account_lots, by_account, largest_first}
use Rattle.rules.specs.Handover.{first_unit}
use Rattle.rules.specs.Ranking.{Pairwise}
use Rattle.rules.specs.Dealt.{round, rounds, dealt}
use Rattle.laws.proofs.Basics.{by_test, each_map, each_sort, each_put}
use Rattle.laws.proofs.Units.{Small}
use Rattle.laws.proofs.Ranking.{Before, Ordered, ordered_sort, rising_parts}
use Rattle.laws.proofs.Dealt.{most_first}
use Rattle.runs.specs.Runs.{part_of, runs_in, full_of, small_lots, runs_of}
use Rattle.inturn.specs.InTurn.{CanDeal, smalls_of, dealt_runs}
use Rattle.dealing.specs.Dealing.{full_number}
use Rattle.runs.proofs.Units.{with_full, full_sorted, smalls_parts, smalls_sorted}
use Rattle.runs.proofs.Loops.{runs_length}
use Rattle.runs.proofs.Words.{word_at, words_end}
use Rattle.inturn.proofs.Dealing.{round_none, rounds_same, rounds_more}

-- Runs of full units in front

module _ (runs : List ℕ) (m : ℕ) where
  pub number_small : m < length runs → get_or runs m 0 < 6400000 → full_number (drop m (map part_of runs)) ≡ 0
  number_small h g = rw (word_at runs m h, lt-leb 100000 (get_or runs m 0 / 64) (omega arith))

  pub number_full : m < length runs → 6400000 ≤ get_or runs m 0 → full_number (drop m (map part_of runs)) ≡ suc (full_number (drop (m + 1) (map part_of runs)))
  number_full h g = rw (word_at runs m h, le-leb 100000 (get_or runs m 0 / 64) (omega arith))

  pub number_end : length runs ≤ m → full_number (drop m (map part_of runs)) ≡ 0
  number_end h = ap full_number (words_end runs m h)

-- The runs of an issue, dealt, are the definition's units

round_map : (s : ℕ) (us : List AccountLots) → round unit_lots s (map full_of us) ≡ round unit_lots s us
round_map s [] = refl
round_map s (u ∷ us) =
    let q : u.lots / 100000 * 100000 / 100000 ≡ u.lots / 100000 = omega arith in
    rw q
    (by_test (ltb s (u.lots / 100000))
    (λ e. simp e (ap (λ l. account_lots u.account unit_lots ∷ l) (round_map s us)))
    (λ e. simp e (round_map s us)))

round_front : (s : ℕ) (us : List AccountLots) → Ordered us → round unit_lots s (with_full us) ≡ round unit_lots s us
round_front s [] os = refl
round_front s (u ∷ us) os =
    by_test (leb 100000 u.lots)
    (λ e.
    simp e (by_test (ltb s (u.lots / 100000))
    (λ f. simp f (ap (λ l. account_lots u.account unit_lots ∷ l) (round_front s us os.1)))
    (λ f. simp f (round_front s us os.1))))
    (λ e.
    let h = leb-false 100000 u.lots e in
    simp e (sym (round_none unit_lots s (u ∷ us)
    (omega arith, each_map (Before u) (λ v. v.lots / unit_lots ≤ s) (λ v b. omega (arith, b.size)) us os.0))))

rounds_past : (size r n d : ℕ) (us : List AccountLots) → Every (λ v. v.lots / size ≤ r + n) us → rounds size r (d + n) us ≡ rounds size r n us
rounds_past size r n zero us ps = let e : 0 + n ≡ n = omega arith in ap (λ i. rounds size r i us) e
rounds_past size r n (suc d) us ps =
    let e : suc d + n ≡ suc (d + n) = omega arith in
    ap (λ i. rounds size r i us) e
    ∙ rounds_more size r (d + n) us (each_map _ (λ v. v.lots / size ≤ r + (d + n)) (λ v h. omega (arith, h)) us ps)
    ∙ rounds_past size r n d us ps

number_split : (us vs : List AccountLots) → Every (λ u. 100000 ≤ u.lots) us → Every (λ v. v.lots < 100000) vs → full_number (us ++ vs) ≡ length us
number_split [] [] ps qs = refl
number_split [] (v ∷ vs) ps qs = rw (lt-leb 100000 v.lots qs.0)
number_split (u ∷ us) vs ps qs = rw (le-leb 100000 u.lots ps.0) (ap suc (number_split us vs ps.1 qs))

with_full_lem : (us : List AccountLots) → Every (λ u. 100000 ≤ u.lots) (map full_of (with_full us))
with_full_lem [] = tt
with_full_lem (u ∷ us) =
    by_test (leb 100000 u.lots)
    (λ e. simp e ((omega (arith, leb-true 100000 u.lots e), with_full_lem us)))
    (λ e. simp e tt)

full_falls : (us : List AccountLots) → Ordered us → Pairwise (λ u v. v.lots / 100000 ≤ u.lots / 100000) (map full_of (with_full us))
full_falls [] os = tt
full_falls (u ∷ us) os =
    by_test (leb 100000 u.lots)
    (λ e. simp e ((below u us os.0, full_falls us os.1)))
    (λ e. simp e tt)
  where
    below : (u : AccountLots) (vs : List AccountLots) → Every (Before u) vs → Every (λ v. v.lots / 100000 ≤ (full_of u).lots / 100000) (map full_of (with_full vs))
    below u [] bs = tt
    below u (v ∷ vs) bs =
        by_test (leb 100000 v.lots)
        (λ e. simp e ((omega (arith, bs.0.size), below u vs bs.1)))
        (λ e. simp e tt)

each_at : (P : AccountLots → Type 0) (us : List AccountLots) (p : AccountLots) (i : ℕ) → Every P us → i < length us → P (get_or us i p)
each_at P [] p i ps h = absurd (omega arith)
each_at P (u ∷ us) p zero ps h = ps.0
each_at P (u ∷ us) p (suc i) ps h = each_at P us p i ps.1 (omega arith)

pair_at : (R : AccountLots → AccountLots → Type 0) (us : List AccountLots) (p : AccountLots) (i j : ℕ) → Pairwise R us → i < j → j < length us → R (get_or us i p) (get_or us j p)
pair_at R [] p i j ps h g = absurd (omega arith)
pair_at R (u ∷ us) p i zero ps h g = absurd (omega arith)
pair_at R (u ∷ us) p zero (suc j) ps h g = each_at (R u) us p j ps.0 (omega arith)
pair_at R (u ∷ us) p (suc i) (suc j) ps h g = pair_at R us p i j ps.1 (omega arith) (omega arith)

run_at : (runs : List ℕ) (m j : ℕ) → j < m → get_or (runs_in runs m) j (part_of 0) ≡ part_of (get_or runs j 0)
run_at runs m j h = get_or-map part_of (take m runs) j 0 ∙ ap part_of (get_or-take m runs j 0 h)

module _ (dues runs : List ℕ) (n : ℕ) (held : n ≤ length runs) (few : n ≤ 128) (small : (a : ℕ) → get_or dues a 0 ≤ 20000000) (e : runs_in runs n ≡ runs_of dues) where
  abbrev rs : List AccountLots
  rs = largest_first (by_account 0 dues)

  abbrev fs : List AccountLots
  fs = map full_of (with_full rs)

  abbrev ss : List AccountLots
  ss = largest_first (by_account 0 (map small_lots dues))

  abbrev m : ℕ
  m = full_number (runs_in runs n)

  ordered_rs : Ordered rs
  ordered_rs = ordered_sort (by_account 0 dues) (rising_parts 0 dues)

  apart : runs_in runs n ≡ fs ++ ss
  unfolding runs_of
  apart = e ∙ ap (λ l. map full_of l ++ ss) (full_sorted 0 dues)

  number_fs : m ≡ length fs
  number_fs =
      ap full_number apart
      ∙ number_split fs ss (with_full_lem rs) (each_map (Small unit_lots) (λ v. v.lots < 100000) (λ v p. p.1) ss (smalls_sorted dues))

  m_few : m ≤ n
  m_few = omega (arith, number_fs, ap length apart, length-append fs ss, runs_length runs n 0 held)

  runs_fs : runs_in runs m ≡ fs
  runs_fs =
      let p : take m (runs_in runs n) ≡ runs_in runs m = map_take m (take n runs) ∙ ap (map part_of) (take-take m n runs m_few) in
      let l : m ≡ length fs + 0 = omega (arith, number_fs) in
      sym p ∙ ap (take m) apart ∙ ap (λ i. take i (fs ++ ss)) l ∙ take-append-add fs ss 0 ∙ append-nil fs
    where
      map_take : (k : ℕ) (xs : List ℕ) → take k (map part_of xs) ≡ map part_of (take k xs)
      map_take zero xs = refl
      map_take (suc k) [] = refl
      map_take (suc k) (x ∷ xs) = ap (λ l. part_of x ∷ l) (map_take k xs)

  pub small_ss : smalls_of runs n m ≡ ss
  small_ss =
      let l : m ≡ length fs + 0 = omega (arith, number_fs) in
      ap (drop m) apart ∙ ap (λ i. drop i (fs ++ ss)) l ∙ drop-append-add fs ss 0

  -- no account has more than 200 full units
  rs_small : Every (λ v. v.lots ≤ 20000000) rs
  rs_small = each_sort (λ v. v.lots ≤ 20000000) (by_account 0 dues) (go 0 dues small)
    where
      go : (k : ℕ) (xs : List ℕ) → ((a : ℕ) → get_or xs a 0 ≤ 20000000) → Every (λ v. v.lots ≤ 20000000) (by_account k xs)
      go k [] ps = tt
      go k (x ∷ xs) ps = each_put (λ v. v.lots ≤ 20000000) k x (by_account (suc k) xs) (λ h. ps 0) (go (suc k) xs (λ a. ps (suc a)))

  fs_small : (us : List AccountLots) → Every (λ v. v.lots ≤ 20000000) us → Every (λ v. v.lots / 100000 ≤ 200) (map full_of (with_full us))
  fs_small [] ps = tt
  fs_small (u ∷ us) ps =
      by_test (leb 100000 u.lots)
      (λ f. simp f ((omega (arith, ps.0), fs_small us ps.1)))
      (λ f. simp f tt)

  lots_at_lem : (j : ℕ) → j < m → (get_or (runs_in runs m) j (part_of 0)).lots ≡ get_or runs j 0 / 64
  lots_at_lem j h = ap (λ u. u.lots) (run_at runs m j h)

  pub can_deal : CanDeal runs n m
  can_deal =
      let there : m ≤ length runs = omega (arith, m_few) in
      let l : length (runs_in runs m) ≡ m = runs_length runs m 0 there in
      record {
        falling = record {
          there = there;
          falls = λ i j h g.
              by_test (ltb i j)
              (λ f.
              omega (
                arith,
                lots_at_lem i (omega arith),
                lots_at_lem j g,
                pair_at (λ u v. v.lots / 100000 ≤ u.lots / 100000) (runs_in runs m) (part_of 0) i j
                    (rw runs_fs (full_falls rs ordered_rs)) (ltb-true i j f) (omega arith),
              ))
              (λ f. let q : i ≡ j = omega (arith, ltb-false i j f) in rw q (omega arith));
        };
        held = held;
        few = few;
        fulls = m_few;
        small = λ j h.
            omega (
              arith,
              lots_at_lem j h,
              each_at (λ u. u.lots / 100000 ≤ 200) (runs_in runs m) (part_of 0) j (rw runs_fs (fs_small rs rs_small)) (omega arith),
            );
      }

  -- dealt out of the runs, or out of the receivers, the units are the same
  pub dealt_runs_lem : dealt_runs runs n m ≡ dealt unit_lots dues
  unfolding dealt_runs dealt
  dealt_runs_lem =
      let last = (first_unit rs).lots / 100000 in
      let most = most_first rs ordered_rs in
      let some : last ≤ 200 = first_small rs rs_small in
      let q : 200 ≡ 200 - last + last = omega arith in
      rw (runs_fs, small_ss, smalls_parts unit_lots 0 dues)
      (ap (λ l. l ++ ss)
      (rounds_same unit_lots 0 200 fs rs (λ s h. round_map s (with_full rs) ∙ round_front s rs ordered_rs)
      ∙ ap (λ i. rounds unit_lots 0 i rs) q
      ∙ rounds_past unit_lots 0 last (200 - last) rs (each_map _ (λ v. v.lots / unit_lots ≤ 0 + last) (λ v h. omega (arith, h)) rs most)))
    where
      first_small : (us : List AccountLots) → Every (λ v. v.lots ≤ 20000000) us → (first_unit us).lots / 100000 ≤ 200
      first_small [] ps = omega arith
      first_small (u ∷ us) ps = omega (arith, ps.0)
