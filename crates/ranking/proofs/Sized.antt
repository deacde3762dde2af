-- Runs at any size of units: they stand for an issue's units in order.
use mathlib.Core.Path.{◌≡◌, refl, sym, ap, subst, ◌∙◌}
use mathlib.Core.Bool.{cond}
use mathlib.Core.List.{List, [], ◌∷◌, ◌++◌, map, map-append, append_assoc, append-nil}
use Prim.Native.Nat.{ℕ, zero, suc, ◌+◌, ◌-◌, ◌*◌, ◌/◌, ◌%◌, ◌≤◌, ◌<◌}
use native.Mathlib.Omega.{arith}
use native.Mathlib.Nat.{mod-le, div-add-mod', div-eq_of_lt, mod-eq_of_lt, mul-div_cancel, mul-mod_left}
use lib.Dec.{leb, ltb, eqb}
use lib.ListN.{length, get_or, set, take, drop, replicate, length-drop, length-append, length-map}
use lib.Seq.{get_or-set_same, get_or-set_other, get_or-take, length-take-le, take_at, drop_at, ext_get_or}
use lib.IntN.{ℤ}
use borrow.Author.Tests.{leb-true, leb-false, ltb-true, ltb-false, le-leb, lt-leb, eqb-true, eqb-false}
use Rattle.rules.specs.Measures.{most_lots}
use Rattle.rules.specs.Units.{AccountLots, account_lots, prepend, by_account, insert, largest_first, fulls, smalls, units}
use Rattle.rules.specs.Book.{block, dues_of}
use Rattle.laws.proofs.Basics.{by_test, Every, each_map, each_sort, put_pos, put_none}
use Rattle.laws.proofs.Units.{Small, smalls_small}
use Rattle.laws.proofs.Ranking.{Before, Ordered, rising_parts, ordered_sort}
use Rattle.laws.proofs.Cells.{length_block, get_or_block, length_dues}
use Rattle.runs.specs.Runs.{part_of, runs_in, at_least}
use Rattle.runs.proofs.Units.{smalls_parts}
use Rattle.runs.proofs.Loops.{behind, dues_small}
use Rattle.ranking.specs.Runs.{units_of_run, units_of_runs}
use Rattle.ranking.specs.Orders.{full_at, full_word, small_at, runs_at, CanOrder, CanRankAt, RankedAt, RankedIn}

pub units_append : (size : ℕ) (us vs : List AccountLots) → units_of_runs size (us ++ vs) ≡ units_of_runs size us ++ units_of_runs size vs
units_append size [] vs = refl
units_append size (u ∷ us) vs =
    ap (λ l. units_of_run size u ++ l) (units_append size us vs)
    ∙ sym (append_assoc (units_of_run size u) (units_of_runs size us) (units_of_runs size vs))

module _ (size : ℕ) (p : 0 < size) where
  run_full : (u : AccountLots) → units_of_run size (full_at size u) ≡ replicate (u.lots / size) (account_lots u.account size)
  run_full u =
      let k = u.lots / size in
      let fs = replicate k (account_lots u.account size) in
      ap (λ n. replicate n (account_lots u.account size) ++ prepend u.account (k * size % size) []) (mul-div_cancel k p)
      ∙ ap (λ l. fs ++ l) (put_none u.account (k * size % size) [] (mul-mod_left k size))
      ∙ append-nil fs

  units_fulls : (us : List AccountLots) → units_of_runs size (map (full_at size) us) ≡ fulls size us
  units_fulls [] = refl
  units_fulls (u ∷ us) =
      ap (λ l. l ++ units_of_runs size (map (full_at size) us)) (run_full u)
      ∙ ap (λ l. replicate (u.lots / size) (account_lots u.account size) ++ l) (units_fulls us)

  units_small : (us : List AccountLots) → Every (Small size) us → units_of_runs size us ≡ us
  units_small [] ps = refl
  units_small (u ∷ us) ps =
      ap (λ n. (replicate n (account_lots u.account size) ++ prepend u.account (u.lots % size) []) ++ units_of_runs size us) (div-eq_of_lt ps.0.1)
      ∙ ap (λ n. prepend u.account n [] ++ units_of_runs size us) (mod-eq_of_lt ps.0.1)
      ∙ ap (λ l. l ++ units_of_runs size us) (put_pos u.account u.lots [] ps.0.0)
      ∙ ap (λ l. u ∷ l) (units_small us ps.1)

  smalls_sorted : (dues : List ℕ) → Every (Small size) (largest_first (by_account 0 (map (small_at size) dues)))
  smalls_sorted dues =
      subst (λ us. Every (Small size) (largest_first us)) (smalls_parts size 0 dues)
      (each_sort (Small size) (smalls size (by_account 0 dues)) (smalls_small size p (by_account 0 dues)))

  -- the receivers with a full unit stand in front
  abbrev with_full : List AccountLots → List AccountLots
  with_full [] = []
  with_full (u ∷ us) = cond (leb size u.lots) (u ∷ with_full us) []

  full_insert : (u : AccountLots) (us : List AccountLots) → size ≤ u.lots → with_full (insert u us) ≡ insert u (with_full us)
  full_insert u [] h = rw (le-leb size u.lots h)
  full_insert u (v ∷ vs) h =
      by_test (ltb u.lots v.lots)
      (λ e. simp (e, le-leb size v.lots (omega (arith, ltb-true u.lots v.lots e))) (ap (λ l. v ∷ l) (full_insert u vs h)))
      (λ e. by_test (leb size v.lots) (λ f. simp (e, f, le-leb size u.lots h)) (λ f. simp (e, f, le-leb size u.lots h)))

  small_insert : (u : AccountLots) (us : List AccountLots) → u.lots < size → with_full (insert u us) ≡ with_full us
  small_insert u [] h = rw (lt-leb size u.lots h)
  small_insert u (v ∷ vs) h =
      by_test (ltb u.lots v.lots)
      (λ e. by_test (leb size v.lots) (λ f. simp (e, f) (ap (λ l. v ∷ l) (small_insert u vs h))) (λ f. simp (e, f)))
      (λ e. simp (e, lt-leb size u.lots h, lt-leb size v.lots (omega (arith, ltb-false u.lots v.lots e))))

  full_sorted : (k : ℕ) (dues : List ℕ) → largest_first (by_account k (map (at_least size) dues)) ≡ with_full (largest_first (by_account k dues))
  full_sorted k [] = refl
  full_sorted k (zero ∷ xs) = simp (lt-leb size 0 p) (full_sorted (suc k) xs)
  full_sorted k (suc n ∷ xs) =
      by_test (leb size (suc n))
      (λ e.
      simp e (ap (insert (account_lots k (suc n))) (full_sorted (suc k) xs)
      ∙ sym (full_insert (account_lots k (suc n)) (largest_first (by_account (suc k) xs)) (leb-true size (suc n) e))))
      (λ e.
      simp e (full_sorted (suc k) xs
      ∙ sym (small_insert (account_lots k (suc n)) (largest_first (by_account (suc k) xs)) (leb-false size (suc n) e))))

  no_fulls : (us : List AccountLots) → Every (λ u. u.lots < size) us → fulls size us ≡ []
  no_fulls [] hs = refl
  no_fulls (u ∷ us) hs =
      ap (λ n. replicate n (account_lots u.account size) ++ fulls size us) (div-eq_of_lt hs.0) ∙ no_fulls us hs.1

  -- the others have no full units
  fulls_front : (us : List AccountLots) → Ordered us → fulls size (with_full us) ≡ fulls size us
  fulls_front [] os = refl
  fulls_front (u ∷ us) os =
      by_test (leb size u.lots)
      (λ e. simp e (ap (λ l. replicate (u.lots / size) (account_lots u.account size) ++ l) (fulls_front us os.1)))
      (λ e.
      let h = leb-false size u.lots e in
      let none : fulls size (u ∷ us) ≡ [] =
      no_fulls (u ∷ us) (h, each_map (Before u) (λ v. v.lots < size) (λ v b. omega (arith, b.size)) us os.0) in
      simp e (sym none))

  -- the runs are the units' order
  pub units_runs : (dues : List ℕ) → units_of_runs size (runs_at size dues) ≡ units size dues
  unfolding runs_at units
  units_runs dues =
      let fs = largest_first (by_account 0 (map (at_least size) dues)) in
      let ss = largest_first (by_account 0 (map (small_at size) dues)) in
      let f : fulls size fs ≡ fulls size (largest_first (by_account 0 dues)) =
      ap (fulls size) (full_sorted 0 dues) ∙ fulls_front (largest_first (by_account 0 dues)) (ordered_sort (by_account 0 dues) (rising_parts 0 dues)) in
      units_append size (map (full_at size) fs) ss
      ∙ ap (λ l. l ++ units_of_runs size ss) (units_fulls fs ∙ f)
      ∙ ap (λ l. fulls size (largest_first (by_account 0 dues)) ++ l) (units_small ss (smalls_sorted dues) ∙ ap largest_first (sym (smalls_parts size 0 dues)))

-- a key's full lots
pub full_key : (size k : ℕ) → part_of (k - k / 64 % size * 64) ≡ full_at size (part_of k)
full_key size k =
    let x = k / 64 in
    let r = x % size in
    let f = x / size * size in
    let e = div-add-mod' x size in
    let a : (k - r * 64) % 64 ≡ k % 64 = omega (arith, e, mod-le x size) in
    let b : (k - r * 64) / 64 ≡ f = omega (arith, e, mod-le x size) in
    ap (λ n. account_lots n ((k - r * 64) / 64)) a ∙ ap (account_lots (k % 64)) b

pub full_words : (size : ℕ) (ks : List ℕ) → map part_of (map (full_word size) ks) ≡ map (full_at size) (map part_of ks)
full_words size [] = refl
full_words size (k ∷ ks) =
    ap (λ u. u ∷ map part_of (map (full_word size) ks)) (full_key size k) ∙ ap (λ l. full_at size (part_of k) ∷ l) (full_words size ks)

pub rest_small : (size : ℕ) (dues rests : List ℕ) → rests ≡ map (small_at size) dues → ((a : ℕ) → get_or dues a 0 ≤ most_lots) →
    (a : ℕ) → get_or rests a 0 ≤ most_lots
rest_small size dues rests e h a =
    omega (arith, ap (λ l. get_or l a 0) e, get_or_rests dues a, mod-le (get_or dues a 0) size, h a)
  where
    get_or_rests : (l : List ℕ) (b : ℕ) → get_or (map (small_at size) l) b 0 ≤ get_or l b 0 % size
    get_or_rests [] b = omega arith
    get_or_rests (x ∷ xs) zero = omega arith
    get_or_rests (x ∷ xs) (suc b) = get_or_rests xs b

at_least_one : (xs : List ℕ) → map (at_least 1) xs ≡ xs
at_least_one [] = refl
at_least_one (zero ∷ xs) = ap (λ l. 0 ∷ l) (at_least_one xs)
at_least_one (suc n ∷ xs) = rw (le-leb 1 (suc n) (omega arith)) (ap (λ l. suc n ∷ l) (at_least_one xs))

-- the full units' words in front of the small ones' are the definition's runs
pub ordered : (size : ℕ) (dues rests ranked fulls smalls : List ℕ) (n m k : ℕ) → n ≤ length ranked → m ≤ length smalls →
    map part_of (take n ranked) ≡ largest_first (by_account 0 (map (at_least size) dues)) →
    fulls ≡ map (full_word size) (take n ranked) →
    rests ≡ map (small_at size) dues →
    map part_of (take m smalls) ≡ largest_first (by_account 0 (map (at_least 1) rests)) →
    let held = fulls ++ drop n ranked in
    map part_of (take (n + m) (take n held ++ (smalls ++ drop k (drop n held)))) ≡ runs_at size dues
unfolding runs_at
ordered size dues rests ranked fulls smalls n m k h g e f r s =
    let held = fulls ++ drop n ranked in
    let long : length fulls ≡ n = ap length f ∙ length-map (take n ranked) (full_word size) ∙ length-take-le n ranked h in
    let front : take n held ≡ fulls = take_at fulls (drop n ranked) n long in
    ap (map part_of) (behind held smalls n m k (omega (arith, length-append fulls (drop n ranked))) g) ∙ map-append part_of (take n held) (take m smalls)
    ∙ ap (λ l. map part_of l ++ map part_of (take m smalls)) (front ∙ f)
    ∙ ap (λ l. l ++ map part_of (take m smalls)) (full_words size (take n ranked) ∙ ap (map (full_at size)) e)
    ∙ ap (λ l. map (full_at size) (largest_first (by_account 0 (map (at_least size) dues))) ++ l)
    (s ∙ ap (λ l. largest_first (by_account 0 l)) (at_least_one rests ∙ r))

pub can_order : (size : ℕ) (nets : List ℤ) (i : ℕ) (dues runs : List ℕ) → dues ≡ dues_of nets i → CanRankAt size nets i runs → CanOrder size dues runs
can_order size nets i dues runs e c =
    record {
      ranks = record {
        accounts = ap length e ∙ length_dues nets i c.cells c.issue;
        held = c.room;
        small = dues_small nets i dues e c.sized;
      };
      some = c.some;
    }

pub ranked_at : (size : ℕ) (nets : List ℤ) (i : ℕ) (dues runs : List ℕ) (n : ℕ) → 1 ≤ size → dues ≡ dues_of nets i → n ≤ 128 → runs_in runs n ≡ runs_at size dues →
    RankedAt size nets i runs n
ranked_at size nets i dues runs n p e few r =
    record { few = few; units = ap (units_of_runs size) r ∙ units_runs size p dues ∙ ap (units size) e }

-- One issue's runs more, in their part of the table

module _ (rs ys : List ℕ) (i : ℕ) (l : length rs ≡ 2048) (h : i < 16) (k : length ys ≡ 128) where
  -- the part as it was lent and given back
  abbrev put : List ℕ
  put = take (i * 128) rs ++ (ys ++ drop (i * 128 + 128 - i * 128) (drop (i * 128) rs))

  front : length (take (i * 128) rs) ≡ i * 128
  front = length-take-le (i * 128) rs (omega arith)

  pub length_put : length put ≡ 2048
  length_put =
      omega (
        arith,
        length-append (take (i * 128) rs) (ys ++ drop (i * 128 + 128 - i * 128) (drop (i * 128) rs)),
        length-append ys (drop (i * 128 + 128 - i * 128) (drop (i * 128) rs)),
        front,
        length-drop (i * 128 + 128 - i * 128) (drop (i * 128) rs),
        length-drop (i * 128) rs,
      )

  pub put_own : block 128 i put ≡ ys
  put_own =
      let rest = drop (i * 128 + 128 - i * 128) (drop (i * 128) rs) in
      ap (take 128) (drop_at (take (i * 128) rs) (ys ++ rest) (i * 128) front)
      ∙ take_at ys rest 128 k

  pub put_other : (j : ℕ) → j < i → block 128 j put ≡ block 128 j rs
  put_other j q =
      let rest = ys ++ drop (i * 128 + 128 - i * 128) (drop (i * 128) rs) in
      ext_get_or 0 (block 128 j put) (block 128 j rs)
      (length_block 128 put j (omega (arith, length_put)) ∙ sym (length_block 128 rs j (omega arith)))
      (λ c b.
      let lc : c < 128 = omega (arith, b, length_block 128 put j (omega (arith, length_put))) in
      get_or_block 128 put j c 0 lc
      ∙ sym (get_or-take (i * 128) put (j * 128 + c) 0 (omega arith))
      ∙ ap (λ xs. get_or xs (j * 128 + c) 0) (take_at (take (i * 128) rs) rest (i * 128) front)
      ∙ get_or-take (i * 128) rs (j * 128 + c) 0 (omega arith)
      ∙ sym (get_or_block 128 rs j c 0 lc))

pub rank_more : (size : ℕ) (nets : List ℤ) (rs ys cs : List ℕ) (i n : ℕ) → length rs ≡ 2048 → length cs ≡ 16 → i < 16 → length ys ≡ 128 →
    ((j : ℕ) → j < i → RankedIn size nets rs cs j) → RankedAt size nets i ys n →
    (j : ℕ) → j < i + 1 → RankedIn size nets (take (i * 128) rs ++ (ys ++ drop (i * 128 + 128 - i * 128) (drop (i * 128) rs))) (set cs i n) j
rank_more size nets rs ys cs i n l m h k g r j q =
    let ps = take (i * 128) rs ++ (ys ++ drop (i * 128 + 128 - i * 128) (drop (i * 128) rs)) in
    by_test (eqb j i)
    (λ t.
    let e = eqb-true j i t in
    subst (λ z. RankedIn size nets ps (set cs i n) z) (sym e)
    (subst (λ b. RankedAt size nets i b (get_or (set cs i n) i 0)) (sym (put_own rs ys i l h k))
    (subst (λ c. RankedAt size nets i ys c) (sym (get_or-set_same cs i n 0 (omega arith))) r)))
    (λ t.
    let ne = eqb-false j i t in
    let lt : j < i = omega (arith, ne) in
    subst (λ b. RankedAt size nets j b (get_or (set cs i n) j 0)) (sym (put_other rs ys i l h k j lt))
    (subst (λ c. RankedAt size nets j (block 128 j rs) c) (sym (get_or-set_other cs i j n 0 ne)) (g j lt)))
