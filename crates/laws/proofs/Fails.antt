-- Overlaps of shortfalls and lacks: their sums by deliverer and by receiver, their number, their bounds.
-- Each goes along the shortfalls: the first takes the first lots of what is lacking, and leaves the rest.
use mathlib.Core.Path.{◌≡◌, refl, sym, ap, ◌∙◌}
use mathlib.Core.Bool.{true}
use mathlib.Core.List.{List, [], ◌∷◌, map}
use Prim.Native.Nat.{ℕ, zero, suc, ◌+◌, ◌-◌, ◌≤◌, min}
use native.Mathlib.Omega.{arith}
use native.Mathlib.Nat.{zero-sub, sub-zero, min-eq_left, min-eq_right, sub-eq-zero_of_le}
use lib.Dec.{leb, eqb}
use lib.IntN.{ℤ}
use lib.ListN.{length, get_or, length-append, length-map}
use borrow.Author.Tests.{leb-true, leb-false}
use Rattle.rules.specs.Measures.{total, sum, owed_of}
use Rattle.rules.specs.Units.{AccountLots, account_lots, sum_lots, of_account}
use Rattle.rules.specs.Fails.{Fail, fail_of, take_lots, drop_lots, overlaps, undelivered, shortfalls}
use Rattle.rules.specs.Book.{within_owed}
use Rattle.laws.proofs.Basics.{by_test, either, and_left, and_right, Every, total_append, total_map, total_put, length_put, each_append, each_map}
use Rattle.laws.proofs.Units.{account_receivers}
use Rattle.laws.proofs.Overlaps.{Additive, cut_skip, sum_cut, sum_skip, sum_zero, cut_zero, every_cut, every_skip}

-- Sums by account

abbrev pub lots_to : ℕ → Fail → ℕ
lots_to b f = of_account b (account_lots f.to f.lots)

abbrev pub lots_from : ℕ → Fail → ℕ
lots_from a f = of_account a (account_lots f.from f.lots)

pub additive_account : (a : ℕ) → Additive (of_account a)
additive_account a b x y = by_test (eqb b a) (λ e. simp e) (λ e. simp e (omega arith))

-- every account is failed what it lacks
pub overlaps_to : (ss vs : List AccountLots) (b : ℕ) → sum_lots ss ≡ sum_lots vs → total (lots_to b) (overlaps ss vs) ≡ total (of_account b) vs
overlaps_to [] vs b h = sym (sum_zero vs (omega arith) (of_account b) (additive_account b))
overlaps_to (s ∷ ss) vs b h =
    omega (
      arith,
      total_append (lots_to b) (map (fail_of s.account) (take_lots s.lots vs)) (overlaps ss (drop_lots s.lots vs)),
      total_map (lots_to b) (fail_of s.account) (take_lots s.lots vs),
      cut_skip (of_account b) (additive_account b) s.lots vs,
      overlaps_to ss (drop_lots s.lots vs) b (omega (arith, sum_skip s.lots vs)),
    )

pub from_cut : (a c : ℕ) (us : List AccountLots) → total (lots_from a) (map (fail_of c) us) ≡ of_account a (account_lots c (sum_lots us))
from_cut a c [] = either (λ n. 0 ≡ n) (eqb c a) refl refl
from_cut a c (u ∷ us) = omega (arith, from_cut a c us, additive_account a c u.lots (sum_lots us))

-- every account fails what it is short of
pub overlaps_from_lem : (ss vs : List AccountLots) (a : ℕ) → sum_lots ss ≡ sum_lots vs → total (lots_from a) (overlaps ss vs) ≡ total (of_account a) ss
overlaps_from_lem [] vs a h = refl
overlaps_from_lem (s ∷ ss) vs a h =
    let e : sum_lots (take_lots s.lots vs) ≡ s.lots = omega (arith, sum_cut s.lots vs) in
    omega (
      arith,
      total_append (lots_from a) (map (fail_of s.account) (take_lots s.lots vs)) (overlaps ss (drop_lots s.lots vs)),
      from_cut a s.account (take_lots s.lots vs),
      ap (λ n. of_account a (account_lots s.account n)) e,
      overlaps_from_lem ss (drop_lots s.lots vs) a (omega (arith, sum_skip s.lots vs)),
    )

-- Their number

-- how many of a list have lots
abbrev pub nonzero : List AccountLots → ℕ
nonzero vs = total (λ v. min 1 v.lots) vs

pub nonzero_le : (vs : List AccountLots) → nonzero vs ≤ length vs
nonzero_le [] = omega arith
nonzero_le (v ∷ vs) = omega (arith, nonzero_le vs)

pub nonzero_skip : (x : ℕ) (vs : List AccountLots) → nonzero (drop_lots x vs) ≡ length (drop_lots x vs)
nonzero_skip x [] = refl
nonzero_skip x (v ∷ vs) =
    omega (
      arith,
      total_put (λ u. min 1 u.lots) v.account (v.lots - x) (drop_lots (x - v.lots) vs) refl,
      length_put v.account (v.lots - x) (drop_lots (x - v.lots) vs),
      nonzero_skip (x - v.lots) vs,
    )

pub length_skip0 : (vs : List AccountLots) → length (drop_lots 0 vs) ≡ nonzero vs
length_skip0 [] = refl
length_skip0 (v ∷ vs) = simp (length_put, sub-zero, zero-sub, length_skip0 vs)

-- at most one part is cut in two, and only where a rest is left
pub pieces : (x : ℕ) (vs : List AccountLots) → length (take_lots x vs) + length (drop_lots x vs) ≤ nonzero vs + min 1 (sum_lots vs - x)
pieces x [] = omega arith
pieces x (v ∷ vs) =
    by_test (leb x v.lots)
    (λ e.
    let le = leb-true x v.lots e in
    simp (length_put, min-eq_left le, sub-eq-zero_of_le le, cut_zero vs, length_skip0 vs) (omega arith))
    (λ e.
    let lt : v.lots ≤ x = omega (arith, leb-false x v.lots e) in
    simp (length_put, min-eq_right lt, sub-eq-zero_of_le lt) (omega (arith, pieces (x - v.lots) vs)))

-- the overlaps are fewer than the shortfalls and the lacks together, where there are any
pub overlaps_count : (ss vs : List AccountLots) → sum_lots ss ≡ sum_lots vs →
    length (overlaps ss vs) + min 1 (sum_lots vs) ≤ nonzero ss + nonzero vs
overlaps_count [] vs h = omega arith
overlaps_count (s ∷ ss) vs h =
    let vs₁ = drop_lots s.lots vs in
    let n = length-append (map (fail_of s.account) (take_lots s.lots vs)) (overlaps ss vs₁) in
    let m = length-map (take_lots s.lots vs) (fail_of s.account) in
    let k = sum_skip s.lots vs in
    let ih = overlaps_count ss vs₁ (omega arith) in
    by_test (leb s.lots 0)
    (λ e.
    let z : s.lots ≡ 0 = omega (arith, leb-true s.lots 0 e) in
    omega (
      arith,
      nonzero_skip s.lots vs,
      ap length (cut_zero vs),
      length_skip0 vs,
      ap (λ x. length (take_lots x vs)) z,
      ap (λ x. length (drop_lots x vs)) z,
    ))
    (λ e. omega (arith, leb-false s.lots 0 e, pieces s.lots vs, nonzero_skip s.lots vs))

-- Their bounds

-- a fail of 1 to m lots between accounts of two kinds
pub record Bounded (A B : ℕ → Type 0) (m : ℕ) (f : Fail) : Type 0 where
  pub from : A f.from
  pub to : B f.to
  pub some : 1 ≤ f.lots
  pub lots : f.lots ≤ m

pub each_of_map {ℓ κ} : {A : Type ℓ} {B : Type κ} (P : B → Type 0) (g : A → B) (us : List A) → Every (λ u. P (g u)) us → Every P (map g us)
each_of_map P g [] ps = tt
each_of_map P g (u ∷ us) ps = (ps.0, each_of_map P g us ps.1)

pub every_overlaps : (A B : ℕ → Type 0) (m : ℕ) (ss vs : List AccountLots) → Every (λ s. A s.account × (s.lots ≤ m)) ss →
    Every (λ v. B v.account) vs → Every (Bounded A B m) (overlaps ss vs)
every_overlaps A B m [] vs p q = tt
every_overlaps A B m (s ∷ ss) vs p q =
    each_append (Bounded A B m) (map (fail_of s.account) (take_lots s.lots vs)) (overlaps ss (drop_lots s.lots vs))
    (each_of_map (Bounded A B m) (fail_of s.account) (take_lots s.lots vs)
    (each_map (λ u. B u.account × (1 ≤ u.lots) × (u.lots ≤ s.lots)) (λ u. Bounded A B m (fail_of s.account u))
    (λ u r. record { from = p.0.0; to = r.0; some = r.1; lots = omega (arith, r.2, p.0.1) })
    (take_lots s.lots vs) (every_cut B s.lots vs q)))
    (every_overlaps A B m ss (drop_lots s.lots vs) p.1
    (each_map (λ u. B u.account × (1 ≤ u.lots)) (λ u. B u.account) (λ u r. r.0) (drop_lots s.lots vs) (every_skip B s.lots vs q)))

-- Shortfalls

pub length_shorts : (xs ds : List ℕ) → length (undelivered xs ds) ≤ length xs
length_shorts [] ds = omega arith
length_shorts (x ∷ xs) [] = omega arith
length_shorts (x ∷ xs) (d ∷ ds) = omega (arith, length_shorts xs ds)

pub get_or_shorts : (xs ds : List ℕ) (a : ℕ) → length xs ≡ length ds → get_or (undelivered xs ds) a 0 ≡ get_or xs a 0 - get_or ds a 0
get_or_shorts [] [] a h = omega arith
get_or_shorts [] (d ∷ ds) a h = absurd (omega arith)
get_or_shorts (x ∷ xs) [] a h = absurd (omega arith)
get_or_shorts (x ∷ xs) (d ∷ ds) zero h = refl
get_or_shorts (x ∷ xs) (d ∷ ds) (suc a) h = get_or_shorts xs ds a (omega arith)

-- an account's shortfall
pub shortfalls_account : (oweds delivered : List ℕ) (a : ℕ) → length oweds ≡ length delivered →
    total (of_account a) (shortfalls oweds delivered) ≡ get_or oweds a 0 - get_or delivered a 0
shortfalls_account oweds delivered a h = account_receivers a (undelivered oweds delivered) ∙ get_or_shorts oweds delivered a h

-- deliverers are short of what they owe and did not deliver
pub shorts_sum : (ns : List ℤ) (ds : List ℕ) → length ns ≡ length ds → within_owed ns ds ≡ true →
    sum (undelivered (map owed_of ns) ds) + sum ds ≡ sum (map owed_of ns)
shorts_sum [] [] e h = refl
shorts_sum [] (d ∷ ds) e h = absurd (omega arith)
shorts_sum (n ∷ ns) [] e h = absurd (omega arith)
shorts_sum (n ∷ ns) (d ∷ ds) e h =
    omega (
      arith,
      leb-true d (owed_of n) (and_left (leb d (owed_of n)) (within_owed ns ds) h),
      shorts_sum ns ds (omega arith) (and_right (leb d (owed_of n)) (within_owed ns ds) h),
    )

pub each_shorts : (m : ℕ) (xs ds : List ℕ) → Every (λ x. x ≤ m) xs → Every (λ x. x ≤ m) (undelivered xs ds)
each_shorts m [] ds p = tt
each_shorts m (x ∷ xs) [] p = tt
each_shorts m (x ∷ xs) (d ∷ ds) p = (omega (arith, p.0), each_shorts m xs ds p.1)
