-- The first lots of a list of parts, the rest of it, and overlaps one by one. Parts of 0 lots change none of
-- them, so that a list may be read with its zeros; of a shortfall and a lack in front the smaller is laid.
use mathlib.Core.Path.{◌≡◌, refl, ap, sym, ◌∙◌}
use mathlib.Core.List.{List, [], ◌∷◌, ◌++◌, map}
use Prim.Native.Nat.{ℕ, zero, suc, ◌+◌, ◌-◌, ◌≤◌, ◌<◌, min}
use native.Mathlib.Nat.{zero-sub, sub-zero, zero-min, min-eq_left, min-eq_right, sub-eq-zero_of_le}
use native.Mathlib.Omega.{arith}
use lib.ListN.{length}
use Rattle.rules.specs.Measures.{total}
use Rattle.rules.specs.Units.{AccountLots, account_lots, prepend, by_account, sum_lots}
use Rattle.rules.specs.Fails.{fail_of, take_lots, drop_lots, overlaps}
use Rattle.laws.proofs.Basics.{Every, total_put, length_put, put_pos, put_append, each_put, each_map}

-- The first x lots, and the rest

-- a number of a part that goes by its account and adds up by lots
abbrev pub Additive : (AccountLots → ℕ) → Type 0
Additive f = (a x y : ℕ) → f (account_lots a (x + y)) ≡ f (account_lots a x) + f (account_lots a y)

pub additive_zero : (f : AccountLots → ℕ) → Additive f → (a : ℕ) → f (account_lots a 0) ≡ 0
additive_zero f l a = omega (arith, l a 0 0)

-- the first x lots and the rest are the whole, by any such number
pub cut_skip : (f : AccountLots → ℕ) → Additive f → (x : ℕ) (vs : List AccountLots) → total f (take_lots x vs) + total f (drop_lots x vs) ≡ total f vs
cut_skip f l x [] = refl
cut_skip f l x (v ∷ vs) =
    let z : f (account_lots v.account 0) ≡ 0 = additive_zero f l v.account in
    let e : min x v.lots + (v.lots - x) ≡ v.lots = omega arith in
    omega (
      arith,
      total_put f v.account (min x v.lots) (take_lots (x - v.lots) vs) z,
      total_put f v.account (v.lots - x) (drop_lots (x - v.lots) vs) z,
      cut_skip f l (x - v.lots) vs,
      l v.account (min x v.lots) (v.lots - x),
      ap (λ n. f (account_lots v.account n)) e,
    )

pub sum_cut : (x : ℕ) (vs : List AccountLots) → sum_lots (take_lots x vs) ≡ min x (sum_lots vs)
sum_cut x [] = omega arith
sum_cut x (v ∷ vs) =
    omega (
      arith,
      total_put (λ u. u.lots) v.account (min x v.lots) (take_lots (x - v.lots) vs) refl,
      sum_cut (x - v.lots) vs,
    )

pub sum_skip : (x : ℕ) (vs : List AccountLots) → sum_lots (drop_lots x vs) ≡ sum_lots vs - x
sum_skip x vs = omega (arith, cut_skip (λ u. u.lots) (λ a y z. refl) x vs, sum_cut x vs)

pub length_skip : (x : ℕ) (vs : List AccountLots) → length (drop_lots x vs) ≤ length vs
length_skip x [] = omega arith
length_skip x (v ∷ vs) =
    omega (arith, length_put v.account (v.lots - x) (drop_lots (x - v.lots) vs), length_skip (x - v.lots) vs)

pub cut_zero : (vs : List AccountLots) → take_lots 0 vs ≡ []
cut_zero [] = refl
cut_zero (v ∷ vs) = simp (zero-sub, zero-min, cut_zero vs)

-- no lots, no number
pub sum_zero : (vs : List AccountLots) → sum_lots vs ≡ 0 → (f : AccountLots → ℕ) → Additive f → total f vs ≡ 0
sum_zero [] h f l = refl
sum_zero (v ∷ vs) h f l =
    let e : v.lots ≡ 0 = omega arith in
    omega (arith, ap (λ n. f (account_lots v.account n)) e, additive_zero f l v.account, sum_zero vs (omega arith) f l)

-- what holds of accounts, in the first x lots and in the rest
module _ (A : ℕ → Type 0) where
  pub every_cut : (x : ℕ) (vs : List AccountLots) → Every (λ u. A u.account) vs →
      Every (λ u. A u.account × (1 ≤ u.lots) × (u.lots ≤ x)) (take_lots x vs)
  every_cut x [] p = tt
  every_cut x (v ∷ vs) p =
      each_put (λ u. A u.account × (1 ≤ u.lots) × (u.lots ≤ x)) v.account (min x v.lots) (take_lots (x - v.lots) vs)
      (λ h. (p.0, omega arith, omega arith))
      (each_map (λ u. A u.account × (1 ≤ u.lots) × (u.lots ≤ x - v.lots)) (λ u. A u.account × (1 ≤ u.lots) × (u.lots ≤ x))
      (λ u q. (q.0, q.1, omega (arith, q.2)))
      (take_lots (x - v.lots) vs) (every_cut (x - v.lots) vs p.1))

  pub every_skip : (x : ℕ) (vs : List AccountLots) → Every (λ u. A u.account) vs → Every (λ u. A u.account × (1 ≤ u.lots)) (drop_lots x vs)
  every_skip x [] p = tt
  every_skip x (v ∷ vs) p =
      each_put (λ u. A u.account × (1 ≤ u.lots)) v.account (v.lots - x) (drop_lots (x - v.lots) vs) (λ h. (p.0, h))
      (every_skip (x - v.lots) vs p.1)

-- Parts of 0 lots

pub cut_none : (b x : ℕ) (vs : List AccountLots) → take_lots x (account_lots b 0 ∷ vs) ≡ take_lots x vs
cut_none b x vs = let m : min x 0 ≡ 0 = omega arith in rw (m, sub-zero)

pub skip_none : (b x : ℕ) (vs : List AccountLots) → drop_lots x (account_lots b 0 ∷ vs) ≡ drop_lots x vs
skip_none b x vs = let m : 0 - x ≡ 0 = omega arith in rw (m, sub-zero)

pub cut_put : (b n x : ℕ) (vs : List AccountLots) → take_lots x (prepend b n vs) ≡ take_lots x (account_lots b n ∷ vs)
cut_put b zero x vs = sym (cut_none b x vs)
cut_put b (suc n) x vs = refl

pub skip_put : (b n x : ℕ) (vs : List AccountLots) → drop_lots x (prepend b n vs) ≡ drop_lots x (account_lots b n ∷ vs)
skip_put b zero x vs = sym (skip_none b x vs)
skip_put b (suc n) x vs = refl

-- `skip 0` drops the parts of 0 lots and nothing else
pub cut_skip0 : (x : ℕ) (vs : List AccountLots) → take_lots x (drop_lots 0 vs) ≡ take_lots x vs
cut_skip0 x [] = refl
cut_skip0 x (v ∷ vs) =
    simp (zero-sub, sub-zero)
    (cut_put v.account v.lots x (drop_lots 0 vs) ∙ ap (prepend v.account (min x v.lots)) (cut_skip0 (x - v.lots) vs))

pub skip_skip0 : (x : ℕ) (vs : List AccountLots) → drop_lots x (drop_lots 0 vs) ≡ drop_lots x vs
skip_skip0 x [] = refl
skip_skip0 x (v ∷ vs) =
    simp (zero-sub, sub-zero)
    (skip_put v.account v.lots x (drop_lots 0 vs) ∙ ap (prepend v.account (v.lots - x)) (skip_skip0 (x - v.lots) vs))

pub skip0_append : (us vs : List AccountLots) → drop_lots 0 (us ++ vs) ≡ drop_lots 0 us ++ drop_lots 0 vs
skip0_append [] vs = refl
skip0_append (u ∷ us) vs =
    simp (zero-sub, sub-zero) (rw (skip0_append us vs) (put_append u.account u.lots (drop_lots 0 us) (drop_lots 0 vs)))

-- a list without such parts stays
pub skip0_some : (us : List AccountLots) → Every (λ u. 1 ≤ u.lots) us → drop_lots 0 us ≡ us
skip0_some [] ps = refl
skip0_some (u ∷ us) ps =
    simp (zero-sub, sub-zero) (rw (skip0_some us ps.1) (put_pos u.account u.lots us ps.0))

pub overlaps_skip0 : (ss vs : List AccountLots) → overlaps ss (drop_lots 0 vs) ≡ overlaps ss vs
overlaps_skip0 [] vs = refl
overlaps_skip0 (s ∷ ss) vs = rw (cut_skip0 s.lots vs, skip_skip0 s.lots vs)

pub overlaps_lack0 : (ss vs : List AccountLots) (b : ℕ) → overlaps ss (account_lots b 0 ∷ vs) ≡ overlaps ss vs
overlaps_lack0 [] vs b = refl
overlaps_lack0 (s ∷ ss) vs b = rw (cut_none b s.lots vs, skip_none b s.lots vs)

pub overlaps_short0 : (ss vs : List AccountLots) (a : ℕ) → overlaps (account_lots a 0 ∷ ss) vs ≡ overlaps ss vs
overlaps_short0 ss vs a = rw (cut_zero vs) (overlaps_skip0 ss vs)

-- the lots of the accounts a, a + 1, .., those of 0 too
abbrev pub all_parts : ℕ → List ℕ → List AccountLots
all_parts a [] = []
all_parts a (x ∷ xs) = account_lots a x ∷ all_parts (suc a) xs

-- shortfalls of 0 may stand in the list
pub overlaps_all_parts : (k : ℕ) (xs : List ℕ) (vs : List AccountLots) → overlaps (all_parts k xs) vs ≡ overlaps (by_account k xs) vs
overlaps_all_parts k [] vs = refl
overlaps_all_parts k (zero ∷ xs) vs = overlaps_short0 (all_parts (suc k) xs) vs k ∙ overlaps_all_parts (suc k) xs vs
overlaps_all_parts k (suc n ∷ xs) vs =
    ap (λ l. map (fail_of k) (take_lots (suc n) vs) ++ l) (overlaps_all_parts (suc k) xs (drop_lots (suc n) vs))

-- One overlap

pub overlaps_end : (ss : List AccountLots) → overlaps ss [] ≡ []
overlaps_end [] = refl
overlaps_end (s ∷ ss) = overlaps_end ss

-- the smaller of the two is laid
pub overlaps_short : (ss vs : List AccountLots) (a x b y : ℕ) → 0 < x → x ≤ y →
    overlaps (account_lots a x ∷ ss) (account_lots b y ∷ vs) ≡ fail_of a (account_lots b x) ∷ overlaps (account_lots a 0 ∷ ss) (account_lots b (y - x) ∷ vs)
overlaps_short ss vs a x b y p h =
    rw (min-eq_left h, sub-eq-zero_of_le h, put_pos b x (take_lots 0 vs) p) (simp (cut_zero vs, zero-min, zero-sub, sub-zero))

pub overlaps_lack : (ss vs : List AccountLots) (a x b y : ℕ) → 0 < y → y ≤ x →
    overlaps (account_lots a x ∷ ss) (account_lots b y ∷ vs) ≡ fail_of a (account_lots b y) ∷ overlaps (account_lots a (x - y) ∷ ss) (account_lots b 0 ∷ vs)
overlaps_lack ss vs a x b y p h =
    let m : min (x - y) 0 ≡ 0 = omega arith in
    let z : 0 - (x - y) ≡ 0 = omega arith in
    rw (min-eq_right h, sub-eq-zero_of_le h, put_pos b y (take_lots (x - y) vs) p, m, z, sub-zero)
