-- Pair-off makes at most a + b − 1 steps, and those that its definition allows are enough. A step takes
-- one entry of the account away, since the smaller of the two goes and the entry P to Q is neither to the
-- account nor from it.
use mathlib.Core.Path.{◌≡◌, refl}
use mathlib.Core.Bool.{Bool, true, false, cond}
use mathlib.Core.List.{List}
use Prim.Native.Nat.{ℕ, zero, suc, ◌+◌, ◌-◌, ◌≤◌, ◌<◌}
use native.Mathlib.Omega.{arith}
use lib.Dec.{leb, ltb, eqb}
use borrow.Author.Tests.{leb-true, leb-false, ltb-true, lt-ltb, eqb-false, ne_eqb}
use Rattle.rules.specs.declared.Entry.{Entry}
use Rattle.rules.specs.Ledger.{entry, is_from, is_to, count_of, first_of, lower, smaller_lots, appended, stepped, both_above0, has_both, paired, pairing, most_steps}
use Rattle.laws.proofs.Basics.{by_test, either, and_left, and_right, and_both, total_append, Every, each_append, each_map}
use Rattle.laws.proofs.Sound.{SoundEntry}
use Rattle.laws.proofs.Meeting.{with_lots, Steady}
use Rattle.laws.proofs.Lowering.{first_lots, lower_gone, lower_le, first_stays, count_stays, each_lower, Apart, and_no, from_not_to, to_not_from, first_from, first_to}

-- entries in and out together
abbrev pub in_and_out : ℕ → ℕ → List Entry → ℕ
in_and_out i a es = count_of (is_to i a) es + count_of (is_from i a) es

pub both_yes : (a b : ℕ) → both_above0 a b ≡ true → (0 < a) × (0 < b)
both_yes a b e = (ltb-true 0 a (and_left (ltb 0 a) (ltb 0 b) e), ltb-true 0 b (and_right (ltb 0 a) (ltb 0 b) e))

pub both_some : (a b : ℕ) → 0 < a → 0 < b → both_above0 a b ≡ true
both_some a b h k = and_both (ltb 0 a) (ltb 0 b) (lt-ltb 0 a h) (lt-ltb 0 b k)

pub both_none : (a b : ℕ) → (0 < a → 0 < b → ⊥) → both_above0 a b ≡ false
both_none a b h = by_test (both_above0 a b) (λ e. absurd (h (both_yes a b e).0 (both_yes a b e).1)) (λ e. e)

-- The entry P to Q

pub appended_apart : (today i p q m : ℕ) → Every Apart (appended today i p q m)
appended_apart today i p q m = by_test (eqb p q) (λ t. simp t tt) (λ t. simp t (eqb-false p q t, tt))

pub appended_none : (r : Entry → Bool) (today i p q m : ℕ) → r (entry i p q m today) ≡ false → count_of r (appended today i p q m) ≡ 0
appended_none r today i p q m h = either (λ l. count_of r l ≡ 0) (eqb p q) refl (rw h)

pub stepped_apart : (today i a : ℕ) (es : List Entry) → Every Apart es → Every Apart (stepped today i a es)
stepped_apart today i a es ps =
    let m = smaller_lots i a es in
    let p = first_of (λ e. e.from) (is_to i a) es in
    let q = first_of (λ e. e.to) (is_from i a) es in
    let w : (e : Entry) (n : ℕ) → Apart e → Apart (with_lots e n) = λ e n h. h in
    each_append Apart (lower (is_to i a) m (lower (is_from i a) m es)) (appended today i p q m)
    (each_lower Apart w (is_to i a) m (lower (is_from i a) m es) (each_lower Apart w (is_from i a) m es ps))
    (appended_apart today i p q m)

-- a step takes an entry of the account away
pub stepped_fewer : (today i a : ℕ) (es : List Entry) → Every Apart es → has_both i a es ≡ true →
    in_and_out i a (stepped today i a es) + 1 ≤ in_and_out i a es
stepped_fewer today i a es ps both =
    let m = smaller_lots i a es in
    let p = first_of (λ e. e.from) (is_to i a) es in
    let q = first_of (λ e. e.to) (is_from i a) es in
    let es₁ = lower (is_from i a) m es in
    let es₂ = lower (is_to i a) m es₁ in
    let ps₁ = each_lower Apart (λ e n h. h) (is_from i a) m es ps in
    let sT : Steady (is_to i a) = λ e n. refl in
    let sF : Steady (is_from i a) = λ e n. refl in
    let xs = each_map Apart (λ e. is_from i a e ≡ true → is_to i a e ≡ false) (from_not_to i a) es ps in
    let ys = each_map Apart (λ e. is_to i a e ≡ true → is_from i a e ≡ false) (to_not_from i a) es₁ ps₁ in
    let t₀ = first_stays (λ e. e.lots) (is_to i a) (is_from i a) sT m es xs in
    let t₁ = count_stays (is_to i a) (is_from i a) sT m es xs in
    let t₂ = lower_le (is_to i a) (is_to i a) sT m es₁ in
    let t₃ = total_append (λ e. cond (is_to i a e) 1 0) es₂ (appended today i p q m) in
    let f₁ = lower_le (is_from i a) (is_from i a) sF m es in
    let f₂ = count_stays (is_from i a) (is_to i a) sF m es₁ ys in
    let f₃ = total_append (λ e. cond (is_from i a e) 1 0) es₂ (appended today i p q m) in
    let h = both_yes (count_of (is_to i a) es) (count_of (is_from i a) es) both in
    let noT = appended_none (is_to i a) today i p q m (and_no (eqb i i) (eqb q a) (ne_eqb q a (first_to i a es ps h.1))) in
    let noF = appended_none (is_from i a) today i p q m (and_no (eqb i i) (eqb p a) (ne_eqb p a (first_from i a es ps h.0))) in
    let x = first_lots (is_to i a) es in
    let y = first_lots (is_from i a) es in
    by_test (leb x y)
    (λ e. omega (arith, lower_gone (is_to i a) sT m es₁ (omega (arith, h.0)) (omega (arith, leb-true x y e))))
    (λ e. omega (arith, lower_gone (is_from i a) sF m es h.1 (omega (arith, leb-false x y e))))

-- The number of steps

most_less : (a b a' b' : ℕ) → (0 < a) × (0 < b) → a' + b' + 1 ≤ a + b → 1 + most_steps a' b' ≤ a + b - 1
most_less a b a' b' h k =
    by_test (both_above0 a' b') (λ e. rw e (omega (arith, h, both_yes a' b' e))) (λ e. rw e (omega (arith, h)))

steps_bound : (n today i a : ℕ) (es : List Entry) → Every Apart es →
    (paired n today i a es).steps ≤ most_steps (count_of (is_to i a) es) (count_of (is_from i a) es)
steps_bound zero today i a es ps = omega arith
steps_bound (suc n) today i a es ps =
    let es₁ = stepped today i a es in
    by_test (has_both i a es)
    (λ e. rw e (omega (
      arith,
      steps_bound n today i a es₁ (stepped_apart today i a es ps),
      most_less (count_of (is_to i a) es) (count_of (is_from i a) es) (count_of (is_to i a) es₁) (count_of (is_from i a) es₁)
          (both_yes (count_of (is_to i a) es) (count_of (is_from i a) es) e) (stepped_fewer today i a es ps e),
    )))
    (λ e. rw e (omega arith))

-- with a entries in and b out, both above 0, the steps are at most a + b − 1, otherwise 0
pub pairing_steps : (today i a : ℕ) (es : List Entry) → Every SoundEntry es →
    (pairing today i a es).steps ≤ most_steps (count_of (is_to i a) es) (count_of (is_from i a) es)
unfolding pairing
pairing_steps today i a es ss = steps_bound (in_and_out i a es) today i a es (each_map SoundEntry Apart (λ e s. s.apart) es ss)

-- The steps are enough

pub none_left : (i a : ℕ) (es : List Entry) → in_and_out i a es ≤ 0 → has_both i a es ≡ false
none_left i a es h = both_none (count_of (is_to i a) es) (count_of (is_from i a) es) (λ x y. omega arith)

paired_done : (n today i a : ℕ) (es : List Entry) → Every Apart es → in_and_out i a es ≤ n →
    has_both i a (paired n today i a es).ledger ≡ false
paired_done zero today i a es ps h = none_left i a es h
paired_done (suc n) today i a es ps h =
    by_test (has_both i a es)
    (λ e. rw e (paired_done n today i a (stepped today i a es) (stepped_apart today i a es ps) (omega (arith, stepped_fewer today i a es ps e))))
    (λ e. rw e e)

-- after pair-off the account has not both any more
pub pairing_done : (today i a : ℕ) (es : List Entry) → Every SoundEntry es → has_both i a (pairing today i a es).ledger ≡ false
unfolding pairing
pairing_done today i a es ss = paired_done (in_and_out i a es) today i a es (each_map SoundEntry Apart (λ e s. s.apart) es ss) (omega arith)
