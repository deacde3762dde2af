-- Places where a test finds nothing, one after another, and one block after another.
use mathlib.Core.Path.{◌≡◌, refl}
use mathlib.Core.List.{List}
use mathlib.Core.Bool.{Bool, true, false, not, ◌&&◌, ◌||◌, false≢true}
use Prim.Native.Nat.{ℕ, ◌+◌, ◌≤◌, ◌<◌}
use native.Mathlib.Omega.{arith}
use lib.Dec.{eqb, ltb}
use lib.ListN.{get_or}
use borrow.Author.Tests.{ltb-true, ltb-false}
use Rattle.laws.proofs.Basics.{by_test}
use Rattle.seeking.specs.Places.{is_at, NoneIn, Passed}

-- none before, and none here
none_here : (n p q : Bool) → n && (not p || not q) ≡ true → (n ≡ true) × (p && q ≡ false)
none_here true true true h = absurd (false≢true h)
none_here true true false h = (refl, refl)
none_here true false q h = (refl, refl)
none_here false p q h = absurd (false≢true h)

module _ (t : ℕ → Bool) where
  pub none_start : (s : ℕ) → NoneIn t s s
  none_start s k h l = absurd (omega arith)

  -- one place more
  pub none_more : (s e : ℕ) → NoneIn t s e → t e ≡ false → NoneIn t s (e + 1)
  none_more s e n z k h l =
      by_test (ltb k e)
      (λ y. n k h (ltb-true k e y))
      (λ y. let q : k ≡ e = omega (arith, ltb-false k e y) in rw q z)

  -- and those behind
  pub none_join : (s m e : ℕ) → NoneIn t s m → NoneIn t m e → NoneIn t s e
  none_join s m e n o k h l =
      by_test (ltb k m) (λ y. n k h (ltb-true k m y)) (λ y. o k (omega (arith, ltb-false k m y)) l)

  pub passed_start : (n s : ℕ) → s ≤ n → Passed t n s s
  passed_start n s h = record { start = omega arith; most = h; none = none_start s }

  pub passed_more : (n s k e : ℕ) → Passed t n s k → k ≤ e → e ≤ n → NoneIn t k e → Passed t n s e
  passed_more n s k e p h l z =
      record { start = omega (arith, p.start); most = l; none = none_join s k e p.none z }

  pub passed_join : {n s k r : ℕ} → Passed t n s k → Passed t n k r → Passed t n s r
  passed_join p q = passed_more _ _ _ _ p q.start q.most q.none

  -- a place that does not pass, and the end
  pub passed_one : {n s k : ℕ} → Passed t n s k → k < n → t k ≡ false → Passed t n s (k + 1)
  passed_one {n} {s} {k} p h z =
      record { start = omega (arith, p.start); most = omega arith; none = none_more s k p.none z }

  pub passed_end : {n s k : ℕ} → Passed t n s k → n ≤ k → Passed t n s n
  passed_end {n} {s} {k} p h = let e : k ≡ n = omega (arith, p.most) in rw e at p

-- the columns at one place more
pub none_turn : (is cs : List ℕ) (i a s k : ℕ) (n : Bool) → (n ≡ true → NoneIn (is_at is cs i a) s k) →
    n && (not (eqb (get_or is k 0) i) || not (eqb (get_or cs k 0) a)) ≡ true → NoneIn (is_at is cs i a) s (k + 1)
none_turn is cs i a s k n h y =
    let d = none_here n (eqb (get_or is k 0) i) (eqb (get_or cs k 0) a) y in
    none_more (is_at is cs i a) s k (h d.0) d.1
