-- Value and charge alone ask 7 and then 11: a number above 0 is the refusal, and 0 means that both said 'yes'.
use mathlib.Core.Path.{◌≡◌, refl, ap, ◌∙◌}
use mathlib.Core.Bool.{Bool, true, false, ◌&&◌}
use mathlib.Core.List.{[], ◌∷◌}
use Prim.Native.Nat.{ℕ, zero, suc, ◌<◌}
use native.Mathlib.Omega.{arith}
use Rattle.rules.specs.Measures.{most_lots, between, value_of, charge_of}
use Rattle.rules.specs.Questions.{ask, first_no, quote_right, term_right}
use Rattle.rules.specs.Calls.{some_yen, no_yen, yen_answer, value, charge}

-- the number that question 7, answered a, and question 11, answered b, give
abbrev pub number : Bool → Bool → ℕ
number a b = first_no (ask 7 a ∷ ask 11 b ∷ [])

pub same_number : {a a' b b' : Bool} → a ≡ a' → b ≡ b' → number a b ≡ number a' b'
same_number {a} {a'} {b} {b'} e f = ap (λ z. number z b) e ∙ ap (number a') f

-- question 11 on price and on term, or on both at once
together : (a b c : Bool) → first_no (ask 7 a ∷ ask 11 b ∷ ask 11 c ∷ []) ≡ number a (b && c)
together true true c = refl
together true false c = refl
together false b c = refl

refused : (n y : ℕ) → 0 < n → no_yen n ≡ yen_answer n y
refused zero y h = absurd (omega arith)
refused (suc n) y h = refl

module _ (x p a n : ℕ) (e : n ≡ number (between 1 most_lots x) (quote_right p a)) where
  pub value_refused : 0 < n → no_yen n ≡ value x p a
  unfolding value
  value_refused h = rw (← e) (refused n (value_of x p a) h)

  pub value_yen : n ≡ 0 → (y : ℕ) → y ≡ value_of x p a → some_yen y ≡ value x p a
  unfolding value
  value_yen z y h = rw (← e, z, h)

module _ (x p d r a n : ℕ) (e : n ≡ number (between 1 most_lots x) (quote_right p a && term_right d r)) where
  pub charge_refused : 0 < n → no_yen n ≡ charge x p d r a
  unfolding charge
  charge_refused h = rw (together (between 1 most_lots x) (quote_right p a) (term_right d r), ← e) (refused n (charge_of x p d r a) h)

  pub charge_yen : n ≡ 0 → (y : ℕ) → y ≡ charge_of x p d r a → some_yen y ≡ charge x p d r a
  unfolding charge
  charge_yen z y h = rw (together (between 1 most_lots x) (quote_right p a) (term_right d r), ← e, z, h)
