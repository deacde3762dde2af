-- Rearrangements: each element as often in the one list as in the other. Then what each of the one has each of the other has,
-- and every sum is the same.
use mathlib.Core.Path.{◌≡◌, refl, sym, ap, ◌∙◌}
use mathlib.Core.Bool.{Bool, true, cond}
use mathlib.Core.List.{List, [], ◌∷◌, ◌++◌}
use Prim.Native.Nat.{ℕ, ◌+◌, ◌≤◌}
use native.Mathlib.Omega.{arith}
use Rattle.rules.specs.Measures.{total, times, Rearranged}
use Rattle.laws.proofs.Basics.{by_test, Every, total_append}

-- for any test of what is the same: neighbours change places, and any two parts
module _ {A : Type 0} (same : A → A → Bool) where
  pub unmoved : (xs : List A) → Rearranged same xs xs
  unmoved xs x = refl

  pub turned_back : (xs ys : List A) → Rearranged same xs ys → Rearranged same ys xs
  turned_back xs ys r x = sym (r x)

  pub moved_on : (xs ys zs : List A) → Rearranged same xs ys → Rearranged same ys zs → Rearranged same xs zs
  moved_on xs ys zs r q x = r x ∙ q x

  pub swapped : (x y : A) (xs : List A) → Rearranged same (x ∷ y ∷ xs) (y ∷ x ∷ xs)
  swapped x y xs z = omega arith

  pub behind : (x : A) (xs ys : List A) → Rearranged same xs ys → Rearranged same (x ∷ xs) (x ∷ ys)
  behind x xs ys r z = ap (λ n. cond (same z x) 1 0 + n) (r z)

  pub parts_swapped : (xs ys : List A) → Rearranged same (xs ++ ys) (ys ++ xs)
  parts_swapped xs ys z =
      omega (arith, total_append (λ y. cond (same z y) 1 0) xs ys, total_append (λ y. cond (same z y) 1 0) ys xs)

-- where only equals are the same
module _ {A : Type 0} (same : A → A → Bool) (equal : (x y : A) → same x y ≡ true → x ≡ y) where
  -- what each has, one that occurs has
  pub occurring : (P : A → Type 0) (x : A) (xs : List A) → Every P xs → 1 ≤ times same x xs → P x
  occurring P x [] ps h = absurd (omega arith)
  occurring P x (y ∷ xs) ps h =
      by_test (same x y) (λ e. rw (equal x y e) ps.0) (λ e. occurring P x xs ps.1 (let g = simp e at h in omega arith))

  -- a list without the first that is the same
  abbrev without : A → List A → List A
  without x [] = []
  without x (y ∷ ys) = cond (same x y) ys (y ∷ without x ys)

  total_without : (f : A → ℕ) (x : A) (xs : List A) → 1 ≤ times same x xs → f x + total f (without x xs) ≡ total f xs
  total_without f x [] h = absurd (omega arith)
  total_without f x (y ∷ ys) h =
      by_test (same x y)
      (λ e. simp e (ap (λ z. f z + total f ys) (equal x y e)))
      (λ e. simp e (let g = simp e at h in omega (arith, total_without f x ys (omega arith))))

  -- and each is the same as itself
  module _ (itself : (x : A) → same x x ≡ true) where
    each_occurring : (P : A → Type 0) (xs : List A) → ((x : A) → 1 ≤ times same x xs → P x) → Every P xs
    each_occurring P [] h = tt
    each_occurring P (x ∷ xs) h =
        (h x (rw (itself x) (omega arith)), each_occurring P xs (λ y q. h y (omega arith)))

    pub each_rearranged : (P : A → Type 0) (xs ys : List A) → Rearranged same xs ys → Every P xs → Every P ys
    each_rearranged P xs ys r ps = each_occurring P ys (λ x h. occurring P x xs ps (omega (arith, r x)))

    -- every sum is the same
    pub total_rearranged : (f : A → ℕ) (xs ys : List A) → Rearranged same xs ys → total f xs ≡ total f ys
    total_rearranged f [] [] r = refl
    total_rearranged f [] (y ∷ ys) r = absurd (let h = rw (itself y) at (r y) in omega arith)
    total_rearranged f (x ∷ xs) ys r =
        let h : 1 ≤ times same x ys = (let q = rw (itself x) at (r x) in omega arith) in
        let l : Rearranged same xs (without x ys) = λ z. omega (arith, r z, total_without (λ y. cond (same z y) 1 0) x ys h) in
        omega (arith, total_rearranged f xs (without x ys) l, total_without f x ys h)

    -- no list but the empty one is a rearrangement of it
    pub none_left : (ys : List A) → Rearranged same [] ys → [] ≡ ys
    none_left [] r = refl
    none_left (y ∷ ys) r = absurd (let n = total_rearranged (λ x. 1) [] (y ∷ ys) r in omega arith)
