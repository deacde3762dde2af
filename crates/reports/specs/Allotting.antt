-- Reports in an order take lots of a fail.
use Rattle.std.specs.Prelude.{Bool, cond, List, [], ◌∷◌, ℕ, ◌-◌, min, set}

-- those of a list that pass, in its order
abbrev pub those : (ℕ → Bool) → List ℕ → List ℕ
those p [] = []
those p (k ∷ ks) = cond (p k) (k ∷ those p ks) (those p ks)

-- what is left of the fail, and the shares, each report's at the place of its number
pub record Allotment : Type 0 where
  pub left : ℕ
  pub shares : List ℕ

abbrev pub allotment : ℕ → List ℕ → Allotment
allotment left shares = record { left = left; shares = shares }

-- a report takes lots up to its own size
abbrev pub take : (ℕ → ℕ) → ℕ → Allotment → Allotment
take size k a = allotment (a.left - min a.left (size k)) (set a.shares k (min a.left (size k)))

-- and so do those of a list, one after the other, until the fail is used up
abbrev pub allot : (ℕ → ℕ) → List ℕ → Allotment → Allotment
allot size [] a = a
allot size (k ∷ ks) a = allot size ks (take size k a)
