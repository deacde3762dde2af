-- The questions' tests as the code makes them.
use mathlib.Core.Path.{◌≡◌, refl, sym, ◌∙◌}
use mathlib.Core.Bool.{Bool, true, false}
use mathlib.Core.Logic.{◌↔◌}
use mathlib.Core.List.{List, [], ◌∷◌, ◌++◌}
use Prim.Native.Nat.{ℕ, suc, ◌<◌}
use native.Mathlib.Omega.{arith}
use lib.Dec.{leb, ltb, leb-suc-suc}
use lib.ListN.{length, get_or}
use lib.IntN.{ℤ, pos}
use Rattle.rules.specs.Measures.{most_lots}
use Rattle.rules.specs.Book.{all, within_size}
use Rattle.rules.specs.Questions.{Question, ask, first_no}
use Rattle.laws.proofs.Basics.{by_test, all_at, all_of}
use Rattle.laws.proofs.Answers.{Numbered}

-- below 64 is at most 63
pub below_most : (most : ℕ) (xs : List ℕ) → all (λ x. ltb x (suc most)) xs ≡ all (λ x. leb x most) xs
below_most most [] = refl
below_most most (x ∷ xs) = rw (leb-suc-suc x most, below_most most xs)

-- questions after others: a 'no' of those before stands, and else theirs is the first
pub no_before : (qs ps : List Question) → (first_no qs ≡ 0 → ⊥) → first_no (qs ++ ps) ≡ first_no qs
no_before [] ps h = absurd (h refl)
no_before (ask n true ∷ qs) ps h = no_before qs ps h
no_before (ask n false ∷ qs) ps h = refl

pub yes_before : (qs ps : List Question) → Numbered qs → first_no qs ≡ 0 → first_no (qs ++ ps) ≡ first_no ps
yes_before [] ps ns h = refl
yes_before (ask n true ∷ qs) ps ns h = yes_before qs ps ns.1 h
yes_before (ask n false ∷ qs) ps ns h = absurd (omega arith)

-- what a test of every place answers is that of the list
pub each_within : (xs : List ℤ) (b : Bool) → (b ≡ true) ↔ ((k : ℕ) → k < length xs → within_size most_lots (get_or xs k (pos 0)) ≡ true) →
    b ≡ all (within_size most_lots) xs
each_within xs true h = sym (all_of (within_size most_lots) xs (pos 0) (λ k l. h.0 refl k l))
each_within xs false h =
    by_test (all (within_size most_lots) xs) (λ e. h.1 (λ k l. all_at (within_size most_lots) xs (pos 0) k e l) ∙ sym e) (λ e. sym e)
