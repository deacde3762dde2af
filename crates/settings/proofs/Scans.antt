-- A chain that asks of each element, as the test of the whole list; entries' issues, as the test of the entries.
use mathlib.Core.Path.{◌≡◌, refl, sym, ap}
use mathlib.Core.Bool.{Bool, true, false, not, ◌&&◌}
use mathlib.Core.List.{List, [], ◌∷◌, tail}
use Prim.Native.Nat.{ℕ, zero, suc, ◌≤◌, ◌<◌}
use native.Mathlib.Omega.{arith}
use lib.Dec.{eqb}
use lib.IntN.{ℤ}
use lib.ListN.{length, get_or, take}
use Rattle.std.proofs.Common.{MatchBool}
use Rattle.std.specs.List.{AllWithin, HoldsAt}
use Rattle.rules.specs.Book.{all, entries}
use Rattle.rules.specs.Questions.{no_net, no_entry}
use Rattle.laws.proofs.Basics.{and_both}
use Rattle.laws.proofs.Scans.{and_false}

module _ {A : Type 0} (p : A → Bool) where
  all_true : (xs : List A) → ((k : ℕ) (d : A) → 0 ≤ k → k < length xs → p (get_or xs k d) ≡ true) → all p xs ≡ true
  all_true [] h = refl
  all_true (x ∷ xs) h =
      and_both (p x) (all p xs) (h 0 x (omega arith) (omega arith))
      (all_true xs (λ k d z l. h (suc k) d (omega arith) (omega arith)))

  all_false : (xs : List A) (k : ℕ) → k < length xs → ((d : A) → p (get_or xs k d) ≡ false) → all p xs ≡ false
  all_false [] k l h = absurd (omega arith)
  all_false (x ∷ xs) zero l h = rw (h x) refl
  all_false (x ∷ xs) (suc k) l h = rw (all_false xs k (omega arith) h) (and_false (p x))

  pub all_cases : (xs : List A) (r : Bool) →
      MatchBool r (AllWithin (λ x. p x ≡ true) xs 0 (length xs)) ((k : ℕ) × (k < length xs) × HoldsAt (λ x. p x ≡ false) xs k) →
      r ≡ all p xs
  all_cases xs true h = sym (all_true xs h)
  all_cases xs false h = sym (all_false xs h.0 h.1 h.2)

-- an entry's issue is another exactly if the entry is another issue's
pub others : (n : ℕ) (is fs ts xs ds : List ℕ) (i : ℕ) → n ≤ length is →
    all (λ j. not (eqb j i)) (take n is) ≡ no_entry (entries n is fs ts xs ds) i
others zero is fs ts xs ds i h = refl
others (suc n) [] fs ts xs ds i h = absurd (omega arith)
others (suc n) (j ∷ is) fs ts xs ds i h = ap (λ t. not (eqb j i) && t) (others n is (tail fs) (tail ts) (tail xs) (tail ds) i (omega arith))

-- what two scans found is the question whether the issue is unused
pub unused : (nets : List ℤ) (n : ℕ) (is fs ts xs ds : List ℕ) (i : ℕ) (flat clear : Bool) → n ≤ length is → flat ≡ no_net nets i →
    clear ≡ all (λ j. not (eqb j i)) (take n is) → flat && clear ≡ no_net nets i && no_entry (entries n is fs ts xs ds) i
unused nets n is fs ts xs ds i flat clear h e f = rw (e, f, others n is fs ts xs ds i h) refl
