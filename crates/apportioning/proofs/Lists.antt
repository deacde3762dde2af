-- A list filled place by place, and places in a list.
use mathlib.Core.Path.{◌≡◌, refl, sym, ap, ◌∙◌}
use mathlib.Core.Bool.{Bool, true, false}
use mathlib.Core.Logic.{◌↔◌}
use mathlib.Core.List.{List, [], ◌∷◌, ◌++◌, append_assoc, append-nil}
use Prim.Native.Nat.{ℕ, zero, suc, ◌+◌, ◌≤◌, ◌<◌}
use native.Mathlib.Omega.{arith}
use native.Mathlib.Numerals.{add-one}
use lib.Dec.{leb}
use lib.ListN.{length, get_or, take, drop, set, replicate, drop_of_length-le, length-replicate}
use lib.Seq.{take-suc, drop-cons, set_at, take_all, length-take-le}
use borrow.Author.Tests.{le-leb, leb-true}
use Rattle.rules.specs.Book.{all}
use Rattle.rules.specs.Records.{over}
use Rattle.laws.proofs.Basics.{by_test, all_at, all_of}
use Rattle.contributions.specs.Order.{amount_of}
use Rattle.contributions.specs.Rounds.{in_order}

-- one place more of what is wanted
pub copy_more : (wanted out₀ : List ℕ) (i w : ℕ) → i < length wanted → i < length out₀ → w ≡ get_or wanted i 0 →
    set (take i wanted ++ drop i out₀) i w ≡ take (i + 1) wanted ++ drop (i + 1) out₀
copy_more wanted out₀ i w h l e =
    let n : length (take i wanted) ≡ i = length-take-le i wanted (omega arith) in
    ap (λ o. set (take i wanted ++ o) i w) (drop-cons out₀ i 0 l)
    ∙ set_at (take i wanted) (get_or out₀ i 0) (drop (suc i) out₀) w i n
    ∙ rw (add-one, take-suc wanted i 0 h, e) (sym (append_assoc (take i wanted) (get_or wanted i 0 ∷ []) (drop (suc i) out₀)))

-- and the whole of it
pub copy_end : (wanted out₀ : List ℕ) (i : ℕ) → i ≡ length wanted → take i wanted ++ drop i out₀ ≡ over wanted out₀
copy_end wanted out₀ i e = rw (e, take_all (length wanted) wanted (omega arith))

-- bases in an order, at a place of the order
pub base_at : (bases ks : List ℕ) (i : ℕ) → i < length ks → get_or (in_order bases ks) i 0 ≡ amount_of bases (get_or ks i 0)
base_at bases [] i h = absurd (omega arith)
base_at bases (k ∷ ks) zero h = refl
base_at bases (k ∷ ks) (suc i) h = base_at bases ks i (omega arith)

-- the first places of a cleared list, and a list over another that is no longer
pub take_cleared : (n m : ℕ) → n ≤ m → take {A = ℕ} n (replicate m 0) ≡ replicate n 0
take_cleared zero m h = refl
take_cleared (suc n) zero h = absurd (omega arith)
take_cleared (suc n) (suc m) h = ap (λ l. 0 ∷ l) (take_cleared n m (omega arith))

pub first_places : (n m : ℕ) → n ≤ m → n ≡ length (take {A = ℕ} n (replicate m 0))
first_places n m h = sym (ap length (take_cleared n m h) ∙ length-replicate n 0)

pub over_all : (wanted out₀ : List ℕ) → length out₀ ≡ length wanted → over wanted out₀ ≡ wanted
over_all wanted out₀ e =
    let h : length out₀ ≤ length wanted = omega arith in rw (drop_of_length-le out₀ h) (append-nil wanted)

-- what a test of every place answers is that of the list
pub each_most : (most : ℕ) (xs : List ℕ) (b : Bool) → (b ≡ true) ↔ ((k : ℕ) → k < length xs → get_or xs k 0 ≤ most) →
    b ≡ all (λ x. leb x most) xs
each_most most xs true h = sym (all_of (λ x. leb x most) xs 0 (λ k l. le-leb _ _ (h.0 refl k l)))
each_most most xs false h =
    by_test (all (λ x. leb x most) xs) (λ e. h.1 (λ k l. leb-true _ _ (all_at (λ x. leb x most) xs 0 k e l)) ∙ sym e) (λ e. sym e)
