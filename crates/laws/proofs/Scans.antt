-- A scan with a flag: the flag and the test of what is left are together the test of the whole.
use mathlib.Core.Path.{◌≡◌, refl, ap, sym, ◌∙◌}
use mathlib.Core.Bool.{Bool, true, false, ◌&&◌}
use mathlib.Core.List.{List, ◌∷◌, map}
use Prim.Native.Nat.{ℕ, suc, ◌+◌, ◌-◌, ◌≤◌, ◌<◌}
use native.Mathlib.Omega.{arith}
use native.Mathlib.Numerals.{add-one}
use lib.ListN.{length, drop, get_or, drop_of_length-le}
use lib.Seq.{drop-cons}
use Rattle.rules.specs.Measures.{sum}
use Rattle.rules.specs.Book.{tabulate, all}

-- Tests joined

pub and_false : (a : Bool) → a && false ≡ false
and_false true = refl
and_false false = refl

pub and_true : (a : Bool) → a && true ≡ a
and_true true = refl
and_true false = refl

pub and_comm : (a b : Bool) → a && b ≡ b && a
and_comm true b = sym (and_true b)
and_comm false b = sym (and_false b)

pub and_assoc : (a b c : Bool) → (a && b) && c ≡ a && (b && c)
and_assoc true b c = refl
and_assoc false b c = refl

pub and_swap : (a b c : Bool) → (a && c) && b ≡ a && (b && c)
and_swap true b c = and_comm c b
and_swap false b c = refl

-- a flag, two tests of an element, and the tests of what follows it
pub and_turn : (g w a o b : Bool) → ((g && w) && o) && (a && b) ≡ g && ((w && a) && (o && b))
and_turn false w a o b = refl
and_turn true false a o b = refl
and_turn true true a true b = refl
and_turn true true a false b = sym (and_false a)

-- One element more

pub all_more {ℓ} : {A : Type ℓ} (p : A → Bool) (xs : List A) (i : ℕ) (d : A) (g whole : Bool) → i < length xs →
    g && all p (drop i xs) ≡ whole → (g && p (get_or xs i d)) && all p (drop (i + 1) xs) ≡ whole
all_more p xs i d g whole h e =
    and_assoc g (p (get_or xs i d)) (all p (drop (i + 1) xs))
    ∙ ap (λ t. g && t) (rw add-one (sym (ap (all p) (drop-cons xs i d h)))) ∙ e

pub all_end {ℓ} : {A : Type ℓ} (p : A → Bool) (xs : List A) (i : ℕ) (g whole : Bool) → length xs ≤ i →
    g && all p (drop i xs) ≡ whole → g ≡ whole
all_end p xs i g whole h e = sym (and_true g) ∙ ap (λ l. g && all p l) (sym (drop_of_length-le xs h)) ∙ e

pub sum_more {ℓ} : {A : Type ℓ} (f : A → ℕ) (xs : List A) (i : ℕ) (d : A) → i < length xs →
    sum (map f (drop i xs)) ≡ f (get_or xs i d) + sum (map f (drop (i + 1) xs))
sum_more f xs i d h = rw add-one (ap (λ l. sum (map f l)) (drop-cons xs i d h))

pub sum_none {ℓ} : {A : Type ℓ} (f : A → ℕ) (xs : List A) (i : ℕ) → length xs ≤ i → sum (map f (drop i xs)) ≡ 0
sum_none f xs i h = ap (λ l. sum (map f l)) (drop_of_length-le xs h)

-- All issues

-- what is left of a test of all issues, from issue i on
abbrev pub rest_of_issues : (ℕ → Bool) → ℕ → Bool
rest_of_issues p i = all p (tabulate (λ j. j) i (16 - i))

pub issues_more : (p : ℕ → Bool) (i : ℕ) (g r whole : Bool) → i < 16 → r ≡ p i → g && rest_of_issues p i ≡ whole → (g && r) && rest_of_issues p (i + 1) ≡ whole
issues_more p i g r whole h er e =
    let k : 16 - i ≡ suc (16 - (i + 1)) = omega arith in
    let f : tabulate (λ j. j) i (16 - i) ≡ i ∷ tabulate (λ j. j) (i + 1) (16 - (i + 1)) =
    ap (λ n. tabulate (λ j. j) i n) k ∙ ap (λ j. i ∷ tabulate (λ v. v) j (16 - (i + 1))) (sym (add-one i)) in
    rw er (and_assoc g _ _ ∙ ap (λ t. g && t) (sym (rw f)) ∙ e)

pub issues_end : (p : ℕ → Bool) (i : ℕ) (g whole : Bool) → i ≡ 16 → g && rest_of_issues p i ≡ whole → g ≡ whole
issues_end p i g whole ei e = sym (and_true g) ∙ ap (λ t. g && t) (sym (rw ei refl)) ∙ e
