-- Reports in an order take lots of a fail: what is left, what stays, what each takes.
use mathlib.Core.Path.{◌≡◌, refl, sym, ap, ◌∙◌}
use mathlib.Core.Bool.{Bool, true, cond, false≢true}
use mathlib.Core.List.{List, [], ◌∷◌, ◌++◌}
use Prim.Native.Nat.{ℕ, ◌+◌, ◌-◌, ◌≤◌, ◌<◌, min}
use native.Mathlib.Omega.{arith}
use lib.Dec.{ltb, eqb}
use lib.ListN.{length, get_or, set, length-set}
use lib.Seq.{get_or-set_same, get_or-set_other, set-append_left, set_out}
use borrow.Author.Tests.{ltb-true, ltb-false, eqb-true, eqb-false, eq-eqb, ne_eqb}
use Rattle.rules.specs.Measures.{total, sum}
use Rattle.rules.specs.Book.{all}
use Rattle.laws.proofs.Basics.{by_test, either, and_left, and_right, and_both}
use Rattle.laws.proofs.Cells.{total_set}
use Rattle.reports.specs.Allotting.{those, Allotment, allotment, take, allot}
use Rattle.reports.specs.Trust.{same, times}

-- Those of a list

pub those_below : (p : ℕ → Bool) (n : ℕ) (ks : List ℕ) → all (λ k. ltb k n) ks ≡ true → all (λ k. ltb k n) (those p ks) ≡ true
those_below p n [] h = refl
those_below p n (k ∷ ks) h =
    let r = those_below p n ks (and_right (ltb k n) (all (λ j. ltb j n) ks) h) in
    either (λ l. all (λ j. ltb j n) l ≡ true) (p k)
    (and_both (ltb k n) (all (λ j. ltb j n) (those p ks)) (and_left (ltb k n) (all (λ j. ltb j n) ks) h) r) r

-- tests that agree below n choose the same of numbers below n
pub those_same : (p q : ℕ → Bool) (n : ℕ) → ((k : ℕ) → k < n → p k ≡ q k) → (ks : List ℕ) → all (λ k. ltb k n) ks ≡ true →
    those p ks ≡ those q ks
those_same p q n e [] h = refl
those_same p q n e (k ∷ ks) h =
    let l : k < n = ltb-true k n (and_left (ltb k n) (all (λ j. ltb j n) ks) h) in
    rw (e k l, those_same p q n e ks (and_right (ltb k n) (all (λ j. ltb j n) ks) h))

-- and sizes that agree there give the same
pub allot_same : (s t : ℕ → ℕ) (n : ℕ) → ((k : ℕ) → k < n → s k ≡ t k) → (ks : List ℕ) (a : Allotment) →
    all (λ k. ltb k n) ks ≡ true → allot s ks a ≡ allot t ks a
allot_same s t n e [] a h = refl
allot_same s t n e (k ∷ ks) a h =
    let l : k < n = ltb-true k n (and_left (ltb k n) (all (λ j. ltb j n) ks) h) in
    rw (e k l) (allot_same s t n e ks (take t k a) (and_right (ltb k n) (all (λ j. ltb j n) ks) h))

-- Places

pub allot_length : (s : ℕ → ℕ) (ks : List ℕ) (a : Allotment) → length (allot s ks a).shares ≡ length a.shares
allot_length s [] a = refl
allot_length s (k ∷ ks) a = allot_length s ks (take s k a) ∙ length-set a.shares k (min a.left (s k))

-- what stands after the reports' places stays
pub allot_beyond : (s : ℕ → ℕ) (n : ℕ) (ks : List ℕ) (left : ℕ) (xs ys : List ℕ) → length xs ≡ n → all (λ k. ltb k n) ks ≡ true →
    allot s ks (allotment left (xs ++ ys))
    ≡ allotment (allot s ks (allotment left xs)).left ((allot s ks (allotment left xs)).shares ++ ys)
allot_beyond s n [] left xs ys e h = refl
allot_beyond s n (k ∷ ks) left xs ys e h =
    let x = min left (s k) in
    let l : k < length xs = omega (arith, ltb-true k n (and_left (ltb k n) (all (λ j. ltb j n) ks) h)) in
    ap (λ o. allot s ks (allotment (left - x) o)) (set-append_left xs ys k x l)
    ∙ allot_beyond s n ks (left - x) (set xs k x) ys (length-set xs k x ∙ e) (and_right (ltb k n) (all (λ j. ltb j n) ks) h)

-- one list after another
pub allot_append : (s : ℕ → ℕ) (js ks : List ℕ) (a : Allotment) → allot s ks (allot s js a) ≡ allot s (js ++ ks) a
allot_append s [] ks a = refl
allot_append s (j ∷ js) ks a = allot_append s js ks (take s j a)

-- What is left, and what each has

pub left_after : (s : ℕ → ℕ) (ks : List ℕ) (a : Allotment) → (allot s ks a).left ≡ a.left - total s ks
left_after s [] a = omega arith
left_after s (k ∷ ks) a = omega (arith, left_after s ks (take s k a))

-- a place after a store
set_has : (P : ℕ → Type 0) (l : List ℕ) (k v j : ℕ) → P (get_or l j 0) → (k ≡ j → P v) → P (get_or (set l k v) j 0)
set_has P l k v j p q =
    by_test (eqb k j)
    (λ e.
    let i : k ≡ j = eqb-true k j e in
    by_test (ltb k (length l))
    (λ h. rw (sym i) (rw (get_or-set_same l k v 0 (ltb-true k (length l) h)) (q i)))
    (λ h. rw (set_out l k v (ltb-false k (length l) h)) p))
    (λ e. rw (get_or-set_other l k j v 0 (λ i. eqb-false k j e (sym i))) p)

-- what a report may have at first it may have at the end, where it may have its share
pub allot_has : (P : ℕ → Type 0) (s : ℕ → ℕ) (j : ℕ) → ((left : ℕ) → P (min left (s j))) → (ks : List ℕ) (a : Allotment) →
    P (get_or a.shares j 0) → P (get_or (allot s ks a).shares j 0)
allot_has P s j q [] a p = p
allot_has P s j q (k ∷ ks) a p =
    allot_has P s j q ks (take s k a)
    (set_has P a.shares k (min a.left (s k)) j p (λ i. rw i (q a.left)))

-- none where nothing is left
pub none_left : (s : ℕ → ℕ) (j : ℕ) (ks : List ℕ) (a : Allotment) → a.left ≡ 0 → get_or a.shares j 0 ≡ 0 →
    get_or (allot s ks a).shares j 0 ≡ 0
none_left s j [] a e z = z
none_left s j (k ∷ ks) a e z =
    none_left s j ks (take s k a) (omega arith)
    (set_has (λ x. x ≡ 0) a.shares k (min a.left (s k)) j z (λ i. omega arith))

-- Numbers in a list

pub same_self : (j k : ℕ) → k ≡ j → same j k ≡ 1
same_self j k i = rw (eq-eqb k j i)

pub same_other : (j k : ℕ) → (k ≡ j → ⊥) → same j k ≡ 0
same_other j k d = rw (ne_eqb k j d)

-- a report that is not in the list keeps what it has
pub not_in : (s : ℕ → ℕ) (j : ℕ) (ks : List ℕ) (a : Allotment) → times j ks ≡ 0 → get_or (allot s ks a).shares j 0 ≡ get_or a.shares j 0
unfolding times
not_in s j [] a h = refl
not_in s j (k ∷ ks) a h =
    let d : k ≡ j → ⊥ = λ i. omega (arith, h, same_self j k i) in
    not_in s j ks (take s k a) (omega (arith, h)) ∙ get_or-set_other a.shares k j (min a.left (s k)) 0 (λ i. d (sym i))

-- and one that is in it has its whole size where something is left at the end
pub whole : (s : ℕ → ℕ) (j : ℕ) (ks : List ℕ) (a : Allotment) → times j ks ≡ 1 → j < length a.shares → 0 < (allot s ks a).left →
    get_or (allot s ks a).shares j 0 ≡ s j
unfolding times
whole s j [] a h l r = absurd (omega (arith, h))
whole s j (k ∷ ks) a h l r =
    by_test (eqb k j)
    (λ e.
    let i : k ≡ j = eqb-true k j e in
    let m : k < length a.shares = omega (arith, i) in
    not_in s j ks (take s k a) (omega (arith, h, same_self j k i))
    ∙ (rw (sym i) (get_or-set_same a.shares k (min a.left (s k)) 0 m ∙ omega (arith, left_after s ks (take s k a), r))))
    (λ e.
    whole s j ks (take s k a) (omega (arith, h, same_other j k (eqb-false k j e)))
    (omega (arith, length-set a.shares k (min a.left (s k)))) r)

-- the shares and what is left are together what they were, where each report is in the list once and has no share yet
pub allot_sum : (s : ℕ → ℕ) (n : ℕ) (ks : List ℕ) (a : Allotment) → length a.shares ≡ n → all (λ k. ltb k n) ks ≡ true →
    ((j : ℕ) → times j ks ≤ 1) → ((j : ℕ) → 0 < times j ks → get_or a.shares j 0 ≡ 0) →
    sum (allot s ks a).shares + (allot s ks a).left ≡ sum a.shares + a.left
unfolding times
allot_sum s n [] a l b o z = refl
allot_sum s n (k ∷ ks) a l b o z =
    let x = min a.left (s k) in
    let m : k < length a.shares = omega (arith, l, ltb-true k n (and_left (ltb k n) (all (λ j. ltb j n) ks) b)) in
    let here : get_or a.shares k 0 ≡ 0 = z k (omega (arith, same_self k k refl)) in
    let rest = allot_sum s n ks (take s k a) (length-set a.shares k x ∙ l) (and_right (ltb k n) (all (λ j. ltb j n) ks) b)
    (λ j. omega (arith, o j))
    (λ j p.
    let d : j ≡ k → ⊥ = λ i. omega (arith, o j, same_self j k (sym i), p) in
    get_or-set_other a.shares k j x 0 d ∙ z j (omega (arith, p))) in
    omega (arith, rest, total_set (λ y. y) a.shares k x 0 m, here)

-- those of a list: how often, and what they sum to
pub times_those : (p : ℕ → Bool) (j : ℕ) (ks : List ℕ) → times j (those p ks) ≡ cond (p j) (times j ks) 0
unfolding times
times_those p j [] = sym (either (λ x. x ≡ 0) (p j) refl refl)
times_those p j (k ∷ ks) =
    let rest = times_those p j ks in
    by_test (p k)
    (λ e.
    by_test (p j) (λ g. simp (e, g) (omega (arith, simp g at rest)))
    (λ g.
    let d : k ≡ j → ⊥ = λ i. false≢true (sym g ∙ sym (ap p i) ∙ e) in
    simp (e, g) (omega (arith, same_other j k d, simp g at rest))))
    (λ e.
    by_test (p j)
    (λ g.
    let d : k ≡ j → ⊥ = λ i. false≢true (sym e ∙ ap p i ∙ g) in
    simp (e, g) (omega (arith, same_other j k d, simp g at rest)))
    (λ g. simp (e, g) (simp g at rest)))

pub total_those : (p : ℕ → Bool) (f : ℕ → ℕ) (ks : List ℕ) → total f (those p ks) ≡ total (λ k. cond (p k) (f k) 0) ks
total_those p f [] = refl
total_those p f (k ∷ ks) =
    by_test (p k) (λ e. simp e (ap (λ x. f k + x) (total_those p f ks))) (λ e. simp e (omega (arith, total_those p f ks)))

-- where a report of the second list takes lots, each of the first has its whole size
pub first_whole : (s : ℕ → ℕ) (j k : ℕ) (js ks : List ℕ) (a : Allotment) → times j js ≡ 1 → times j ks ≡ 0 → times k js ≡ 0 →
    j < length a.shares → get_or a.shares k 0 ≡ 0 → 0 < get_or (allot s ks (allot s js a)).shares k 0 →
    get_or (allot s ks (allot s js a)).shares j 0 ≡ s j
first_whole s j k js ks a here gone none l z h =
    by_test (ltb 0 (allot s js a).left)
    (λ e. not_in s j ks (allot s js a) gone ∙ whole s j js a here l (ltb-true 0 (allot s js a).left e))
    (λ e.
    let o = ltb-false 0 (allot s js a).left e in
    absurd (omega (arith, h, none_left s k ks (allot s js a) (omega arith) (not_in s k js a none ∙ z))))
