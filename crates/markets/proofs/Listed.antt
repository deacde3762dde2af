-- Every market is listed, nothing else is, and the list rises; so none is listed twice. A smaller number has smaller first
-- digits, or the same and a smaller last digit.
use mathlib.Core.Path.{◌≡◌, refl, sym, ap, subst, ◌∙◌}
use mathlib.Core.Bool.{Bool, true, false, cond, false≢true}
use mathlib.Core.Logic.{◌⊎◌, inl, inr, ⊎_elim}
use mathlib.Core.List.{List, [], ◌∷◌, ◌++◌, map, map-append, append_assoc}
use Prim.Native.Nat.{ℕ, zero, suc, ◌+◌, ◌-◌, ◌*◌, ◌/◌, ◌%◌, ◌≤◌, ◌<◌, min}
use native.Mathlib.Omega.{arith}
use native.Mathlib.Nat.{mod-lt, div-add-mod', mul-le-mul_right, div-lt_iff_lt-mul, add-zero, zero-add}
use lib.Arith.{digits_lt, digits_div, digits_mod}
use lib.Dec.{ltb, eqb}
use lib.ListN.{length, length-append, length-map}
use lib.IntN.{ℤ, pos, negsuc, nat_abs, ◌-ℤ◌}
use borrow.Author.Tests.{ltb-true, ltb-false, eqb-true, eqb-false, lt-ltb, le-ltb}
use Rattle.rules.specs.Measures.{Every, due_of, owed_of}
use Rattle.rules.specs.Book.{tabulate, balanced}
use Rattle.laws.proofs.Basics.{by_test, each_map, each_append}
use Rattle.laws.proofs.Fails.{each_of_map}
use Rattle.laws.proofs.Signed.{falls, size_of_lem, same_sign}
use Rattle.markets.specs.Markets.{choices, net_of, digits_at, list_count, nets_at, those, markets, Market, below, before, Rising, Has}

pub some_choices : (m : ℕ) → 0 < choices m
some_choices m = omega arith

-- Digits

pub net_sides : (m k : ℕ) → due_of (net_of m k) + m ≡ k + owed_of (net_of m k)
net_sides m k = let f : due_of (net_of m k) + 0 + m ≡ k + owed_of (net_of m k) = falls (pos k) m in omega arith

one_zero : (x : ℤ) → min (due_of x) (owed_of x) ≡ 0
one_zero (pos n) = omega arith
one_zero (negsuc n) = omega arith

-- what is due and owed by a digit
pub net_due : (m k : ℕ) → due_of (net_of m k) ≡ k - m
net_due m k = omega (arith, net_sides m k, one_zero (net_of m k))

pub net_owed : (m k : ℕ) → owed_of (net_of m k) ≡ m - k
net_owed m k = omega (arith, net_sides m k, one_zero (net_of m k))

pub net_within : (m k : ℕ) → k < choices m → nat_abs (net_of m k) ≤ m
net_within m k h = omega (arith, size_of_lem (net_of m k), net_due m k, net_owed m k)

-- the digit of a net
abbrev digit : ℕ → ℤ → ℕ
digit m x = m + due_of x - owed_of x

digit_net : (m : ℕ) (x : ℤ) → nat_abs x ≤ m → net_of m (digit m x) ≡ x
digit_net m x h =
    same_sign (net_of m (digit m x)) x (omega (arith, net_sides m (digit m x), size_of_lem x))

digit_below : (m : ℕ) (x : ℤ) → nat_abs x ≤ m → digit m x < choices m
digit_below m x h = omega (arith, size_of_lem x)

-- n digits, each below c
pub length_digits : (c n t : ℕ) → length (digits_at c n t) ≡ n
length_digits c zero t = refl
length_digits c (suc n) t = omega (arith, length-append (digits_at c n (t / c)) (t % c ∷ []), length_digits c n (t / c))

pub digits_below : (c n t : ℕ) → 0 < c → Every (λ d. d < c) (digits_at c n t)
digits_below c zero t h = tt
digits_below c (suc n) t h = each_append (λ d. d < c) (digits_at c n (t / c)) (t % c ∷ []) (digits_below c n (t / c) h) (mod-lt t h, tt)

at_length : (m n t : ℕ) → length (nets_at m n t) ≡ n
at_length m n t = length-map (digits_at (choices m) n t) (net_of m) ∙ length_digits (choices m) n t

at_within : (m n t : ℕ) → Every (λ x. nat_abs x ≤ m) (nets_at m n t)
at_within m n t =
    let ds = digits_at (choices m) n t in
    each_of_map (λ x. nat_abs x ≤ m) (net_of m) ds
    (each_map (λ d. d < choices m) (λ d. nat_abs (net_of m d) ≤ m) (λ d. net_within m d) ds
    (digits_below (choices m) n t (some_choices m)))

-- and any such list is one of them: behind the digits of a number come those of the nets
abbrev number : ℕ → ℕ → List ℤ → ℕ
number m t [] = t
number m t (x ∷ xs) = number m (t * choices m + digit m x) xs

number_below : (m n t : ℕ) (v : List ℤ) → t < list_count (choices m) n → Every (λ x. nat_abs x ≤ m) v →
    number m t v < list_count (choices m) (n + length v)
number_below m n t [] h w = rw (add-zero n) h
number_below m n t (x ∷ xs) h w =
    let e : n + suc (length xs) ≡ suc n + length xs = omega arith in
    rw e (number_below m (suc n) (t * choices m + digit m x) xs (digits_lt h (digit_below m x w.0)) w.1)

at_number : (m n t : ℕ) (v : List ℤ) → Every (λ x. nat_abs x ≤ m) v →
    nets_at m (n + length v) (number m t v) ≡ nets_at m n t ++ v
at_number m n t [] w = rw (add-zero n) (sym (append_nothing (nets_at m n t)))
  where
    append_nothing : (l : List ℤ) → l ++ [] ≡ l
    append_nothing [] = refl
    append_nothing (x ∷ xs) = ap (λ l. x ∷ l) (append_nothing xs)
at_number m n t (x ∷ xs) w =
    let c = choices m in
    let d = digit m x in
    let b = digit_below m x w.0 in
    let e : n + suc (length xs) ≡ suc n + length xs = omega arith in
    let q : digits_at c (suc n) (t * c + d) ≡ digits_at c n t ++ (d ∷ []) = rw (digits_div t b, digits_mod t b) refl in
    rw (e, at_number m (suc n) (t * c + d) xs w.1, q, map-append (net_of m) (digits_at c n t) (d ∷ []), digit_net m x w.0)
    (append_assoc (nets_at m n t) (x ∷ []) xs)

-- Rising

net_below : (m j k : ℕ) → j < k → below (net_of m j) (net_of m k) ≡ true
net_below m j k h =
    lt-ltb (due_of (net_of m j) + owed_of (net_of m k)) (due_of (net_of m k) + owed_of (net_of m j))
    (omega (arith, net_sides m j, net_sides m k))

net_same : (x : ℤ) → below x x ≡ false
net_same x = le-ltb (due_of x + owed_of x) (due_of x + owed_of x) (omega arith)

-- the first accounts decide where they differ, else the last
before_more : (ps qs rs ss : List ℤ) → before ps qs ≡ true → before (ps ++ rs) (qs ++ ss) ≡ true
before_more [] qs rs ss h = absurd (false≢true h)
before_more (p ∷ ps) [] rs ss h = absurd (false≢true h)
before_more (p ∷ ps) (q ∷ qs) rs ss h =
    by_test (below p q)
    (λ e. rw e refl)
    (λ e.
    by_test (below q p)
    (λ f. absurd (false≢true (sym (rw (e, f) refl) ∙ h)))
    (λ f. rw (e, f) (before_more ps qs rs ss (sym (rw (e, f) refl) ∙ h))))

before_last : (ps : List ℤ) (x y : ℤ) → below x y ≡ true → before (ps ++ (x ∷ [])) (ps ++ (y ∷ [])) ≡ true
before_last [] x y h = rw h refl
before_last (p ∷ ps) x y h = rw (net_same p) (before_last ps x y h)

lead_le : (c s t : ℕ) → 0 < c → s < t → s / c ≤ t / c
lead_le c s t p h =
    by_test (ltb (t / c) (s / c))
    (λ e.
    let k : suc (t / c) * c ≤ s / c * c = mul-le-mul_right c (ltb-true (t / c) (s / c) e) in
    absurd (omega (arith, div-add-mod' s c, div-add-mod' t c, mod-lt t p, k)))
    (λ e. ltb-false (t / c) (s / c) e)

rest_lt : (c s t : ℕ) → s / c ≡ t / c → s < t → s % c < t % c
rest_lt c s t e h =
    let q : s / c * c ≡ t / c * c = ap (λ n. n * c) e in
    omega (arith, div-add-mod' s c, div-add-mod' t c, q)

split_last : (m n t : ℕ) → nets_at m (suc n) t ≡ nets_at m n (t / choices m) ++ (net_of m (t % choices m) ∷ [])
split_last m n t = map-append (net_of m) (digits_at (choices m) n (t / choices m)) (t % choices m ∷ [])

lead_below : (c n t : ℕ) → 0 < c → t < list_count c n * c → t / c < list_count c n
lead_below c n t p h = (div-lt_iff_lt-mul p).1 h

at_before : (m n s t : ℕ) → s < t → t < list_count (choices m) n → before (nets_at m n s) (nets_at m n t) ≡ true
at_before m zero s t h k = absurd (omega arith)
at_before m (suc n) s t h k =
    let c = choices m in
    let p = some_choices m in
    rw (split_last m n s, split_last m n t)
    (by_test (ltb (s / c) (t / c))
    (λ e.
    before_more (nets_at m n (s / c)) (nets_at m n (t / c)) (net_of m (s % c) ∷ []) (net_of m (t % c) ∷ [])
    (at_before m n (s / c) (t / c) (ltb-true (s / c) (t / c) e) (lead_below c n t p k)))
    (λ e.
    let q : s / c ≡ t / c = omega (arith, ltb-false (s / c) (t / c) e, lead_le c s t p h) in
    rw q (before_last (nets_at m n (t / c)) (net_of m (s % c)) (net_of m (t % c)) (net_below m (s % c) (t % c) (rest_lt c s t q h)))))

-- Lists

-- what passes of a list is in it, and passes
pub every_those {ℓ} : {A : Type ℓ} (P : A → Type 0) (p : A → Bool) (xs : List A) → Every P xs → Every (λ x. P x × (p x ≡ true)) (those p xs)
every_those P p [] h = tt
every_those P p (x ∷ xs) h =
    by_test (p x) (λ e. simp e ((h.0, refl), every_those P p xs h.1)) (λ e. simp e (every_those P p xs h.1))

has_those : (p : List ℤ → Bool) (xs : List (List ℤ)) (x : List ℤ) → p x ≡ true → Has xs x → Has (those p xs) x
has_those p [] x e h = h
has_those p (y ∷ ys) x e h =
    by_test (p y)
    (λ q. simp q (⊎_elim (λ z. inl z) (λ z. inr (has_those p ys x e z)) h))
    (λ q. simp q (⊎_elim (λ z. absurd (false≢true (sym q ∙ sym (ap p z) ∙ e))) (λ z. has_those p ys x e z) h))

each_less {ℓ} : {A : Type ℓ} (P : A → Type 0) (p : A → Bool) (xs : List A) → Every P xs → Every P (those p xs)
each_less P p [] h = tt
each_less P p (x ∷ xs) h = by_test (p x) (λ e. simp e (h.0, each_less P p xs h.1)) (λ e. simp e (each_less P p xs h.1))

rising_those : (p : List ℤ → Bool) (vs : List (List ℤ)) → Rising vs → Rising (those p vs)
rising_those p [] h = tt
rising_those p (v ∷ vs) h =
    by_test (p v)
    (λ e. simp e (each_less (λ w. before v w ≡ true) p vs h.0, rising_those p vs h.1))
    (λ e. simp e (rising_those p vs h.1))

each_tab {ℓ} : {A : Type ℓ} (P : A → Type 0) (f : ℕ → A) (k n : ℕ) → ((t : ℕ) → k ≤ t → t < k + n → P (f t)) → Every P (tabulate f k n)
each_tab P f k zero h = tt
each_tab P f k (suc n) h = (h k (omega arith) (omega arith), each_tab P f (suc k) n (λ t p q. h t (omega arith) (omega arith)))

has_tab : (f : ℕ → List ℤ) (k n t : ℕ) → k ≤ t → t < k + n → Has (tabulate f k n) (f t)
has_tab f k zero t p q = absurd (omega arith)
has_tab f k (suc n) t p q =
    by_test (eqb t k)
    (λ e. inl (ap f (eqb-true t k e)))
    (λ e. let ne = eqb-false t k e in inr (has_tab f (suc k) n t (omega (arith, ne)) (omega arith)))

rising_tab : (m n k c : ℕ) → k + c ≤ list_count (choices m) n → Rising (tabulate (nets_at m n) k c)
rising_tab m n k zero h = tt
rising_tab m n k (suc c) h = (
  each_tab (λ w. before (nets_at m n k) w ≡ true) (nets_at m n) (suc k) c (λ t p q. at_before m n k t (omega arith) (omega arith)),
  rising_tab m n (suc k) c (omega arith),
)

-- The list of markets

pub markets_rising : (n m : ℕ) → Rising (markets n m)
unfolding markets
markets_rising n m =
    rising_those balanced (tabulate (nets_at m n) 0 (list_count (choices m) n)) (rising_tab m n 0 (list_count (choices m) n) (omega arith))

-- nothing else
abbrev Nets : ℕ → ℕ → List ℤ → Type 0
Nets n m v = (length v ≡ n) × Every (λ x. nat_abs x ≤ m) v

pub markets_only : (n m : ℕ) → Every (Market n m) (markets n m)
unfolding markets
markets_only n m =
    let vs = tabulate (nets_at m n) 0 (list_count (choices m) n) in
    each_map (λ v. Nets n m v × (balanced v ≡ true)) (Market n m)
    (λ v h. record { accounts = h.0.0; within = h.0.1; zero = h.1 })
    (those balanced vs)
    (every_those (Nets n m) balanced vs (each_tab (Nets n m) (nets_at m n) 0 (list_count (choices m) n) (λ t p q. (at_length m n t, at_within m n t))))

-- all of them
pub markets_all : (n m : ℕ) (v : List ℤ) → Market n m v → Has (markets n m) v
unfolding markets
markets_all n m v k =
    let t = number m 0 v in
    let vs = tabulate (nets_at m n) 0 (list_count (choices m) n) in
    let e : nets_at m n t ≡ v = sym (ap (λ l. nets_at m l t) k.accounts) ∙ sym (ap (λ l. nets_at m l t) (zero-add (length v))) ∙ at_number m 0 0 v k.within in
    let b : t < list_count (choices m) n =
    subst (λ l. t < list_count (choices m) l) (zero-add (length v) ∙ k.accounts) (number_below m 0 0 v (omega arith) k.within) in
    has_those balanced vs v k.zero (subst (λ w. Has vs w) e (has_tab (nets_at m n) 0 (list_count (choices m) n) t (omega arith) (omega arith)))

-- a list is not before itself, so in a rising list none comes twice
pub before_itself : (v : List ℤ) → before v v ≡ false
before_itself [] = refl
before_itself (x ∷ xs) = rw (net_same x) (before_itself xs)
