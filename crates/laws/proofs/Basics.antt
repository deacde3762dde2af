-- Tests, tables, sums and lists of parts: the small laws that every other file cites. Each goes by
-- induction on its list, and by the two values of its test.
use mathlib.Core.Path.{◌≡◌, refl, sym, ap, ◌∙◌}
use mathlib.Core.Bool.{Bool, true, false, cond, ◌&&◌, false≢true}
use mathlib.Core.List.{List, [], ◌∷◌, ◌++◌, map}
use Prim.Native.Nat.{ℕ, zero, suc, ◌+◌, ◌*◌, ◌≤◌, ◌<◌, min}
use native.Mathlib.Omega.{arith}
use native.Mathlib.Nat.{add-zero, add-suc, suc-add}
use lib.Dec.{ltb}
use lib.ListN.{length, get_or, take, drop, replicate, take-append-drop}
use Rattle.rules.specs.Measures.{total, sum}
pub use Rattle.rules.specs.Measures.{Every}
use Rattle.rules.specs.Units.{AccountLots, account_lots, prepend, by_account, sum_lots, insert, largest_first}
use Rattle.rules.specs.Book.{tabulate, all}

-- Tests

-- by cases on a test: the test stands first, so that each case knows its equation
pub by_test {ℓ} : {C : Type ℓ} (b : Bool) → (b ≡ true → C) → (b ≡ false → C) → C
by_test true f g = f refl
by_test false f g = g refl

-- what both branches have
pub either {ℓ κ} : {A : Type ℓ} (P : A → Type κ) (b : Bool) {x y : A} → P x → P y → P (cond b x y)
either P true p q = p
either P false p q = q

pub cond_true {ℓ} : {A : Type ℓ} (b : Bool) (x y : A) → b ≡ true → cond b x y ≡ x
cond_true b x y e = rw e

pub cond_false {ℓ} : {A : Type ℓ} (b : Bool) (x y : A) → b ≡ false → cond b x y ≡ y
cond_false b x y e = rw e

pub and_left : (a b : Bool) → a && b ≡ true → a ≡ true
and_left true b h = refl
and_left false b h = h

pub and_right : (a b : Bool) → a && b ≡ true → b ≡ true
and_right true b h = h
and_right false b h = absurd (false≢true h)

pub and_both : (a b : Bool) → a ≡ true → b ≡ true → a && b ≡ true
and_both a b h k = rw (h, k)

-- a test of all elements, at one of them
pub all_at {ℓ} : {A : Type ℓ} (p : A → Bool) (l : List A) (d : A) (i : ℕ) → all p l ≡ true → i < length l → p (get_or l i d) ≡ true
all_at p [] d i h k = absurd (omega arith)
all_at p (x ∷ xs) d zero h k = and_left (p x) (all p xs) h
all_at p (x ∷ xs) d (suc i) h k = all_at p xs d i (and_right (p x) (all p xs) h) (omega arith)

-- and back: what holds at each place holds of all
pub all_of {ℓ} : {A : Type ℓ} (p : A → Bool) (l : List A) (d : A) → ((i : ℕ) → i < length l → p (get_or l i d) ≡ true) → all p l ≡ true
all_of p [] d h = refl
all_of p (x ∷ xs) d h = and_both (p x) (all p xs) (h 0 (omega arith)) (all_of p xs d (λ i l. h (suc i) (omega arith)))

pub all_append {ℓ} : {A : Type ℓ} (p : A → Bool) (us vs : List A) → all p us ≡ true → all p vs ≡ true → all p (us ++ vs) ≡ true
all_append p [] vs h k = k
all_append p (u ∷ us) vs h k =
    and_both (p u) (all p (us ++ vs)) (and_left (p u) (all p us) h) (all_append p us vs (and_right (p u) (all p us) h) k)

pub all_replicate {ℓ} : {A : Type ℓ} (p : A → Bool) (n : ℕ) (x : A) → p x ≡ true → all p (replicate n x) ≡ true
all_replicate p zero x h = refl
all_replicate p (suc n) x h = and_both (p x) (all p (replicate n x)) h (all_replicate p n x h)

-- Tables

pub length_tab {ℓ} : {A : Type ℓ} (f : ℕ → A) (k n : ℕ) → length (tabulate f k n) ≡ n
length_tab f k zero = refl
length_tab f k (suc n) = ap suc (length_tab f (suc k) n)

pub get_or_tab {ℓ} : {A : Type ℓ} (f : ℕ → A) (k n i : ℕ) (d : A) → i < n → get_or (tabulate f k n) i d ≡ f (k + i)
get_or_tab f k zero i d h = absurd (omega arith)
get_or_tab f k (suc n) zero d h = ap f (sym (add-zero k))
get_or_tab f k (suc n) (suc i) d h = get_or_tab f (suc k) n i d (omega arith) ∙ ap f (suc-add k i ∙ sym (add-suc k i))

-- Sums

pub total_append {ℓ} : {A : Type ℓ} (f : A → ℕ) (us vs : List A) → total f (us ++ vs) ≡ total f us + total f vs
total_append f [] vs = omega arith
total_append f (u ∷ us) vs = omega (arith, total_append f us vs)

pub total_replicate {ℓ} : {A : Type ℓ} (f : A → ℕ) (n : ℕ) (u : A) → total f (replicate n u) ≡ n * f u
total_replicate f zero u = omega arith
total_replicate f (suc n) u = omega (arith, total_replicate f n u)

pub total_map {ℓ κ} : {A : Type ℓ} {B : Type κ} (f : B → ℕ) (g : A → B) (xs : List A) → total f (map g xs) ≡ total (λ x. f (g x)) xs
total_map f g [] = refl
total_map f g (x ∷ xs) = ap (λ n. f (g x) + n) (total_map f g xs)

pub total_add {ℓ} : {A : Type ℓ} (f g h : A → ℕ) → ((u : A) → f u + g u ≡ h u) → (us : List A) → total f us + total g us ≡ total h us
total_add f g h e [] = refl
total_add f g h e (u ∷ us) = omega (arith, e u, total_add f g h e us)

pub count_one {ℓ} : {A : Type ℓ} (xs : List A) → total (λ x. 1) xs ≡ length xs
count_one [] = refl
count_one (x ∷ xs) = omega (arith, count_one xs)

-- one element more: what a loop over a list adds
pub total_take_suc {ℓ} : {A : Type ℓ} (f : A → ℕ) (l : List A) (k : ℕ) (d : A) → k < length l →
    total f (take (suc k) l) ≡ total f (take k l) + f (get_or l k d)
total_take_suc f [] k d h = absurd (omega arith)
total_take_suc f (x ∷ xs) zero d h = omega arith
total_take_suc f (x ∷ xs) (suc k) d h = omega (arith, total_take_suc f xs k d (omega arith))

pub total_split {ℓ} : {A : Type ℓ} (f : A → ℕ) (n : ℕ) (l : List A) → total f (take n l) + total f (drop n l) ≡ total f l
total_split f n l = sym (total_append f (take n l) (drop n l)) ∙ ap (total f) (take-append-drop n l)

pub total_take_le {ℓ} : {A : Type ℓ} (f : A → ℕ) (n : ℕ) (l : List A) → total f (take n l) ≤ total f l
total_take_le f n l = omega (arith, total_split f n l)

pub total_drop_le {ℓ} : {A : Type ℓ} (f : A → ℕ) (n : ℕ) (l : List A) → total f (drop n l) ≤ total f l
total_drop_le f n l = omega (arith, total_split f n l)

-- Lists of parts: put, parts, largest_first

pub put_pos : (a x : ℕ) (us : List AccountLots) → 0 < x → prepend a x us ≡ account_lots a x ∷ us
put_pos a zero us h = absurd (omega arith)
put_pos a (suc n) us h = refl

pub put_none : (a x : ℕ) (us : List AccountLots) → x ≡ 0 → prepend a x us ≡ us
put_none a x us e = rw e

pub put_append : (a x : ℕ) (us vs : List AccountLots) → prepend a x (us ++ vs) ≡ prepend a x us ++ vs
put_append a zero us vs = refl
put_append a (suc n) us vs = refl

pub length_put : (a x : ℕ) (us : List AccountLots) → length (prepend a x us) ≡ min 1 x + length us
length_put a zero us = omega arith
length_put a (suc n) us = omega arith

pub total_put : (f : AccountLots → ℕ) (a x : ℕ) (us : List AccountLots) → f (account_lots a 0) ≡ 0 → total f (prepend a x us) ≡ f (account_lots a x) + total f us
total_put f a zero us h = omega (arith, h)
total_put f a (suc n) us h = refl

pub sum_parts : (k : ℕ) (dues : List ℕ) → sum_lots (by_account k dues) ≡ sum dues
sum_parts k [] = refl
sum_parts k (x ∷ xs) = omega (arith, total_put (λ u. u.lots) k x (by_account (suc k) xs) refl, sum_parts (suc k) xs)

pub length_parts : (k : ℕ) (xs : List ℕ) → length (by_account k xs) ≤ length xs
length_parts k [] = omega arith
length_parts k (x ∷ xs) = omega (arith, length_put k x (by_account (suc k) xs), length_parts (suc k) xs)

pub total_insert : (f : AccountLots → ℕ) (u : AccountLots) (us : List AccountLots) → total f (insert u us) ≡ f u + total f us
total_insert f u [] = refl
total_insert f u (v ∷ vs) =
    either (λ r. total f r ≡ f u + (f v + total f vs)) (ltb u.lots v.lots)
    (omega (arith, total_insert f u vs)) refl

-- sorting changes no sum, whatever is counted
pub total_sort : (f : AccountLots → ℕ) (us : List AccountLots) → total f (largest_first us) ≡ total f us
total_sort f [] = refl
total_sort f (u ∷ us) = omega (arith, total_insert f u (largest_first us), total_sort f us)

pub length_insert : (u : AccountLots) (us : List AccountLots) → length (insert u us) ≡ suc (length us)
length_insert u [] = refl
length_insert u (v ∷ vs) =
    either (λ r. length r ≡ suc (suc (length vs))) (ltb u.lots v.lots) (ap suc (length_insert u vs)) refl

pub length_sort : (us : List AccountLots) → length (largest_first us) ≡ length us
length_sort [] = refl
length_sort (u ∷ us) = length_insert u (largest_first us) ∙ ap suc (length_sort us)

-- What each element of a list has

pub every_of {ℓ} : {A : Type ℓ} (P : A → Type 0) (us : List A) → ((u : A) → P u) → Every P us
every_of P [] f = tt
every_of P (u ∷ us) f = (f u, every_of P us f)

pub each_append {ℓ} : {A : Type ℓ} (P : A → Type 0) (us vs : List A) → Every P us → Every P vs → Every P (us ++ vs)
each_append P [] vs ps qs = qs
each_append P (u ∷ us) vs ps qs = (ps.0, each_append P us vs ps.1 qs)

pub each_replicate {ℓ} : {A : Type ℓ} (P : A → Type 0) (n : ℕ) (u : A) → P u → Every P (replicate n u)
each_replicate P zero u p = tt
each_replicate P (suc n) u p = (p, each_replicate P n u p)

pub each_map {ℓ} : {A : Type ℓ} (P Q : A → Type 0) → ((u : A) → P u → Q u) → (us : List A) → Every P us → Every Q us
each_map P Q f [] ps = tt
each_map P Q f (u ∷ us) ps = (f u ps.0, each_map P Q f us ps.1)

pub each_zip {ℓ} : {A : Type ℓ} (P Q R : A → Type 0) → ((u : A) → P u → Q u → R u) → (us : List A) → Every P us → Every Q us → Every R us
each_zip P Q R f [] ps qs = tt
each_zip P Q R f (u ∷ us) ps qs = (f u ps.0 qs.0, each_zip P Q R f us ps.1 qs.1)

pub each_at {ℓ} : {A : Type ℓ} (P : A → Type 0) (us : List A) (d : A) (i : ℕ) → Every P us → i < length us → P (get_or us i d)
each_at P [] d i ps h = absurd (omega arith)
each_at P (u ∷ us) d zero ps h = ps.0
each_at P (u ∷ us) d (suc i) ps h = each_at P us d i ps.1 (omega arith)

pub each_take {ℓ} : {A : Type ℓ} (P : A → Type 0) (n : ℕ) (us : List A) → Every P us → Every P (take n us)
each_take P zero us ps = tt
each_take P (suc n) [] ps = tt
each_take P (suc n) (u ∷ us) ps = (ps.0, each_take P n us ps.1)

pub each_drop {ℓ} : {A : Type ℓ} (P : A → Type 0) (n : ℕ) (us : List A) → Every P us → Every P (drop n us)
each_drop P zero us ps = ps
each_drop P (suc n) [] ps = tt
each_drop P (suc n) (u ∷ us) ps = each_drop P n us ps.1

pub each_put : (P : AccountLots → Type 0) (a x : ℕ) (us : List AccountLots) → (0 < x → P (account_lots a x)) → Every P us → Every P (prepend a x us)
each_put P a zero us p ps = ps
each_put P a (suc n) us p ps = (p (omega arith), ps)

pub each_insert : (P : AccountLots → Type 0) (u : AccountLots) (us : List AccountLots) → P u → Every P us → Every P (insert u us)
each_insert P u [] p ps = (p, tt)
each_insert P u (v ∷ vs) p ps =
    either (λ r. Every P r) (ltb u.lots v.lots) (ps.0, each_insert P u vs p ps.1) (p, ps)

pub each_sort : (P : AccountLots → Type 0) (us : List AccountLots) → Every P us → Every P (largest_first us)
each_sort P [] ps = tt
each_sort P (u ∷ us) ps = each_insert P u (largest_first us) ps.0 (each_sort P us ps.1)
