-- The first entry that is left, by columns: the loop's invariant, and the place in the ledger.
use mathlib.Core.Path.{◌≡◌, refl, ap, sym, ◌∙◌}
use mathlib.Core.Bool.{true, false, cond, ◌&&◌}
use mathlib.Core.List.{List, [], tail}
use Prim.Native.Nat.{ℕ, zero, suc, ◌+◌, ◌≤◌, ◌<◌}
use native.Mathlib.Numerals.{add-one}
use native.Mathlib.Omega.{arith}
use lib.Dec.{eqb, leb, ltb}
use borrow.Author.Tests.{leb-true, leb-false, ltb-true, ltb-false, lt-ltb, le-ltb, eq-eqb, ne_eqb}
use lib.ListN.{get_or}
use Rattle.rules.specs.Ledger.{is_from, is_to}
use Rattle.rules.specs.Book.{is_zero, head_or0, entries}
use Rattle.laws.proofs.Ledger.{no_entry, entry_at_lem, length_entries}
use Rattle.laws.proofs.Basics.{by_test, either}
use Rattle.std.specs.Prelude.{Some, None}
use Rattle.std.proofs.lemmas.Option.{cond_some, none-some}
use Rattle.seeking.specs.Places.{is_at, NoneIn, Passed, First}
use Rattle.falling.specs.Places.{is_left, place_of, next_in, within}
use Rattle.falling.proofs.Places.{place_most, place_here, place_past}

module _ (n : ℕ) (is cs xs : List ℕ) (i a : ℕ) where
  -- the test of the entry at place k
  test : (k : ℕ) → k < n → is_left (is_to i a) (get_or (entries n is [] cs xs []) k no_entry)
      ≡ cond (is_zero (get_or xs k 0)) false (eqb (get_or is k 0) i && eqb (get_or cs k 0) a)
  test k h = ap (is_left (is_to i a)) (entry_at_lem n is [] cs xs [] k h)

  module _ (k : ℕ) (s : k ≤ next_in n is cs xs i a) where
    pub seek_found : k < n → cond (is_zero (get_or xs k 0)) false (eqb (get_or is k 0) i && eqb (get_or cs k 0) a) ≡ true → k ≡ next_in n is cs xs i a
    seek_found h e =
        place_here (is_left (is_to i a)) k (entries n is [] cs xs []) (omega (arith, length_entries n is [] cs xs [])) s (test k h ∙ e)

    pub seek_more : k < n → cond (is_zero (get_or xs k 0)) false (eqb (get_or is k 0) i && eqb (get_or cs k 0) a) ≡ false → k + 1 ≤ next_in n is cs xs i a
    seek_more h e =
        rw (add-one k)
        (place_past (is_left (is_to i a)) k (entries n is [] cs xs []) (omega (arith, length_entries n is [] cs xs [])) s (test k h ∙ e))

    pub seek_ends : n ≤ k → k ≡ next_in n is cs xs i a
    seek_ends h = omega (arith, place_most (is_left (is_to i a)) (entries n is [] cs xs []), length_entries n is [] cs xs [])

  -- the place behind others where there is none
  pub seek_over : (k r : ℕ) → k ≤ next_in n is cs xs i a → NoneIn (is_at is cs i a) k r → k ≤ r → r ≤ n → r ≤ next_in n is cs xs i a
  seek_over k zero s z h l = omega arith
  seek_over k (suc r) s z h l =
      by_test (leb (suc r) k)
      (λ y. omega (arith, leb-true (suc r) k y))
      (λ y.
      let b : k ≤ r = omega (arith, leb-false (suc r) k y) in
      let q = seek_over k r s (λ j u v. z j u (omega arith)) b (omega arith) in
      let e : cond (is_zero (get_or xs r 0)) false (is_at is cs i a r) ≡ false =
      either (λ t. t ≡ false) (is_zero (get_or xs r 0)) refl (z r b (omega arith)) in
      omega (arith, seek_more r q (omega arith) e))

  module _ (k : ℕ) (s : k ≤ next_in n is cs xs i a) where
    seek_there : {r : ℕ} → Passed (is_at is cs i a) n k r → r ≤ next_in n is cs xs i a
    seek_there {r} p = seek_over k r s p.none p.start p.most

    -- there is none up to the end
    pub seek_last : Passed (is_at is cs i a) n k n → None ≡ within n (next_in n is cs xs i a)
    seek_last p =
        let e : n ≡ next_in n is cs xs i a = seek_ends n (seek_there p) (omega arith) in
        rw (le-ltb (next_in n is cs xs i a) n (omega (arith, e)))

    module _ {r : ℕ} (f : First (is_at is cs i a) n k r) where
      pub seek_left : (get_or xs r 0 ≡ 0 → ⊥) → Some r ≡ within n (next_in n is cs xs i a)
      seek_left z =
          let e : r ≡ next_in n is cs xs i a = seek_found r (seek_there f.passed) f.inside (rw (ne_eqb _ _ z) f.found) in
          rw (← e) (rw (lt-ltb r n f.inside))

      pub seek_zero : get_or xs r 0 ≡ 0 → (r + 1 ≤ n) × (r + 1 ≤ next_in n is cs xs i a)
      seek_zero z = (omega (arith, f.inside), seek_more r (seek_there f.passed) f.inside (rw (eq-eqb _ _ z)))

-- the place that is found is the first, and where none is found there is none
pub within_some : (n k : ℕ) {m : ℕ} → Some m ≡ within n k → (m ≡ k) × (m < n)
within_some n k {m} e =
    let p = cond_some (ltb k n) k m (sym e) in
    (sym p.1, omega (arith, p.1, ltb-true k n p.0))

pub within_none : (n k : ℕ) → None ≡ within n k → n ≤ k
within_none n k e =
    by_test (ltb k n) (λ y. absurd (none-some k (rw y at e))) (λ y. ltb-false k n y)

-- the place in three columns is the place in the ledger
pub next_to : (n : ℕ) (is fs ts xs ds : List ℕ) (i a : ℕ) → next_in n is ts xs i a ≡ place_of (is_left (is_to i a)) (entries n is fs ts xs ds)
next_to zero is fs ts xs ds i a = refl
next_to (suc n) is fs ts xs ds i a =
    ap (λ k. cond (cond (is_zero (head_or0 xs)) false (eqb (head_or0 is) i && eqb (head_or0 ts) a)) 0 (suc k))
    (next_to n (tail is) (tail fs) (tail ts) (tail xs) (tail ds) i a)

pub next_from : (n : ℕ) (is fs ts xs ds : List ℕ) (i a : ℕ) → next_in n is fs xs i a ≡ place_of (is_left (is_from i a)) (entries n is fs ts xs ds)
next_from zero is fs ts xs ds i a = refl
next_from (suc n) is fs ts xs ds i a =
    ap (λ k. cond (cond (is_zero (head_or0 xs)) false (eqb (head_or0 is) i && eqb (head_or0 fs) a)) 0 (suc k))
    (next_from n (tail is) (tail fs) (tail ts) (tail xs) (tail ds) i a)
