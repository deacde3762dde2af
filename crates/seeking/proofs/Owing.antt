-- The lots that are still asked for: whether all entries have as many as were asked for is whether those from
-- place k on have as many as are left to be asked for.
use mathlib.Core.Path.{◌≡◌, sym, ap, ◌∙◌}
use mathlib.Core.Bool.{true, false}
use mathlib.Core.List.{List}
use Prim.Native.Nat.{ℕ, zero, suc, ◌+◌, ◌-◌, ◌≤◌, ◌<◌}
use native.Mathlib.Numerals.{add-one}
use native.Mathlib.Nat.{zero-add}
use native.Mathlib.Omega.{arith}
use lib.Dec.{leb}
use lib.ListN.{get_or}
use borrow.Author.Tests.{leb-true, leb-false, le-leb, lt-leb}
use Rattle.rules.specs.Ledger.{is_from, lots_of}
use Rattle.rules.specs.Book.{entries}
use Rattle.laws.proofs.Basics.{by_test}
use Rattle.ledger.proofs.Left.{left, owed_next}
use Rattle.seeking.specs.Places.{is_at, NoneIn, Passed, First}

less_asked : (x y r : ℕ) → leb (x - y) r ≡ leb x (y + r)
less_asked x y r =
    by_test (leb x (y + r))
    (λ e. le-leb (x - y) r (omega (arith, leb-true x (y + r) e)) ∙ sym e)
    (λ e. lt-leb (x - y) r (omega (arith, leb-false x (y + r) e)) ∙ sym e)

-- entries of others have nothing
owed_over : (n : ℕ) (is fs xs : List ℕ) (i a k r : ℕ) (ts ds : List ℕ) → NoneIn (is_at is fs i a) k r → k ≤ r → r ≤ n →
    lots_of (is_from i a) (left k n is fs ts xs ds) ≡ lots_of (is_from i a) (left r n is fs ts xs ds)
owed_over n is fs xs i a k zero ts ds z h l = let e : k ≡ 0 = omega arith in rw e
owed_over n is fs xs i a k (suc r) ts ds z h l =
    by_test (leb (suc r) k)
    (λ y. let e : k ≡ suc r = omega (arith, leb-true (suc r) k y) in rw e)
    (λ y.
    let b : k ≤ r = omega (arith, leb-false (suc r) k y) in
    owed_over n is fs xs i a k r ts ds (λ j u v. z j u (omega arith)) b (omega arith)
    ∙ owed_next r n is fs ts xs ds i a (omega arith)
    ∙ rw (z r b (omega arith), add-one r) (zero-add _))

pub record Asking (n i a : ℕ) (is fs xs : List ℕ) (x₀ k x : ℕ) : Type 0 where
  pub most : k ≤ n
  pub asks : (ts ds : List ℕ) →
      leb x₀ (lots_of (is_from i a) (entries n is fs ts xs ds)) ≡ leb x (lots_of (is_from i a) (left k n is fs ts xs ds))

pub asking_starts : (n i a : ℕ) (is fs xs : List ℕ) (x : ℕ) → Asking n i a is fs xs x 0 x
asking_starts n i a is fs xs x = record { most = omega arith; asks = λ ts ds. let e : n - 0 ≡ n = omega arith in rw e }

module _ {n i a : ℕ} {is fs xs : List ℕ} {x₀ k x : ℕ} (s : Asking n i a is fs xs x₀ k x) where
  -- nothing more is asked for
  pub asking_all : x ≤ 0 → (ts ds : List ℕ) → true ≡ leb x₀ (lots_of (is_from i a) (entries n is fs ts xs ds))
  asking_all h ts ds = sym (s.asks ts ds ∙ le-leb x _ (omega arith))

  over : {r : ℕ} → Passed (is_at is fs i a) n k r → (ts ds : List ℕ) →
      lots_of (is_from i a) (left k n is fs ts xs ds) ≡ lots_of (is_from i a) (left r n is fs ts xs ds)
  over {r} p ts ds = owed_over n is fs xs i a k r ts ds p.none p.start p.most

  -- there is no entry more
  pub asking_none : Passed (is_at is fs i a) n k n → 0 < x → (ts ds : List ℕ) →
      false ≡ leb x₀ (lots_of (is_from i a) (entries n is fs ts xs ds))
  asking_none p h ts ds =
      let d : n - n ≡ 0 = omega arith in
      let z : lots_of (is_from i a) (left n n is fs ts xs ds) ≡ 0 = rw d in
      sym (s.asks ts ds ∙ lt-leb x _ (omega (arith, over p ts ds)))

  -- the entry that was found
  pub asking_more : {r y : ℕ} → First (is_at is fs i a) n k r → y ≡ x - get_or xs r 0 → Asking n i a is fs xs x₀ (r + 1) y
  asking_more {r} {y} f e =
      record {
        most = omega (arith, f.inside);
        asks =
            λ ts ds.
            s.asks ts ds
            ∙ ap (leb x) (over f.passed ts ds ∙ owed_next r n is fs ts xs ds i a f.inside ∙ rw f.found)
            ∙ sym (less_asked x (get_or xs r 0) _)
            ∙ ap (λ z. leb z (lots_of (is_from i a) (left (r + 1) n is fs ts xs ds))) (sym e);
      }
