-- Each accepted call keeps an issue's lifts sound, beside its order and its delivered total.
use mathlib.Core.Path.{◌≡◌, refl}
use mathlib.Core.Bool.{Bool, true}
use mathlib.Core.List.{List, [], ◌∷◌, ◌++◌}
use Prim.Native.Nat.{ℕ, ◌+◌, ◌≤◌, ◌<◌}
use native.Mathlib.Omega.{arith}
use lib.Dec.{eqb}
use lib.IntN.{ℤ}
use lib.ListN.{length, replicate}
use borrow.Author.Tests.{eqb-true, eqb-false}
use Rattle.rules.specs.declared.Phase.{Phase}
use Rattle.rules.specs.Units.{AccountLots}
use Rattle.rules.specs.Handover.{covered}
use Rattle.rules.specs.Lifts.{lift_of, lift}
use Rattle.rules.specs.Book.{is_taking, block, lift_number, lifts_at, delivered_at, delivered_total, order_in}
use Rattle.rules.specs.Calls.{raised_delivered, raised_count, with_lift}
use Rattle.laws.proofs.Basics.{by_test}
use Rattle.laws.proofs.Handover.{covered_grows}
use Rattle.laws.proofs.Lifts.{length_lift, lift_covered}
use Rattle.laws.proofs.Cells.{row_other, delivered_rises}
use Rattle.laws.proofs.Sound.{SoundLifts, places_grow, places_last}
use Rattle.laws.proofs.LiftColumn.{raised_other, raised_count_lem, raised_number, raised_lifts, raised_order, lift_other, lift_number_lem, lift_count, lift_lifts, lift_in_order, same_words_lem, no_number, no_count, no_lifts}

-- in Taking no lift stands, so that any order will do
pub lifts_taking : (p : Phase) (us us' : List AccountLots) (d : ℕ) (lifts : List ℕ) (i : ℕ) → is_taking p ≡ true →
    SoundLifts p us d lifts i → SoundLifts p us' d lifts i
lifts_taking p us us' d lifts i t s =
    record { few = s.few; places = rw (s.taking t) refl; taking = s.taking; count = s.count }

-- out of Taking, the phase says nothing of lifts
pub lifts_later : (p p' : Phase) (us : List AccountLots) (d : ℕ) (lifts : List ℕ) (i : ℕ) → (is_taking p' ≡ true → ⊥) →
    SoundLifts p us d lifts i → SoundLifts p' us d lifts i
lifts_later p p' us d lifts i t s =
    record { few = s.few; places = s.places; taking = λ h. absurd (t h); count = s.count }

-- what is said of an issue's lifts is said of its words alone
pub lifts_same : (p : Phase) (us : List AccountLots) (d : ℕ) (lifts lifts' : List ℕ) (i : ℕ) → block 18 i lifts' ≡ block 18 i lifts →
    SoundLifts p us d lifts i → SoundLifts p us d lifts' i
lifts_same p us d lifts lifts' i e s =
    record { few = rw e s.few; places = rw e s.places; taking = rw e s.taking; count = rw e s.count }

-- x more lots delivered, with the count raised
lifts_more : (p : Phase) (us : List AccountLots) (d x : ℕ) (lifts : List ℕ) (i : ℕ) → length lifts ≡ 288 → i < 16 → 1 ≤ x →
    SoundLifts p us d lifts i → SoundLifts p us (d + x) (raised_count lifts i) i
lifts_more p us d x lifts i n hi hx s =
    let e = raised_number lifts i i in
    record {
      few = rw e s.few;
      places = rw (raised_lifts lifts i i) (places_grow (length us) (covered us d) (covered us (d + x)) 0 (lifts_at lifts i) (covered_grows us d x) s.places);
      taking = rw e s.taking;
      count = rw (e, raised_count_lem lifts i n hi) (omega (arith, s.count));
    }

pub lifts_delivered : (new : Bool) (p : Phase) (nets : List ℤ) (delivered lifts : List ℕ) (i a x : ℕ) → length delivered ≡ 1024 → length lifts ≡ 288 →
    i < 16 → a < 64 → 1 ≤ x → (j : ℕ) → SoundLifts p (order_in new nets lifts j) (delivered_total delivered j) lifts j →
    SoundLifts p (order_in new nets (raised_count lifts i) j) (delivered_total (raised_delivered delivered i a x) j) (raised_count lifts i) j
lifts_delivered new p nets delivered lifts i a x m n hi ha hx j s =
    rw (raised_order lifts i new nets j)
    (by_test (eqb j i)
    (λ e.
    let q = eqb-true j i e in
    rw (q, delivered_rises delivered i a x m hi ha)
    (lifts_more p (order_in new nets lifts i) (delivered_total delivered i) x lifts i n hi hx (rw q at s)))
    (λ e.
    let ne = eqb-false j i e in
    rw (row_other delivered i a j (delivered_at delivered i a + x) ha ne)
    (lifts_same p (order_in new nets lifts j) (delivered_total delivered j) lifts (raised_count lifts i) j (raised_other lifts i j ne) s)))

-- a unit that waits is lifted to the place of the first one that does
lifts_one : (p : Phase) (us : List AccountLots) (d k : ℕ) (lifts : List ℕ) (i : ℕ) → length lifts ≡ 288 → i < 16 →
    lift_number lifts i < 8 → covered us d ≤ k → k < length us → (is_taking p ≡ true → ⊥) → SoundLifts p us d lifts i →
    SoundLifts p (lift (lift_of k (covered us d)) us) d (with_lift lifts i (lift_of k (covered us d))) i
lifts_one p us d k lifts i n hi few h l t s =
    let v = lift_of k (covered us d) in
    record {
      few = rw (lift_number_lem lifts i v few n hi) (omega arith);
      places = rw (lift_lifts lifts i v few n hi, length_lift v us)
          (places_grow (length us) (covered us d) (covered (lift v us) d) 0 (lifts_at lifts i ++ (v ∷ [])) (omega (arith, lift_covered us d k))
          (places_last (length us) 0 (lifts_at lifts i) v s.places (omega arith) (record { back = h; there = l })));
      taking = λ q. absurd (t q);
      count = rw (lift_number_lem lifts i v few n hi, lift_count lifts i v few n hi) (omega (arith, s.count));
    }

pub lifts_committed : (new : Bool) (p : Phase) (nets : List ℤ) (delivered lifts : List ℕ) (i k : ℕ) → length lifts ≡ 288 → i < 16 →
    lift_number lifts i < 8 → covered (order_in new nets lifts i) (delivered_total delivered i) ≤ k → k < length (order_in new nets lifts i) →
    (is_taking p ≡ true → ⊥) → (j : ℕ) → SoundLifts p (order_in new nets lifts j) (delivered_total delivered j) lifts j →
    SoundLifts p (order_in new nets (with_lift lifts i (lift_of k (covered (order_in new nets lifts i) (delivered_total delivered i)))) j)
    (delivered_total delivered j) (with_lift lifts i (lift_of k (covered (order_in new nets lifts i) (delivered_total delivered i)))) j
lifts_committed new p nets delivered lifts i k n hi few h l t j s =
    let us = order_in new nets lifts i in
    let d = delivered_total delivered i in
    let v = lift_of k (covered us d) in
    by_test (eqb j i)
    (λ e.
    let q = eqb-true j i e in
    rw (q, lift_in_order lifts i v few n hi new nets) (lifts_one p us d k lifts i n hi few h l t (rw q at s)))
    (λ e.
    let w = lift_other lifts i v few j (eqb-false j i e) in
    rw (same_words_lem new lifts (with_lift lifts i v) j nets w)
    (lifts_same p (order_in new nets lifts j) (delivered_total delivered j) lifts (with_lift lifts i v) j w s))

-- no lift, and none counted
pub lifts_none : (p : Phase) (us : List AccountLots) (d : ℕ) (i n : ℕ) → SoundLifts p us d (replicate n 0) i
lifts_none p us d i n =
    record {
      few = rw (no_number i n) (omega arith);
      places = rw (no_lifts i n) refl;
      taking = λ t. no_number i n;
      count = rw (no_count i n) (omega arith);
    }
