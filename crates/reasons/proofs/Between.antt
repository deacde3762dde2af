-- In Settling, after any list of calls of which no accepted one is a lift of the issue or a cutoff, a unit that waits for
-- n lots is handed exactly if n or more were delivered, and else waits for the rest.
use mathlib.Core.Path.{◌≡◌, refl, sym, ap, ◌∙◌}
use mathlib.Core.Bool.{Bool, true, false, cond, not, ◌&&◌, false≢true}
use mathlib.Core.List.{List, [], ◌∷◌}
use Prim.Native.Nat.{ℕ, ◌+◌, ◌-◌, ◌≤◌, ◌<◌}
use native.Mathlib.Omega.{arith}
use native.Mathlib.Nat.{add-zero}
use lib.Dec.{leb, ltb, eqb}
use lib.ListN.{length, drop}
use borrow.Author.Tests.{leb-true, le-leb, ltb-true, lt-ltb, eqb-true, eqb-false, not-true}
use Rattle.rules.specs.declared.Book.{Book}
use Rattle.rules.specs.Measures.{sum}
use Rattle.rules.specs.Units.{AccountLots}
use Rattle.rules.specs.Handover.{covered, stock, first_unit}
use Rattle.rules.specs.Book.{is_taking, is_settling, is_cut, delivered_at, delivered_total, order_in, order_of, dealt_today, sound, with_state, with_turn}
use Rattle.rules.specs.Questions.{ask, first_no}
use Rattle.rules.specs.Calls.{Call, Trade, Close, Deliver, Ask, Commit, Cutoff, Resolve, PairOff, Roll, Mark, Turn, asks, effect, called, commit_lift}
use Rattle.rules.specs.Tally.{CallList}
use Rattle.laws.proofs.Basics.{by_test, and_left, and_right}
use Rattle.laws.proofs.Answers.{AllYes, by_answer}
use Rattle.laws.proofs.Cells.{row_other, delivered_rises}
use Rattle.laws.proofs.LiftColumn.{raised_order, lift_other, same_words_lem}
use Rattle.laws.proofs.Sound.{sound_parts, parts_sound}
use Rattle.laws.proofs.Kept.{turn_same}
use Rattle.laws.proofs.Called.{Sizes, Standing, stands}
use Rattle.told.specs.Status.{StatusAnswer, is_handed, waits_for, fails_partly, fails_wholly, status_refused, covers, wanted, takes_stock, in_settling, after_cutoff, reason, status_answer, status}
use Rattle.status.proofs.Telling.{exactly}
use Rattle.reasons.specs.Lists.{after, unless_refused, no_lift, no_lift_between, lots_in, if_accepted, brought, HandedFor}
use Rattle.reasons.proofs.Phases.{settling_left, settling_not_taking, settling_not_cut}

-- What an answer says

abbrev pub case_of : StatusAnswer → ℕ
case_of is_handed = 1
case_of (waits_for n) = 2
case_of (fails_partly x) = 3
case_of fails_wholly = 4
case_of (status_refused r) = 5

abbrev lots_of : StatusAnswer → ℕ
lots_of is_handed = 0
lots_of (waits_for n) = n
lots_of (fails_partly x) = x
lots_of fails_wholly = 0
lots_of (status_refused r) = r

-- no question is answered 'no' where what is told is no refusal
abbrev Asked : Bool → Bool → Bool → Bool → StatusAnswer → StatusAnswer → Type 0
Asked g₂ g₃ g₄ g₁₆ s t = (g₂ ≡ true) × (g₃ ≡ true) × (g₄ ≡ true) × (g₁₆ ≡ true) × (s ≡ t)

all_asked : (g₂ g₃ g₄ g₁₆ : Bool) (s t : StatusAnswer) → case_of t < 5 →
    status_answer (first_no (ask 2 g₂ ∷ ask 3 g₃ ∷ ask 4 g₄ ∷ ask 16 g₁₆ ∷ [])) s ≡ t → Asked g₂ g₃ g₄ g₁₆ s t
all_asked true true true true s t h e = (refl, refl, refl, refl, e)
all_asked true true true false s t h e = absurd (omega (arith, ap case_of e))
all_asked true true false g s t h e = absurd (omega (arith, ap case_of e))
all_asked true false f g s t h e = absurd (omega (arith, ap case_of e))
all_asked false d f g s t h e = absurd (omega (arith, ap case_of e))

-- in Cut no unit waits
cut_none : (c t : Bool) (x n : ℕ) → cond c is_handed (cond t (fails_partly x) fails_wholly) ≡ waits_for n → ⊥
cut_none true t x n e = let q = ap case_of e in omega arith
cut_none false true x n e = let q = ap case_of e in omega arith
cut_none false false x n e = let q = ap case_of e in omega arith

waits_uncovered : (c : Bool) (w n : ℕ) → cond c is_handed (waits_for w) ≡ waits_for n → w ≡ n
waits_uncovered true w n e = absurd (let q = ap case_of e in omega arith)
waits_uncovered false w n e = ap lots_of e

module _ (us : List AccountLots) (d k n : ℕ) where
  never_cut : after_cutoff us d k ≡ waits_for n → ⊥
  unfolding after_cutoff
  never_cut = cut_none (covers us d k) (takes_stock us d k) ((first_unit (drop k us)).lots - stock us d) n

  settling_wants : in_settling us d k ≡ waits_for n → wanted us d k ≡ n
  unfolding in_settling
  settling_wants = waits_uncovered (covers us d k) (wanted us d k) n

pub handed_covered : (c : Bool) (w : ℕ) → cond c is_handed (waits_for w) ≡ is_handed → c ≡ true
handed_covered true w e = refl
handed_covered false w e = absurd (let q = ap case_of e in omega arith)

-- what is told is no refusal: the book is sound and not in Taking, and the unit is there
pub record Tells (b : Book) (i k : ℕ) (t : StatusAnswer) : Type 0 where
  pub good : sound b ≡ true
  pub later : is_taking b.state.phase ≡ false
  pub issue : i ≤ 15
  pub there : k < length (order_of b i)
  pub told : reason b.state.phase (order_of b i) (delivered_total b.delivered i) k ≡ t

pub tells_of : (b : Book) (i k : ℕ) (t : StatusAnswer) → case_of t < 5 → status b i k ≡ t → Tells b i k t
unfolding status
tells_of b i k t h e =
    let us = order_of b i in
    let q = all_asked (sound b) (not (is_taking b.state.phase)) (leb i 15) (ltb k (length us)) _ t h e in
    record {
      good = q.0;
      later = not-true _ q.1;
      issue = leb-true i 15 q.2;
      there = ltb-true k (length us) q.3;
      told = q.4;
    }

-- a unit waits for n lots
record Waits (b : Book) (i k n : ℕ) : Type 0 where
  tells : Tells b i k (waits_for n)
  phase : is_settling b.state.phase ≡ true
  wants : wanted (order_of b i) (delivered_total b.delivered i) k ≡ n

waits_of : (b : Book) (i k n : ℕ) → status b i k ≡ waits_for n → Waits b i k n
waits_of b i k n e =
    let us = order_of b i in
    let d = delivered_total b.delivered i in
    let q = tells_of b i k (waits_for n) (omega arith) e in
    by_test (is_cut b.state.phase)
    (λ c. absurd (never_cut us d k n (simp c at q.told)))
    (λ c. record { tells = q; phase = settling_left b.state.phase q.later c; wants = settling_wants us d k n (simp c at q.told) })

-- what is told of a unit of a sound book in Settling
pub in_settling_lem : (b : Book) (i k : ℕ) → sound b ≡ true → is_settling b.state.phase ≡ true → i ≤ 15 → k < length (order_of b i) →
    status b i k ≡ in_settling (order_of b i) (delivered_total b.delivered i) k
unfolding status
in_settling_lem b i k g p h t =
    simp (g, settling_not_taking b.state.phase p, settling_not_cut b.state.phase p, le-leb i 15 h, lt-ltb k (length (order_of b i)) t)

-- A call between

-- the issue's order stays, and x lots more are delivered
pub record Brings (b b' : Book) (i x : ℕ) : Type 0 where
  pub phase : is_settling b'.state.phase ≡ true
  pub order : order_of b' i ≡ order_of b i
  pub total : delivered_total b'.delivered i ≡ delivered_total b.delivered i + x

nothing : (b : Book) (i : ℕ) → is_settling b.state.phase ≡ true → Brings b b i 0
nothing b i p = record { phase = p; order = refl; total = sym (add-zero (delivered_total b.delivered i)) }

-- a day after today is named, and the new order is not in force: today's order stays
pub turn_order : (b : Book) (d : ℕ) → ltb b.state.day d && not (dealt_today b) ≡ true → (i : ℕ) → order_of (with_state b (with_turn b.state d)) i ≡ order_of b i
turn_order b d h i = ap (λ new. order_in new b.nets b.lifts i) (turn_same b.state.turn b.state.day d h)

module _ (b : Book) (z : Sizes b) (i : ℕ) (p : is_settling b.state.phase ≡ true) where
  delivers : (j a x : ℕ) → j < 16 → a < 64 → Brings b (effect b (Deliver j a x)).book i (cond (eqb j i) x 0)
  delivers j a x hj ha =
      record {
        phase = p;
        order = raised_order b.lifts j (dealt_today b) b.nets i;
        total =
            by_test (eqb j i)
            (λ e. let q = eqb-true j i e in simp e (rw (sym q) (delivered_rises b.delivered j a x z.delivered hj ha)))
            (λ e.
            let ne = eqb-false j i e in
            simp e
            (ap sum (row_other b.delivered j a i (delivered_at b.delivered j a + x) ha (λ q. ne (sym q)))
            ∙ sym (add-zero (delivered_total b.delivered i))));
      }

  does : (c : Call) (out : List ℕ) → no_lift i c ≡ true → AllYes (asks b c out) → Brings b (effect b c).book i (lots_in i c)
  does (Trade j f t x) out h y = absurd (false≢true (sym (settling_not_taking b.state.phase p) ∙ y.1.0))
  does Close out h y = absurd (false≢true (sym (settling_not_taking b.state.phase p) ∙ y.1.0))
  does (Deliver j a x) out h y =
      delivers j a x (omega (arith, leb-true j 15 y.1.1.1.0)) (omega (arith, leb-true a 63 y.1.1.1.1.0))
  does (Ask j k) out h y = nothing b i p
  does (Commit t) out h y =
      record {
        phase = p;
        order =
            same_words_lem (dealt_today b) b.lifts _ i b.nets
            (lift_other b.lifts t.issue (commit_lift (order_of b) b.delivered t) (ltb-true _ _ y.1.1.1.1.1.1.0) i
            (λ q. eqb-false t.issue i (not-true (eqb t.issue i) h) (sym q)));
        total = sym (add-zero (delivered_total b.delivered i));
      }
  does Cutoff out h y = absurd (false≢true h)
  does (Resolve j a x) out h y = record { phase = p; order = refl; total = sym (add-zero (delivered_total b.delivered i)) }
  does (PairOff j a) out h y = record { phase = p; order = refl; total = sym (add-zero (delivered_total b.delivered i)) }
  does (Roll days rate prices) out h y = absurd (false≢true (sym (settling_not_cut b.state.phase p) ∙ y.1.0))
  does (Mark j m) out h y = record { phase = p; order = refl; total = sym (add-zero (delivered_total b.delivered i)) }
  does (Turn d) out h y = record { phase = p; order = turn_order b d y.1.0 i; total = sym (add-zero (delivered_total b.delivered i)) }

  brings : (c : Call) (out : List ℕ) → unless_refused (called b c out).refusal (no_lift i c) ≡ true →
      Brings b (called b c out).book i (if_accepted (called b c out).refusal (lots_in i c))
  brings c out =
      by_answer (λ r. unless_refused r.refusal (no_lift i c) ≡ true → Brings b r.book i (if_accepted r.refusal (lots_in i c))) b c out
      (λ y h. does c out h y) (λ r h. nothing b i p)

-- Lists

then : (b b' b'' : Book) (i x y : ℕ) → Brings b b' i x → Brings b' b'' i y → Brings b b'' i (x + y)
then b b' b'' i x y p q =
    record { phase = q.phase; order = q.order ∙ p.order; total = omega (arith, p.total, q.total) }

pub brings_all : (cs : CallList) (b : Book) (i : ℕ) → Standing b → is_settling b.state.phase ≡ true → no_lift_between i b cs ≡ true →
    Brings b (after b cs) i (brought i b cs) × Standing (after b cs)
brings_all [] b i s p h = (nothing b i p, s)
brings_all (c ∷ cs) b i s p h =
    let b' = (called b c.0 c.1).book in
    let first = unless_refused (called b c.0 c.1).refusal (no_lift i c.0) in
    let q = brings b s.sizes i p c.0 c.1 (and_left first (no_lift_between i b' cs) h) in
    let r = brings_all cs b' i (stands b c.0 c.1 s) q.phase (and_right first (no_lift_between i b' cs) h) in
    (then b b' (after b' cs) i _ (brought i b' cs) q r.0, r.1)

-- a unit of which x lots more than d are delivered
handed_for : (us : List AccountLots) (d x k n : ℕ) → k < length us → wanted us d k ≡ n → HandedFor n x (in_settling us (d + x) k)
unfolding in_settling
handed_for us d x k n t e =
    let q = exactly us (d + x) k t in
    record {
      enough = λ h. simp (lt-ltb k (covered us (d + x)) (q.enough (omega arith)));
      needed = λ h. omega (arith, q.needed (ltb-true k (covered us (d + x)) (handed_covered _ _ h)));
      fewer = λ h.
          by_test (ltb k (covered us (d + x)))
          (λ c. absurd (omega (arith, q.needed (ltb-true k (covered us (d + x)) c))))
          (λ c. simp c (ap waits_for (omega arith)));
    }

-- with n more lots delivered and no lift between, the unit is handed; with fewer it is not. Any calls may stand between the
-- deliveries; a commit of the issue that is refused is no lift, and neither is a refused cutoff a cutoff
pub handed_by_deliveries : (b : Book) → Sizes b → (i k n : ℕ) → status b i k ≡ waits_for n → (cs : CallList) → no_lift_between i b cs ≡ true →
    HandedFor n (brought i b cs) (status (after b cs) i k)
handed_by_deliveries b z i k n e cs h =
    let w = waits_of b i k n e in
    let q = w.tells in
    let us = order_of b i in
    let d = delivered_total b.delivered i in
    let x = brought i b cs in
    let r = brings_all cs b i (record { sizes = z; parts = sound_parts b q.good }) w.phase h in
    let b' = after b cs in
    let t : k < length (order_of b' i) = rw r.0.order q.there in
    rw (in_settling_lem b' i k (parts_sound b' r.1.parts) r.0.phase q.issue t, r.0.order, r.0.total)
    (handed_for us d x k n q.there w.wants)
