-- When a unit is handed, and what is told of it where it is not.
use mathlib.Core.Path.{◌≡◌, refl, sym, ap, ◌∙◌}
use mathlib.Core.Bool.{Bool, true, false, cond, ◌&&◌}
use mathlib.Core.List.{List, [], ◌∷◌}
use Prim.Native.Nat.{ℕ, zero, suc, ◌-◌, ◌≤◌, ◌<◌}
use native.Mathlib.Omega.{arith}
use lib.Dec.{leb, ltb, eqb}
use lib.ListN.{length, take, drop, length-drop}
use lib.IntN.{ℤ}
use borrow.Author.Tests.{leb-true, leb-false, le-leb, lt-leb, lt-ltb, le-ltb}
use Rattle.rules.specs.declared.Book.{Book}
use Rattle.rules.specs.declared.Phase.{Phase}
use Rattle.rules.specs.Units.{AccountLots, account_lots, sum_lots}
use Rattle.rules.specs.Handover.{covered, stock, first_unit}
use Rattle.rules.specs.Questions.{ask, first_no, ask_issue}
use Rattle.rules.specs.Book.{is_taking, is_cut, head_or0, delivered_total, in_force, order_in, order_of, dealt_today, sound, with_state, with_turn}
use Rattle.laws.proofs.Basics.{by_test, either}
use Rattle.laws.proofs.Handover.{stock_below, waits_short}
use Rattle.laws.proofs.Dealt.{lots_in, same_covered, same_stock, same_length, same_sum}
use Rattle.laws.proofs.SoundRows.{order_lots}
use Rattle.laws.proofs.Carried.{sound_turn}
use Rattle.std.specs.Prelude.{Some, None}
use Rattle.rules.specs.declared.Unit.{Unit}
use Rattle.runs.specs.Runs.{unit_of, found_of}
use Rattle.told.specs.Status.{StatusAnswer, is_handed, waits_for, fails_partly, fails_wholly, status_refused, wanted, in_settling, after_cutoff, reason, ask_not_taking, status_asks, status_answer, status}
use Rattle.status.specs.Columns.{reason_at, status_of}

-- what the unit question finds is the first of the units behind, and none where there is none
pub record IsFirst (u : Unit) (vs : List AccountLots) : Type 0 where
  pub there : 0 < length vs
  pub lots : (first_unit vs).lots ≡ u.lots

pub first_found : (u : Unit) (vs : List AccountLots) → Some u ≡ found_of vs → IsFirst u vs
first_found u [] e = absurd (cc)
first_found u (v ∷ vs) e = let w : u ≡ unit_of v.account v.lots = cc in record { there = omega arith; lots = rw w refl }

pub none_found : (vs : List AccountLots) → None ≡ found_of vs → vs ≡ []
none_found [] e = refl
none_found (v ∷ vs) e = absurd (cc)

-- a unit is handed exactly if the units up to it, it included, have no more lots than are delivered
pub record Exactly (us : List AccountLots) (d k : ℕ) : Type 0 where
  pub enough : sum_lots (take (suc k) us) ≤ d → k < covered us d
  pub needed : k < covered us d → sum_lots (take (suc k) us) ≤ d

pub exactly : (us : List AccountLots) (d k : ℕ) → k < length us → Exactly us d k
exactly [] d k h = absurd (omega arith)
exactly (u ∷ us) d zero h =
    by_test (leb u.lots d)
    (λ e. let l = leb-true u.lots d e in record { enough = λ g. simp e (omega arith); needed = λ g. omega arith })
    (λ e.
    let l = leb-false u.lots d e in
    record { enough = λ g. absurd (omega arith); needed = λ g. absurd (let q = simp e at g in omega arith) })
exactly (u ∷ us) d (suc k) h =
    by_test (leb u.lots d)
    (λ e.
    let l = leb-true u.lots d e in
    let r = exactly us (d - u.lots) k (omega arith) in
    record {
      enough = λ g. simp e (omega (arith, r.enough (omega arith)));
      needed = λ g. let q = simp e at g in omega (arith, r.needed (omega arith));
    })
    (λ e.
    let l = leb-false u.lots d e in
    record { enough = λ g. absurd (omega arith); needed = λ g. absurd (let q = simp e at g in omega arith) })

module _ (us : List AccountLots) (d k : ℕ) (there : k < length us) (waits : covered us d ≤ k) where
  -- of a unit that waits something is wanted
  pub wanted_some : d < sum_lots (take (suc k) us)
  wanted_some =
      by_test (leb (sum_lots (take (suc k) us)) d)
      (λ e. absurd (omega (arith, (exactly us d k there).enough (leb-true (sum_lots (take (suc k) us)) d e))))
      (λ e. leb-false (sum_lots (take (suc k) us)) d e)

  -- the stock is less than the next unit
  pub stock_less : k ≡ covered us d → stock us d < (first_unit (drop k us)).lots
  stock_less e = rw e (stock_below us d (waits_short us d (omega arith)))

module _ (phase : Phase) (us : List AccountLots) (d k : ℕ) where
  pub is_missing : drop k us ≡ [] → status_refused 16 ≡ reason_at phase us d k
  unfolding reason_at
  is_missing e = simp (le-ltb k (length us) (omega (arith, length-drop k us, ap length e)))

  module _ (there : k < length us) where
    pub is_handed_lem : k < covered us d → is_handed ≡ reason_at phase us d k
    unfolding reason_at after_cutoff in_settling
    is_handed_lem h = simp (lt-ltb k (length us) there, lt-ltb k (covered us d) h) (either (λ s. is_handed ≡ s) (is_cut phase) refl refl)

    pub is_waiting : is_cut phase ≡ false → covered us d ≤ k → waits_for (wanted us d k) ≡ reason_at phase us d k
    unfolding reason_at in_settling
    is_waiting e h = simp (e, lt-ltb k (length us) there, le-ltb k (covered us d) h)

    -- in Cut, where so many are handed and so many lots are left
    module _ (h t : ℕ) (e : h ≡ covered us d) (f : t ≡ stock us d) (cut : is_cut phase ≡ true) (waits : h ≤ k) where
      is_cut_lem : cond (eqb k h && ltb 0 t) (fails_partly ((first_unit (drop k us)).lots - t)) fails_wholly ≡ reason_at phase us d k
      unfolding reason_at after_cutoff
      is_cut_lem = simp (cut, lt-ltb k (length us) there, le-ltb k (covered us d) (omega arith), e, f)

      pub is_partly : (x : ℕ) → (first_unit (drop k us)).lots ≡ x → eqb k h && ltb 0 t ≡ true → fails_partly (x - t) ≡ reason_at phase us d k
      is_partly x g y = sym (simp (y, g)) ∙ is_cut_lem

      pub is_wholly : eqb k h && ltb 0 t ≡ false → fails_wholly ≡ reason_at phase us d k
      is_wholly n = sym (simp n) ∙ is_cut_lem

-- what is told goes by lots alone
first_lots_lem : (k : ℕ) (us : List AccountLots) → (first_unit (drop k us)).lots ≡ head_or0 (drop k (lots_in us))
first_lots_lem zero [] = refl
first_lots_lem zero (u ∷ us) = refl
first_lots_lem (suc k) [] = refl
first_lots_lem (suc k) (u ∷ us) = first_lots_lem k us

by_lots : (phase : Phase) (us vs : List AccountLots) (d k : ℕ) → lots_in us ≡ lots_in vs → reason_at phase us d k ≡ reason_at phase vs d k
unfolding reason_at after_cutoff in_settling
by_lots phase us vs d k e =
    rw (same_length us vs e, same_covered us vs e d, same_stock us vs e d, same_sum us vs e (suc k), first_lots_lem k us, first_lots_lem k vs, e)

-- Questions 3 and 4, in either order
module _ (new : Bool) (phase : Phase) (nets : List ℤ) (delivered lifts : List ℕ) (i k : ℕ) where
  pub is_taking_lem : is_taking phase ≡ true → status_refused 3 ≡ status_of new phase nets delivered lifts i k
  unfolding status_of
  is_taking_lem e = simp e

  pub no_issue : is_taking phase ≡ false → 15 < i → status_refused 4 ≡ status_of new phase nets delivered lifts i k
  unfolding status_of
  no_issue e l = simp (e, lt-leb i 15 l)

  pub of_unit : (us : List AccountLots) (d : ℕ) → us ≡ order_in false nets lifts i → d ≡ delivered_total delivered i →
      is_taking phase ≡ false → i ≤ 15 → reason_at phase us d k ≡ status_of new phase nets delivered lifts i k
  unfolding status_of reason_at
  of_unit us d p q e l =
      by_lots phase us (order_in new nets lifts i) d k (ap lots_in p ∙ sym (order_lots new nets lifts i)) ∙ simp (q, e, le-leb i 15 l)

-- of a sound book it is the book's
pub told_sound : (b : Book) (i k : ℕ) → sound b ≡ true → status_of (dealt_today b) b.state.phase b.nets b.delivered b.lifts i k ≡ status b i k
unfolding status status_of
told_sound b i k e = rw e

-- and one that is not sound is refused by 2
pub told_unsound : (b : Book) (i k : ℕ) → sound b ≡ false → status_refused 2 ≡ status b i k
unfolding status
told_unsound b i k e = rw e

-- what is told is the same whatever day is named for the new order
abbrev told_of : Bool → Phase → List AccountLots → ℕ → ℕ → ℕ → StatusAnswer
told_of good phase us d i k = status_answer (first_no (ask 2 good ∷ status_asks phase (λ j. us) i k)) (reason phase us d k)

same_reason : (phase : Phase) (us vs : List AccountLots) (d k : ℕ) → lots_in us ≡ lots_in vs → reason phase us d k ≡ reason phase vs d k
unfolding after_cutoff in_settling
same_reason phase us vs d k e =
    rw (same_covered us vs e d, same_stock us vs e d, same_sum us vs e (suc k), first_lots_lem k us, first_lots_lem k vs, e)

told_by_lots : (good : Bool) (phase : Phase) (us vs : List AccountLots) (d i k : ℕ) → lots_in us ≡ lots_in vs →
    told_of good phase us d i k ≡ told_of good phase vs d i k
told_by_lots good phase us vs d i k e =
    ap (λ n. status_answer (first_no (ask 2 good ∷ ask_not_taking phase ∷ ask_issue i ∷ ask 16 (ltb k n) ∷ [])) (reason phase us d k)) (same_length us vs e)
    ∙ ap (status_answer (first_no (ask 2 good ∷ status_asks phase (λ j. vs) i k))) (same_reason phase us vs d k e)

pub told_turned : (b : Book) (t i k : ℕ) → status (with_state b (with_turn b.state t)) i k ≡ status b i k
unfolding status
told_turned b t i k =
    let us = order_in (in_force t b.state.day) b.nets b.lifts i in
    let d = delivered_total b.delivered i in
    ap (λ good. told_of good b.state.phase us d i k) (sound_turn b t)
    ∙ told_by_lots (sound b) b.state.phase us (order_of b i) d i k
    (order_lots (in_force t b.state.day) b.nets b.lifts i ∙ sym (order_lots (dealt_today b) b.nets b.lifts i))
