-- Naming the first day of the new order changes nothing else of a book. It is sound or not whatever day is named; fails,
-- charges and marks stand as they did; and a roll does the same whatever day is named, the one that brings that day too.
use mathlib.Core.Path.{◌≡◌, refl, ap}
use mathlib.Core.Bool.{Bool, false}
use mathlib.Core.List.{List, [], ◌∷◌}
use Prim.Native.Nat.{ℕ, zero, suc}
use lib.IntN.{ℤ}
use Rattle.rules.specs.declared.Book.{Book}
use Rattle.rules.specs.declared.Phase.{Phase}
use Rattle.rules.specs.Units.{AccountLots}
use Rattle.rules.specs.Book.{all, delivered_total, in_force, dealt_today, order_in, ledger_of, lift_conditions, lifts_sound, conditions, sound, with_state, with_turn}
use Rattle.rules.specs.Questions.{first_no}
use Rattle.rules.specs.Calls.{Roll, Turn, Answer, answer, asks, effect, called}
use Rattle.laws.proofs.Dealt.{lots_in, same_length, same_covered}
use Rattle.laws.proofs.SoundRows.{order_lots}
use Rattle.laws.proofs.Answers.{by_answer}

-- Soundness

all_same : (p q : ℕ → Bool) → ((i : ℕ) → p i ≡ q i) → (is : List ℕ) → all p is ≡ all q is
all_same p q e [] = refl
all_same p q e (i ∷ is) = rw (e i, all_same p q e is)

lifts_by_lots : (phase : Phase) (us vs : List AccountLots) (d : ℕ) (lifts : List ℕ) (i : ℕ) → lots_in us ≡ lots_in vs →
    lift_conditions phase us d lifts i ≡ lift_conditions phase vs d lifts i
unfolding lift_conditions
lifts_by_lots phase us vs d lifts i e = rw (same_length us vs e, same_covered us vs e d)

-- places of lifts are right in one order exactly if they are in the other, since both have the same lots
pub lifts_either : (new : Bool) (phase : Phase) (nets : List ℤ) (delivered lifts is : List ℕ) →
    all (lifts_sound phase (order_in new nets lifts) delivered lifts) is ≡ all (lifts_sound phase (order_in false nets lifts) delivered lifts) is
unfolding lifts_sound
lifts_either new phase nets delivered lifts is =
    all_same (lifts_sound phase (order_in new nets lifts) delivered lifts) (lifts_sound phase (order_in false nets lifts) delivered lifts)
    (λ i.
    ap (all (λ c. c))
    (lifts_by_lots phase (order_in new nets lifts i) (order_in false nets lifts i) (delivered_total delivered i) lifts i (order_lots new nets lifts i)))
    is

pub sound_turn : (b : Book) (t : ℕ) → sound (with_state b (with_turn b.state t)) ≡ sound b
unfolding sound conditions
sound_turn b t =
    rw (
      lifts_either (in_force t b.state.day) b.state.phase b.nets b.delivered b.lifts,
      lifts_either (dealt_today b) b.state.phase b.nets b.delivered b.lifts,
    )

-- What carries over

pub record Carried (b c : Book) : Type 0 where
  pub fails : ledger_of c ≡ ledger_of b
  pub charges : c.charges ≡ b.charges
  pub marks : c.state.marks ≡ b.state.marks

-- by `turn`, accepted or refused
pub turn_carries : (b : Book) (d : ℕ) (out : List ℕ) → Carried b (called b (Turn d) out).book
turn_carries b d out =
    by_answer (λ r. Carried b r.book) b (Turn d) out
    (λ y. record { fails = refl; charges = refl; marks = refl })
    (λ r. record { fails = refl; charges = refl; marks = refl })

-- a roll's answer, but for the day that is named
pub record SameRoll (t : ℕ) (r s : Answer) : Type 0 where
  pub refusal : s.refusal ≡ r.refusal
  pub book : s.book ≡ with_state r.book (with_turn r.book.state t)

-- by a roll, whatever day is named: so the one that brings the day charges as any other
pub roll_carries : (b : Book) (t days rate : ℕ) (quotes out : List ℕ) →
    SameRoll t (called b (Roll days rate quotes) out) (called (with_state b (with_turn b.state t)) (Roll days rate quotes) out)
unfolding called
roll_carries b t days rate quotes out =
    let c = Roll days rate quotes in
    rw (sound_turn b t) (same (first_no (asks b c out)))
  where
    same : (n : ℕ) → SameRoll t (answer n b out (effect b (Roll days rate quotes))) (answer n (with_state b (with_turn b.state t)) out (effect (with_state b (with_turn b.state t)) (Roll days rate quotes)))
    same zero = record { refusal = refl; book = refl }
    same (suc n) = record { refusal = refl; book = refl }

-- and leaves fails and marks
pub roll_leaves : (b : Book) (days rate : ℕ) (quotes out : List ℕ) →
    (ledger_of (called b (Roll days rate quotes) out).book ≡ ledger_of b) × ((called b (Roll days rate quotes) out).book.state.marks ≡ b.state.marks)
roll_leaves b days rate quotes out =
    by_answer (λ r. (ledger_of r.book ≡ ledger_of b) × (r.book.state.marks ≡ b.state.marks)) b (Roll days rate quotes) out (λ y. (refl, refl)) (λ r. (refl, refl))
