-- After a cutoff, whatever calls follow and as long as no roll is accepted, what is told of a unit stays as it is: later
-- resolves, pair-offs and marks are not counted, and nothing else is accepted in Cut.
use mathlib.Core.Path.{◌≡◌, refl, sym, ap, ◌∙◌}
use mathlib.Core.Bool.{Bool, true, false, false≢true}
use mathlib.Core.List.{List, [], ◌∷◌, ◌++◌}
use Prim.Native.Nat.{ℕ}
use Rattle.rules.specs.declared.Book.{Book}
use Rattle.rules.specs.Book.{is_cut, delivered_total, order_of, sound}
use Rattle.rules.specs.Questions.{Question, ask_sound}
use Rattle.rules.specs.Calls.{Call, Trade, Close, Deliver, Ask, Commit, Cutoff, Resolve, PairOff, Roll, Mark, Turn, lends, own_asks, asks, effect, called}
use Rattle.rules.specs.Tally.{CallList}
use Rattle.laws.proofs.Basics.{by_test, and_left, and_right}
use Rattle.laws.proofs.Answers.{AllYes, by_answer, asked_of}
use Rattle.laws.proofs.Sound.{sound_parts, parts_sound}
use Rattle.laws.proofs.Called.{Sizes, Standing, stands}
use Rattle.told.specs.Status.{status}
use Rattle.reasons.specs.Lists.{after, unless_refused, no_roll, no_roll_since}
use Rattle.reasons.proofs.Phases.{cut_not_taking, cut_not_settling}
use Rattle.reasons.proofs.Between.{turn_order}

-- A call after the cutoff

-- phase, orders and delivered lots stay
pub record Stays (b b' : Book) : Type 0 where
  pub phase : b'.state.phase ≡ b.state.phase
  pub order : (i : ℕ) → order_of b' i ≡ order_of b i
  pub total : (i : ℕ) → delivered_total b'.delivered i ≡ delivered_total b.delivered i

as_it_was : (b : Book) → Stays b b
as_it_was b = record { phase = refl; order = λ i. refl; total = λ i. refl }

module _ (b : Book) (p : is_cut b.state.phase ≡ true) where
  does : (c : Call) (out : List ℕ) → no_roll c ≡ true → AllYes (asks b c out) → Stays b (effect b c).book
  does (Trade j f t x) out h y = absurd (false≢true (sym (cut_not_taking b.state.phase p) ∙ y.1.0))
  does Close out h y = absurd (false≢true (sym (cut_not_taking b.state.phase p) ∙ y.1.0))
  does (Deliver j a x) out h y = absurd (false≢true (sym (cut_not_settling b.state.phase p) ∙ y.1.1.0))
  does (Ask j k) out h y = as_it_was b
  does (Commit t) out h y = absurd (false≢true (sym (cut_not_settling b.state.phase p) ∙ y.1.1.0))
  does Cutoff out h y = absurd (false≢true (sym (cut_not_settling b.state.phase p) ∙ y.1.1.0))
  does (Resolve j a x) out h y = record { phase = refl; order = λ i. refl; total = λ i. refl }
  does (PairOff j a) out h y = record { phase = refl; order = λ i. refl; total = λ i. refl }
  does (Roll days rate prices) out h y = absurd (false≢true h)
  does (Mark j m) out h y = record { phase = refl; order = λ i. refl; total = λ i. refl }
  does (Turn d) out h y = record { phase = refl; order = turn_order b d y.1.0; total = λ i. refl }

  stays : (c : Call) (out : List ℕ) → unless_refused (called b c out).refusal (no_roll c) ≡ true → Stays b (called b c out).book
  stays c out = by_answer (λ r. unless_refused r.refusal (no_roll c) ≡ true → Stays b r.book) b c out (λ y h. does c out h y) (λ r h. as_it_was b)

-- Lists

pub stays_all : (cs : CallList) (b : Book) → Standing b → is_cut b.state.phase ≡ true → no_roll_since b cs ≡ true → Stays b (after b cs) × Standing (after b cs)
stays_all [] b s p h = (as_it_was b, s)
stays_all (c ∷ cs) b s p h =
    let b' = (called b c.0 c.1).book in
    let first = unless_refused (called b c.0 c.1).refusal (no_roll c.0) in
    let q = stays b p c.0 c.1 (and_left first (no_roll_since b' cs) h) in
    let r = stays_all cs b' (stands b c.0 c.1 s) (ap is_cut q.phase ∙ p) (and_right first (no_roll_since b' cs) h) in (
      record {
        phase = r.0.phase ∙ q.phase;
        order = λ i. r.0.order i ∙ q.order i;
        total = λ i. r.0.total i ∙ q.total i;
      },
      r.1,
    )

-- a book that is not sound refuses every call
sound_if : (l : Bool) (out : List ℕ) (b : Book) (qs : List Question) → AllYes (asked_of l out ++ (ask_sound b ∷ qs)) → sound b ≡ true
sound_if true out b qs y = y.1.0
sound_if false out b qs y = y.0

asked_sound : (b : Book) (c : Call) (out : List ℕ) → AllYes (asks b c out) → sound b ≡ true
asked_sound b c out y = sound_if (lends c) out b (own_asks b c) y

unsound_stays : (cs : CallList) (b : Book) → sound b ≡ false → after b cs ≡ b
unsound_stays [] b g = refl
unsound_stays (c ∷ cs) b g =
    let e = by_answer (λ r. r.book ≡ b) b c.0 c.1 (λ y. absurd (false≢true (sym g ∙ asked_sound b c.0 c.1 y))) (λ r. refl) in
    ap (λ x. after x cs) e ∙ unsound_stays cs b g

-- What is told

-- of two books that agree in soundness, phase, order and delivered lots the same is told
same_told : (b b' : Book) (i k : ℕ) → sound b' ≡ sound b → b'.state.phase ≡ b.state.phase → order_of b' i ≡ order_of b i →
    delivered_total b'.delivered i ≡ delivered_total b.delivered i → status b' i k ≡ status b i k
unfolding status
same_told b b' i k g p u d = rw (g, p, u, d)

-- of any unit, and of a unit that there is not, on any book in Cut
pub told_stays : (b : Book) → Sizes b → is_cut b.state.phase ≡ true → (cs : CallList) → no_roll_since b cs ≡ true → (i k : ℕ) →
    status (after b cs) i k ≡ status b i k
told_stays b z p cs h i k =
    by_test (sound b)
    (λ g.
    let r = stays_all cs b (record { sizes = z; parts = sound_parts b g }) p h in
    let b' = after b cs in
    same_told b b' i k (parts_sound b' r.1.parts ∙ sym g) r.0.phase (r.0.order i) (r.0.total i))
    (λ g. ap (λ x. status x i k) (unsound_stays cs b g))
