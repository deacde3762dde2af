-- The questions' answers: each refusal, and what is told of a sound book.
use mathlib.Core.Path.{◌≡◌, refl, ◌∙◌}
use mathlib.Core.Bool.{Bool, true, false}
use mathlib.Core.List.{List, [], ◌∷◌}
use Prim.Native.Nat.{ℕ, ◌≤◌, ◌<◌}
use lib.ListN.{drop}
use borrow.Author.Tests.{le-leb, lt-leb}
use Rattle.rules.specs.declared.Book.{Book}
use Rattle.std.specs.Prelude.{Option, Ok}
use Rattle.rules.specs.declared.Unit.{Unit}
use Rattle.rules.specs.Units.{AccountLots}
use Rattle.rules.specs.Book.{sound, order_in, dealt_today}
use Rattle.rules.specs.Calls.{unit_refused, found_answer, first_answer, unit, AskAnswer, no_ticket, asked}
use Rattle.laws.proofs.Basics.{by_test}
use Rattle.runs.specs.Runs.{found_of}
use Rattle.told.specs.Status.{StatusAnswer, status_refused, status}
use Rattle.status.specs.Columns.{status_of}
use Rattle.status.proofs.Telling.{told_sound, told_unsound}
use Rattle.desks.specs.Simulation.{simulation_where}
use Rattle.lifting.specs.Lifting.{asked_of}
use Rattle.host.specs.States.{holds, sound_at}
use Rattle.host.specs.Questions.{day_unit, day_status, day_simulation}
use Rattle.host.specs.Lifts.{day_asked}
use Rattle.host.proofs.Holding.{sound_book, is_held, not_held}

found_first : (us : List AccountLots) → found_answer (Ok (found_of us)) ≡ first_answer us
found_first [] = refl
found_first (u ∷ us) = refl

-- a book that is not sound is refused by 2
unsound_unit : (b : Book) (i k : ℕ) → sound b ≡ false → unit_refused 2 ≡ unit b i k
unfolding unit
unsound_unit b i k e = rw e

unsound_ask : (b : Book) (i k : ℕ) → sound b ≡ false → no_ticket 2 ≡ asked b i k
unfolding asked
unsound_ask b i k e = rw e

module _ (phase : ℕ) (b : Book) (i k : ℕ) where
  -- question 2 answered 'no'
  module _ (g : sound_at phase b ≡ false) where
    pub unit_unsound : unit_refused 2 ≡ day_unit phase b i k
    unit_unsound = not_held phase b (unit b i k) (unit_refused 2) g (unsound_unit b i k)

    pub status_unsound : status_refused 2 ≡ day_status phase b i k
    status_unsound = not_held phase b (status b i k) (status_refused 2) g (told_unsound b i k)

    pub ask_unsound : no_ticket 2 ≡ day_asked phase b i k
    ask_unsound = not_held phase b (asked b i k) (no_ticket 2) g (unsound_ask b i k)

  -- and 'yes'
  module _ (g : sound_at phase b ≡ true) where
    issue_of_book : 15 < i → unit_refused 4 ≡ unit b i k
    unfolding unit
    issue_of_book h = rw (sound_book phase b g, lt-leb i 15 h)

    pub unit_issue : 15 < i → unit_refused 4 ≡ day_unit phase b i k
    unit_issue h = issue_of_book h ∙ is_held phase b g (unit b i k) (unit_refused 2)

    unit_of_book : (r : Option Unit) (new : Bool) → i ≤ 15 → new ≡ dealt_today b → r ≡ found_of (drop k (order_in new b.nets b.lifts i)) → found_answer (Ok r) ≡ unit b i k
    unfolding unit
    unit_of_book r new h t f = rw (sound_book phase b g, le-leb i 15 h, f, t) (found_first (drop k (order_in (dealt_today b) b.nets b.lifts i)))

    pub unit_found : (r : Option Unit) (new : Bool) → i ≤ 15 → new ≡ dealt_today b → r ≡ found_of (drop k (order_in new b.nets b.lifts i)) → found_answer (Ok r) ≡ day_unit phase b i k
    unit_found r new h t f = unit_of_book r new h t f ∙ is_held phase b g (unit b i k) (unit_refused 2)

    pub status_told : (d : StatusAnswer) → d ≡ status_of (dealt_today b) b.state.phase b.nets b.delivered b.lifts i k → d ≡ day_status phase b i k
    status_told d e = e ∙ told_sound b i k (sound_book phase b g) ∙ is_held phase b g (status b i k) (status_refused 2)

    ask_of_book : (d : AskAnswer) (new : Bool) → new ≡ dealt_today b → d ≡ asked_of new b.state.phase b.state.day b.nets b.delivered b.lifts i k → d ≡ asked b i k
    unfolding asked asked_of
    ask_of_book d new t e = e ∙ rw (sound_book phase b g, t)

    pub ask_told : (d : AskAnswer) (new : Bool) → new ≡ dealt_today b → d ≡ asked_of new b.state.phase b.state.day b.nets b.delivered b.lifts i k → d ≡ day_asked phase b i k
    ask_told d new t e = ask_of_book d new t e ∙ is_held phase b g (asked b i k) (no_ticket 2)

-- a simulation, where question 2 is answered so
pub simulated_at : (phase : ℕ) (b : Book) (ss vs : List ℕ) (size : ℕ) → simulation_where (sound_at phase b) b.nets ss vs size ≡ day_simulation phase b ss vs size
unfolding simulation_where
simulated_at phase b ss vs size = by_test (holds phase b) (λ h. rw h) (λ h. rw h)
