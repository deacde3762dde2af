-- A host's book is a state in plain numbers and nine columns, of any length.
use Rattle.std.specs.Prelude.{◌≡◌, Bool, true, false, ◌&&◌, List, [], ◌∷◌, ℕ, zero, suc, leb, eqb, length, Result, Ok, Err}
use Rattle.rules.specs.declared.Book.{Book}
use Rattle.rules.specs.declared.Refusal.{Refusal}
use Rattle.rules.specs.declared.Refusal.TheVariants.{Unsound}
use Rattle.rules.specs.declared.Phase.{Phase}
use Rattle.rules.specs.declared.Phase.TheVariants.{Taking, Settling, Cut}
use Rattle.rules.specs.declared.State.{State}
use Rattle.rules.specs.Book.{all, sound, state_of}
use Rattle.book.specs.States.{Columns}
use Rattle.host.specs.declared.DayState.{DayState}

-- 0 Taking, 1 Settling, 2 Cut; no other number is taken for a phase
abbrev pub phase_of : ℕ → Phase
phase_of zero = Taking
phase_of (suc zero) = Settling
phase_of (suc (suc n)) = Cut

abbrev pub number_of : Phase → ℕ
number_of Taking = 0
number_of Settling = 1
number_of Cut = 2

-- the state of a host's numbers, and the numbers of a state
abbrev pub state_in : DayState → State
state_in h = state_of h.day (phase_of h.phase) h.entries h.turn h.marks

abbrev pub numbers_of : State → DayState
numbers_of s = record { day = s.day; phase = number_of s.phase; entries = s.entries; turn = s.turn; marks = s.marks }

-- the book of a host's numbers and columns, before a call
abbrev pub book_at : DayState → Columns → Book
book_at h c = c.before (state_in h)

-- each column has the length of a book's
abbrev pub lengths : Book → List Bool
lengths b =
    eqb (length b.nets) 1024
    ∷ eqb (length b.delivered) 1024
    ∷ eqb (length b.lifts) 288
    ∷ eqb (length b.charges) 64
    ∷ eqb (length b.issues) 2048
    ∷ eqb (length b.froms) 2048
    ∷ eqb (length b.tos) 2048
    ∷ eqb (length b.lots) 2048
    ∷ eqb (length b.days) 2048
    ∷ []

unfoldable pub lengths_right : Book → Bool
lengths_right b = all (λ c. c) (lengths b)

-- numbers and columns can be a book's: the phase is one of three, and the columns have their lengths
unfoldable pub holds : ℕ → Book → Bool
holds phase b = leb phase 2 && lengths_right b

-- question 2: else they are no sound book
abbrev pub sound_at : ℕ → Book → Bool
sound_at phase b = holds phase b && sound b

-- the state of a host's book where it is sound, else the refusal by 2
abbrev pub Held : DayState → Book → Result State Refusal → Type 0
Held h b (Ok s) = (s ≡ state_in h) × (sound_at h.phase b ≡ true)
Held h b (Err r) = (r ≡ Unsound) × (sound_at h.phase b ≡ false)
