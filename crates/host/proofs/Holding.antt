-- What is known of a host's numbers and columns once question 2 is answered.
use mathlib.Core.Path.{◌≡◌, refl, sym, ap, ◌∙◌}
use mathlib.Core.Bool.{Bool, true, false, cond, ◌&&◌, false≢true}
use mathlib.Core.List.{[], ◌∷◌}
use Prim.Native.Nat.{ℕ, zero, suc, ◌≤◌, ◌<◌}
use native.Mathlib.Omega.{arith}
use lib.Dec.{leb, eqb}
use lib.ListN.{length}
use borrow.Author.Tests.{le-leb, lt-leb, eqb-true}
use Rattle.rules.specs.declared.Book.{Book}
use Rattle.rules.specs.declared.Phase.{Phase}
use Rattle.rules.specs.declared.Phase.TheVariants.{Taking, Settling, Cut}
use Rattle.rules.specs.declared.State.{State}
use Rattle.rules.specs.Book.{all, sound, Lengths, state_of}
use Rattle.laws.proofs.Basics.{Every, by_test, cond_true, cond_false, and_left, and_right}
use Rattle.laws.proofs.Sound.{all_each, sound_parts}
use Rattle.laws.proofs.Scans.{and_true}
use Rattle.book.specs.Cells.{SoundCells}
use Rattle.runs.proofs.Cells.{sound_cells}
use Rattle.host.specs.States.{phase_of, number_of, state_in, numbers_of, lengths, lengths_right, holds, sound_at}

-- Phases and their numbers

-- any other number is given Cut, and is no phase
pub others : (n : ℕ) → (n ≡ 0 → ⊥) → (n ≡ 1 → ⊥) → Cut ≡ phase_of n
others zero a b = absurd (a refl)
others (suc zero) a b = absurd (b refl)
others (suc (suc n)) a b = refl

-- a phase is that of its number, and a state that of its numbers
pub back : (p : Phase) → phase_of (number_of p) ≡ p
back Taking = refl
back Settling = refl
back Cut = refl

pub back_state : (s : State) → state_in (numbers_of s) ≡ s
back_state s = ap (λ p. state_of s.day p s.entries s.turn s.marks) (back s.phase)

-- the number of a phase that is as it came
pub same_stage : (n : ℕ) → n ≡ cond (leb n 2) (number_of (phase_of n)) n
same_stage zero = refl
same_stage (suc zero) = refl
same_stage (suc (suc zero)) = refl
same_stage (suc (suc (suc n))) = rw (lt-leb (suc (suc (suc n))) 2 (omega arith))

-- Lengths

-- the nine tests as they are put together in the code
nine : (a b l c d e f g h : Bool) →
    (((((((a && b) && l) && c) && d) && e) && f) && g) && h ≡ all (λ c. c) (a ∷ b ∷ l ∷ c ∷ d ∷ e ∷ f ∷ g ∷ h ∷ [])
nine false b l c d e f g h = refl
nine true false l c d e f g h = refl
nine true true false c d e f g h = refl
nine true true true false d e f g h = refl
nine true true true true false e f g h = refl
nine true true true true true false f g h = refl
nine true true true true true true false g h = refl
nine true true true true true true true false h = refl
nine true true true true true true true true h = sym (and_true h)

pub tested : (b : Book) →
    (((((((eqb (length b.nets) 1024 && eqb (length b.delivered) 1024) && eqb (length b.lifts) 288) && eqb (length b.charges) 64)
    && eqb (length b.issues) 2048) && eqb (length b.froms) 2048) && eqb (length b.tos) 2048) && eqb (length b.lots) 2048)
    && eqb (length b.days) 2048
    ≡ lengths_right b
unfolding lengths_right
tested b =
    nine (eqb (length b.nets) 1024) (eqb (length b.delivered) 1024) (eqb (length b.lifts) 288) (eqb (length b.charges) 64)
    (eqb (length b.issues) 2048) (eqb (length b.froms) 2048) (eqb (length b.tos) 2048) (eqb (length b.lots) 2048) (eqb (length b.days) 2048)

abbrev pub LengthsOf : Book → Type 0
LengthsOf b = Lengths b.nets b.delivered b.lifts b.charges b.issues b.froms b.tos b.lots b.days

pub lengths_right_lem : (b : Book) → lengths_right b ≡ true → LengthsOf b
unfolding lengths_right
lengths_right_lem b h =
    let e : Every (λ c. c ≡ true) (lengths b) = all_each (λ c. c) (lengths b) h in
    let l = e.1.1.1.1 in
    record {
      cells = record { nets = eqb-true _ _ e.0; delivered = eqb-true _ _ e.1.0 };
      lifts = eqb-true _ _ e.1.1.0;
      charges = eqb-true _ _ e.1.1.1.0;
      ledger = record {
        issues = eqb-true _ _ l.0;
        froms = eqb-true _ _ l.1.0;
        tos = eqb-true _ _ l.1.1.0;
        lots = eqb-true _ _ l.1.1.1.0;
        days = eqb-true _ _ l.1.1.1.1.0;
      };
    }

-- Question 2

module _ (phase : ℕ) (b : Book) where
  -- a number that is no phase, columns of another length, and else the scan
  pub no_phase : 2 < phase → false ≡ sound_at phase b
  unfolding holds
  no_phase h = rw (lt-leb phase 2 h)

  pub wrong_lengths : lengths_right b ≡ false → false ≡ sound_at phase b
  unfolding holds
  wrong_lengths h = rw h (either_no (leb phase 2))
    where
      either_no : (x : Bool) → false ≡ (x && false) && sound b
      either_no true = refl
      either_no false = refl

  pub scanned : (r : Bool) → phase ≤ 2 → lengths_right b ≡ true → r ≡ sound b → r ≡ sound_at phase b
  unfolding holds
  scanned r h l e = rw (le-leb phase 2 h, l, e)

  -- answered 'yes': they hold a sound book
  module _ (g : sound_at phase b ≡ true) where
    held : holds phase b ≡ true
    held = and_left (holds phase b) (sound b) g

    pub is_phase : leb phase 2 ≡ true
    unfolding holds
    is_phase = and_left (leb phase 2) (lengths_right b) held

    pub sound_book : sound b ≡ true
    sound_book = and_right (holds phase b) (sound b) g

    pub sound_lengths : LengthsOf b
    unfolding holds
    sound_lengths = lengths_right_lem b (and_right (leb phase 2) (lengths_right b) held)

    pub cells_of : SoundCells b.nets b.delivered b.lifts
    cells_of =
        let l = sound_lengths in
        sound_cells b (sound_parts b sound_book) l.cells.nets l.cells.delivered l.lifts

    -- the answer is that of the book
    pub is_held : {A : Type 0} (x y : A) → x ≡ cond (holds phase b) x y
    is_held x y = sym (cond_true (holds phase b) x y held)

  -- answered 'no': there is none, or it is not sound
  pub not_held : {A : Type 0} (x y : A) → sound_at phase b ≡ false → (sound b ≡ false → y ≡ x) → y ≡ cond (holds phase b) x y
  not_held x y g f =
      by_test (holds phase b) (λ h. f (second (holds phase b) (sound b) g h) ∙ sym (cond_true (holds phase b) x y h)) (λ h. sym (cond_false (holds phase b) x y h))
    where
      second : (p q : Bool) → p && q ≡ false → p ≡ true → q ≡ false
      second true q e h = e
      second false q e h = absurd (false≢true h)
