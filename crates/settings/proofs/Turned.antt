-- What a mark and a turn do to the book whose state they are given.
use mathlib.Core.Path.{◌≡◌, refl, ap}
use mathlib.Core.List.{List}
use Prim.Native.Nat.{ℕ}
use lib.IntN.{ℤ}
use Rattle.rules.specs.declared.Book.{Book}
use Rattle.rules.specs.declared.State.{State}
use Rattle.rules.specs.Calls.{Mark, Turn as NameTurn, effect, marked_as}
use Rattle.rules.specs.Book.{with_marks, with_turn}
use Rattle.answers.specs.Turns.{in_state, within_use}
use Rattle.answers.proofs.Turning.{Does}

pub marked_on : (s s' : State) (nets : List ℤ) (is ms : List ℕ) (i m : ℕ) (b : Book) (out : List ℕ) → s' ≡ with_marks s ms → ms ≡ marked_as s.marks i m →
    Does (effect (within_use s nets is b) (Mark i m)) out 0 0 (within_use s' nets is b) out
marked_on s s' nets is ms i m b out e f = record { count = refl; cancelled = refl; book = rw (e, f); written = refl }

pub turned_on : (s s' : State) (day : ℕ) (b : Book) (out : List ℕ) → s' ≡ with_turn s day → Does (effect (in_state s b) (NameTurn day)) out 0 0 (in_state s' b) out
turned_on s s' day b out e = record { count = refl; cancelled = refl; book = ap (λ (t : State). in_state t b) e; written = refl }
