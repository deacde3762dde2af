-- What a trade and a close do to the book whose columns they are lent.
use mathlib.Core.Path.{◌≡◌, refl, ap}
use mathlib.Core.List.{List}
use Prim.Native.Nat.{ℕ}
use lib.IntN.{ℤ}
use Rattle.rules.specs.declared.Book.{Book}
use Rattle.rules.specs.declared.Phase.TheVariants.{Settling}
use Rattle.rules.specs.declared.State.{State}
use Rattle.rules.specs.Calls.{Trade, Close, effect, traded_nets}
use Rattle.rules.specs.Book.{with_phase}
use Rattle.answers.specs.Turns.{in_state, within_nets}
use Rattle.answers.proofs.Turning.{Does}

pub traded : (s : State) (nets after : List ℤ) (i f t x : ℕ) (b : Book) (out : List ℕ) → after ≡ traded_nets nets i f t x →
    Does (effect (within_nets s nets b) (Trade i f t x)) out 0 0 (within_nets s after b) out
traded s nets after i f t x b out e =
    record { count = refl; cancelled = refl; book = ap (λ (l : List ℤ). within_nets s l b) e; written = refl }

pub closed : (s s' : State) (b : Book) (out : List ℕ) → s' ≡ with_phase s Settling → Does (effect (in_state s b) Close) out 0 0 (in_state s' b) out
closed s s' b out e = record { count = refl; cancelled = refl; book = ap (λ (t : State). in_state t b) e; written = refl }
