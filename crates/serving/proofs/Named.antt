-- What is served of units and in an order that are others by name.
use mathlib.Core.Path.{◌≡◌}
use mathlib.Core.Bool.{Bool}
use mathlib.Core.List.{List}
use Prim.Native.Nat.{ℕ}
use lib.IntN.{ℤ}
use Rattle.rules.specs.Units.{AccountLots}
use Rattle.serving.specs.Serving.{CanServe, Served}

-- of units that are others by name
pub served_as : (us vs : List AccountLots) (i d x : ℕ) (before after : List ℕ) (r : ℕ) → us ≡ vs →
    Served us i d x before after r → Served vs i d x before after r
served_as us vs i d x before after r e s = rw (← e) s

-- and what can be served in an order that the test chose
pub serve_as : (new new' : Bool) (nets : List ℤ) (lifts : List ℕ) (i d x : ℕ) (out : List ℕ) → new ≡ new' →
    CanServe new nets lifts i d x out → CanServe new' nets lifts i d x out
serve_as new new' nets lifts i d x out e c = rw (← e) c
