-- Demand 3 with callers: whoever makes the calls, with whatever owners, both changing from call to call. A call whose caller
-- has the right is the call itself, and another leaves book and tally.
use mathlib.Core.Path.{◌≡◌, refl, ◌∙◌}
use mathlib.Core.List.{List}
use Prim.Native.Nat.{ℕ, zero, suc, ◌<◌}
use native.Mathlib.Omega.{arith}
use Rattle.rules.specs.declared.Book.{Book}
use Rattle.rules.specs.declared.Caller.{Caller}
use Rattle.rules.specs.Questions.{first_no}
use Rattle.rules.specs.Calls.{Call, Answer, answer, effect}
use Rattle.rules.specs.Access.{has_right, asks_by, called_by}
use Rattle.rules.specs.Tally.{Tallied, Demand3}
use Rattle.laws.proofs.Basics.{by_test}
use Rattle.laws.proofs.Rights.{with_right_lem, without_right}
use Rattle.tally.proofs.Made.{Made, Step, as_called, leaves, demand3_of, made_reached}
use Rattle.tally.proofs.Reached.{Reached}

-- what was given to some caller
pub record ByCaller (b : Book) (c : Call) (out : List ℕ) (r : Answer) : Type 0 where
  pub caller : Caller
  pub given : r ≡ called_by caller b c out

refused_step : (b : Book) (c : Call) (out : List ℕ) (r : Answer) (n : ℕ) → r ≡ answer n b out (effect b c) → 0 < n → Step b c out r
refused_step b c out r zero e h = absurd (omega arith)
refused_step b c out r (suc n) e h = rw e (leaves (omega arith) refl)

pub step_by : (b : Book) (c : Call) (out : List ℕ) (r : Answer) → ByCaller b c out r → Step b c out r
unfolding called_by
step_by b c out r g =
    let w = g.caller in
    by_test (has_right w c)
    (λ h. as_called (g.given ∙ with_right_lem w b c out h))
    (λ h. refused_step b c out r (first_no (asks_by w b c out)) g.given (without_right w b c out h))

-- so demand 3 holds after every list of calls, whoever makes them
pub demand3_by : {s : Tallied} → Made ByCaller s → Demand3 s
demand3_by m = demand3_of ByCaller step_by m

-- and the book after it is sound
pub reached_by : {s : Tallied} → Made ByCaller s → Reached s.book
reached_by m = made_reached ByCaller step_by m
