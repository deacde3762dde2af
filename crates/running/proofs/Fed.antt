-- Demand 3 speaks of this code: what `answer` gives, fed to the tally, leads to the states of a list of calls.
use mathlib.Core.Path.{◌≡◌}
use mathlib.Core.List.{List}
use Prim.Native.Nat.{ℕ}
use Rattle.rules.specs.declared.Book.{Book}
use Rattle.rules.specs.declared.Instruction.{Instruction}
use Rattle.rules.specs.Calls.{Call, Answer, called}
use Rattle.rules.specs.Run.{call_of}
use Rattle.rules.specs.Tally.{Tallied, Demand3}
use Rattle.tally.proofs.Made.{Made, Step, as_called, demand3_of}
use Rattle.rules.specs.Refusals.{number_in}
use Rattle.answers.specs.Turns.{Given, count_in, cancelled_in, TurnIs}

-- what is given, the book and the output that it left, as an answer
abbrev pub gave : Given → Book → List ℕ → Answer
gave r b out = record { refusal = number_in r; count = count_in r; cancelled = cancelled_in r; book = b; out = out }

-- it is the call's answer
pub gave_answer : {d : Answer} {r : Given} {b : Book} {out : List ℕ} → TurnIs d r b out → gave r b out ≡ d
gave_answer g = λ j. record { refusal = g.refusal j; count = g.count j; cancelled = g.cancelled j; book = g.book j; out = g.out j }

-- an instruction made on a book through it, and what that gave
pub data InPlace (b : Book) : Call → List ℕ → Answer → Type 0 where
  turned : (x : Instruction) (quotes out : List ℕ) (r : Given) (b' : Book) (out' : List ℕ) → TurnIs (called b (call_of x quotes) out) r b' out' →
      InPlace b (call_of x quotes) out (gave r b' out')

-- so demand 3 holds after every list of instructions made through it
pub demand3_in_place : {s : Tallied} → Made InPlace s → Demand3 s
demand3_in_place m = demand3_of InPlace step m
  where
    step : (b : Book) (c : Call) (out : List ℕ) (r : Answer) → InPlace b c out r → Step b c out r
    step b _ _ _ (turned x quotes out r b' out' g) = as_called (gave_answer g)
