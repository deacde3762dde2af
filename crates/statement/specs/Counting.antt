-- A statement counted along a run: what each turn adds.
use Rattle.std.specs.Prelude.{◌≡◌, true, List, ℕ, ◌+◌, ◌≤◌, Result, Ok, Err, replicate}
use Rattle.rules.specs.declared.Book.{Book}
use Rattle.rules.specs.declared.Instruction.{Instruction}
use Rattle.rules.specs.declared.Refusal.{Refusal}
use Rattle.rules.specs.Measures.{last_issue, last_account}
use Rattle.rules.specs.Book.{sound, Lengths}
use Rattle.rules.specs.Run.{answer_of}
use Rattle.spans.specs.declared.Statement.{Statement}
use Rattle.spans.specs.Span.{Turn, turn_of}
use Rattle.spans.specs.Statement.{due_by, delivered_by, failed_by, resolved_by, statement_of, numbers_of}
use Rattle.counting.specs.Counting.{Grown}
use Rattle.statement.specs.declared.Step.{Step}

-- issue and account are in range
pub record Within (i a : ℕ) : Type 0 where
  pub issue : i ≤ last_issue
  pub account : a ≤ last_account

-- a statement with what a turn adds by the definition
abbrev pub plus_turn : ℕ → ℕ → Statement → Turn → Statement
plus_turn i a c t =
    statement_of (c.due + due_by i a t) (c.delivered + delivered_by i a t) (c.failed + failed_by i a t) (c.resolved + resolved_by i a t)

-- one turn: the statement has what it adds, and the book is the answer's, sound and in columns of a book's lengths
pub record Stepped (ws : List ℕ) (x : Instruction) (i a : ℕ) (c : Statement) (b : Book) (r : Step) (b' : Book) : Type 0 where
  pub counted : r.statement ≡ plus_turn i a c (turn_of b x ws)
  pub grown : Grown c r.statement
  pub book : b' ≡ (answer_of b x ws).book
  pub lengths : Lengths b'.nets b'.delivered b'.lifts b'.charges b'.issues b'.froms b'.tos b'.lots b'.days
  pub sound : sound b' ≡ true

-- the six numbers that a host is told, 0 for each on a refusal
abbrev pub numbers_in : Result Statement Refusal → List ℕ
numbers_in (Ok c) = numbers_of c
numbers_in (Err r) = replicate 6 0
