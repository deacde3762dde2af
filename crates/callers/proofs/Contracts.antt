-- The contracts of the functions, without and with a caller, are what a list of a host's calls is made of: what a caller learns of a call, as it
-- stands at the function, makes a step of such a list. The arguments a and what is lent of them at exit, e, stand in the
-- order of the function's parameters.
use mathlib.Core.List.{List}
use Prim.Native.Nat.{ℕ}
use contract.Lifetimes.{Lfts}
use denote.Triple.Both.{Both}
use denote.Triple.Clauses.{AtExit}
use borrow.Fn.Kinds.{Dens, ended_of}
use Rattle.rules.specs.declared.Book.{Book}
use Rattle.rules.specs.declared.Instruction.{Instruction}
use Rattle.rules.specs.Book.{with_lifts}
use Rattle.rules.specs.Calls.{Ask, Commit}
use Rattle.rules.specs.Run.{call_of}
use Rattle.book.specs.States.{Columns}
use Rattle.columns.specs.Books.{lent_book, shared_book}
use Rattle.desk.specs.Fields.{instruction_of}
use Rattle.host.specs.declared.DayTurned.{DayTurned}
use Rattle.host.specs.States.{state_in}
use Rattle.host.specs.Lifts.{ticket_in, lifting_book}
use Rattle.callers.proofs.Fed.{gave, ByHost, told, asks, commits, told_by, asks_by, commits_by}
use Rattle.host.proofs.calls.day_call.Kinds as call-kinds
use Rattle.host.proofs.calls.day_call.Reads as call-reads
use Rattle.host.proofs.lifts.day_ask.Kinds as ask-kinds
use Rattle.host.proofs.lifts.day_ask.Reads as ask-reads
use Rattle.host.proofs.lifts.day_commit.Kinds as commit-kinds
use Rattle.host.proofs.lifts.day_commit.Reads as commit-reads
use Rattle.callers.proofs.day_call_as.Kinds as call-by-kinds
use Rattle.callers.proofs.day_call_as.Reads as call-by-reads
use Rattle.callers.proofs.day_ask_as.Kinds as ask-by-kinds
use Rattle.callers.proofs.day_ask_as.Reads as ask-by-reads
use Rattle.callers.proofs.day_commit_as.Kinds as commit-by-kinds
use Rattle.callers.proofs.day_commit_as.Reads as commit-by-reads

-- a parameter before and after
abbrev both : {A : Type 0} → A → A → Both A A
both x y = record { entry = x; exit = y }

-- `day_call`: kind, a, b, c, d, quotes, state, columns, out
module _ (κs : Lfts 4) (a : Dens κs call-kinds.ps) (r : DayTurned) (e : AtExit (ended_of 4 call-kinds.ps call-kinds.r) κs) where
  abbrev call_columns : Columns
  call_columns = record { before = λ s. lent_book s a.1.1.1.1.1.1.1.0.now; after = λ s. lent_book s e.1.1.1.1.1.1.1.0.now }

  abbrev instruction : Instruction
  instruction = instruction_of a.0 a.1.0 a.1.1.0 a.1.1.1.0 a.1.1.1.1.0

  unfoldable pub call_by_host : call-reads.Learnt κs a r e →
      ByHost (call_columns.before (state_in a.1.1.1.1.1.1.0)) (call_of instruction a.1.1.1.1.1.0.now) a.1.1.1.1.1.1.1.1.0.now
      (gave r (call_columns.after (state_in r.state)) e.1.1.1.1.1.1.1.1.0.now)
  call_by_host p = told a.0 instruction (both a.1.1.1.1.1.0 e.1.1.1.1.1.0) (both a.1.1.1.1.1.1.1.1.0 e.1.1.1.1.1.1.1.1.0) a.1.1.1.1.1.1.0 r call_columns p.0

-- `day_ask`: state, columns, issue, unit, ticket
module _ (κs : Lfts 2) (a : Dens κs ask-kinds.ps) (n : ℕ) (e : AtExit (ended_of 2 ask-kinds.ps ask-kinds.r) κs) where
  abbrev ask_book : Book
  ask_book = shared_book (state_in a.0) a.1.0

  pub ask_by_host : ask-reads.Learnt κs a n e → (out : List ℕ) →
      ByHost ask_book (Ask a.1.1.0 a.1.1.1.0) out (record { refusal = n; count = 0; cancelled = 0; book = ask_book; out = out })
  ask_by_host p out = asks a.0.phase ask_book a.1.1.0 a.1.1.1.0 n e.1.1.1.1.0.now out p

-- `day_commit`: ticket, state, the other columns, lifts, out, count
module _ (κs : Lfts 5) (a : Dens κs commit-kinds.ps) (n : ℕ) (e : AtExit (ended_of 5 commit-kinds.ps commit-kinds.r) κs) where
  abbrev commit_book : Book
  commit_book = lifting_book (state_in a.1.0) a.1.1.0 a.1.1.1.0.now

  pub commit_by_host : commit-reads.Learnt κs a n e →
      ByHost commit_book (Commit (ticket_in a.0.now)) a.1.1.1.1.0.now
      (record { refusal = n; count = e.1.1.1.1.1.0.now; cancelled = 0; book = with_lifts commit_book e.1.1.1.0.now; out = e.1.1.1.1.0.now })
  commit_by_host p = commits a.1.0.phase commit_book a.0.now (both a.1.1.1.1.0 e.1.1.1.1.0) (both a.1.1.1.0 e.1.1.1.0) n (both a.1.1.1.1.1.0 e.1.1.1.1.1.0) p

-- `day_call_as`: the caller, and then as `day_call`
module _ (κs : Lfts 4) (a : Dens κs call-by-kinds.ps) (r : DayTurned) (e : AtExit (ended_of 4 call-by-kinds.ps call-by-kinds.r) κs) where
  abbrev call_by_columns : Columns
  call_by_columns = record { before = λ s. lent_book s a.1.1.1.1.1.1.1.1.0.now; after = λ s. lent_book s e.1.1.1.1.1.1.1.1.0.now }

  abbrev instruction_by : Instruction
  instruction_by = instruction_of a.1.0 a.1.1.0 a.1.1.1.0 a.1.1.1.1.0 a.1.1.1.1.1.0

  pub call_as_by_host : call-by-reads.Learnt κs a r e →
      ByHost (call_by_columns.before (state_in a.1.1.1.1.1.1.1.0)) (call_of instruction_by a.1.1.1.1.1.1.0.now) a.1.1.1.1.1.1.1.1.1.0.now
      (gave r (call_by_columns.after (state_in r.state)) e.1.1.1.1.1.1.1.1.1.0.now)
  call_as_by_host p = told_by a.0 a.1.0 instruction_by (both a.1.1.1.1.1.1.0 e.1.1.1.1.1.1.0) (both a.1.1.1.1.1.1.1.1.1.0 e.1.1.1.1.1.1.1.1.1.0) a.1.1.1.1.1.1.1.0 r call_by_columns p.0

-- `day_ask_as`: the caller, and then as `day_ask`
module _ (κs : Lfts 2) (a : Dens κs ask-by-kinds.ps) (n : ℕ) (e : AtExit (ended_of 2 ask-by-kinds.ps ask-by-kinds.r) κs) where
  abbrev ask_by_book : Book
  ask_by_book = shared_book (state_in a.1.0) a.1.1.0

  pub ask_as_by_host : ask-by-reads.Learnt κs a n e → (out : List ℕ) →
      ByHost ask_by_book (Ask a.1.1.1.0 a.1.1.1.1.0) out (record { refusal = n; count = 0; cancelled = 0; book = ask_by_book; out = out })
  ask_as_by_host p out = asks_by a.0 a.1.0.phase ask_by_book a.1.1.1.0 a.1.1.1.1.0 n e.1.1.1.1.1.0.now out p

-- `day_commit_as`: the caller, and then as `day_commit`
module _ (κs : Lfts 5) (a : Dens κs commit-by-kinds.ps) (n : ℕ) (e : AtExit (ended_of 5 commit-by-kinds.ps commit-by-kinds.r) κs) where
  abbrev commit_by_book : Book
  commit_by_book = lifting_book (state_in a.1.1.0) a.1.1.1.0 a.1.1.1.1.0.now

  pub commit_as_by_host : commit-by-reads.Learnt κs a n e →
      ByHost commit_by_book (Commit (ticket_in a.1.0.now)) a.1.1.1.1.1.0.now
      (record { refusal = n; count = e.1.1.1.1.1.1.0.now; cancelled = 0; book = with_lifts commit_by_book e.1.1.1.1.0.now; out = e.1.1.1.1.1.0.now })
  commit_as_by_host p = commits_by a.0 a.1.1.0.phase commit_by_book a.1.0.now (both a.1.1.1.1.1.0 e.1.1.1.1.1.0) (both a.1.1.1.1.0 e.1.1.1.1.0) n (both a.1.1.1.1.1.1.0 e.1.1.1.1.1.1.0) p
