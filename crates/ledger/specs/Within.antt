-- A call in place that is lent a ledger: what it may assume of it, and the books before and after.
use Rattle.std.specs.Prelude.{ℕ, ℤ}
use Rattle.rules.specs.declared.State.{State}
use Rattle.book.specs.States as book
use Rattle.answers.specs.Turns.{Within, within_ledger, but_charges}
use Rattle.answers.specs.Turns as answers
use Rattle.ledger.specs.declared.Ledger.{Ledger}

abbrev pub ledger_ready : State → Ledger → Type 0
ledger_ready s l = answers.ledger_ready s l.issues l.froms l.tos l.lots l.days

-- any book with this ledger, before the call and after it
abbrev pub on_ledger : Ledger → Ledger → Within
on_ledger l l' =
    record {
      before = λ s. within_ledger s l.issues.now l.froms.now l.tos.now l.lots.now l.days.now;
      after = λ s. within_ledger s l'.issues.now l'.froms.now l'.tos.now l'.lots.now l'.days.now;
    }

-- the same of a cutoff, which reads nets, delivered lots and lifts
abbrev pub cutoff_ready : State → book.Shared ℤ → book.Shared ℕ → book.Shared ℕ → Ledger → book.Lent ℕ → Type 0
cutoff_ready s nets delivered lifts l out =
    answers.cutoff_ready s nets delivered lifts l.issues l.froms l.tos l.lots l.days out

abbrev pub on_fails : book.SharedColumn ℤ → book.SharedColumn ℕ → book.SharedColumn ℕ → Ledger → Ledger → Within
on_fails nets delivered lifts l l' =
    record {
      before = λ s. but_charges s nets.entry.now delivered.entry.now lifts.entry.now l.issues.now l.froms.now l.tos.now l.lots.now l.days.now;
      after = λ s. but_charges s nets.entry.now delivered.entry.now lifts.entry.now l'.issues.now l'.froms.now l'.tos.now l'.lots.now l'.days.now;
    }
