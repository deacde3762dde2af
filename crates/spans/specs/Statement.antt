-- An account's record in an issue, from the turns of a span.
use Rattle.std.specs.Prelude.{Bool, true, false, cond, ◌&&◌, List, [], ◌∷◌, ℕ, zero, suc, eqb, length, drop, replicate}
use Rattle.rules.specs.declared.Book.{Book}
use Rattle.rules.specs.declared.Entry.{Entry}
use Rattle.rules.specs.declared.Instruction.{Instruction}
use Rattle.rules.specs.declared.Instruction.TheVariants as instruction
use Rattle.rules.specs.Measures.{account_count, total, owed_of}
use Rattle.rules.specs.Units.{sum_lots}
use Rattle.rules.specs.Ledger.{is_from, lots_of}
use Rattle.rules.specs.Book.{tabulate, net_at, delivered_at, ledger_of, fresh}
use Rattle.rules.specs.Records.{records_in}
use Rattle.rules.specs.Questions.{first_no, ask_issue, ask_account}
use Rattle.rules.specs.Tally.{records_of, accepted}
use Rattle.spans.specs.declared.Statement.{Statement}
use Rattle.spans.specs.Span.{Turn, turns_from}

abbrev pub is_cutoff : Instruction → Bool
is_cutoff (instruction.Trade j f t x) = false
is_cutoff (instruction.Deliver j c x) = false
is_cutoff (instruction.Resolve j c x) = false
is_cutoff (instruction.PairOff j c) = false
is_cutoff instruction.Close = false
is_cutoff instruction.Cutoff = true
is_cutoff (instruction.Roll days rate) = false
is_cutoff (instruction.Mark j m) = false
is_cutoff (instruction.Turn d) = false

-- a day is settled by an accepted cutoff; a day still settling has none
abbrev pub settles : Turn → Bool
settles t = is_cutoff t.instruction && accepted t.answer.refusal

-- lots due to deliver: what the account owed at the close of the day, whose nets the cutoff finds as they were
abbrev pub due_by : ℕ → ℕ → Turn → ℕ
due_by i a t = cond (settles t) (owed_of (net_at t.before.nets i a)) 0

-- lots delivered by the cutoff
abbrev pub delivered_by : ℕ → ℕ → Turn → ℕ
delivered_by i a t = cond (settles t) (delivered_at t.before.delivered i a) 0

-- lots failed: those of the account's entries that the cutoff put into the ledger, behind the ones that stood there
abbrev pub put_by : Book → Book → List Entry
put_by before after = drop (length (ledger_of before)) (ledger_of after)

abbrev pub failed_by : ℕ → ℕ → Turn → ℕ
failed_by i a t = cond (settles t) (lots_of (is_from i a) (put_by t.before t.answer.book)) 0

-- lots of a resolve by the account in the issue; a pair-off is none
abbrev pub resolve_lots : ℕ → ℕ → Instruction → ℕ
resolve_lots i a (instruction.Trade j f t x) = 0
resolve_lots i a (instruction.Deliver j c x) = 0
resolve_lots i a (instruction.Resolve j c x) = cond (eqb j i && eqb c a) x 0
resolve_lots i a (instruction.PairOff j c) = 0
resolve_lots i a instruction.Close = 0
resolve_lots i a instruction.Cutoff = 0
resolve_lots i a (instruction.Roll days rate) = 0
resolve_lots i a (instruction.Mark j m) = 0
resolve_lots i a (instruction.Turn d) = 0

-- lots resolved, in any phase; a refused instruction adds nothing
abbrev pub resolved_by : ℕ → ℕ → Turn → ℕ
resolved_by i a t = cond (accepted t.answer.refusal) (resolve_lots i a t.instruction) 0

abbrev pub statement_of : ℕ → ℕ → ℕ → ℕ → Statement
statement_of due delivered failed resolved =
    record { due = due; delivered = delivered; failed = failed; resolved = resolved }

-- the statement of some turns
unfoldable pub statement_over : ℕ → ℕ → List Turn → Statement
statement_over i a ts =
    statement_of (total (due_by i a) ts) (total (delivered_by i a) ts) (total (failed_by i a) ts) (total (resolved_by i a) ts)

-- a span has at most 4,096 instructions
abbrev pub most_span : ℕ
most_span = 4096

-- run on a fresh book
unfoldable pub statement_on : List ℕ → ℕ → ℕ → Statement
statement_on ws i a = statement_over i a (turns_from most_span fresh ws)

-- what is answered: number; due, delivered, failed, resolved; and failed over due as two whole numbers, unreduced
pub record Stated : Type 0 where
  pub refusal : ℕ
  pub numbers : List ℕ

abbrev pub stated : ℕ → List ℕ → Stated
stated refusal numbers = record { refusal = refusal; numbers = numbers }

abbrev pub numbers_of : Statement → List ℕ
numbers_of s = s.due ∷ s.delivered ∷ s.failed ∷ s.resolved ∷ s.failed ∷ s.due ∷ []

-- a refusal gives its number, with 0 for every other number
abbrev pub stated_as : ℕ → Statement → Stated
stated_as zero s = stated 0 (numbers_of s)
stated_as (suc r) s = stated (suc r) (replicate 6 0)

-- questions 4 and 5
unfoldable pub statement : List ℕ → ℕ → ℕ → Stated
statement ws i a = stated_as (first_no (ask_issue i ∷ ask_account a ∷ [])) (statement_on ws i a)

-- lots of the 12s that a cutoff wrote in an issue, out of the words of its output; a refused one wrote none
abbrev pub twelves_by : ℕ → Turn → ℕ
twelves_by i t = cond (is_cutoff t.instruction) (sum_lots (records_of 12 i (records_in t.answer.count t.answer.out))) 0

-- all accounts
unfoldable pub all_accounts : List ℕ
all_accounts = tabulate (λ a. a) 0 account_count
