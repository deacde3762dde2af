-- From the contracts alone: what a caller learns of `day_journal_call` or `day_journal_commit`, and then of `day_journal_read`
-- on the 36 words written and whatever follows them, is that what was written is read. The arguments a and what is lent of
-- them at exit, e, stand in the order of the function's parameters.
use mathlib.Core.Path.{◌≡◌, ap, ◌∙◌}
use mathlib.Core.List.{List, ◌++◌}
use Prim.Native.Nat.{ℕ}
use contract.Lifetimes.{Lfts}
use denote.Triple.Clauses.{AtExit}
use borrow.Fn.Kinds.{Dens, ended_of}
use lib.ListN.{take}
use Rattle.desk.specs.Fields.{instruction_of}
use Rattle.journals.specs.Record.{record_words, committed, ticket_in}
use Rattle.journals.specs.Journal.{read_next}
use Rattle.journal.specs.declared.Journalled.{Journalled}
use Rattle.journal.specs.Told.{instruction_as, plain_of, journalled}
use Rattle.journal.proofs.Again.{call_again, commit_again}
use Rattle.journal.proofs.noting.day_journal_call.Kinds as call-kinds
use Rattle.journal.proofs.noting.day_journal_call.Reads as call-reads
use Rattle.journal.proofs.noting.day_journal_commit.Kinds as commit-kinds
use Rattle.journal.proofs.noting.day_journal_commit.Reads as commit-reads
use Rattle.journal.proofs.reading.day_journal_read.Kinds as read-kinds
use Rattle.journal.proofs.reading.day_journal_read.Reads as read-reads

-- `day_journal_read`: number, words
module _ (λs : Lfts 1) (b : Dens λs read-kinds.ps) (q : Journalled) (f : AtExit (ended_of 1 read-kinds.ps read-kinds.r) λs)
    (l : read-reads.Learnt λs b q f) where
  read_is : (n : ℕ) (ws : List ℕ) → b.0 ≡ n → b.1.0.now ≡ ws → q ≡ journalled (read_next n ws)
  read_is n ws e w = l ∙ ap (λ m. journalled (read_next m b.1.0.now)) e ∙ ap (λ v. journalled (read_next n v)) w

  -- after `day_journal_call`: number, kind, a, b, c, d, quotes, out
  pub call_read_again : (κs : Lfts 2) (a : Dens κs call-kinds.ps) (r : ℕ) (e : AtExit (ended_of 2 call-kinds.ps call-kinds.r) κs) →
      call-reads.Learnt κs a r e → r ≡ 0 → (rest : List ℕ) → b.0 ≡ a.0 →
      b.1.0.now ≡ take record_words e.1.1.1.1.1.1.1.0.now ++ rest →
      q ≡ instruction_as (instruction_of a.1.0 a.1.1.0 a.1.1.1.0 a.1.1.1.1.0 a.1.1.1.1.1.0)
  call_read_again κs a r e p done rest n w =
      call_again a.0 a.1.0 (instruction_of a.1.0 a.1.1.0 a.1.1.1.0 a.1.1.1.1.0 a.1.1.1.1.1.0)
      a.1.1.1.1.1.1.0.now a.1.1.1.1.1.1.1.0.now e.1.1.1.1.1.1.1.0.now r p done rest q
      (read_is a.0 (take record_words e.1.1.1.1.1.1.1.0.now ++ rest) n w)

  -- after `day_journal_commit`: number, ticket, out
  pub commit_read_again : (κs : Lfts 2) (a : Dens κs commit-kinds.ps) (r : ℕ) (e : AtExit (ended_of 2 commit-kinds.ps commit-kinds.r) κs) →
      commit-reads.Learnt κs a r e → r ≡ 0 → (rest : List ℕ) → b.0 ≡ a.0 →
      b.1.0.now ≡ take record_words e.1.1.0.now ++ rest → q ≡ plain_of (committed (ticket_in a.1.0.now))
  commit_read_again κs a r e p done rest n w =
      commit_again a.0 a.1.0.now a.1.1.0.now e.1.1.0.now r p done rest q
      (read_is a.0 (take record_words e.1.1.0.now ++ rest) n w)
