-- The contract of `day_run` is what a list of a host's runs is made of: what a caller learns of a run, as it stands at the
-- function, makes one of such a list. The arguments a and what is lent of them at exit, e, stand in the order of the function's
-- parameters.
use mathlib.Core.Path.{◌≡◌}
use contract.Lifetimes.{Lfts}
use denote.Triple.Clauses.{AtExit}
use borrow.Fn.Kinds.{Dens, ended_of}
use Rattle.rules.specs.declared.Book.{Book}
use Rattle.rules.specs.Tally.{Tallied}
use Rattle.columns.specs.Books.{lent_book}
use Rattle.host.specs.States.{state_in}
use Rattle.batch.specs.declared.DayRan.{DayRan}
use Rattle.batch.proofs.Fed.{fed_run, Hosted, run}
use Rattle.batch.proofs.day_run.Kinds as run-kinds
use Rattle.batch.proofs.day_run.Reads as run-reads

-- `day_run`: words, state, columns, answers, out
module _ (κs : Lfts 5) (a : Dens κs run-kinds.ps) (r : DayRan) (e : AtExit (ended_of 5 run-kinds.ps run-kinds.r) κs) where
  abbrev before : Book
  before = lent_book (state_in a.1.0) a.1.1.0.now

  abbrev after : Book
  after = lent_book (state_in r.state) e.1.1.0.now

  pub run_by_host : {s : Tallied} → Hosted s → run-reads.Learnt κs a r e → before ≡ s.book →
      Hosted (fed_run r.answered a.0.now e.1.1.1.0.now e.1.1.1.1.0.now after s.tally s.settling)
  run_by_host {s} h p q = run h a.1.0.phase _ a.0.now a.1.1.1.0.now e.1.1.1.0.now a.1.1.1.1.0.now e.1.1.1.1.0.now r after (rw q at p.0)
