-- A statement with what an instruction adds, from numbers at hand.
use Rattle.std.specs.Prelude.{Bool, cond, ◌&&◌, ℕ, ◌+◌, ◌-◌, ◌≤◌, eqb, ℤ}
use Rattle.rules.specs.declared.Instruction.{Instruction}
use Rattle.rules.specs.declared.Instruction.TheVariants as instruction
use Rattle.rules.specs.Measures.{owed_of}
use Rattle.rules.specs.Tally.{accepted}
use Rattle.spans.specs.declared.Statement.{Statement}
use Rattle.spans.specs.Statement.{statement_of}

-- an instruction adds at most so much to a number
abbrev pub most_added : ℕ
most_added = 4294967296

-- there is room in 64 bits for what 4,096 instructions add
pub record CanAdd (c : Statement) : Type 0 where
  pub due : c.due + most_added ≤ 17592186044416
  pub delivered : c.delivered + most_added ≤ 17592186044416
  pub failed : c.failed + most_added ≤ 17592186044416
  pub resolved : c.resolved + most_added ≤ 17592186044416

-- no number rises by more
pub record Grown (c r : Statement) : Type 0 where
  pub due : r.due ≤ c.due + most_added
  pub delivered : r.delivered ≤ c.delivered + most_added
  pub failed : r.failed ≤ c.failed + most_added
  pub resolved : r.resolved ≤ c.resolved + most_added

-- with an accepted cutoff: what is owed, what is delivered and the rest
abbrev pub cut_in : Statement → ℤ → ℕ → Statement
cut_in c net given =
    statement_of (c.due + owed_of net) (c.delivered + given) (c.failed + (owed_of net - given)) c.resolved

-- with an accepted resolve
abbrev pub resolved_in : Statement → Bool → ℕ → Statement
resolved_in c own x = statement_of c.due c.delivered c.failed (c.resolved + cond own x 0)

abbrev pub accepted_in : Statement → Instruction → ℤ → ℕ → ℕ → ℕ → Statement
accepted_in c (instruction.Trade j f t x) net given i a = c
accepted_in c (instruction.Deliver j d x) net given i a = c
accepted_in c (instruction.Resolve j d x) net given i a = resolved_in c (eqb j i && eqb d a) x
accepted_in c (instruction.PairOff j d) net given i a = c
accepted_in c instruction.Close net given i a = c
accepted_in c instruction.Cutoff net given i a = cut_in c net given
accepted_in c (instruction.Roll days rate) net given i a = c
accepted_in c (instruction.Mark j m) net given i a = c
accepted_in c (instruction.Turn d) net given i a = c

-- with any instruction, by its number
abbrev pub added_in : Statement → Instruction → ℕ → ℤ → ℕ → ℕ → ℕ → Statement
added_in c x refusal net given i a = cond (accepted refusal) (accepted_in c x net given i a) c
