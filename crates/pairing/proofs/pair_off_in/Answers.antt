use native.Mathlib.Omega.{arith}
use borrow.Author.Rules.{rules}
use Rattle.stepping.proofs.Turns.{turns_start, ends_in, ends_out}
use Rattle.pairing.proofs.Joining.{zeros_held}
use Rattle.pairing.proofs.NoStep.{none_paired}
use Rattle.pairing.proofs.pair_off_in.Goals as goal

pub returns-in_default : goal.returns-in_default
returns-in_default c = record {
  paired = none_paired _ _ _ _ _ _ _ _ _ _ _ _ _ _ c.requires
      (ends_in (turns_start _ _ _ _ _ _ _ _ _ _ _ _ _ _ c.requires zeros_held)
      (rw (c.shared-now.ensures.issues, c.shared-now.ensures.tos, c.shared-now.ensures.lots) at c.in_default.ensures));
  few = omega arith;
  same = search rules;
}

pub returns-in_default-next_from : goal.returns-in_default-next_from
returns-in_default-next_from c = record {
  paired = none_paired _ _ _ _ _ _ _ _ _ _ _ _ _ _ c.requires
      (ends_out (turns_start _ _ _ _ _ _ _ _ _ _ _ _ _ _ c.requires zeros_held)
      (rw (c.shared-now.ensures.issues, c.shared-now.ensures.froms, c.shared-now.ensures.lots) at c.in_default-next_from.ensures));
  few = omega arith;
  same = search rules;
}
