-- What is owed is at least what was delivered, and both are numbers of 32 bits.
use Rattle.std.proofs.Common.{◌≡◌, ℕ, refl, ap, ◌∙◌, arith}
use lib.IntN.{ℤ}
use mir.Syntax.{w32}
use mir.Val.{SFits, to_z, of_z}
use mir.ValLaws.{to_z-of_z}
use Rattle.rules.specs.Measures.{owed_of}
use Rattle.spans.proofs.Sums.{same_statement}
use Rattle.counting.proofs.cut.Goals as goal

-- a net comes as its bits
owes : (net : ℤ) (r : ℕ) → SFits w32 net → r ≡ owed_of (to_z w32 (of_z w32 net)) → r ≡ owed_of net
owes net r h e = e ∙ ap owed_of (to_z-of_z w32 net h)

pub overflow_sub-result : goal.overflow_sub-result
overflow_sub-result c = omega (arith, owes c.args.net c.owed-owed.result c.ranges.net c.owed-owed.ensures, c.requires.1)

pub returns : goal.returns
returns c =
    let e = owes c.args.net c.owed-owed.result c.ranges.net c.owed-owed.ensures in
    let o = c.owed-owed.type_inv in (
      same_statement _ _ _ _ _ _ _ _ (omega (arith, e)) refl (omega (arith, e)) refl,
      record { due = omega (arith, o); delivered = omega (arith, c.ranges.given); failed = omega (arith, o); resolved = omega arith },
    )
