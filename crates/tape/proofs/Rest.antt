-- Words from a place on, as they are lent, and what is read of them.
use mathlib.Core.Path.{◌≡◌, sym, ap, ◌∙◌}
use mathlib.Core.List.{List}
use Prim.Native.Nat.{ℕ, ◌-◌}
use native.Mathlib.Omega.{arith}
use lib.ListN.{length, take, drop, length-drop}
use lib.Seq.{take_all}
use Rattle.std.specs.Prelude.{Result}
use Rattle.rules.specs.declared.Instruction.{Instruction}
use Rattle.rules.specs.declared.Refusal.{Refusal}
use Rattle.rules.specs.Refusals.{numbered}
use Rattle.rules.specs.Tape.{read_of}

-- a list from a place on, as a part of it is lent
pub rest_part : (xs : List ℕ) (at : ℕ) → take (length xs - at) (drop at xs) ≡ drop at xs
rest_part xs at = take_all (length xs - at) (drop at xs) (rw length-drop (omega arith))

-- what is read of the words from a place on
pub begins : (ws : List ℕ) (at : ℕ) (r s : Result (Instruction × ℕ) Refusal) → numbered r ≡ read_of (take (length ws - at) (drop at ws)) → r ≡ s →
    read_of (drop at ws) ≡ numbered s
begins ws at r s e h = ap read_of (sym (rest_part ws at)) ∙ sym e ∙ ap numbered h
