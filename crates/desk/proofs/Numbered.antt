-- Whether numbers have an instruction.
use mathlib.Core.Path.{◌≡◌, refl}
use mathlib.Core.Bool.{Bool, true, false, cond}
use Prim.Native.Nat.{ℕ}
use native.Mathlib.Omega.{arith}
use Rattle.std.specs.Prelude.{Some, None}
use Rattle.rules.specs.declared.Instruction.{Instruction}

pub no_instruction : (b : Bool) (x : Instruction) → None ≡ cond b (Some x) None → b ≡ false
no_instruction true x e = let z : ◌≡◌ {A = ℕ} 0 1 = cc in absurd (omega arith)
no_instruction false x e = refl

pub an_instruction : (b : Bool) (x y : Instruction) → Some y ≡ cond b (Some x) None → (b ≡ true) × (y ≡ x)
an_instruction true x y e = (refl, cc)
an_instruction false x y e = let z : ◌≡◌ {A = ℕ} 0 1 = cc in absurd (omega arith)
