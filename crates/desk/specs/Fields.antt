-- Instructions as plain numbers.
use Rattle.std.specs.Prelude.{Bool, true, cond, Option, Some, None, List, [], ◌∷◌, ℕ, eqb}
use Rattle.rules.specs.declared.Instruction.{Instruction}
use Rattle.rules.specs.declared.Instruction.TheVariants.{Trade, Deliver, Resolve, PairOff, Close, Cutoff, Roll, Mark, Turn}
use Rattle.rules.specs.Measures.{between}

-- kind 1 to 7, 13 or 14, then its fields, 0 where there is none
abbrev pub fields_of : Instruction → List ℕ
fields_of (Trade i f t x) = 1 ∷ i ∷ f ∷ t ∷ x ∷ []
fields_of (Deliver i a x) = 2 ∷ i ∷ a ∷ x ∷ 0 ∷ []
fields_of (Resolve i a x) = 3 ∷ i ∷ a ∷ x ∷ 0 ∷ []
fields_of (PairOff i a) = 4 ∷ i ∷ a ∷ 0 ∷ 0 ∷ []
fields_of Close = 5 ∷ 0 ∷ 0 ∷ 0 ∷ 0 ∷ []
fields_of Cutoff = 6 ∷ 0 ∷ 0 ∷ 0 ∷ 0 ∷ []
fields_of (Roll days rate) = 7 ∷ days ∷ rate ∷ 0 ∷ 0 ∷ []
fields_of (Mark i m) = 13 ∷ i ∷ m ∷ 0 ∷ 0 ∷ []
fields_of (Turn day) = 14 ∷ day ∷ 0 ∷ 0 ∷ 0 ∷ []

abbrev pub is_kind : ℕ → Bool
is_kind kind = cond (between 13 14 kind) true (between 1 7 kind)

-- the instruction of a kind of 1 to 7, 13 or 14 and its fields; no other kind is taken for one
abbrev pub instruction_of : ℕ → ℕ → ℕ → ℕ → ℕ → Instruction
instruction_of kind a b c d =
    cond (eqb kind 1) (Trade a b c d)
    (cond (eqb kind 2) (Deliver a b c)
    (cond (eqb kind 3) (Resolve a b c)
    (cond (eqb kind 4) (PairOff a b)
    (cond (eqb kind 5) Close
    (cond (eqb kind 6) Cutoff
    (cond (eqb kind 7) (Roll a b)
    (cond (eqb kind 13) (Mark a b)
    (Turn a))))))))

-- and where it is asked whether there is one
abbrev pub instruction_at : ℕ → ℕ → ℕ → ℕ → ℕ → Option Instruction
instruction_at kind a b c d = cond (is_kind kind) (Some (instruction_of kind a b c d)) None
