-- The parts of a line.
use Rattle.std.specs.Prelude.{List, [], ◌∷◌, ◌++◌, ℕ}
use Rattle.rules.specs.declared.Name.{Name}
use Rattle.rules.specs.Text.{name_text, field}

-- what follows the index: name, refusal number, count
abbrev pub rest_text : Name → ℕ → ℕ → List ℕ
rest_text n refusal count = (32 ∷ []) ++ name_text n ++ field refusal ++ field count ++ (10 ∷ [])

-- the same where both are 0
abbrev pub plain_text : Name → List ℕ
plain_text n = (32 ∷ []) ++ name_text n ++ (32 ∷ 48 ∷ []) ++ (32 ∷ 48 ∷ []) ++ (10 ∷ [])
