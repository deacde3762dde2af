-- Entries in the columns that a scan goes through: what is asked of each column by itself.
use Rattle.std.specs.Prelude.{Bool, true, not, ◌&&◌, List, [], ◌∷◌, ℕ, leb, eqb}
use Rattle.rules.specs.Measures.{last_issue, last_account, most_lots, between}

-- the number of an entry's issue
abbrev pub issue_sound : ℕ → Bool
issue_sound i = leb i last_issue

-- its accounts: in range, from unlike to
abbrev pub side_sound : ℕ → ℕ → Bool
side_sound f t = leb f last_account && leb t last_account && not (eqb f t)

-- those of two columns, place by place
abbrev pub sides_sound : List ℕ → List ℕ → Bool
sides_sound [] ts = true
sides_sound (f ∷ fs) [] = true
sides_sound (f ∷ fs) (t ∷ ts) = side_sound f t && sides_sound fs ts

-- its lots
abbrev pub lots_sound : ℕ → Bool
lots_sound x = between 1 most_lots x

-- days never fall along a column, from `least` on, nor are above today
abbrev pub days_rise : ℕ → ℕ → List ℕ → Bool
days_rise least today [] = leb least today
days_rise least today (d ∷ ds) = leb least d && days_rise d today ds
