-- Rounds that do the same again, and the end of a desk from wherever it stands: what the contracts of the code cite.
use Rattle.std.specs.Prelude.{◌≡◌, List, [], ◌∷◌, map, ℕ, suc, ◌+◌, ◌-◌, ◌*◌, ◌≤◌, ◌<◌, get_or, ℤ, pos}
use Rattle.rules.specs.Measures.{sum, owed_of}
use Rattle.rules.specs.Units.{AccountLots}
use Rattle.rules.specs.Handover.{handovers}
use Rattle.rules.specs.Fails.{undelivered}
use Rattle.desks.specs.Desk.{Plan, Desk, Ended, ended, rounds_of}

-- the lots still owed in all, and the end of a desk: with more rounds than that
unfoldable pub left : Plan → Desk → ℕ
left p d = sum (undelivered (map owed_of p.nets) d.delivered)

unfoldable pub ending : Plan → Desk → Ended
ending p d = rounds_of (suc (left p d)) p d

-- so many rounds more
abbrev pub later : ℕ → Ended → Ended
later j e = ended e.desk (j + e.rounds)

-- a column with j times another added
abbrev pub plus_times : ℕ → List ℕ → List ℕ → List ℕ
plus_times j [] ds = ds
plus_times j (x ∷ xs) [] = []
plus_times j (x ∷ xs) (d ∷ ds) = (d + j * x) ∷ plus_times j xs ds

-- an issue's units hand over the same again after j rounds of `each` lots, anywhere from lo to hi
abbrev pub Again : List AccountLots → ℕ → ℕ → ℕ → ℕ → Type 0
Again us lo hi each j = (d y : ℕ) → lo ≤ d → d + y ≤ hi → handovers us (d + j * each) y ≡ handovers us d y

-- and after up to k rounds of x lots, from d on
abbrev pub AgainFor : List AccountLots → ℕ → ℕ → ℕ → Type 0
AgainFor us d x k = (j : ℕ) → j ≤ k → Again us d (d + x) x j

-- so much of each still owed for so many rounds
abbrev pub OwedFor : List ℤ → List ℕ → List ℕ → ℕ → Type 0
OwedFor nets delivered xs k = (c : ℕ) → c < 1024 → k * get_or xs c 0 ≤ owed_of (get_or nets c (pos 0)) - get_or delivered c 0
