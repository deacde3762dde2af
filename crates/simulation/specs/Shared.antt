-- What the accounts of a settlement account owe together.
use Rattle.std.specs.Prelude.{cond, List, [], ◌∷◌, ℕ, ◌+◌, ◌≤◌, ◌<◌, eqb}
use Rattle.rules.specs.Fails.{undelivered}
use Rattle.rules.specs.Book.{row, obligations_of}
use Rattle.desks.specs.Desk.{Plan, Desk, inventory_at}

-- the numbers of those accounts whose settlement account is s
abbrev pub shared_by : ℕ → List ℕ → List ℕ → ℕ
shared_by s [] xs = 0
shared_by s (t ∷ ts) [] = 0
shared_by s (t ∷ ts) (x ∷ xs) = cond (eqb t s) x 0 + shared_by s ts xs

-- what the accounts of a settlement account still owe of an issue
unfoldable pub shared_owed : Plan → Desk → ℕ → ℕ → ℕ
shared_owed p d i s = shared_by s p.settles (undelivered (obligations_of p.nets i) (row i d.delivered))

-- every settlement account holds at least what its accounts owe of an issue
abbrev pub Holds : Plan → Desk → ℕ → Type 0
Holds p d i = (s : ℕ) → s < 16 → shared_owed p d i s ≤ inventory_at d.inventories i s
