-- What a delivery hands on, run by run.
use Rattle.std.specs.Prelude.{◌≡◌, cond, List, [], ◌∷◌, ℕ, ◌+◌, ◌-◌, ◌*◌, ◌/◌, ◌<◌, leb, length, get_or}
use Rattle.rules.specs.Units.{AccountLots}
use Rattle.desks.specs.Desk.{inventory_at, with_inventory}

-- the lots of a run that a total hands over
unfoldable pub handed_of : ℕ → ℕ → ℕ → ℕ
handed_of size lots d = cond (leb lots d) lots (d / size * size)

abbrev pub added_at : List ℕ → ℕ → ℕ → ℕ → List ℕ
added_at inventories i s x = with_inventory inventories i s (inventory_at inventories i s + x)

-- a total of b lots becomes one of e: what each run's account is handed joins its settlement account's inventory
abbrev pub joined_runs : List ℕ → ℕ → ℕ → List AccountLots → ℕ → ℕ → List ℕ → List ℕ
joined_runs settles size i [] b e inventories = inventories
joined_runs settles size i (u ∷ us) b e inventories =
    joined_runs settles size i us (b - u.lots) (e - u.lots)
    (added_at inventories i (get_or settles u.account 0) (handed_of size u.lots e - handed_of size u.lots b))

-- settlement accounts and inventories that a delivery can be joined to
pub record CanJoin (size : ℕ) (settles : List ℕ) (i d x : ℕ) (inventories : List ℕ) : Type 0 where
  pub some : 0 < size
  pub accounts : length settles ≡ 64
  pub settled : (a : ℕ) → get_or settles a 0 < 16
  pub issue : i < 16
  pub whole : length inventories ≡ 256
  pub fits : d + x < 4294967296
  pub small : (c : ℕ) → get_or inventories c 0 + (d + x) < 4294967296
