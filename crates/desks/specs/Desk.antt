-- Netting accounts that share settlement accounts deliver in turn, round after round.
use Rattle.std.specs.Prelude.{cond, List, [], ◌∷◌, ℕ, zero, suc, ◌+◌, ◌-◌, ◌*◌, ◌/◌, ◌%◌, min, eqb, get_or, set, replicate, ℤ}
use Rattle.rules.specs.Measures.{issue_count, cell_count, owed_of, total, sum}
use Rattle.rules.specs.Units.{AccountLots, units}
use Rattle.rules.specs.Handover.{handovers}
use Rattle.rules.specs.Fails.{undelivered}
use Rattle.rules.specs.Book.{tabulate, row, cell, net_at, delivered_at, delivered_total, dues_of, obligations_of}

-- netting accounts share 16 settlement accounts (document 000)
abbrev pub settlement_count : ℕ
settlement_count = 16

abbrev pub last_settlement : ℕ
last_settlement = 15

-- each with an inventory for each issue
abbrev pub inventory_count : ℕ
inventory_count = 256

-- what stays: the nets, the settlement account of each netting account, the size of a unit
pub record Plan : Type 0 where
  pub nets : List ℤ
  pub settles : List ℕ
  pub size : ℕ

abbrev pub plan : List ℤ → List ℕ → ℕ → Plan
plan nets settles size = record { nets = nets; settles = settles; size = size }

-- what moves: the lots delivered, the inventories, and how many deliveries were made
pub record Desk : Type 0 where
  pub delivered : List ℕ
  pub inventories : List ℕ
  pub made : ℕ

abbrev pub desk : List ℕ → List ℕ → ℕ → Desk
desk delivered inventories made = record { delivered = delivered; inventories = inventories; made = made }

-- where the inventory of a settlement account in an issue stands
abbrev pub inventory_cell : ℕ → ℕ → ℕ
inventory_cell i s = i * settlement_count + s

abbrev pub inventory_at : List ℕ → ℕ → ℕ → ℕ
inventory_at inventories i s = get_or inventories (inventory_cell i s) 0

abbrev pub with_inventory : List ℕ → ℕ → ℕ → ℕ → List ℕ
with_inventory inventories i s x = set inventories (inventory_cell i s) x

abbrev pub settlement_of : Plan → ℕ → ℕ
settlement_of p a = get_or p.settles a 0

-- the issue's units in the order of document 001, of this size
abbrev pub units_at : Plan → ℕ → List AccountLots
units_at p i = units p.size (dues_of p.nets i)

-- what an account still owes
abbrev pub still_owed : Plan → Desk → ℕ → ℕ → ℕ
still_owed p d a i = owed_of (net_at p.nets i a) - delivered_at d.delivered i a

-- each account delivers the smaller of that inventory and what it still owes
unfoldable pub amount : Plan → Desk → ℕ → ℕ → ℕ
amount p d a i = min (inventory_at d.inventories i (settlement_of p a)) (still_owed p d a i)

-- what an account is handed joins its inventory
abbrev pub joined : Plan → ℕ → List AccountLots → List ℕ → List ℕ
joined p i [] inventories = inventories
joined p i (u ∷ us) inventories =
    let s = settlement_of p u.account in
    joined p i us (with_inventory inventories i s (inventory_at inventories i s + u.lots))

-- an account delivers so many lots, and the units that are then covered are handed over
unfoldable pub delivers : Plan → Desk → ℕ → ℕ → ℕ → Desk
delivers p d a i x =
    let s = settlement_of p a in
    desk (set d.delivered (cell i a) (delivered_at d.delivered i a + x))
    (joined p i (handovers (units_at p i) (delivered_total d.delivered i) x)
    (with_inventory d.inventories i s (inventory_at d.inventories i s - x)))
    (suc d.made)

-- an account's turn in an issue: 0 is no delivery
unfoldable pub turn : Plan → ℕ → ℕ → Desk → Desk
turn p a i d = cond (eqb (amount p d a i) 0) d (delivers p d a i (amount p d a i))

-- n turns from turn t on, by account and then issue
abbrev pub turns_from : Plan → ℕ → ℕ → Desk → Desk
turns_from p t zero d = d
turns_from p t (suc n) d = turns_from p (suc t) n (turn p (t / issue_count) (t % issue_count) d)

-- a full round
unfoldable pub round : Plan → Desk → Desk
round p d = turns_from p 0 cell_count d

-- the desk at the end, and the rounds made
pub record Ended : Type 0 where
  pub desk : Desk
  pub rounds : ℕ

abbrev pub ended : Desk → ℕ → Ended
ended d n = record { desk = d; rounds = n }

abbrev pub one_round_more : Ended → Ended
one_round_more r = ended r.desk (suc r.rounds)

-- it stops after the first full round without a delivery, that one included; n rounds at most
abbrev pub rounds_of : ℕ → Plan → Desk → Ended
rounds_of zero p d = ended d 0
rounds_of (suc n) p d =
    let e = round p d in
    cond (eqb e.made d.made) (ended e 1) (one_round_more (rounds_of n p e))

-- nothing delivered
abbrev pub opening : List ℕ → Desk
opening inventories = desk (replicate cell_count 0) inventories 0

-- the lots owed in all issues: each round but the last delivers one of them at least
unfoldable pub owed_lots : List ℤ → ℕ
owed_lots nets = total owed_of nets

unfoldable pub simulated : Plan → List ℕ → Ended
simulated p inventories = rounds_of (suc (owed_lots p.nets)) p (opening inventories)

-- the lots still owed of an issue, and of each
abbrev pub owed_of_issue : List ℤ → List ℕ → ℕ → ℕ
owed_of_issue nets delivered i = sum (undelivered (obligations_of nets i) (row i delivered))

unfoldable pub owed_of_each : List ℤ → List ℕ → List ℕ
owed_of_each nets delivered = tabulate (owed_of_issue nets delivered) 0 issue_count
