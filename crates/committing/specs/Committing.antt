-- What a lift put into the column and a unit handed on may assume, and what they do.
use Rattle.std.specs.Prelude.{◌≡◌, cond, List, [], ◌∷◌, map, ℕ, ◌≤◌, ◌<◌, leb, length}
use Rattle.rules.specs.declared.Ticket.{Ticket}
use Rattle.rules.specs.Measures.{unit_lots, most_lifts, lift_cells}
use Rattle.rules.specs.Units.{AccountLots, account_lots}
use Rattle.rules.specs.Book.{lift_number, count_at}
use Rattle.rules.specs.Records.{handover, words, over}

-- a ticket whose unit fits a record, and room for it
pub record CanHandOn (t : Ticket) (out : List ℕ) : Type 0 where
  pub issue : t.issue < 16
  pub account : t.account < 64
  pub lots : t.lots ≤ unit_lots
  pub room : 2 ≤ length out

-- the ticket's unit, where the stock covers it
abbrev pub if_covered : AccountLots → ℕ → List AccountLots
if_covered u left = cond (leb u.lots left) (u ∷ []) []

abbrev pub unit_of : Ticket → AccountLots
unit_of t = account_lots t.account t.lots

-- its record stands in front of the output
pub record HandedOn (t : Ticket) (left : ℕ) (before after : List ℕ) (r : ℕ) : Type 0 where
  pub count : r ≡ length (map (handover t.issue) (if_covered (unit_of t) left))
  pub output : after ≡ over (words (map (handover t.issue) (if_covered (unit_of t) left))) before

-- a column in which one more lift can stand
pub record CanPut (lifts : List ℕ) (i : ℕ) : Type 0 where
  pub cells : length lifts ≡ lift_cells
  pub issue : i < 16
  pub few : lift_number lifts i < most_lifts
  pub counted : count_at lifts i < 4294967295
