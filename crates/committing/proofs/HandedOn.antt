-- The ticket's unit handed over, or not.
use mathlib.Core.Path.{◌≡◌}
use mathlib.Core.List.{List, [], ◌∷◌}
use Prim.Native.Nat.{ℕ, ◌≤◌, ◌<◌}
use borrow.Author.Tests.{le-leb, lt-leb}
use Rattle.rules.specs.declared.Ticket.{Ticket}
use Rattle.rules.specs.Records.{handover, words, over}
use Rattle.committing.specs.Committing.{unit_of, HandedOn}

-- the ticket's unit handed over, or not
pub handed_none : (t : Ticket) (left : ℕ) (o : List ℕ) → left < t.lots → HandedOn t left o o 0
handed_none t left o l = record { count = simp (lt-leb t.lots left l); output = simp (lt-leb t.lots left l) }

pub handed_one : (t : Ticket) (left : ℕ) (o new : List ℕ) → t.lots ≤ left → new ≡ over (words (handover t.issue (unit_of t) ∷ [])) o →
    HandedOn t left o new 1
handed_one t left o new l e = record { count = simp (le-leb t.lots left l); output = simp (le-leb t.lots left l) e }
