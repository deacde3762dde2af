-- Question 16, and the ticket.
use mathlib.Core.Path.{◌≡◌, refl, ap, ◌∙◌}
use mathlib.Core.List.{List, [], ◌∷◌}
use Prim.Native.Nat.{ℕ, ◌≤◌, ◌<◌}
use native.Mathlib.Omega.{arith}
use lib.ListN.{length, drop, length-drop}
use borrow.Author.Tests.{le-leb, lt-leb, lt-ltb, le-ltb}
use Rattle.std.specs.Prelude.{Option, Some, None}
use Rattle.rules.specs.declared.Unit.{Unit}
use Rattle.rules.specs.Units.{AccountLots, account_lots}
use Rattle.rules.specs.Calls.{ticket_for, some_ticket, no_ticket}
use Rattle.runs.specs.Runs.{unit_of, found_of}
use Rattle.tickets.specs.Tickets.{unhanded_ticket}

module _ (us : List AccountLots) (h today n i k : ℕ) where
  -- a unit that is handed
  pub is_handed_lem : k < h → no_ticket 16 ≡ unhanded_ticket us h today n i k
  unfolding unhanded_ticket
  is_handed_lem l = simp (lt-leb h k l)

  -- one that there is not
  pub is_missing : h ≤ k → drop k us ≡ [] → no_ticket 16 ≡ unhanded_ticket us h today n i k
  unfolding unhanded_ticket
  is_missing l e = simp (le-leb h k l, le-ltb k (length us) (omega (arith, length-drop k us, ap length e)))

  -- and one that waits
  pub is_waiting : (a x : ℕ) (vs : List AccountLots) → h ≤ k → drop k us ≡ account_lots a x ∷ vs →
      some_ticket (ticket_for i k (account_lots a x) today n) ≡ unhanded_ticket us h today n i k
  unfolding unhanded_ticket
  is_waiting a x vs l e = simp (le-leb h k l, lt-ltb k (length us) (omega (arith, length-drop k us, ap length e)), e)

-- by what the unit question finds
pub found_some : (us : List AccountLots) (h today n m i k : ℕ) (u : Unit) → h ≤ k → Some u ≡ found_of (drop k us) → n ≡ m →
    some_ticket (ticket_for i k (account_lots u.account u.lots) today n) ≡ unhanded_ticket us h today m i k
found_some us h today n m i k u l e c = by_list (drop k us) refl
  where
    by_list : (vs : List AccountLots) → drop k us ≡ vs → some_ticket (ticket_for i k (account_lots u.account u.lots) today n) ≡ unhanded_ticket us h today m i k
    by_list [] q = absurd (let z : Some u ≡ None = e ∙ ap found_of q in cc)
    by_list (v ∷ vs) q =
        let z : Some u ≡ Some (unit_of v.account v.lots) = e ∙ ap found_of q in
        let w : u ≡ unit_of v.account v.lots = cc in
        rw (w, c) (is_waiting us h today m i k v.account v.lots vs l q)

pub found_none : (us : List AccountLots) (h today n i k : ℕ) → h ≤ k → None ≡ found_of (drop k us) → no_ticket 16 ≡ unhanded_ticket us h today n i k
found_none us h today n i k l e = by_list (drop k us) refl
  where
    by_list : (vs : List AccountLots) → drop k us ≡ vs → no_ticket 16 ≡ unhanded_ticket us h today n i k
    by_list [] q = is_missing us h today n i k l q
    by_list (v ∷ vs) q = absurd (let z : None ≡ Some (unit_of v.account v.lots) = e ∙ ap found_of q in cc)
