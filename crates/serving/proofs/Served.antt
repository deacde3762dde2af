-- The units that more lots hand over, and units dealt out in front of a longer array.
use mathlib.Core.Path.{◌≡◌, sym, ap, ◌∙◌}
use mathlib.Core.Bool.{true}
use mathlib.Core.List.{List, map}
use Prim.Native.Nat.{ℕ, ◌+◌, ◌≤◌}
use native.Mathlib.Omega.{arith}
use lib.ListN.{length, take, drop, length-map, length-drop}
use lib.Seq.{take_all, take-take}
use lib.IntN.{ℤ}
use Rattle.rules.specs.Units.{AccountLots}
use Rattle.rules.specs.Handover.{handovers}
use Rattle.rules.specs.Records.{handover, words, over}
use Rattle.rules.specs.Book.{order_in}
use Rattle.laws.proofs.Handover.{covered_le, handovers_length}
use Rattle.laws.proofs.Dealt.{lots_in, same_covered}
use Rattle.runs.specs.Runs.{part_of, units_of_words, units_in}
use Rattle.dealing.proofs.Dealer.{words_units}
use Rattle.handing.specs.declared.NextUnits.{NextUnits}
use Rattle.handing.specs.Handing.{hand_records, NewlyCovered}
use Rattle.serving.specs.Serving.{Served}

-- the units that x more lots hand over
module _ (us : List AccountLots) (d x : ℕ) (r : NextUnits) (c : NewlyCovered us d x r) where
  pub newly_there : r.number ≤ length (drop r.first us)
  newly_there = omega (arith, c.first, c.number, length-drop r.first us, covered_le us (d + x))

  pub newly_number : r.number ≡ length (handovers us d x)
  newly_number = c.number ∙ sym (handovers_length us d x)

  newly_units : take r.number (drop r.first us) ≡ handovers us d x
  unfolding handovers
  newly_units = rw (c.first, c.number)

  pub served : (i : ℕ) (o new : List ℕ) → new ≡ over (words (hand_records i r.number (drop r.first us))) o → Served us i d x o new r.number
  served i o new e =
      record {
        count = newly_number ∙ sym (length-map (handovers us d x) (handover i));
        output = e ∙ ap (λ l. over (words (map (handover i) l)) o) newly_units;
      }

-- in an order with the same lots they are the same places
pub newly_same : (us vs : List AccountLots) (d x : ℕ) (r : NextUnits) → lots_in us ≡ lots_in vs → NewlyCovered us d x r → NewlyCovered vs d x r
newly_same us vs d x r e c =
    record {
      first = c.first ∙ same_covered us vs e d;
      number = c.number ∙ rw (same_covered us vs e d, same_covered us vs e (d + x));
    }

-- Units dealt out, a word each

module _ (nets : List ℤ) (lifts : List ℕ) (i k n : ℕ) (ys : List ℕ) (l : length ys ≡ n) (e : map part_of ys ≡ take n (drop k (order_in true nets lifts i))) where
  dealt_units : units_of_words ys ≡ take n (drop k (order_in true nets lifts i))
  unfolding units_in
  dealt_units = ap units_of_words (sym (take_all n ys (omega arith))) ∙ words_units true nets lifts i k n ys l e

  pub dealt_number : n ≤ length (drop 0 (units_of_words ys))
  dealt_number = omega (arith, ap length dealt_units, ap length e, length-map ys part_of)

  pub dealt_records : (j : ℕ) → hand_records j n (drop 0 (units_of_words ys)) ≡ hand_records j n (drop k (order_in true nets lifts i))
  dealt_records j = ap (λ us. hand_records j n us) dealt_units ∙ ap (map (handover j)) (take-take n n (drop k (order_in true nets lifts i)) (omega arith))
