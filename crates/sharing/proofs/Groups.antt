-- One number more of a draw: its report takes lots where it belongs to the group, and is passed over where not.
use mathlib.Core.Path.{◌≡◌, ap, ◌∙◌}
use mathlib.Core.Bool.{Bool, true, false}
use mathlib.Core.List.{List, ◌∷◌}
use Prim.Native.Nat.{ℕ, ◌+◌, ◌≤◌, ◌<◌}
use native.Mathlib.Numerals.{add-one}
use lib.ListN.{length, drop, get_or, drop_of_length-le}
use lib.Seq.{drop-cons}
use Rattle.reports.specs.Allotting.{Allotment, take}
use Rattle.sharing.specs.declared.Group.{Group}
use Rattle.sharing.specs.Steps.{in_group, allot_group}

module _ (group : Group) (failing : ℕ) (sizes parties draw : List ℕ) where
  next : (i : ℕ) → i < length draw → drop i draw ≡ get_or draw i 0 ∷ drop (i + 1) draw
  next i h = rw add-one (drop-cons draw i 0 h)

  pub group_takes : (i : ℕ) (a : Allotment) → i < length draw →
      in_group group failing (get_or sizes (get_or draw i 0) 0) (get_or parties (get_or draw i 0) 0) ≡ true →
      allot_group group failing sizes parties (drop i draw) a
      ≡ allot_group group failing sizes parties (drop (i + 1) draw) (take (λ k. get_or sizes k 0) (get_or draw i 0) a)
  group_takes i a h e =
      ap (λ l. allot_group group failing sizes parties l a) (next i h) ∙ rw e

  pub group_passes : (i : ℕ) (a : Allotment) → i < length draw →
      in_group group failing (get_or sizes (get_or draw i 0) 0) (get_or parties (get_or draw i 0) 0) ≡ false →
      allot_group group failing sizes parties (drop i draw) a ≡ allot_group group failing sizes parties (drop (i + 1) draw) a
  group_passes i a h e =
      ap (λ l. allot_group group failing sizes parties l a) (next i h) ∙ rw e

  pub group_end : (i : ℕ) (a : Allotment) → length draw ≤ i → allot_group group failing sizes parties (drop i draw) a ≡ a
  group_end i a h = ap (λ l. allot_group group failing sizes parties l a) (drop_of_length-le draw h)
