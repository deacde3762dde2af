-- Words stored at the front of a part are stored in the whole.
use mathlib.Core.Path.{◌≡◌, refl, sym, ap, ◌∙◌}
use mathlib.Core.List.{List, [], ◌∷◌, ◌++◌, append_assoc, append-nil}
use Prim.Native.Nat.{ℕ, ◌+◌, ◌-◌, ◌≤◌}
use native.Mathlib.Numerals.{add-one}
use native.Mathlib.Omega.{arith}
use lib.ListN.{length, take, drop, set, length-take, length-drop, drop_of_length-le}
use lib.Seq.{sets, take_all, drop-drop, sets-eq}
use Rattle.rules.specs.Records.{over}

pub set_two : (o : List ℕ) (a b : ℕ) → 2 ≤ length o → set (set o 0 a) 1 b ≡ a ∷ b ∷ drop 2 o
set_two [] a b h = absurd (omega arith)
set_two (x ∷ []) a b h = absurd (omega arith)
set_two (x ∷ y ∷ t) a b h = refl

-- the part from place a on is as long as what stands there
pub part_length : (out : List ℕ) (a : ℕ) → length (take (length out - a) (drop a out)) ≡ length out - a
part_length out a = simp (length-take, length-drop) (omega arith)

-- it comes back with words at its front
pub part_over : (out ys ws : List ℕ) (a : ℕ) → a + length ws ≤ length out →
    ys ≡ over ws (take (length out - a) (drop a out)) →
    take a out ++ (ys ++ drop (length out - a) (drop a out)) ≡ sets out a ws
part_over out ys ws a f y =
    let d : length (drop a out) ≤ length out - a = omega (arith, length-drop a out) in
    rw (
      y,
      take_all (length out - a) (drop a out) d,
      drop_of_length-le (drop a out) d,
      append-nil (over ws (drop a out)),
      drop-drop (length ws) a out,
    )
    (sym (sets-eq ws out a f ∙ append_assoc (take a out) ws (drop (a + length ws) out)))

-- with two
pub part_put : (out ys : List ℕ) (a h l : ℕ) → a + 2 ≤ length out →
    ys ≡ h ∷ l ∷ drop 2 (take (length out - a) (drop a out)) →
    take a out ++ (ys ++ drop (length out - a) (drop a out)) ≡ set (set out a h) (a + 1) l
part_put out ys a h l f y = part_over out ys (h ∷ l ∷ []) a f y ∙ rw add-one

-- words stored from the front
pub sets_front : (ws o : List ℕ) → length ws ≤ length o → sets o 0 ws ≡ over ws o
sets_front ws o h =
    let e : 0 + length ws ≡ length ws = omega arith in
    sets-eq ws o 0 (omega arith) ∙ ap (λ k. ws ++ drop k o) e
