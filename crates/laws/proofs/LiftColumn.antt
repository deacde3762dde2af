-- The column of lifts: what a delivery's count and a commit's lift do to an issue's words and to others', and so to the
-- lifts that stand and to the order.
use mathlib.Core.Path.{◌≡◌, refl, ap, ◌∙◌}
use mathlib.Core.Bool.{Bool}
use mathlib.Core.List.{List, [], ◌∷◌, ◌++◌}
use Prim.Native.Nat.{ℕ, zero, suc, ◌+◌, ◌*◌, ◌<◌}
use native.Mathlib.Omega.{arith}
use lib.Dec.{eqb, lit<}
use lib.IntN.{ℤ}
use lib.ListN.{length, get_or, set, drop, replicate, length-set, length-drop}
use lib.Seq.{drop-set-add, drop-set-lt, get_or-set_other, get_or-set_same}
use borrow.Author.Tests.{eqb-true, eqb-false}
use Rattle.rules.specs.Units.{AccountLots}
use Rattle.rules.specs.Lifts.{Lift, lift_of, lift, lifted}
use Rattle.rules.specs.Book.{block, row, lift_cell, lift_number, count_at, places_in, lifts_at, units_by, order_in}
use Rattle.rules.specs.Calls.{raised_count, with_lift}
use Rattle.laws.proofs.Basics.{by_test, Every, each_take, each_drop, each_replicate}
use Rattle.laws.proofs.Cells.{length_block, block_same, block_other}
use Rattle.laws.proofs.Sound.{each_get_or}

-- one lift more, after those before it
pub lifted_last : (ls : List Lift) (l : Lift) (us : List AccountLots) → lifted (ls ++ (l ∷ [])) us ≡ lift l (lifted ls us)
lifted_last [] l us = refl
lifted_last (m ∷ ls) l us = lifted_last ls l (lift m us)

pub length_lifts : (n : ℕ) (ws : List ℕ) → length (places_in n ws) ≡ n
length_lifts zero ws = refl
length_lifts (suc n) ws = ap suc (length_lifts n (drop 2 ws))

-- an issue's words in the column
pub length_lift_words : (lifts : List ℕ) (i : ℕ) → length lifts ≡ 288 → i < 16 → length (block 18 i lifts) ≡ 18
length_lift_words lifts i h k = length_block 18 lifts i (omega arith)

-- an issue's words alone say its lifts, and so its order
pub same_words_lem : (new : Bool) (lifts lifts' : List ℕ) (j : ℕ) (nets : List ℤ) → block 18 j lifts' ≡ block 18 j lifts → order_in new nets lifts' j ≡ order_in new nets lifts j
unfolding order_in
same_words_lem new lifts lifts' j nets e =
    ap (λ ws. lifted (places_in (get_or ws 0 0) (drop 2 ws)) (units_by new (row j nets))) e

-- and with the same lifts the order is the same
pub same_lifts : (new : Bool) (lifts lifts' : List ℕ) (j : ℕ) (nets : List ℤ) → lifts_at lifts' j ≡ lifts_at lifts j → order_in new nets lifts' j ≡ order_in new nets lifts j
unfolding order_in
same_lifts new lifts lifts' j nets e = ap (λ ls. lifted ls (units_by new (row j nets))) e

-- A delivery's count

module _ (lifts : List ℕ) (i : ℕ) where
  words_raised : block 18 i (raised_count lifts i) ≡ set (block 18 i lifts) 1 (count_at lifts i + 1)
  words_raised = block_same 18 lifts i 1 (count_at lifts i + 1) (lit< tt)

  pub raised_other : (j : ℕ) → (j ≡ i → ⊥) → block 18 j (raised_count lifts i) ≡ block 18 j lifts
  raised_other j ne = block_other 18 lifts i 1 j (count_at lifts i + 1) (lit< tt) ne

  -- the count rises by 1
  pub raised_count_lem : length lifts ≡ 288 → i < 16 → count_at (raised_count lifts i) i ≡ count_at lifts i + 1
  raised_count_lem h k =
      ap (λ ws. get_or ws 1 0) words_raised
      ∙ get_or-set_same (block 18 i lifts) 1 (count_at lifts i + 1) 0 (omega (arith, length_lift_words lifts i h k))

  -- and no lift changes
  pub raised_number : (j : ℕ) → lift_number (raised_count lifts i) j ≡ lift_number lifts j
  raised_number j =
      by_test (eqb j i)
      (λ e. rw (eqb-true j i e, words_raised) (get_or-set_other (block 18 i lifts) 1 0 (count_at lifts i + 1) 0 (omega arith)))
      (λ e. ap (λ ws. get_or ws 0 0) (raised_other j (eqb-false j i e)))

  pub raised_lifts : (j : ℕ) → lifts_at (raised_count lifts i) j ≡ lifts_at lifts j
  raised_lifts j =
      by_test (eqb j i)
      (λ e.
      rw (
        eqb-true j i e,
        words_raised,
        get_or-set_other (block 18 i lifts) 1 0 (count_at lifts i + 1) 0 (omega arith),
        drop-set-lt 2 (block 18 i lifts) 1 (count_at lifts i + 1) (lit< tt),
      ))
      (λ e. ap (λ ws. places_in (get_or ws 0 0) (drop 2 ws)) (raised_other j (eqb-false j i e)))

  pub raised_order : (new : Bool) (nets : List ℤ) (j : ℕ) → order_in new nets (raised_count lifts i) j ≡ order_in new nets lifts j
  raised_order new nets j = same_lifts new lifts (raised_count lifts i) j nets (raised_lifts j)

-- A commit's lift

-- one pair more behind n of them
places_more : (n : ℕ) (ws : List ℕ) (o v : ℕ) → 2 * n + 1 < length ws →
    places_in (suc n) (set (set ws (2 * n) o) (2 * n + 1) v) ≡ places_in n ws ++ (lift_of o v ∷ [])
places_more n [] o v h = absurd (omega arith)
places_more n (x ∷ []) o v h = absurd (omega arith)
places_more zero (x ∷ y ∷ ws) o v h = refl
places_more (suc n) (x ∷ y ∷ ws) o v h =
    let e : 2 * suc n ≡ suc (suc (2 * n)) = omega arith in
    let q : suc (suc (2 * n)) + 1 ≡ suc (suc (2 * n + 1)) = omega arith in
    rw (e, q) (ap (λ ls. lift_of x y ∷ ls) (places_more n ws o v (omega arith)))

module _ (lifts : List ℕ) (i : ℕ) (l : Lift) (few : lift_number lifts i < 8) where
  abbrev n : ℕ
  n = lift_number lifts i

  abbrev words : List ℕ
  words = block 18 i lifts

  abbrev counted : List ℕ
  counted = set (set words 1 (count_at lifts i + 1)) 0 (n + 1)

  abbrev stored : List ℕ
  stored = set (set counted (2 * n + 2) l.old) (2 * n + 3) l.new

  words_lifted : block 18 i (with_lift lifts i l) ≡ stored
  words_lifted =
      let c₁ = raised_count lifts i in
      let c₂ = set c₁ (lift_cell i 0) (n + 1) in
      let c₃ = set c₂ (lift_cell i (2 * n + 2)) l.old in
      rw (
        block_same 18 c₃ i (2 * n + 3) l.new (omega arith),
        block_same 18 c₂ i (2 * n + 2) l.old (omega arith),
        block_same 18 c₁ i 0 (n + 1) (lit< tt),
        block_same 18 lifts i 1 (count_at lifts i + 1) (lit< tt),
      )

  -- no other issue's words change
  pub lift_other : (j : ℕ) → (j ≡ i → ⊥) → block 18 j (with_lift lifts i l) ≡ block 18 j lifts
  lift_other j ne =
      let c₁ = raised_count lifts i in
      let c₂ = set c₁ (lift_cell i 0) (n + 1) in
      let c₃ = set c₂ (lift_cell i (2 * n + 2)) l.old in
      block_other 18 c₃ i (2 * n + 3) j l.new (omega arith) ne
      ∙ block_other 18 c₂ i (2 * n + 2) j l.old (omega arith) ne
      ∙ block_other 18 c₁ i 0 j (n + 1) (lit< tt) ne
      ∙ raised_other lifts i j ne

  module _ (h : length lifts ≡ 288) (k : i < 16) where
    long : length words ≡ 18
    long = length_lift_words lifts i h k

    number_words : get_or stored 0 0 ≡ n + 1
    number_words =
        get_or-set_other (set counted (2 * n + 2) l.old) (2 * n + 3) 0 l.new 0 (omega arith)
        ∙ get_or-set_other counted (2 * n + 2) 0 l.old 0 (omega arith)
        ∙ get_or-set_same (set words 1 (count_at lifts i + 1)) 0 (n + 1) 0 (rw length-set (omega (arith, long)))

    -- one lift more, and the count rises by 1
    pub lift_number_lem : lift_number (with_lift lifts i l) i ≡ lift_number lifts i + 1
    lift_number_lem = ap (λ ws. get_or ws 0 0) words_lifted ∙ number_words

    pub lift_count : count_at (with_lift lifts i l) i ≡ count_at lifts i + 1
    lift_count =
        ap (λ ws. get_or ws 1 0) words_lifted
        ∙ get_or-set_other (set counted (2 * n + 2) l.old) (2 * n + 3) 1 l.new 0 (omega arith)
        ∙ get_or-set_other counted (2 * n + 2) 1 l.old 0 (omega arith)
        ∙ get_or-set_other (set words 1 (count_at lifts i + 1)) 0 1 (n + 1) 0 (omega arith)
        ∙ get_or-set_same words 1 (count_at lifts i + 1) 0 (omega (arith, long))

    places_words : drop 2 stored ≡ set (set (drop 2 words) (2 * n) l.old) (2 * n + 1) l.new
    places_words =
        let e₂ : 2 * n + 2 ≡ 2 + 2 * n = omega arith in
        let e₃ : 2 * n + 3 ≡ 2 + (2 * n + 1) = omega arith in
        rw (
          e₂,
          e₃,
          drop-set-add 2 (set counted (2 + 2 * n) l.old) (2 * n + 1) l.new,
          drop-set-add 2 counted (2 * n) l.old,
          drop-set-lt 2 (set words 1 (count_at lifts i + 1)) 0 (n + 1) (lit< tt),
          drop-set-lt 2 words 1 (count_at lifts i + 1) (lit< tt),
        )

    pub lift_lifts : lifts_at (with_lift lifts i l) i ≡ lifts_at lifts i ++ (l ∷ [])
    lift_lifts =
        let one : n + 1 ≡ suc n = omega arith in
        ap (λ ws. places_in (get_or ws 0 0) (drop 2 ws)) words_lifted
        ∙ ap (λ m. places_in m (drop 2 stored)) (number_words ∙ one)
        ∙ ap (places_in (suc n)) places_words
        ∙ places_more n (drop 2 words) l.old l.new (rw length-drop (omega (arith, long)))

    -- so the order is lifted once more
    pub lift_in_order : (new : Bool) (nets : List ℤ) → order_in new nets (with_lift lifts i l) i ≡ lift l (order_in new nets lifts i)
    unfolding order_in
    lift_in_order new nets =
        ap (λ ls. lifted ls (units_by new (row i nets))) lift_lifts
        ∙ lifted_last (lifts_at lifts i) l (units_by new (row i nets))

-- A column of zeros has no lift, and counts none

module _ (i n : ℕ) where
  zero_words : Every (λ (w : ℕ). w ≡ 0) (block 18 i (replicate n 0))
  zero_words =
      each_take (λ (w : ℕ). w ≡ 0) 18 (drop (i * 18) (replicate n 0))
      (each_drop (λ (w : ℕ). w ≡ 0) (i * 18) (replicate n 0) (each_replicate (λ (w : ℕ). w ≡ 0) n 0 refl))

  pub no_number : lift_number (replicate n 0) i ≡ 0
  no_number = each_get_or (λ (w : ℕ). w ≡ 0) (block 18 i (replicate n 0)) 0 0 zero_words refl

  pub no_count : count_at (replicate n 0) i ≡ 0
  no_count = each_get_or (λ (w : ℕ). w ≡ 0) (block 18 i (replicate n 0)) 1 0 zero_words refl

  pub no_lifts : lifts_at (replicate n 0) i ≡ []
  no_lifts = ap (λ m. places_in m (drop 2 (block 18 i (replicate n 0)))) no_number
