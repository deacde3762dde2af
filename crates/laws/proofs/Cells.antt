-- Cells and rows of a list of 16 times 64, or of any width: what a store at one cell does to the others, to its row and
-- to a sum. A store at i * 64 + a is one at a in the part that begins at i * 64.
use mathlib.Core.Path.{◌≡◌, refl, sym, ap, ◌∙◌}
use mathlib.Core.Bool.{Bool, true, false, cond, ◌&&◌, false≢true}
use mathlib.Core.List.{List, [], ◌∷◌}
use Prim.Native.Nat.{ℕ, zero, suc, ◌+◌, ◌-◌, ◌*◌, ◌≤◌, ◌<◌}
use native.Mathlib.Omega.{arith}
use native.Mathlib.Nat.{zero-add, mul-le-mul_right}
use lib.Dec.{leb, ltb, eqb}
use lib.ListN.{length, get_or, set, take, drop, replicate, length-take, length-drop, length-map, get_or-map}
use lib.Seq.{drop-set-add, take-set-lt, take-set-le, drop-set-lt, get_or-set_other, get_or-set_same, get_or-take, get_or-drop, ext_get_or}
use lib.IntN.{ℤ, pos}
use borrow.Author.Tests.{ltb-true, ltb-false, eqb-true, eq-eqb, le-leb}
use Rattle.rules.specs.Measures.{total, sum, due_of, owed_of}
use Rattle.rules.specs.Book.{tabulate, block, row, cell, dues_of, obligations_of, net_at, delivered_at, delivered_total, within_owed, all, is_zero}
use Rattle.laws.proofs.Basics.{by_test, and_left, and_right, and_both, length_tab, get_or_tab, total_replicate, total_take_le, total_drop_le, Every}

-- is it this issue and this account?
abbrev pub here : ℕ → ℕ → ℕ → ℕ → Bool
here i a j c = eqb j i && eqb c a

pub here_eq : (i a j c : ℕ) → here i a j c ≡ true → (j ≡ i) × (c ≡ a)
here_eq i a j c h =
    (eqb-true j i (and_left (eqb j i) (eqb c a) h), eqb-true c a (and_right (eqb j i) (eqb c a) h))

pub here_ne : (i a j c : ℕ) → here i a j c ≡ false → a < 64 → c < 64 → cell j c ≡ cell i a → ⊥
here_ne i a j c h ha hc e =
    let q : j ≡ i = omega arith in
    let r : c ≡ a = omega arith in
    false≢true (sym h ∙ and_both (eqb j i) (eqb c a) (eq-eqb j i q) (eq-eqb c a r))

module _ {ℓ} {A : Type ℓ} where
  -- a store at one cell, seen at another
  pub cell_set : (l : List A) (i a j c : ℕ) (v d : A) → cell i a < length l → a < 64 → c < 64 →
      get_or (set l (cell i a) v) (cell j c) d ≡ cond (here i a j c) v (get_or l (cell j c) d)
  cell_set l i a j c v d k ha hc =
      by_test (here i a j c)
      (λ e.
      let q = here_eq i a j c e in
      let n : cell j c ≡ cell i a = omega arith in
      simp (e, n) (get_or-set_same l (cell i a) v d k))
      (λ e. simp e (get_or-set_other l (cell i a) (cell j c) v d (here_ne i a j c e ha hc)))

  -- the words of an issue, in a column that has so many of each
  pub length_block : (w : ℕ) (l : List A) (i : ℕ) → i * w + w ≤ length l → length (block w i l) ≡ w
  length_block w l i h = simp (length-take, length-drop) (omega arith)

  pub get_or_block : (w : ℕ) (l : List A) (i a : ℕ) (d : A) → a < w → get_or (block w i l) a d ≡ get_or l (i * w + a) d
  get_or_block w l i a d h = get_or-take w (drop (i * w) l) a d h ∙ get_or-drop (i * w) l a d

  -- a store in an issue's words, and in another's
  pub block_same : (w : ℕ) (l : List A) (i a : ℕ) (v : A) → a < w → block w i (set l (i * w + a) v) ≡ set (block w i l) a v
  block_same w l i a v h = rw (drop-set-add (i * w) l a v, take-set-lt w (drop (i * w) l) a v h)

  pub block_other : (w : ℕ) (l : List A) (i a j : ℕ) (v : A) → a < w → (j ≡ i → ⊥) → block w j (set l (i * w + a) v) ≡ block w j l
  block_other w l i a j v h ne =
      by_test (ltb j i)
      (λ e.
      let k : suc j * w ≤ i * w = mul-le-mul_right w (ltb-true j i e) in
      let m = i * w + a - j * w in
      let q : i * w + a ≡ j * w + m = omega arith in
      rw (q, drop-set-add (j * w) l m v, take-set-le w (drop (j * w) l) m v (omega arith)) refl)
      (λ e.
      let k : suc i * w ≤ j * w = mul-le-mul_right w (let n = ltb-false j i e in omega arith) in
      ap (take w) (drop-set-lt (j * w) l (i * w + a) v (omega arith)))

  -- an issue's row
  pub length_row : (l : List A) (i : ℕ) → length l ≡ 1024 → i < 16 → length (row i l) ≡ 64
  length_row l i h k = length_block 64 l i (omega arith)

  pub get_or_row : (l : List A) (i a : ℕ) (d : A) → a < 64 → get_or (row i l) a d ≡ get_or l (cell i a) d
  get_or_row = get_or_block 64

  pub row_same : (l : List A) (i a : ℕ) (v : A) → a < 64 → row i (set l (cell i a) v) ≡ set (row i l) a v
  row_same = block_same 64

  pub row_other : (l : List A) (i a j : ℕ) (v : A) → a < 64 → (j ≡ i → ⊥) → row j (set l (cell i a) v) ≡ row j l
  row_other = block_other 64

  -- a row is the table of its cells
  pub tab_row : (f : ℕ → A) (l : List A) (i : ℕ) (d : A) → length l ≡ 1024 → i < 16 →
      ((a : ℕ) → a < 64 → f a ≡ get_or l (cell i a) d) → tabulate f 0 64 ≡ row i l
  tab_row f l i d h k e =
      ext_get_or d (tabulate f 0 64) (row i l) (length_tab f 0 64 ∙ sym (length_row l i h k))
      (λ a q.
      let b : a < 64 = omega (arith, length_tab f 0 64) in
      get_or_tab f 0 64 a d b ∙ ap f (zero-add a) ∙ e a b ∙ sym (get_or_row l i a d b))

  -- a sum after a store
  pub total_set : (f : A → ℕ) (l : List A) (i : ℕ) (v d : A) → i < length l →
      total f (set l i v) + f (get_or l i d) ≡ total f l + f v
  total_set f [] i v d h = omega arith
  total_set f (x ∷ xs) zero v d h = omega arith
  total_set f (x ∷ xs) (suc i) v d h = omega (arith, total_set f xs i v d (omega arith))

  pub each_set : (P : A → Type 0) (l : List A) (k : ℕ) (v : A) → Every P l → P v → Every P (set l k v)
  each_set P [] k v p q = p
  each_set P (x ∷ xs) zero v p q = (q, p.1)
  each_set P (x ∷ xs) (suc k) v p q = (p.0, each_set P xs k v p.1 q)

-- an issue's delivered total after x more lots
pub delivered_rises : (l : List ℕ) (i a x : ℕ) → length l ≡ 1024 → i < 16 → a < 64 →
    delivered_total (set l (cell i a) (delivered_at l i a + x)) i ≡ delivered_total l i + x
delivered_rises l i a x h k ha =
    let v = delivered_at l i a + x in
    omega (
      arith,
      ap sum (row_same l i a v ha),
      total_set (λ n. n) (row i l) a v 0 (omega (arith, length_row l i h k)),
      get_or_row l i a 0 ha,
    )

-- the lots due to an account and those it owes, in its issue's lists
pub due_at : (nets : List ℤ) (i a : ℕ) → a < 64 → get_or (dues_of nets i) a 0 ≡ due_of (net_at nets i a)
due_at nets i a h = get_or-map due_of (row i nets) a (pos 0) ∙ ap due_of (get_or_row nets i a (pos 0) h)

pub owed_at : (nets : List ℤ) (i a : ℕ) → a < 64 → get_or (obligations_of nets i) a 0 ≡ owed_of (net_at nets i a)
owed_at nets i a h = get_or-map owed_of (row i nets) a (pos 0) ∙ ap owed_of (get_or_row nets i a (pos 0) h)

pub length_dues : (nets : List ℤ) (i : ℕ) → length nets ≡ 1024 → i < 16 → length (dues_of nets i) ≡ 64
length_dues nets i n h = length-map (row i nets) due_of ∙ length_row nets i n h

pub length_oweds : (nets : List ℤ) (i : ℕ) → length nets ≡ 1024 → i < 16 → length (obligations_of nets i) ≡ 64
length_oweds nets i n h = length-map (row i nets) owed_of ∙ length_row nets i n h

-- a row of zeros
pub row_zeros : (i n : ℕ) → delivered_total (replicate n 0) i ≡ 0
row_zeros i n =
    omega (
      arith,
      total_take_le (λ x. x) 64 (drop (i * 64) (replicate n 0)),
      total_drop_le (λ x. x) (i * 64) (replicate n 0),
      total_replicate (λ x. x) n 0,
    )

-- Delivered lots within what is owed: of parts, after a store, and where they are 0

within_nothing : (ms : List ℤ) → within_owed ms [] ≡ true
within_nothing [] = refl
within_nothing (m ∷ ms) = refl

pub within_drop : (n : ℕ) (ns : List ℤ) (ds : List ℕ) → within_owed ns ds ≡ true → within_owed (drop n ns) (drop n ds) ≡ true
within_drop zero ns ds h = h
within_drop (suc n) [] ds h = refl
within_drop (suc n) (x ∷ ns) [] h = within_nothing (drop n ns)
within_drop (suc n) (x ∷ ns) (d ∷ ds) h = within_drop n ns ds (and_right (leb d (owed_of x)) (within_owed ns ds) h)

pub within_take : (n : ℕ) (ns : List ℤ) (ds : List ℕ) → within_owed ns ds ≡ true → within_owed (take n ns) (take n ds) ≡ true
within_take zero ns ds h = refl
within_take (suc n) [] ds h = refl
within_take (suc n) (x ∷ ns) [] h = refl
within_take (suc n) (x ∷ ns) (d ∷ ds) h =
    and_both (leb d (owed_of x)) (within_owed (take n ns) (take n ds)) (and_left (leb d (owed_of x)) (within_owed ns ds) h)
    (within_take n ns ds (and_right (leb d (owed_of x)) (within_owed ns ds) h))

pub within_row : (i : ℕ) (ns : List ℤ) (ds : List ℕ) → within_owed ns ds ≡ true → within_owed (row i ns) (row i ds) ≡ true
within_row i ns ds h = within_take 64 (drop (i * 64) ns) (drop (i * 64) ds) (within_drop (i * 64) ns ds h)

pub within_set : (ns : List ℤ) (ds : List ℕ) (k v : ℕ) → within_owed ns ds ≡ true → v ≤ owed_of (get_or ns k (pos 0)) →
    within_owed ns (set ds k v) ≡ true
within_set [] ds k v h q = refl
within_set (n ∷ ns) [] k v h q = refl
within_set (n ∷ ns) (d ∷ ds) zero v h q =
    and_both (leb v (owed_of n)) (within_owed ns ds) (le-leb v (owed_of n) q) (and_right (leb d (owed_of n)) (within_owed ns ds) h)
within_set (n ∷ ns) (d ∷ ds) (suc k) v h q =
    and_both (leb d (owed_of n)) (within_owed ns (set ds k v)) (and_left (leb d (owed_of n)) (within_owed ns ds) h)
    (within_set ns ds k v (and_right (leb d (owed_of n)) (within_owed ns ds) h) q)

pub within_zeros : (ns : List ℤ) (ds : List ℕ) → all is_zero ds ≡ true → within_owed ns ds ≡ true
within_zeros [] ds h = refl
within_zeros (n ∷ ns) [] h = refl
within_zeros (n ∷ ns) (d ∷ ds) h =
    let z = eqb-true d 0 (and_left (is_zero d) (all is_zero ds) h) in
    and_both (leb d (owed_of n)) (within_owed ns ds) (le-leb d (owed_of n) (omega arith))
    (within_zeros ns ds (and_right (is_zero d) (all is_zero ds) h))
