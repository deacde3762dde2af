-- Steps along the runs.
use mathlib.Core.Path.{◌≡◌, ap}
use mathlib.Core.List.{List, [], ◌∷◌, map}
use Prim.Native.Nat.{ℕ, zero, suc, ◌+◌, ◌-◌, ◌*◌, ◌/◌, ◌%◌, ◌≤◌, ◌<◌}
use native.Mathlib.Omega.{arith}
use native.Mathlib.Nat.{div-mul-le_self, mul-le-mul_right}
use lib.Dec.{leb, eqb}
use lib.ListN.{length, get_or, set, drop}
use lib.Seq.{get_or-set_same, get_or-set_other}
use borrow.Author.Tests.{leb-true, leb-false, eqb-true, eqb-false}
use Rattle.rules.specs.Measures.{sum}
use Rattle.rules.specs.Book.{row, delivered_total}
use Rattle.laws.proofs.Basics.{by_test}
use Rattle.laws.proofs.Cells.{get_or_row}
use Rattle.runs.specs.Runs.{part_of}
use Rattle.std.proofs.lemmas.List.{at_drop_more}
use Rattle.joining.specs.Runs.{handed_of, added_at, joined_runs}
use Rattle.simulation.proofs.Leaps.{div_grows}

-- a larger total hands over at least as much, and never more than there is
pub handed_grows : (size lots b e : ℕ) → 0 < size → b ≤ e → handed_of size lots b ≤ handed_of size lots e
unfolding handed_of
handed_grows size lots b e p le =
    by_test (leb lots e)
    (λ t.
    simp t
    (by_test (leb lots b)
    (λ q. simp q (omega arith))
    (λ q. simp q (omega (arith, leb-false lots b q, div-mul-le_self b size)))))
    (λ t.
    simp t
    (by_test (leb lots b)
    (λ q. absurd (omega (arith, leb-true lots b q, leb-false lots e t)))
    (λ q. simp q (mul-le-mul_right size (div_grows b e size p le)))))

pub handed_rest : (size lots e : ℕ) → handed_of size lots e + (e - lots) ≤ e
unfolding handed_of
handed_rest size lots e =
    by_test (leb lots e)
    (λ t. simp t (omega (arith, leb-true lots e t)))
    (λ t. simp t (omega (arith, leb-false lots e t, div-mul-le_self e size)))

-- a run more
pub join_step : (settles : List ℕ) (size i : ℕ) (runs : List ℕ) (j b e : ℕ) (v : List ℕ) → j < length runs →
    let lots = get_or runs j 0 / 64 in
    joined_runs settles size i (map part_of (drop j runs)) b e v
    ≡ joined_runs settles size i (map part_of (drop (j + 1) runs)) (b - lots) (e - lots)
    (added_at v i (get_or settles (get_or runs j 0 % 64) 0) (handed_of size lots e - handed_of size lots b))
join_step settles size i runs j b e v h = at_drop_more (λ ks. joined_runs settles size i (map part_of ks) b e v) runs j 0 h

-- inventories stay small
pub added_small : (v : List ℕ) (k g e r : ℕ) → k < length v → ((c : ℕ) → get_or v c 0 + e < 4294967296) → g + r ≤ e →
    (c : ℕ) → get_or (set v k (get_or v k 0 + g)) c 0 + r < 4294967296
added_small v k g e r h s q c =
    by_test (eqb c k)
    (λ t.
    let z = eqb-true c k t in
    omega (arith, s k, ap (λ m. get_or (set v k (get_or v k 0 + g)) m 0) z, get_or-set_same v k (get_or v k 0 + g) 0 h))
    (λ t. omega (arith, s c, get_or-set_other v k c (get_or v k 0 + g) 0 (eqb-false c k t)))

-- an inventory that falls stays small, and a cell is at most its row
pub lowered_small : (v : List ℕ) (k x e : ℕ) → k < length v → ((c : ℕ) → get_or v c 0 < 2000000000) → e < 2000000000 →
    (c : ℕ) → get_or (set v k (get_or v k 0 - x)) c 0 + e < 4294967296
lowered_small v k x e h s q c =
    by_test (eqb c k)
    (λ t.
    let z = eqb-true c k t in
    omega (arith, s k, ap (λ m. get_or (set v k (get_or v k 0 - x)) m 0) z, get_or-set_same v k (get_or v k 0 - x) 0 h))
    (λ t. omega (arith, s c, get_or-set_other v k c (get_or v k 0 - x) 0 (eqb-false c k t)))

pub one_of : (l : List ℕ) (c : ℕ) → get_or l c 0 ≤ sum l
one_of [] c = omega arith
one_of (x ∷ xs) zero = omega arith
one_of (x ∷ xs) (suc c) = omega (arith, one_of xs c)

pub cell_total : (l : List ℕ) (i a : ℕ) → a < 64 → get_or l (i * 64 + a) 0 ≤ delivered_total l i
cell_total l i a h = omega (arith, one_of (row i l) a, get_or_row l i a 0 h)
