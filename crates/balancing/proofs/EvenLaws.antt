-- The scan of marked issues: a flag along an issue's cells and along entries; the table of marks.
use mathlib.Core.Path.{◌≡◌, refl, ap, sym, ◌∙◌}
use mathlib.Core.Bool.{Bool, true, false, ◌&&◌}
use mathlib.Core.List.{List, [], ◌∷◌, tail}
use Prim.Native.Nat.{ℕ, zero, suc, ◌+◌, ◌≤◌, ◌<◌}
use native.Mathlib.Omega.{arith}
use lib.Dec.{ltb, eqb}
use lib.ListN.{length, take, get_or, set, replicate, get_or-eq_default}
use lib.Seq.{get_or-set_same, get_or-set_other}
use borrow.Author.Tests.{ltb-true, ltb-false, lt-ltb, le-ltb, eqb-true, eqb-false}
use lib.IntN.{ℤ}
use Rattle.rules.specs.Measures.{issue_count}
use Rattle.rules.specs.Book.{tabulate, all, head_or0, entries, is_zero, is_marked, lots_even, cells_even, entry_even}
use Rattle.laws.proofs.Basics.{all_of, by_test}
use Rattle.laws.proofs.Sound.{zero_at_lem}
use Rattle.laws.proofs.Scans.{rest_of_issues}
use Rattle.balancing.specs.EvenScan.{all_cells, pairs_even, all_lots}

-- An issue's cells

-- an issue without a mark, and a marked one
pub cells_unmarked : (marks : List ℕ) (ns : List ℤ) (ds : List ℕ) (i : ℕ) → get_or marks i 0 ≡ 0 → true ≡ cells_even marks ns ds i
unfolding cells_even
cells_unmarked marks ns ds i h = rw h refl

pub cells_start : (marks : List ℕ) (ns : List ℤ) (ds : List ℕ) → rest_of_issues (cells_even marks ns ds) 0 ≡ all_cells marks ns ds
unfolding all_cells
cells_start marks ns ds = refl

-- where no issue is marked
pub cells_none : (marks : List ℕ) (ns : List ℤ) (ds : List ℕ) → all is_zero marks ≡ true → true ≡ all_cells marks ns ds
unfolding all_cells
cells_none marks ns ds h =
    sym (all_of (cells_even marks ns ds) (tabulate (λ i. i) 0 issue_count) 0 (λ i l. sym (cells_unmarked marks ns ds _ (zero_at_lem marks _ h))))

-- Entries

-- accounts and days do not matter
same_lots : (marks : List ℕ) (n : ℕ) (is fs ts xs ds gs us es : List ℕ) →
    all (entry_even marks) (entries n is fs ts xs ds) ≡ all (entry_even marks) (entries n is gs us xs es)
same_lots marks zero is fs ts xs ds gs us es = refl
same_lots marks (suc n) is fs ts xs ds gs us es =
    ap (λ t. lots_even marks (head_or0 is) (head_or0 xs) && t) (same_lots marks n (tail is) (tail fs) (tail ts) (tail xs) (tail ds) (tail gs) (tail us) (tail es))

pub lots_entries : (marks : List ℕ) (n : ℕ) (is fs ts xs ds : List ℕ) (r : Bool) → r ≡ all_lots marks n is xs →
    r ≡ all (entry_even marks) (entries n is fs ts xs ds)
unfolding all_lots
lots_entries marks n is fs ts xs ds r e = e ∙ same_lots marks n is [] [] xs [] fs ts ds

-- where no issue is marked every entry passes
none_asked : (marks : List ℕ) (n : ℕ) (is fs ts xs ds : List ℕ) → all is_zero marks ≡ true →
    true ≡ all (entry_even marks) (entries n is fs ts xs ds)
none_asked marks zero is fs ts xs ds h = refl
none_asked marks (suc n) is fs ts xs ds h =
    rw (zero_at_lem marks (head_or0 is) h) (none_asked marks n (tail is) (tail fs) (tail ts) (tail xs) (tail ds) h)

pub lots_unmarked : (marks : List ℕ) (n : ℕ) (is xs : List ℕ) → all is_zero marks ≡ true → true ≡ all_lots marks n is xs
unfolding all_lots
lots_unmarked marks n is xs h = none_asked marks n is [] [] xs [] h

-- issues beside lots are the entries
pub pairs_lots : (marks : List ℕ) (n : ℕ) (is xs : List ℕ) → n ≤ length is → n ≤ length xs →
    pairs_even marks (take n is) (take n xs) ≡ all_lots marks n is xs
unfolding all_lots
pairs_lots marks zero is xs h k = refl
pairs_lots marks (suc n) [] xs h k = absurd (omega arith)
pairs_lots marks (suc n) (i ∷ is) [] h k = absurd (omega arith)
pairs_lots marks (suc n) (i ∷ is) (x ∷ xs) h k = ap (λ t. lots_even marks i x && t) (pairs_lots marks n is xs (omega arith) (omega arith))

-- The table of marks: false throughout, an issue more, and all issues

false_at : (n j : ℕ) → get_or (replicate n false) j false ≡ false
false_at zero j = refl
false_at (suc n) zero = refl
false_at (suc n) (suc j) = false_at n j

pub table_empty : (marks : List ℕ) (n j : ℕ) → get_or (replicate n false) j false ≡ ltb j 0 && is_marked marks j
table_empty marks n j = rw (le-ltb j 0 (omega arith)) (false_at n j)

ltb_more : (i j : ℕ) → (j ≡ i → ⊥) → ltb j (i + 1) ≡ ltb j i
ltb_more i j ne =
    by_test (ltb j i)
    (λ t. rw t (lt-ltb j (i + 1) (omega (arith, ltb-true j i t))))
    (λ t. rw t (le-ltb j (i + 1) (omega (arith, ltb-false j i t))))

pub table_more : (marks : List ℕ) (table : List Bool) (i : ℕ) → i < length table →
    ((j : ℕ) → get_or table j false ≡ ltb j i && is_marked marks j) →
    (j : ℕ) → get_or (set table i (is_marked marks i)) j false ≡ ltb j (i + 1) && is_marked marks j
table_more marks table i h before j =
    by_test (eqb j i)
    (λ t. rw (eqb-true j i t, lt-ltb i (i + 1) (omega arith)) (get_or-set_same table i (is_marked marks i) false h))
    (λ t.
    let ne = eqb-false j i t in
    rw (ltb_more i j ne) (get_or-set_other table i j (is_marked marks i) false ne ∙ before j))

pub table_whole : (marks : List ℕ) (table : List Bool) (n : ℕ) → length marks ≡ n →
    ((j : ℕ) → get_or table j false ≡ ltb j n && is_marked marks j) →
    (j : ℕ) → get_or table j false ≡ is_marked marks j
table_whole marks table n h before j =
    before j
    ∙ by_test (ltb j n)
    (λ t. rw t refl)
    (λ t. rw (t, get_or-eq_default marks 0 {n = j} (omega (arith, h, ltb-false j n t))) refl)
