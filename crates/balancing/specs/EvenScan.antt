-- The scan of marked issues: their cells, and their entries.
use Rattle.std.specs.Prelude.{Bool, true, ◌&&◌, List, [], ◌∷◌, ℕ, ℤ, nat_abs}
use Rattle.rules.specs.Measures.{issue_count}
use Rattle.rules.specs.Book.{tabulate, all, entries, is_even, lots_even, cells_even, entry_even}

-- nets and delivered lots of an issue
unfoldable pub row_even : List ℤ → List ℕ → Bool
row_even ns ds = all (λ n. is_even (nat_abs n)) ns && all is_even ds

-- those of all marked issues
unfoldable pub all_cells : List ℕ → List ℤ → List ℕ → Bool
all_cells marks ns ds = all (cells_even marks ns ds) (tabulate (λ i. i) 0 issue_count)

-- and the lots of their entries: accounts and days do not matter
unfoldable pub all_lots : List ℕ → ℕ → List ℕ → List ℕ → Bool
all_lots marks n is xs = all (entry_even marks) (entries n is [] [] xs [])

-- the same of issues beside lots
abbrev pub pairs_even : List ℕ → List ℕ → List ℕ → Bool
pairs_even marks [] xs = true
pairs_even marks (i ∷ is) [] = true
pairs_even marks (i ∷ is) (x ∷ xs) = lots_even marks i x && pairs_even marks is xs
