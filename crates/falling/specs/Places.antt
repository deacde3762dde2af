-- Places in a ledger whose entries fall where they stand: the first that is not at 0, and two that fall.
use Rattle.std.specs.Prelude.{◌≡◌, Bool, false, cond, List, [], ◌∷◌, ℕ, suc, ◌-◌, ◌≤◌, ◌<◌, min, ltb, length, get_or, set, Option, Some, None}
use Rattle.rules.specs.declared.Entry.{Entry}
use Rattle.rules.specs.Measures.{most_entries}
use Rattle.rules.specs.Ledger.{is_to}
use Rattle.rules.specs.Book.{is_zero, entries}
use Rattle.book.specs.States as book

-- an entry that passes and is not at 0
abbrev pub is_left : (Entry → Bool) → Entry → Bool
is_left p e = cond (is_zero e.lots) false (p e)

-- the place of the first entry that passes, the length where none does
abbrev pub place_of : (Entry → Bool) → List Entry → ℕ
place_of p [] = 0
place_of p (e ∷ es) = cond (p e) 0 (suc (place_of p es))

-- the place of the first that is left, by columns of issues, accounts and lots
abbrev pub next_in : ℕ → List ℕ → List ℕ → List ℕ → ℕ → ℕ → ℕ
next_in n is cs xs i a = place_of (is_left (is_to i a)) (entries n is [] cs xs [])

-- it is not before place k
pub record CanSeek (n k i a : ℕ) (is cs xs : List ℕ) : Type 0 where
  pub most : n ≤ most_entries
  pub issues : length is ≡ most_entries
  pub accounts : length cs ≡ most_entries
  pub lotss : length xs ≡ most_entries
  pub start : k ≤ next_in n is cs xs i a
  pub inside : k ≤ n

-- two places, and the entries whose lots stand there
pub record CanFall (t : ℕ) (d : Entry) (f : ℕ) (e : Entry) (xs : List ℕ) : Type 0 where
  pub to : t < length xs
  pub lots_to : d.lots ≡ get_or xs t 0
  pub from : f < length xs
  pub lots_from : e.lots ≡ get_or xs f 0

-- the entries there fell by m, the smaller of their lots
pub record BothFell (t f m : ℕ) (xs xs' : List ℕ) : Type 0 where
  pub smaller : m ≡ min (get_or xs t 0) (get_or xs f 0)
  pub lots : xs' ≡ set (set xs f (get_or xs f 0 - m)) t (get_or xs t 0 - m)

-- place k, where it is one of n
abbrev pub within : ℕ → ℕ → Option ℕ
within n k = cond (ltb k n) (Some k) None

-- The same by name

abbrev pub can_seek : ℕ → ℕ → ℕ → ℕ → book.Shared ℕ → book.Shared ℕ → book.Shared ℕ → Type 0
can_seek n k i a issues accounts lots = CanSeek n k i a issues.now accounts.now lots.now

abbrev pub next_of : ℕ → ℕ → ℕ → Option ℕ → book.SharedColumn ℕ → book.SharedColumn ℕ → book.SharedColumn ℕ → Type 0
next_of n i a r issues accounts lots = r ≡ within n (next_in n issues.entry.now accounts.entry.now lots.entry.now i a)
