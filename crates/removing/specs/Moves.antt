-- Places of a column moved up, and a ledger whose entries at 0 stand in a part of it.
use Rattle.std.specs.Prelude.{◌≡◌, Bool, List, ◌++◌, ℕ, ◌+◌, ◌-◌, ◌≤◌, length, get_or, take, drop}
use Rattle.rules.specs.Book.{is_zero}
use Rattle.book.specs.States as book
use Rattle.ledger.specs.declared.Ledger.{Ledger}
use Rattle.ledger.specs.Columns.{EachColumn, EachPair, Held}
use Rattle.seeking.specs.Places.{NoneIn, Passed}

-- whether the entry at place k is at 0, by the column of lots
abbrev pub zero_at : List ℕ → ℕ → Bool
zero_at xs k = is_zero (get_or xs k 0)

-- a column can be looked at from place s to before n
pub record CanLookFor (n s : ℕ) (xs : List ℕ) : Type 0 where
  pub start : s ≤ n
  pub inside : n ≤ length xs

-- places s to before e can be moved up to place w
pub record CanMove {X : Type 0} (w s e : ℕ) (c : List X) : Type 0 where
  pub up : w ≤ s
  pub part : s ≤ e
  pub inside : e ≤ length c

-- and were; those from e on are kept
pub record Moved {X : Type 0} (w s e : ℕ) (c₀ c : List X) : Type 0 where
  pub whole : length c ≡ length c₀
  pub front : take (w + (e - s)) c ≡ take w c₀ ++ take (e - s) (drop s c₀)
  pub back : drop e c ≡ drop e c₀

-- in each column
abbrev pub CanMoveAll : ℕ → ℕ → ℕ → List ℕ → List ℕ → List ℕ → List ℕ → List ℕ → Type 0
CanMoveAll w s e i f t x d = EachColumn (λ g c. CanMove w s e c) i f t x d

abbrev pub can_move_all : ℕ → ℕ → ℕ → Ledger → Type 0
can_move_all w s e l = CanMoveAll w s e l.issues.now l.froms.now l.tos.now l.lots.now l.days.now

abbrev pub MovedAll : ℕ → ℕ → ℕ → List ℕ → List ℕ → List ℕ → List ℕ → List ℕ → List ℕ → List ℕ → List ℕ → List ℕ → List ℕ → Type 0
MovedAll w s e i₀ f₀ t₀ x₀ d₀ i f t x d = EachPair (λ g c₀ c. Moved w s e c₀ c) i₀ f₀ t₀ x₀ d₀ i f t x d

-- a ledger in its columns whose entries at 0 stand from place s to before e
pub record Removable (n s e : ℕ) (is fs ts xs ds : List ℕ) : Type 0 where
  pub held : Held n is fs ts xs ds
  pub part : s ≤ e
  pub inside : e ≤ n
  pub none_before : NoneIn (zero_at xs) 0 s
  pub none_behind : NoneIn (zero_at xs) e n

-- The same by name

abbrev pub can_look_for : ℕ → ℕ → book.Shared ℕ → Type 0
can_look_for n s lots = CanLookFor n s lots.now

abbrev pub none_at_zero : ℕ → ℕ → book.SharedColumn ℕ → Type 0
none_at_zero s e lots = NoneIn (zero_at lots.entry.now) s e

abbrev pub passed_zeros : ℕ → ℕ → ℕ → book.SharedColumn ℕ → Type 0
passed_zeros n s r lots = Passed (zero_at lots.entry.now) n s r

abbrev pub removable : ℕ → ℕ → ℕ → Ledger → Type 0
removable n s e l = Removable n s e l.issues.now l.froms.now l.tos.now l.lots.now l.days.now
