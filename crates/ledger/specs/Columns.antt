-- Five columns that hold a list of entries, and stores into them.
use Rattle.std.specs.Prelude.{◌≡◌, cond, List, [], ◌∷◌, ◌++◌, ℕ, ◌-◌, ◌≤◌, length, get_or, set, take, drop, replicate}
use Rattle.rules.specs.declared.Entry.{Entry}
use Rattle.rules.specs.Measures.{most_entries}
use Rattle.rules.specs.Ledger.{entry}
use Rattle.rules.specs.Book.{is_zero, column, entries}
use Rattle.columns.specs.declared.SharedLedger.{SharedLedger}
use Rattle.ledger.specs.declared.Ledger.{Ledger}

-- the entry that stands at a place of five columns
abbrev pub entry_at : ℕ → List ℕ → List ℕ → List ℕ → List ℕ → List ℕ → Entry
entry_at k is fs ts xs ds = entry (get_or is k 0) (get_or fs k 0) (get_or ts k 0) (get_or xs k 0) (get_or ds k 0)

-- something holds of each column, with the number of an entry that stands in it
pub record EachColumn (P : (Entry → ℕ) → List ℕ → Type 0) (is fs ts xs ds : List ℕ) : Type 0 where
  pub issues : P (λ e. e.issue) is
  pub froms : P (λ e. e.from) fs
  pub tos : P (λ e. e.to) ts
  pub lotss : P (λ e. e.lots) xs
  pub dayss : P (λ e. e.day) ds

-- the same of each column before and after
pub record EachPair (P : (Entry → ℕ) → List ℕ → List ℕ → Type 0) (i₀ f₀ t₀ x₀ d₀ i f t x d : List ℕ) : Type 0 where
  pub issues : P (λ e. e.issue) i₀ i
  pub froms : P (λ e. e.from) f₀ f
  pub tos : P (λ e. e.to) t₀ t
  pub lotss : P (λ e. e.lots) x₀ x
  pub dayss : P (λ e. e.day) d₀ d

-- the columns of a ledger, 0 where they are not used
abbrev pub Columns : List Entry → List ℕ → List ℕ → List ℕ → List ℕ → List ℕ → Type 0
Columns es is fs ts xs ds = EachColumn (λ g c. c ≡ column g es) is fs ts xs ds

-- whole columns
abbrev pub Whole : List ℕ → List ℕ → List ℕ → List ℕ → List ℕ → Type 0
Whole is fs ts xs ds = EachColumn (λ g c. length c ≡ most_entries) is fs ts xs ds

-- the first n entries of five columns are a ledger, and the columns are that ledger's
pub record Held (n : ℕ) (is fs ts xs ds : List ℕ) : Type 0 where
  pub most : n ≤ most_entries
  pub whole : Whole is fs ts xs ds
  pub columns : Columns (entries n is fs ts xs ds) is fs ts xs ds

-- an entry stored at a place
abbrev pub Stored : ℕ → Entry → List ℕ → List ℕ → List ℕ → List ℕ → List ℕ → List ℕ → List ℕ → List ℕ → List ℕ → List ℕ → Type 0
Stored at e i₀ f₀ t₀ x₀ d₀ i f t x d = EachPair (λ g c₀ c. c ≡ set c₀ at (g e)) i₀ f₀ t₀ x₀ d₀ i f t x d

-- places from n on are 0 in whole columns
pub record Unused (n : ℕ) (is fs ts xs ds : List ℕ) : Type 0 where
  pub most : n ≤ most_entries
  pub whole : Whole is fs ts xs ds
  pub zeros : EachColumn (λ g c. drop n c ≡ replicate (most_entries - n) 0) is fs ts xs ds

-- places from n on made 0, those before kept
abbrev pub Cleared : ℕ → List ℕ → List ℕ → List ℕ → List ℕ → List ℕ → List ℕ → List ℕ → List ℕ → List ℕ → List ℕ → Type 0
Cleared n i₀ f₀ t₀ x₀ d₀ i f t x d = EachPair (λ g c₀ c. c ≡ take n c₀ ++ replicate (most_entries - n) 0) i₀ f₀ t₀ x₀ d₀ i f t x d

-- a ledger of so many entries, and its columns
pub record Kept (es : List Entry) (n : ℕ) (is fs ts xs ds : List ℕ) : Type 0 where
  pub count : n ≡ length es
  pub columns : Columns es is fs ts xs ds

-- entries at 0 go
abbrev pub without_zeros : List Entry → List Entry
without_zeros [] = []
without_zeros (e ∷ es) = cond (is_zero e.lots) (without_zeros es) (e ∷ without_zeros es)

-- By name, of the columns that are lent

-- their numbers
abbrev pub whole : Ledger → Type 0
whole l = Whole l.issues.now l.froms.now l.tos.now l.lots.now l.days.now

abbrev pub unused : ℕ → Ledger → Type 0
unused n l = Unused n l.issues.now l.froms.now l.tos.now l.lots.now l.days.now

abbrev pub held : ℕ → Ledger → Type 0
held n l = Held n l.issues.now l.froms.now l.tos.now l.lots.now l.days.now

-- the first n entries
abbrev pub entries_in : ℕ → Ledger → List Entry
entries_in n l = entries n l.issues.now l.froms.now l.tos.now l.lots.now l.days.now

abbrev pub kept : List Entry → ℕ → Ledger → Type 0
kept es n l = Kept es n l.issues.now l.froms.now l.tos.now l.lots.now l.days.now

-- what changed from columns before to columns after
abbrev pub changed :
    (List ℕ → List ℕ → List ℕ → List ℕ → List ℕ → List ℕ → List ℕ → List ℕ → List ℕ → List ℕ → Type 0) →
    Ledger → Ledger → Type 0
changed P a b =
    P a.issues.now a.froms.now a.tos.now a.lots.now a.days.now b.issues.now b.froms.now b.tos.now b.lots.now b.days.now

-- The same of columns that are only read: their numbers, the entry at a place, the first n entries

abbrev pub shared_whole : SharedLedger → Type 0
shared_whole l = Whole l.issues.now l.froms.now l.tos.now l.lots.now l.days.now

abbrev pub shared_place : ℕ → SharedLedger → Entry
shared_place k l = entry_at k l.issues.now l.froms.now l.tos.now l.lots.now l.days.now

abbrev pub shared_entries : ℕ → SharedLedger → List Entry
shared_entries n l = entries n l.issues.now l.froms.now l.tos.now l.lots.now l.days.now

-- columns that are only read are those of a ledger
pub record Reads (s : SharedLedger) (l : Ledger) : Type 0 where
  pub issues : s.issues.now ≡ l.issues.now
  pub froms : s.froms.now ≡ l.froms.now
  pub tos : s.tos.now ≡ l.tos.now
  pub lots : s.lots.now ≡ l.lots.now
  pub days : s.days.now ≡ l.days.now

-- the same columns: what a function writes behind them reaches who lent them
pub record Same (a b : Ledger) : Type 0 where
  pub issues : b.issues.ghost_name ≡ a.issues.ghost_name
  pub froms : b.froms.ghost_name ≡ a.froms.ghost_name
  pub tos : b.tos.ghost_name ≡ a.tos.ghost_name
  pub lots : b.lots.ghost_name ≡ a.lots.ghost_name
  pub days : b.days.ghost_name ≡ a.days.ghost_name
