-- Places along columns: those where a test finds nothing, and the first where it finds something.
use Rattle.std.specs.Prelude.{◌≡◌, Bool, true, false, ◌&&◌, List, ℕ, ◌≤◌, ◌<◌, eqb, length, get_or, Option, Some, None}
use Rattle.book.specs.States as book

-- whether the entry at place k is of issue i and account a, by columns of issues and accounts
abbrev pub is_at : List ℕ → List ℕ → ℕ → ℕ → ℕ → Bool
is_at is cs i a k = eqb (get_or is k 0) i && eqb (get_or cs k 0) a

-- no place from s to before e passes
abbrev pub NoneIn : (ℕ → Bool) → ℕ → ℕ → Type 0
NoneIn t s e = (k : ℕ) → s ≤ k → k < e → t k ≡ false

-- r is a place from s to n, and none before it passes
pub record Passed (t : ℕ → Bool) (n s r : ℕ) : Type 0 where
  pub start : s ≤ r
  pub most : r ≤ n
  pub none : NoneIn t s r

-- r is the first place from s to before n that passes
pub record First (t : ℕ → Bool) (n s r : ℕ) : Type 0 where
  pub passed : Passed t n s r
  pub inside : r < n
  pub found : t r ≡ true

-- it is sought: the first that passes, or there is none up to n
abbrev pub Sought : (ℕ → Bool) → ℕ → ℕ → Option ℕ → Type 0
Sought t n s (Some r) = First t n s r
Sought t n s None = Passed t n s n

-- columns of issues and accounts can be looked at from place s to before n
pub record CanLook (n s : ℕ) (is cs : List ℕ) : Type 0 where
  pub start : s ≤ n
  pub issues : n ≤ length is
  pub accounts : n ≤ length cs

-- The same by name

abbrev pub can_look : ℕ → ℕ → book.Shared ℕ → book.Shared ℕ → Type 0
can_look n s issues accounts = CanLook n s issues.now accounts.now

abbrev pub none_of : ℕ → ℕ → ℕ → ℕ → book.SharedColumn ℕ → book.SharedColumn ℕ → Type 0
none_of s e i a issues accounts = NoneIn (is_at issues.entry.now accounts.entry.now i a) s e

abbrev pub passed_by : ℕ → ℕ → ℕ → ℕ → ℕ → book.SharedColumn ℕ → book.SharedColumn ℕ → Type 0
passed_by n s r i a issues accounts = Passed (is_at issues.entry.now accounts.entry.now i a) n s r

abbrev pub found_by : ℕ → ℕ → Option ℕ → ℕ → ℕ → book.SharedColumn ℕ → book.SharedColumn ℕ → Type 0
found_by n s r i a issues accounts = Sought (is_at issues.entry.now accounts.entry.now i a) n s r
