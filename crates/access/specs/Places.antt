-- An account's k-th entry in the columns of a ledger.
use Rattle.std.specs.Prelude.{◌≡◌, Bool, true, cond, ◌&&◌, List, [], ◌∷◌, ℕ, ◌-◌, ◌≤◌, ◌<◌, eqb, ℤ, length, get_or, drop, Option, Some, None}
use Rattle.rules.specs.declared.Caller.{Caller}
use Rattle.rules.specs.declared.Entry.{Entry}
use Rattle.rules.specs.Measures.{cell_count, account_count, most_entries, last_issue, last_account}
use Rattle.rules.specs.Book.{entries, net_at, LedgerLengths}
use Rattle.rules.specs.Questions.{first_no, ask_issue, ask_account}
use Rattle.rules.specs.Access.{may_read, with_right, LookAnswer, first_seen, look_answer, entries_at, charge_at}
use Rattle.columns.specs.declared.SharedLedger.{SharedLedger}

-- an entry's three numbers: is it one of issue i with account a at either end?
abbrev pub either_end : ℕ → ℕ → ℕ → ℕ → ℕ → Bool
either_end issue from to i a = cond (eqb issue i && eqb from a) true (eqb issue i && eqb to a)

-- the entries from place r on
abbrev pub entries_from : ℕ → ℕ → List ℕ → List ℕ → List ℕ → List ℕ → List ℕ → List Entry
entries_from r n is fs ts xs ds = entries (n - r) (drop r is) (drop r fs) (drop r ts) (drop r xs) (drop r ds)

-- r is the place of the k-th: the entries from there on are those after the first k, and it is one of them
pub record Placed (n : ℕ) (is fs ts : List ℕ) (i a k r : ℕ) : Type 0 where
  pub most : r ≤ n
  pub rest : (xs ds : List ℕ) → drop k (entries_at (entries n is fs ts xs ds) i a) ≡ entries_at (entries_from r n is fs ts xs ds) i a
  pub there : r < n → either_end (get_or is r 0) (get_or fs r 0) (get_or ts r 0) i a ≡ true

abbrev pub can_place : ℕ → SharedLedger → Type 0
can_place n l =
    (n ≤ most_entries) × (length l.issues.now ≡ most_entries) × (length l.froms.now ≡ most_entries) × (length l.tos.now ≡ most_entries)

-- the place found, if there is one; where there is none, no entry is left from place n on
pub record PlacedAt (n : ℕ) (is fs ts : List ℕ) (i a k r : ℕ) : Type 0 where
  pub within : r < n
  pub place : Placed n is fs ts i a k r

abbrev pub place_is : ℕ → List ℕ → List ℕ → List ℕ → ℕ → ℕ → ℕ → Option ℕ → Type 0
place_is n is fs ts i a k (Some r) = PlacedAt n is fs ts i a k r
place_is n is fs ts i a k None = Placed n is fs ts i a k n

abbrev pub placed : ℕ → SharedLedger → ℕ → ℕ → ℕ → Option ℕ → Type 0
placed n l i a k r = place_is n l.issues.now l.froms.now l.tos.now i a k r

-- what is seen of an account, from its columns
unfoldable pub seen_of : ℕ → List ℤ → List ℤ → SharedLedger → ℕ → ℕ → ℕ → LookAnswer
seen_of n nets charges l i a k =
    first_seen (net_at nets i a) (charge_at charges a)
    (drop k (entries_at (entries n l.issues.now l.froms.now l.tos.now l.lots.now l.days.now) i a))

-- columns of a book's lengths
pub record CanLook (n : ℕ) (ns cs : List ℤ) (l : SharedLedger) : Type 0 where
  pub most : n ≤ most_entries
  pub nets : length ns ≡ cell_count
  pub charges : length cs ≡ account_count
  pub ledger : LedgerLengths l.issues.now l.froms.now l.tos.now l.lots.now l.days.now

-- and an account of it
pub record CanSee (n : ℕ) (ns cs : List ℤ) (l : SharedLedger) (i a : ℕ) : Type 0 where
  pub columns : CanLook n ns cs l
  pub issue : i ≤ last_issue
  pub account : a ≤ last_account

-- the questions after soundness, and what is seen
unfoldable pub look_of : Caller → ℕ → List ℤ → List ℤ → SharedLedger → ℕ → ℕ → ℕ → LookAnswer
look_of w n nets charges l i a k =
    look_answer (first_no (with_right (may_read w a) (ask_issue i ∷ ask_account a ∷ []))) (seen_of n nets charges l i a k)
