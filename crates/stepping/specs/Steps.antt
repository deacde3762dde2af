-- Pair-off's steps in place.
use Rattle.std.specs.Prelude.{◌≡◌, true, List, ◌++◌, ℕ, ◌+◌, ◌≤◌, ◌<◌, length}
use Rattle.rules.specs.Ledger.{Pairing, pairing}
use Rattle.rules.specs.Book.{all, entries, entry_sound}
use Rattle.book.specs.States as book
use Rattle.ledger.specs.declared.Ledger.{Ledger}
use Rattle.ledger.specs.Columns.{Held, without_zeros, held}
use Rattle.stepping.specs.declared.Made.{Made}

-- a ledger whose entries are sound, in its columns, and an issue
pub record Pairable (n i : ℕ) (is fs ts xs ds : List ℕ) : Type 0 where
  pub held : Held n is fs ts xs ds
  pub sound : all entry_sound (entries n is fs ts xs ds) ≡ true
  pub issue : i < 16

-- all steps made: what stands in the columns, without entries at 0, and in a second ledger behind it
pub record WasMade (p : Pairing) (n : ℕ) (r : Made) (is fs ts xs ds mi mf mt mx md : List ℕ) : Type 0 where
  pub steps : r.steps ≡ p.steps
  pub cancelled : r.cancelled ≡ p.cancelled
  pub ledger : p.ledger ≡ without_zeros (entries n is fs ts xs ds) ++ entries r.more mi mf mt mx md
  pub few : length (without_zeros (entries n is fs ts xs ds)) + r.more ≤ n
  pub held : Held n is fs ts xs ds
  pub more : Held r.more mi mf mt mx md

-- The same by name

abbrev pub pairable : ℕ → ℕ → Ledger → Type 0
pairable n i l = Pairable n i l.issues.now l.froms.now l.tos.now l.lots.now l.days.now

abbrev pub can_pair :
    ℕ → ℕ → book.Shared ℕ → book.Shared ℕ → book.Shared ℕ → book.Lent ℕ → book.Shared ℕ → Ledger → Type 0
can_pair n i issues froms tos lots days m =
    Pairable n i issues.now froms.now tos.now lots.now days.now × held 0 m

-- of the columns before and after, and the second ledger after
abbrev pub was_made :
    ℕ → ℕ → ℕ → ℕ → Made → book.SharedColumn ℕ → book.SharedColumn ℕ → book.SharedColumn ℕ → book.Column ℕ → book.SharedColumn ℕ →
    Ledger → Type 0
was_made n today i a r issues froms tos lots days m =
    WasMade (pairing today i a (entries n issues.entry.now froms.entry.now tos.entry.now lots.entry.now days.entry.now)) n r
    issues.exit.now froms.exit.now tos.exit.now lots.exit.now days.exit.now
    m.issues.now m.froms.now m.tos.now m.lots.now m.days.now
