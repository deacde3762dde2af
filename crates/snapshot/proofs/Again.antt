-- What a host saves and opens again is the same book, by the contracts of the two functions; and damaged words are not opened.
use Rattle.std.specs.Prelude.{Ok, Err}
use mathlib.Core.Path.{◌≡◌, ap, ◌∙◌}
use mathlib.Core.Bool.{true}
use mathlib.Core.List.{List}
use Prim.Native.Nat.{ℕ}
use lib.ListN.{take}
use Rattle.rules.specs.declared.Book.{Book}
use Rattle.laws.proofs.Basics.{cond_true}
use Rattle.host.specs.States.{numbers_of, lengths_right}
use Rattle.snapshots.specs.Snapshot.{snapshot_words, opened}
use Rattle.opening.specs.Judging.{open_number, open_book}
use Rattle.snapshot.specs.declared.DayOpened.{DayOpened}
use Rattle.snapshot.specs.Host.{SaveIs, day_opened, OpenIs}

-- the reason is 0, the state and the columns are the book's
pub record Reopened (b : Book) (r : DayOpened) (after : Book) : Type 0 where
  pub reason : r.reason ≡ 0
  pub state : r.state ≡ numbers_of b.state
  pub columns : after ≡ b

pub reopened : (ws : List ℕ) (b : Book) → opened ws ≡ Ok b → (r : DayOpened) (lent after : Book) → lengths_right lent ≡ true →
    OpenIs ws r lent after → Reopened b r after
unfolding day_opened
reopened ws b e r lent after h o =
    let d : day_opened ws lent ≡ Ok b = cond_true (lengths_right lent) (opened ws) (Err 1) h ∙ e in
    record {
      reason = o.reason ∙ ap open_number d;
      state = o.state ∙ ap (λ x. numbers_of (open_book x lent).state) d;
      columns = o.columns ∙ ap (λ x. open_book x lent) d;
    }

-- what `day_save` wrote, `day_open` gives back: state and columns
pub saved_then_opened : (phase : ℕ) (b : Book) (out after : List ℕ) (n : ℕ) → SaveIs phase b out n after → n ≡ 0 →
    (r : DayOpened) (lent got : Book) → lengths_right lent ≡ true → OpenIs (take snapshot_words after) r lent got → Reopened b r got
saved_then_opened phase b out after n s z r lent got h o = reopened (take snapshot_words after) b (s.again z) r lent got h o
