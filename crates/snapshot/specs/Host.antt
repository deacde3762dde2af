-- Saving and opening for a host: its numbers, and what becomes of what it lends.
use Rattle.std.specs.Prelude.{Ok, Err}
use Rattle.std.specs.Prelude.{◌≡◌, cond, List, [], ◌∷◌, ◌++◌, ℕ, zero, suc, leb, length, take, drop}
use Rattle.rules.specs.declared.Book.{Book}
use Rattle.rules.specs.Book.{fresh}
use Rattle.rules.specs.Questions.{Question, ask, first_no}
use Rattle.host.specs.States.{numbers_of, lengths_right, sound_at}
use Rattle.snapshots.specs.Snapshot.{snapshot_words, saved, Opened, opened}
use Rattle.opening.specs.Judging.{open_number, open_book}
use Rattle.snapshot.specs.declared.DayOpened.{DayOpened}

-- 1. Has the output so many words? 5. Do the numbers and columns hold a sound book?
unfoldable pub save_asks : ℕ → Book → List ℕ → List Question
save_asks phase b out = ask 1 (leb snapshot_words (length out)) ∷ ask 5 (sound_at phase b) ∷ []

-- the output afterwards: the book's words, and then what stood behind them; where it is refused, as it came
abbrev pub words_after : ℕ → Book → List ℕ → List ℕ
words_after zero b out = saved b ++ drop snapshot_words out
words_after (suc n) b out = out

-- what is written is opened as this book
pub record SaveIs (phase : ℕ) (b : Book) (out : List ℕ) (number : ℕ) (after : List ℕ) : Type 0 where
  pub reason : number ≡ first_no (save_asks phase b out)
  pub words : after ≡ words_after number b out
  pub again : number ≡ 0 → opened (take snapshot_words after) ≡ Ok b

-- columns of other lengths than a book's are refused by 1
unfoldable pub day_opened : List ℕ → Book → Opened
day_opened ws lent = cond (lengths_right lent) (opened ws) (Err 1)

-- what a refusal gives: its number, and the state of a fresh book
abbrev pub refused_as : ℕ → DayOpened
refused_as n = record { reason = n; state = numbers_of fresh.state }

-- number, state and columns are those of what is opened
pub record OpenIs (ws : List ℕ) (r : DayOpened) (lent after : Book) : Type 0 where
  pub reason : r.reason ≡ open_number (day_opened ws lent)
  pub state : r.state ≡ numbers_of (open_book (day_opened ws lent) lent).state
  pub columns : after ≡ open_book (day_opened ws lent) lent
