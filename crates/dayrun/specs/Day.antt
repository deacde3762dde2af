-- A day of the program: its buffers, where a run stands between two parts, what is written and what was at the end.
use Rattle.std.specs.Prelude.{◌≡◌, true, false, List, [], ◌++◌, ℕ, ◌+◌, length}
use Rattle.rules.specs.Text.{closing_text, printed_of}
use Rattle.playing.specs.declared.Sent.{Sent}
use Rattle.playing.specs.declared.End.{End}
use Rattle.dayrun.specs.declared.Outcome.{Outcome}
use Rattle.playing.specs.Playing.{Played}

-- nothing is handed over behind a run's lines, and it counts as not written
pub record Nothing (e : End) (r : Sent) : Type 0 where
  pub written : r.written ≡ false
  pub count : r.count ≡ e.sent.count

-- behind a run: the lines of its book where it was over and its own lines are written, and else nothing
pub record Closed (e : End) (r : Sent) : Type 0 where
  pub closing : e.over ≡ true → e.sent.written ≡ true → r.count ≡ e.sent.count + length (closing_text e.book)
  pub unread : e.over ≡ false → Nothing e r
  pub unwritten : e.sent.written ≡ false → Nothing e r

-- a whole day: where its run was over and the run's lines are written, the bytes handed over, from the first to the last, are all that
-- is printed for the bytes that came, and no more, whatever may still come
pub record Whole (d : Outcome) : Type 0 where
  pub played : Played d.run
  pub closed : Closed d.run d.closing
  pub count : d.run.over ≡ true → d.run.sent.written ≡ true → d.closing.count ≡ length (played.text ++ closing_text d.run.book)
  pub printed : d.run.over ≡ true → (more : List ℕ) → (played.ended ≡ true → more ≡ []) →
      played.text ++ closing_text d.run.book ≡ printed_of (played.came ++ more)
