-- A run of the program: its buffers, where it stands between two parts, what is written and what was at the end.
use Rattle.std.specs.Prelude.{◌≡◌, Bool, true, false, List, [], ◌++◌, ℕ, ◌+◌, ◌-◌, ◌*◌, ◌≤◌, ◌<◌, length, take, drop}
use Rattle.rules.specs.Book.{sound}
use Rattle.rules.specs.Text.{lines_text, ran_of, PrintedAt}
use Rattle.input.specs.declared.Words.{Words}
use Rattle.input.specs.Fed.{Fed}
use Rattle.waiting.specs.declared.Kept.{Kept}
use Rattle.parts.specs.declared.Place.{Place}
use Rattle.parts.specs.Parting.{Parted}
use Rattle.playing.specs.declared.End.{End}

-- a run makes at most 2 ^ 45 - 1 reads
abbrev pub most_reads : ℕ
most_reads = 35184372088831

-- 4,096 words and their bytes, room for the text of as many lines, an output, and what is kept of each issue
pub record Buffers (bytes words text out : List ℕ) (kept : List Kept) : Type 0 where
  pub input : length bytes ≡ 16384
  pub tape : length words ≡ 4096
  pub lines : length text ≡ 327680
  pub output : length out ≡ 4096
  pub issues : length kept ≡ 16

-- a sound book, and bytes in the buffer that are not yet used; where the run goes on there are fewer than thirty-three words and a
-- stray, so a read has room; where the last read failed the run is not over
pub record Standing (p : Place) : Type 0 where
  pub order : p.start ≤ p.end
  pub within : p.end ≤ 16384
  pub few : p.over ≡ false → p.end < p.start + 132
  pub waits : p.failed ≡ true → p.over ≡ false
  pub sound : sound p.book ≡ true

abbrev pub unused : Place → List ℕ → List ℕ
unused p bytes = take (p.end - p.start) (drop p.start bytes)

-- one part of the run: a read, and the words that are then in the buffer
pub record Stepped (p : Place) (bytes bytes' text : List ℕ) (r : Place) : Type 0 where
  pub words : List ℕ
  pub read : Words
  pub fed : Fed bytes bytes' words p.start p.end read
  pub parted : Parted p read (take read.count words) text r

-- bytes that may be written when so many were
pub record Shown (sent : ℕ) (text : List ℕ) : Type 0 where
  pub came : List ℕ
  pub ended : Bool
  pub printed : PrintedAt came ended sent text

-- how a run ended. It made a read; one that is not over had a read that failed, a write that failed, or all its reads; where its last
-- read failed it is not over. Of the bytes that came, and whatever may still come, the text handed over is what is printed first; where
-- the run was over it is all its lines, and the book is the run's; else the tape had not ended. Each read but the last brought a byte,
-- and so did the last where the run was not over and it did not fail
pub record Played (r : End) : Type 0 where
  pub few : r.sent.count ≤ 327680 * most_reads
  pub count : r.book.state.entries ≤ 2048
  pub begun : 0 < r.reads
  pub stops : r.over ≡ false → r.failed ≡ false → r.sent.written ≡ true → r.reads ≡ most_reads
  pub waits : r.failed ≡ true → r.over ≡ false
  pub came : List ℕ
  pub ended : Bool
  pub text : List ℕ
  pub each : r.over ≡ false → r.failed ≡ false → r.reads ≤ length came
  pub brought : r.reads ≤ length came + 1
  pub many : length text ≡ r.sent.count
  pub printed : PrintedAt came ended 0 text
  pub goes : r.over ≡ false → ended ≡ false
  pub lines : r.over ≡ true → (more : List ℕ) → (ended ≡ true → more ≡ []) → lines_text (ran_of (came ++ more)).lines ≡ text
  pub book : r.over ≡ true → (more : List ℕ) → (ended ≡ true → more ≡ []) → (ran_of (came ++ more)).book ≡ r.book
