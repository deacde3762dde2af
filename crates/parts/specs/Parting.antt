-- One part of a run on a book: the words that a read gives.
use Rattle.std.specs.Prelude.{◌≡◌, true, not, List, ℕ, ◌+◌, ◌*◌, ◌%◌, ◌≤◌, ◌<◌, ◌^◌, eqb, length}
use Rattle.rules.specs.Measures.{output_words}
use Rattle.rules.specs.Book.{sound}
use Rattle.input.specs.declared.Words.{Words}
use Rattle.input.specs.Fed.{is_ended, is_failed}
use Rattle.parts.specs.declared.Place.{Place}
use Rattle.passing.specs.Going.{Went}
use Rattle.waiting.specs.declared.Kept.{Kept}

-- a sound book, at most 4,096 words, room for their lines, an output that is long enough, and room for what is kept of each issue
pub record Room (p : Place) (ws text out : List ℕ) (kept : List Kept) : Type 0 where
  pub sound : sound p.book ≡ true
  pub few : length ws ≤ 4096
  pub index : p.index + 4096 < 2 ^ 64
  pub lines : length text ≡ 327680
  pub output : output_words ≤ length out
  pub issues : length kept ≡ 16

-- the words, run from where the run stood: four bytes a word used, and the read's word on the end of the tape
pub record Parted (p : Place) (w : Words) (ws text : List ℕ) (r : Place) : Type 0 where
  pub used : ℕ
  pub start : r.start ≡ 4 * used
  pub end : r.end ≡ w.end
  pub index : r.index ≡ p.index + used
  pub failed : r.failed ≡ is_failed w.input
  pub went : Went ws (is_ended w.input) (not (eqb (w.end % 4) 0)) p.index p.book text used r.printed r.over r.book
