-- Bytes of the tape in a buffer, and their words.
use Rattle.std.specs.Prelude.{◌≡◌, Bool, true, false, Option, Some, None, ℕ, ◌+◌, ◌-◌, ◌≤◌, ◌<◌, List, ◌++◌, eqb, length, take, drop}
use Rattle.rules.specs.Bytes.{words_in}
use Rattle.input.specs.declared.Input.{Input}
use Rattle.input.specs.declared.Input.TheVariants as said
use Rattle.input.specs.declared.Fill.{Fill}
use Rattle.input.specs.declared.Words.{Words}

-- the tape has ended, or could not be read
abbrev pub is_ended : Input → Bool
is_ended said.More = false
is_ended said.Ended = true
is_ended said.Failed = false

abbrev pub is_failed : Input → Bool
is_failed said.More = false
is_failed said.Ended = false
is_failed said.Failed = true

-- a read answers how many bytes it brought, none where it failed
abbrev pub brought : Option ℕ → ℕ
brought (Some n) = n
brought None = 0

-- 0 is the end of the tape, and nothing else is
abbrev pub says_end : Option ℕ → Bool
says_end (Some n) = eqb n 0
says_end None = false

abbrev pub says_failed : Option ℕ → Bool
says_failed (Some n) = false
says_failed None = true

-- the words of some bytes stand at the front of a buffer
pub record Decoded (bytes words : List ℕ) (count : ℕ) : Type 0 where
  pub fits : count ≤ length words
  pub front : take count words ≡ words_in bytes

-- fewer bytes are left than thirty-three words and a stray have, and a buffer has room for more
pub record Few (start end : ℕ) (buffer : List ℕ) : Type 0 where
  pub order : start ≤ end
  pub within : end ≤ length buffer
  pub few : end < start + 132
  pub room : 132 ≤ length buffer

-- bytes from a place on are at the front
pub record Shifted (before after : List ℕ) (start left : ℕ) : Type 0 where
  pub size : length after ≡ length before
  pub front : take left after ≡ take left (drop start before)

-- what a read answered, behind the bytes left
pub record Took (got : Option ℕ) (left : ℕ) (r : Fill) : Type 0 where
  pub end : r.end ≡ left + brought got
  pub done : is_ended r.input ≡ says_end got
  pub failed : is_failed r.input ≡ says_failed got

-- the same of some answer that had room for its bytes: what a read answered has no name
pub record Received (left room : ℕ) (r : Fill) : Type 0 where
  pub said : Option ℕ
  pub within : brought said ≤ room
  pub took : Took said left r

-- bytes not yet used go to the front, and behind them come as many as a read says
pub record Refilled (before after : List ℕ) (start left : ℕ) (r : Fill) : Type 0 where
  pub said : Option ℕ
  pub came : List ℕ
  pub within : brought said ≤ length before - left
  pub took : Took said left r
  pub fits : r.end ≤ length after
  pub many : length came ≡ brought said
  pub filled : take r.end after ≡ take left (drop start before) ++ came

-- and the words are those of all bytes in the buffer
pub record Fed (bytes bytes' words' : List ℕ) (start end : ℕ) (r : Words) : Type 0 where
  pub refilled : Refilled bytes bytes' start (end - start) (record { end = r.end; input = r.input })
  pub decoded : Decoded (take r.end bytes') words' r.count
