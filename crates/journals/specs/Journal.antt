-- The journal: records numbered from 0, read back one after the other, and how that ends.
use Rattle.std.specs.Prelude.{Option, Some, None, cond, List, [], ◌∷◌, ◌++◌, ℕ, zero, suc, leb, eqb, length, drop}
use Rattle.journals.specs.Record.{record_words, Logged, record_of, read_record}

abbrev pub journal_from : ℕ → List Logged → List ℕ
journal_from n [] = []
journal_from n (c ∷ cs) = record_of n c ++ journal_from (suc n) cs

unfoldable pub journal_of : List Logged → List ℕ
journal_of cs = journal_from 0 cs

-- what stands at the front of the rest of a journal: a call; no word at all; a record that is not whole or wrong, with nothing
-- behind it; or a wrong one with something behind it
pub data Next : Type 0 where
  call : Logged → Next
  none : Next
  torn : Next
  damaged : Next

-- by how many words are left, where no call is read
abbrev pub unread : ℕ → Next
unread left = cond (eqb left 0) none (cond (leb left record_words) torn damaged)

abbrev pub next_of : Option Logged → ℕ → Next
next_of None left = unread left
next_of (Some c) left = call c

unfoldable pub read_next : ℕ → List ℕ → Next
read_next n ws = next_of (read_record n ws) (length ws)

-- how a journal ends: whole; with a torn record; or at a damaged one, by its number
pub data Ending : Type 0 where
  whole : Ending
  torn : Ending
  damaged : ℕ → Ending

-- the calls read, up to the first record that is not
pub record Journal : Type 0 where
  pub calls : List Logged
  pub ending : Ending

abbrev pub ended : List Logged → Ending → Journal
ended cs e = record { calls = cs; ending = e }

abbrev pub behind : Logged → Journal → Journal
behind c j = ended (c ∷ j.calls) j.ending

-- record n, and then the rest
abbrev pub goes_on : Next → ℕ → Journal → Journal
goes_on (call c) n rest = behind c rest
goes_on none n rest = ended [] whole
goes_on torn n rest = ended [] torn
goes_on damaged n rest = ended [] (damaged n)

-- at most k records, from record n on
abbrev pub read_from : ℕ → ℕ → List ℕ → Journal
read_from zero n ws = ended [] whole
read_from (suc k) n ws = goes_on (read_next n ws) n (read_from k (suc n) (drop record_words ws))

-- there are no more records than words
abbrev pub read_rest : ℕ → List ℕ → Journal
read_rest n ws = read_from (suc (length ws)) n ws

unfoldable pub read_journal : List ℕ → Journal
read_journal ws = read_rest 0 ws
