-- A record of the journal: a call as words, its number before it and a checksum behind it.
use Rattle.std.specs.Prelude.{◌≡◌, Option, Some, None, Result, Ok, Err, Bool, true, cond, ◌&&◌, List, [], ◌∷◌, ◌++◌, ℕ, suc, ◌+◌, ◌-◌, ◌*◌, ◌/◌, ◌%◌, leb, eqb, length, get_or, take, drop, replicate}
use Rattle.rules.specs.declared.Instruction.{Instruction}
use Rattle.rules.specs.declared.Instruction.TheVariants.{Trade, Deliver, Resolve, PairOff, Close, Cutoff, Roll, Mark, Turn}
use Rattle.rules.specs.declared.Ticket.{Ticket}
use Rattle.rules.specs.Measures.{tape_words}
use Rattle.rules.specs.Book.{all, is_zero}
use Rattle.rules.specs.Records.{kind_bits, in_field}
use Rattle.rules.specs.Tape.{read_of, quotes_of, words_of, fields_fit}
use Rattle.checksums.specs.Sums.{word_size, weighted}

-- a record has 36 words: the first 34, its number and 33 words of a call, are summed; then two words of checksum
abbrev pub record_words : ℕ
record_words = 36

abbrev pub summed_words : ℕ
summed_words = 34

-- a call that a record tells: an instruction, with the quotes of a roll; or the commit of a ticket. Asking changes nothing
-- and is no record
pub data Logged : Type 0 where
  instructed : Instruction → List ℕ → Logged
  committed : Ticket → Logged

-- only a roll has quotes
abbrev pub quotes_for : Instruction → List ℕ → List ℕ
quotes_for (Trade i f t x) quotes = []
quotes_for (Deliver i a x) quotes = []
quotes_for (Resolve i a x) quotes = []
quotes_for (PairOff i a) quotes = []
quotes_for Close quotes = []
quotes_for Cutoff quotes = []
quotes_for (Roll days rate) quotes = quotes
quotes_for (Mark i m) quotes = []
quotes_for (Turn d) quotes = []

abbrev pub told_of : Instruction → List ℕ → Logged
told_of x quotes = instructed x (quotes_for x quotes)

-- its numbers fit their bits on a tape; a ticket's are whole words
abbrev pub Fits : Logged → Type 0
Fits (instructed x quotes) = (fields_fit x quotes ≡ true) × (quotes_for x quotes ≡ quotes)
Fits (committed t) = Unit {0}

-- a commit begins with a word of kind 15, which is none of a tape's, and nothing else in it
abbrev pub commit_kind : ℕ
commit_kind = 15

abbrev pub commit_word : ℕ
commit_word = in_field kind_bits commit_kind

-- a ticket's six numbers, and the ticket of six numbers
abbrev pub ticket_words : Ticket → List ℕ
ticket_words t = t.issue ∷ t.unit ∷ t.account ∷ t.lots ∷ t.day ∷ t.count ∷ []

abbrev pub ticket_in : List ℕ → Ticket
ticket_in ws =
    record { issue = get_or ws 0 0; unit = get_or ws 1 0; account = get_or ws 2 0; lots = get_or ws 3 0; day = get_or ws 4 0; count = get_or ws 5 0 }

-- an instruction's words are those of a tape
abbrev pub call_words : Logged → List ℕ
call_words (instructed x quotes) = words_of x quotes
call_words (committed t) = commit_word ∷ ticket_words t

-- a commit has so many
abbrev pub commit_words : ℕ
commit_words = 7

-- then zeros
unfoldable pub padded : List ℕ → List ℕ
padded ws = ws ++ replicate (tape_words - length ws) 0

-- then the checksum, the low half first
unfoldable pub closed : List ℕ → List ℕ
closed ws = ws ++ (weighted ws % word_size ∷ weighted ws / word_size ∷ [])

unfoldable pub record_of : ℕ → Logged → List ℕ
record_of n c = closed (n ∷ padded (call_words c))

-- n words and the two of their checksum
unfoldable pub checks : ℕ → List ℕ → Bool
checks n ws = eqb (weighted (take n ws)) (get_or ws n 0 + word_size * get_or ws (suc n) 0)

-- the call that 33 words tell; none where they are no call's, or where a word behind it is not 0
abbrev pub ticket_told : List ℕ → Option Logged
ticket_told ws = cond (all is_zero (drop commit_words ws)) (Some (committed (ticket_in (drop 1 ws)))) None

abbrev pub instruction_told : Result (Instruction × ℕ) ℕ → List ℕ → Option Logged
instruction_told (Ok r) ws = cond (all is_zero (drop r.1 ws)) (Some (told_of r.0 (quotes_of ws))) None
instruction_told (Err r) ws = None

unfoldable pub call_in : List ℕ → Option Logged
call_in ws = cond (eqb (get_or ws 0 0) commit_word) (ticket_told ws) (instruction_told (read_of ws) ws)

-- the words of a call in a record
abbrev pub call_part : List ℕ → List ℕ
call_part ws = take tape_words (drop 1 ws)

-- record n at the front of some words: it is whole, has its number, its checksum and a call
unfoldable pub read_record : ℕ → List ℕ → Option Logged
read_record n ws =
    cond (leb record_words (length ws) && eqb (get_or ws 0 0) n && checks summed_words ws) (call_in (call_part ws)) None
