-- The tape: what its reader and its writer answer.
use Rattle.std.specs.Prelude.{Bool, true, false, cond, ◌&&◌, List, [], ◌∷◌, map, ℕ, zero, suc, ◌+◌, ◌-◌, ◌^◌, ltb, eqb, length, get_or, take, drop, Result, Ok, Err, Option, Some, None}
use Rattle.rules.specs.declared.Instruction.{Instruction}
use Rattle.rules.specs.declared.Instruction.TheVariants.{Trade, Deliver, Resolve, PairOff, Close, Cutoff, Roll, Mark, Turn}
use Rattle.rules.specs.declared.Word.{Word}
use Rattle.rules.specs.declared.Word.TheVariants.{Head, After}
use Rattle.rules.specs.Measures.{quote_count, tape_words}
use Rattle.rules.specs.Book.{all}
use Rattle.rules.specs.Records.{Field, bits, kind_bits, issue_bits, from_bits, to_bits, lots_bits, days_bits, rate_bits, mark_bits, day_bits, quote_bits, in_field, of_field, head_word, lots_word, over}
use Rattle.rules.specs.Questions.{ask, first_no, ask_output}

abbrev pub kind_of : ℕ → ℕ
kind_of w = of_field kind_bits w

-- what a word of a kind is: the head of an instruction, a word after a head, or none of a tape's
pub data Kind : Type 0 where
  -- unused bits; how many words follow and of which kind; the instruction of a head and of the lots after it
  head : Field → ℕ → ℕ → (ℕ → ℕ → Instruction) → Kind
  -- unused bits
  after : Field → Kind
  none : Kind

-- a kind's number, and what a word of it is
pub data Line : Type 0 where
  kind : ℕ → Kind → Line

-- the kinds of a tape, each said once
abbrev pub kinds : List Line
kinds =
    -- 1 trade, 2 deliver, 3 resolve: head, then a kind 8 word
    kind 1 (head (bits 0 12) 1 8 (λ w x. Trade (of_field issue_bits w) (of_field from_bits w) (of_field to_bits w) x))
    ∷ kind 2 (head (bits 0 18) 1 8 (λ w x. Deliver (of_field issue_bits w) (of_field from_bits w) x))
    ∷ kind 3 (head (bits 0 18) 1 8 (λ w x. Resolve (of_field issue_bits w) (of_field from_bits w) x))
    -- 4 pair-off, 5 close, 6 cutoff: one word
    ∷ kind 4 (head (bits 0 18) 0 0 (λ w x. PairOff (of_field issue_bits w) (of_field from_bits w)))
    ∷ kind 5 (head (bits 0 28) 0 0 (λ w x. Close))
    ∷ kind 6 (head (bits 0 28) 0 0 (λ w x. Cutoff))
    -- 7 roll: then sixteen kind 9 words of prices and sixteen of accrued amounts
    ∷ kind 7 (head (bits 0 10) quote_count 9 (λ w x. Roll (of_field days_bits w) (of_field rate_bits w)))
    -- 8 lots in 27..0, 9 price or accrued amount in 17..0
    ∷ kind 8 (after (bits 0 0))
    ∷ kind 9 (after (bits 18 10))
    -- 13 mark: one word, bits 23..1 unused
    ∷ kind 13 (head (bits 1 23) 0 0 (λ w x. Mark (of_field issue_bits w) (of_field mark_bits w)))
    -- 14 turn: one word, bits 27..16 unused
    ∷ kind 14 (head (bits 16 12) 0 0 (λ w x. Turn (of_field day_bits w)))
    ∷ []

abbrev pub kind_in : List Line → ℕ → Kind
kind_in [] k = none
kind_in (kind n K ∷ ls) k = cond (eqb k n) K (kind_in ls k)

abbrev pub kind_at : ℕ → Kind
kind_at k = kind_in kinds k

-- unused bits are 0
abbrev pub clear : Field → ℕ → Bool
clear unused w = eqb (of_field unused w) 0

abbrev pub as_kind : Kind → ℕ → ℕ → Option Word
as_kind (head unused n k instruction) w x = cond (clear unused w) (Some (Head (instruction w x) k (1 + n))) None
as_kind (after unused) w x = cond (clear unused w) (Some (After (kind_of w))) None
as_kind none w x = None

-- what a word is taken as, with the lots of the word after it; 'none' for a wrong word
abbrev pub word_as : ℕ → ℕ → Option Word
word_as w x = as_kind (kind_at (kind_of w)) w x

abbrev pub is_after : ℕ → Option Word → Bool
is_after k (Some (Head x j n)) = false
is_after k (Some (After j)) = eqb j k
is_after k None = false

-- n words of kind k after a head: the first that is missing gives 13, the first that is present and wrong gives 14
abbrev pub words_wrong : ℕ → ℕ → List ℕ → ℕ
words_wrong k zero ws = 0
words_wrong k (suc n) [] = 13
words_wrong k (suc n) (w ∷ ws) = cond (is_after k (word_as w 0)) (words_wrong k n ws) 14

abbrev pub read_as : ℕ → Instruction → ℕ → Result (Instruction × ℕ) ℕ
read_as zero x n = Ok (x, n)
read_as (suc r) x n = Err (suc r)

abbrev pub read_from : Option Word → List ℕ → Result (Instruction × ℕ) ℕ
read_from (Some (Head x k n)) ws = read_as (words_wrong k (n - 1) ws) x n
read_from (Some (After k)) ws = Err 14
read_from None ws = Err 14

-- the reader takes the words from the instruction on and gives the instruction and its word count, or the number of
-- its refusal
unfoldable pub read_of : List ℕ → Result (Instruction × ℕ) ℕ
read_of [] = Err 13
read_of (w ∷ ws) = read_from (word_as w (of_field lots_bits (get_or ws 0 0))) ws

-- what the reader answers: number, instruction (none on a refusal), word count
pub record ReadAnswer : Type 0 where
  pub refusal : ℕ
  pub instruction : List Instruction
  pub count : ℕ

-- the paper's number and values
abbrev pub read_answer : Result (Instruction × ℕ) ℕ → ReadAnswer
read_answer (Ok r) = record { refusal = 0; instruction = r.0 ∷ []; count = r.1 }
read_answer (Err r) = record { refusal = r; instruction = []; count = 0 }

-- roll's sixteen prices and sixteen accrued amounts, issue 0 first in both, taken from their words
unfoldable pub quotes_of : List ℕ → List ℕ
quotes_of ws = map (of_field quote_bits) (take quote_count (drop 1 ws))

-- the words of an instruction
abbrev pub roll_word : ℕ → ℕ → ℕ
roll_word days rate = in_field kind_bits 7 + in_field days_bits days + in_field rate_bits rate

abbrev pub mark_word : ℕ → ℕ → ℕ
mark_word i m = in_field kind_bits 13 + in_field issue_bits i + in_field mark_bits m

abbrev pub turn_word : ℕ → ℕ
turn_word d = in_field kind_bits 14 + in_field day_bits d

abbrev pub quote_word : ℕ → ℕ
quote_word quote = in_field kind_bits 9 + in_field quote_bits quote

abbrev pub words_of : Instruction → List ℕ → List ℕ
words_of (Trade i f t x) quotes = head_word 1 i f t ∷ lots_word x ∷ []
words_of (Deliver i a x) quotes = head_word 2 i a 0 ∷ lots_word x ∷ []
words_of (Resolve i a x) quotes = head_word 3 i a 0 ∷ lots_word x ∷ []
words_of (PairOff i a) quotes = head_word 4 i a 0 ∷ []
words_of Close quotes = head_word 5 0 0 0 ∷ []
words_of Cutoff quotes = head_word 6 0 0 0 ∷ []
words_of (Roll days rate) quotes = roll_word days rate ∷ map quote_word quotes
words_of (Mark i m) quotes = mark_word i m ∷ []
words_of (Turn d) quotes = turn_word d ∷ []

-- 15. Does each field fit its bits? A roll has 32 quotes (house)
abbrev pub fits : Field → ℕ → Bool
fits f x = ltb x (2 ^ f.width)

-- the fields of a head and of the lots after it, 0 where a head has none
abbrev pub head_fits : ℕ → ℕ → ℕ → ℕ → Bool
head_fits i f t x = fits issue_bits i && fits from_bits f && fits to_bits t && fits lots_bits x

abbrev pub fields_fit : Instruction → List ℕ → Bool
fields_fit (Trade i f t x) quotes = head_fits i f t x
fields_fit (Deliver i a x) quotes = head_fits i a 0 x
fields_fit (Resolve i a x) quotes = head_fits i a 0 x
fields_fit (PairOff i a) quotes = head_fits i a 0 0
fields_fit Close quotes = true
fields_fit Cutoff quotes = true
fields_fit (Roll days rate) quotes =
    fits days_bits days && fits rate_bits rate && eqb (length quotes) quote_count && all (fits quote_bits) quotes
fields_fit (Mark i m) quotes = fits issue_bits i && fits mark_bits m
fields_fit (Turn d) quotes = fits day_bits d

-- what the writer answers: number, count of words, output words
pub record WriteAnswer : Type 0 where
  pub refusal : ℕ
  pub count : ℕ
  pub out : List ℕ

-- words after the tape writer's last word keep their content; a refusal changes nothing
abbrev pub write_answer : ℕ → List ℕ → List ℕ → WriteAnswer
write_answer zero ws out = record { refusal = 0; count = length ws; out = over ws out }
write_answer (suc r) ws out = record { refusal = suc r; count = 0; out = out }

unfoldable pub write_of : Instruction → List ℕ → List ℕ → WriteAnswer
write_of x quotes out =
    write_answer (first_no (ask_output tape_words out ∷ ask 15 (fields_fit x quotes) ∷ [])) (words_of x quotes) out
