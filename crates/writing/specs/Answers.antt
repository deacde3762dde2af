-- The tape writer's answers: its own, and those of the parts that it is made of.
use Rattle.std.specs.Prelude.{◌≡◌, Bool, true, ◌&&◌, Option, Some, None, Result, Ok, Err, List, [], ◌∷◌, unwrap_or, ℕ, ◌≤◌, ◌<◌, ◌^◌, length}
use Rattle.rules.specs.declared.Refusal.{Refusal}
use Rattle.rules.specs.Refusals.{number_of}
use Rattle.rules.specs.declared.Instruction.TheVariants.{Roll}
use Rattle.rules.specs.Measures.{quote_count, tape_words}
use Rattle.rules.specs.Book.{all}
use Rattle.rules.specs.Records.{issue_bits, mark_bits, day_bits, quote_bits, head_word, lots_word}
use Rattle.rules.specs.Questions.{ask, first_no}
use Rattle.rules.specs.Tape.{mark_word, turn_word, fits, head_fits, fields_fit, WriteAnswer, write_answer, words_of}

-- what the code answers and the lent output, as the paper's answer: a refusal counts no words
abbrev pub written : Result ℕ Refusal → List ℕ → WriteAnswer
written (Ok n) lent = record { refusal = 0; count = n; out = lent }
written (Err r) lent = record { refusal = number_of r; count = 0; out = lent }

-- the words where the fields fit, else 15
abbrev pub fitted : Bool → List ℕ → List ℕ → WriteAnswer
fitted fit ws out = write_answer (first_no (ask 15 fit ∷ [])) ws out

-- a head, with a kind 8 word where there are lots
abbrev pub lots_words : Option ℕ → List ℕ
lots_words None = []
lots_words (Some x) = lots_word x ∷ []

abbrev pub head_words : ℕ → ℕ → ℕ → ℕ → Option ℕ → List ℕ → WriteAnswer
head_words kind i f t lots out =
    fitted (head_fits i f t (unwrap_or lots 0)) (head_word kind i f t ∷ lots_words lots) out

-- a mark's word
abbrev pub mark_words : ℕ → ℕ → List ℕ → WriteAnswer
mark_words i m out = fitted (fits issue_bits i && fits mark_bits m) (mark_word i m ∷ []) out

-- a turn's word
abbrev pub turn_words : ℕ → List ℕ → WriteAnswer
turn_words d out = fitted (fits day_bits d) (turn_word d ∷ []) out

-- a roll's head with its quotes
abbrev pub roll_words : ℕ → ℕ → List ℕ → List ℕ → WriteAnswer
roll_words days rate quotes out = fitted (fields_fit (Roll days rate) quotes) (words_of (Roll days rate) quotes) out

-- the output has room for any instruction, and the kind fits its bits
pub record Room (kind : ℕ) (out : List ℕ) : Type 0 where
  pub kinds : kind < 2 ^ 4
  pub words : tape_words ≤ length out

-- 32 quotes that fit their bits, and room for them behind a head
pub record QuotesFit (quotes out : List ℕ) : Type 0 where
  pub count : length quotes ≡ quote_count
  pub each : all (fits quote_bits) quotes ≡ true
  pub words : tape_words ≤ length out
