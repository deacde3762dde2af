-- The tape's answers in plain numbers.
use Rattle.std.specs.Prelude.{◌≡◌, ◌&&◌, List, [], ◌∷◌, ℕ, replicate}
use Rattle.rules.specs.declared.Instruction.{Instruction}
use Rattle.rules.specs.Measures.{tape_words}
use Rattle.rules.specs.Questions.{ask, first_no, ask_output}
use Rattle.rules.specs.Tape.{ReadAnswer, WriteAnswer, write_answer, words_of, fields_fit}
use Rattle.desk.specs.Fields.{fields_of, is_kind}

-- no instruction is five times 0
abbrev pub fields_in : List Instruction → List ℕ
fields_in [] = replicate 5 0
fields_in (x ∷ xs) = fields_of x

pub record ReadIs (d : ReadAnswer) (number : ℕ) (fields : List ℕ) (words : ℕ) : Type 0 where
  pub refusal : number ≡ d.refusal
  pub instruction : fields ≡ fields_in d.instruction
  pub count : words ≡ d.count

-- an instruction of a kind, written: a kind that is none of 1 to 7, 13 and 14 fits no bits
unfoldable pub day_written : ℕ → Instruction → List ℕ → List ℕ → WriteAnswer
day_written kind x quotes out =
    write_answer (first_no (ask_output tape_words out ∷ ask 15 (is_kind kind && fields_fit x quotes) ∷ [])) (words_of x quotes) out

-- number, count and lent output as an answer
abbrev pub plainly_written : ℕ → ℕ → List ℕ → WriteAnswer
plainly_written r n lent = record { refusal = r; count = n; out = lent }
