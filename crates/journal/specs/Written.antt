-- A record written to a lent output.
use Rattle.std.specs.Prelude.{◌≡◌, Result, Ok, Err, ◌&&◌, List, [], ◌∷◌, ℕ, zero, suc, ◌≤◌, length}
use Rattle.rules.specs.declared.Instruction.{Instruction}
use Rattle.rules.specs.Measures.{tape_words}
use Rattle.rules.specs.Records.{over}
use Rattle.rules.specs.Questions.{ask, first_no, ask_output}
use Rattle.rules.specs.Tape.{fields_fit}
use Rattle.desk.specs.Fields.{is_kind}
use Rattle.journal.specs.declared.noting.Unnoted.{Unnoted}
use Rattle.journal.specs.declared.noting.Unnoted.TheVariants as unnoted
use Rattle.journals.specs.Record.{record_words, told_of, committed, ticket_in, record_of}

-- what is answered: 0 where it is done, and the output's words
pub record Noted : Type 0 where
  pub reason : ℕ
  pub out : List ℕ

-- words behind the record keep their content; a refusal changes nothing
abbrev pub noted : ℕ → List ℕ → List ℕ → Noted
noted zero ws out = record { reason = 0; out = over ws out }
noted (suc r) ws out = record { reason = suc r; out = out }

-- 1: the output has fewer than 36 words. 4: the kind is none of an instruction's, or a number does not fit
unfoldable pub call_noted : ℕ → ℕ → Instruction → List ℕ → List ℕ → Noted
call_noted n kind x quotes out =
    noted (first_no (ask_output record_words out ∷ ask 4 (is_kind kind && fields_fit x quotes) ∷ [])) (record_of n (told_of x quotes)) out

-- the six numbers of a ticket always fit
unfoldable pub commit_noted : ℕ → List ℕ → List ℕ → Noted
commit_noted n ticket out = noted (first_no (ask_output record_words out ∷ [])) (record_of n (committed (ticket_in ticket))) out

-- reason returned and lent output are an answer's
pub record NotedIs (d : Noted) (r : ℕ) (lent : List ℕ) : Type 0 where
  pub reason : r ≡ d.reason
  pub out : lent ≡ d.out

-- why no record is written, by number; and the number of an answer of the code, 0 where it is done
abbrev pub number_of : Unnoted → ℕ
number_of unnoted.Short = 1
number_of unnoted.Unfit = 4

abbrev pub number_in : Result (Unit {0}) Unnoted → ℕ
number_in (Ok u) = 0
number_in (Err r) = number_of r

-- there is room for a record, with a call's words in it behind the number's place
pub record Begun (count : ℕ) (out : List ℕ) : Type 0 where
  pub words : count ≤ tape_words
  pub room : record_words ≤ length out
