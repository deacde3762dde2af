-- The run of a tape, as the program prints it: its lines as data.
use Rattle.std.specs.Prelude.{Bool, cond, not, ◌&&◌, List, [], ◌∷◌, ℕ, zero, suc, ◌+◌, eqb, length, drop, replicate, ℤ, nat_abs, Result, Ok, Err}
use Rattle.rules.specs.declared.Book.{Book}
use Rattle.rules.specs.declared.Entry.{Entry}
use Rattle.rules.specs.declared.Instruction.{Instruction}
use Rattle.rules.specs.declared.Instruction.TheVariants as instruction
use Rattle.rules.specs.declared.Line.{Line}
use Rattle.rules.specs.declared.Name.{Name}
use Rattle.rules.specs.declared.Name.TheVariants as name
use Rattle.rules.specs.Measures.{output_words}
use Rattle.rules.specs.Book.{ledger_of, fresh}
use Rattle.rules.specs.Calls.{Call, Trade, Close, Deliver, Cutoff, Resolve, PairOff, Roll, Mark, Turn, Answer, called}
use Rattle.rules.specs.Tape.{read_of, quotes_of}

-- an instruction, with roll's quotes, as a call
abbrev pub call_of : Instruction → List ℕ → Call
call_of (instruction.Trade i f t x) quotes = Trade i f t x
call_of (instruction.Deliver i a x) quotes = Deliver i a x
call_of (instruction.Resolve i a x) quotes = Resolve i a x
call_of (instruction.PairOff i a) quotes = PairOff i a
call_of instruction.Close quotes = Close
call_of instruction.Cutoff quotes = Cutoff
call_of (instruction.Roll days rate) quotes = Roll days rate quotes
call_of (instruction.Mark i m) quotes = Mark i m
call_of (instruction.Turn d) quotes = Turn d

abbrev pub name_of : Instruction → Name
name_of (instruction.Trade i f t x) = name.Trade
name_of (instruction.Deliver i a x) = name.Deliver
name_of (instruction.Resolve i a x) = name.Resolve
name_of (instruction.PairOff i a) = name.PairOff
name_of instruction.Close = name.Close
name_of instruction.Cutoff = name.Cutoff
name_of (instruction.Roll days rate) = name.Roll
name_of (instruction.Mark i m) = name.Mark
name_of (instruction.Turn d) = name.Turn

-- index of the first word, name, refusal number (0 if done), count of records (for pair-off, steps)
abbrev pub line : ℕ → Name → ℕ → ℕ → Line
line at n r c = record { index = at; name = n; refusal = r; count = c }

-- an output for a call of the program: what stands in it changes no line
abbrev pub any_output : List ℕ
any_output = replicate output_words 0

-- the answer to an instruction that stands at the front of some words
unfoldable pub answer_of : Book → Instruction → List ℕ → Answer
answer_of b x ws = called b (call_of x (quotes_of ws)) any_output

-- the lines printed, and the book at the end
pub record Ran : Type 0 where
  pub lines : List Line
  pub book : Book

-- a tape that ends where an instruction would begin prints nothing for it (a last word of 1 to 3 bytes is not whole)
abbrev pub ended : List ℕ → Bool → Bool
ended ws stray = eqb (length ws) 0 && not stray

abbrev pub stopped : List Line → Book → Ran
stopped ls b = record { lines = ls; book = b }

abbrev pub after_line : Line → Ran → Ran
after_line l r = record { lines = l ∷ r.lines; book = r.book }

-- a reader's refusal prints index, `tape`, number, 0 and ends reading; an instruction is answered, and reading goes on
abbrev pub after_read : ℕ → Book → Result (Instruction × ℕ) ℕ → (Instruction → ℕ → Ran) → Ran
after_read at b (Err r) on = stopped (line at name.Tape r 0 ∷ []) b
after_read at b (Ok r) on = on r.0 r.1

-- at most n instructions more, of the words from index `at` on
abbrev pub run_from : ℕ → ℕ → Book → List ℕ → Bool → Ran
run_from zero at b ws stray = stopped [] b
run_from (suc n) at b ws stray =
    cond (ended ws stray) (stopped [] b)
    (after_read at b (read_of ws) (λ x k.
    let a = answer_of b x ws in
    after_line (line at (name_of x) a.refusal a.count) (run_from n (at + k) a.book (drop k ws) stray)))

-- each instruction takes a word at least, so there are no more of them than words
abbrev pub run_rest : ℕ → Book → List ℕ → Bool → Ran
run_rest at b ws stray = run_from (suc (length ws)) at b ws stray

-- the run of a tape, from a fresh book on
unfoldable pub run_of : List ℕ → Bool → Ran
run_of ws stray = run_rest 0 fresh ws stray

-- then `F` issue from to lots day for each entry
abbrev pub fail_lines : Book → List Entry
fail_lines b = ledger_of b

-- and `C` account yen for each charge not 0, ascending
pub record ChargeLine : Type 0 where
  pub account : ℕ
  pub yen : ℤ

abbrev pub charge_lines_from : ℕ → List ℤ → List ChargeLine
charge_lines_from a [] = []
charge_lines_from a (y ∷ ys) =
    cond (eqb (nat_abs y) 0) (charge_lines_from (suc a) ys) (record { account = a; yen = y } ∷ charge_lines_from (suc a) ys)

abbrev pub charge_lines : Book → List ChargeLine
charge_lines b = charge_lines_from 0 b.charges
