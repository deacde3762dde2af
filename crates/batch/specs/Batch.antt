-- Instructions of a tape's words on a book, made as their calls one by one: each gets the book that the last one left, and the
-- rest of both outputs.
use Rattle.std.specs.Prelude.{◌≡◌, Bool, true, cond, ◌&&◌, List, [], ◌∷◌, ◌++◌, ℕ, zero, suc, ◌+◌, ◌-◌, ◌*◌, ◌≤◌, ◌<◌, ◌^◌, leb, length, take, drop, Result, Ok, Err}
use Rattle.rules.specs.declared.Book.{Book}
use Rattle.rules.specs.declared.Instruction.{Instruction}
use Rattle.rules.specs.declared.Refusal.{Refusal}
use Rattle.rules.specs.declared.State.{State}
use Rattle.rules.specs.Refusals.{number_in}
use Rattle.rules.specs.Measures.{output_words}
use Rattle.rules.specs.Book.{sound, Lengths}
use Rattle.rules.specs.Questions.{ask, first_no}
use Rattle.rules.specs.Records.{over}
use Rattle.rules.specs.Calls.{Answer, lends, called}
use Rattle.rules.specs.Tape.{read_of, quotes_of}
use Rattle.rules.specs.Run.{call_of}
use Rattle.book.specs.States.{Column, SharedColumn, Columns}
use Rattle.columns.specs.declared.LentColumns.{LentColumns}
use Rattle.columns.specs.Books.{lent_book}
use Rattle.host.specs.declared.DayState.{DayState}
use Rattle.host.specs.States.{number_of, state_in, numbers_of as state_numbers, book_at, sound_at}
use Rattle.batch.specs.declared.DayRan.{DayRan}
use Rattle.batch.specs.declared.Ran.{Ran}
use Rattle.batch.specs.declared.Stand.{Stand}

-- the answer to an instruction that stands at the front of some words, beside an output
abbrev pub answer_at : Book → Instruction → List ℕ → List ℕ → Answer
answer_at b x ws out = called b (call_of x (quotes_of ws)) out

-- the calls that write records: of the others no count is one of records
abbrev pub writes_records : Instruction → Bool
writes_records x = lends (call_of x [])

-- the words of those that an instruction wrote, two each
abbrev pub written_by : Instruction → ℕ → ℕ
written_by x count = cond (writes_records x) (2 * count) 0

-- the three numbers that are told of an answer: refusal, count, lots cancelled
abbrev pub answer_numbers : ℕ
answer_numbers = 3

abbrev pub numbers_of : Answer → List ℕ
numbers_of a = a.refusal ∷ a.count ∷ a.cancelled ∷ []

-- places that are left for numbers and words are enough for any instruction
abbrev pub has_room : ℕ → ℕ → Bool
has_room answers out = leb answer_numbers answers && leb output_words out

-- what is answered of some words: why it stopped, how many instructions, their words, the words of their records; the book, and
-- both outputs
pub record Batch : Type 0 where
  pub refusal : ℕ
  pub answered : ℕ
  pub used : ℕ
  pub written : ℕ
  pub book : Book
  pub answers : List ℕ
  pub out : List ℕ

-- nothing more is answered
abbrev pub stops : ℕ → Book → List ℕ → List ℕ → Batch
stops r b answers out = record { refusal = r; answered = 0; used = 0; written = 0; book = b; answers = answers; out = out }

-- instructions, their words, the words of their records, numbers and records that stand before the others
abbrev pub behind : ℕ → ℕ → ℕ → List ℕ → List ℕ → Batch → Batch
behind n k w numbers records d =
    record {
      refusal = d.refusal;
      answered = n + d.answered;
      used = k + d.used;
      written = w + d.written;
      book = d.book;
      answers = numbers ++ d.answers;
      out = records ++ d.out;
    }

-- an instruction of k words that is answered, and what follows it: the rest of the outputs is for the next
abbrev pub followed : Instruction → ℕ → Answer → (List ℕ → Batch) → Batch
followed x k a on =
    let w = written_by x a.count in
    behind 1 k w (numbers_of a) (take w a.out) (on (drop w a.out))

abbrev pub on_read : Result (Instruction × ℕ) ℕ → (ℕ → Batch) → (Instruction → ℕ → Batch) → Batch
on_read (Err r) end on = end r
on_read (Ok (x, k)) end on = on x k

-- the first n instructions of some words, or fewer: it stops at the end of the words, by the reader's number, or where there is
-- no room for another
unfoldable pub batch_from : ℕ → Book → List ℕ → List ℕ → List ℕ → Batch
batch_from zero b ws answers out = stops 0 b answers out
batch_from (suc n) b [] answers out = stops 0 b answers out
batch_from (suc n) b (w ∷ ws) answers out =
    on_read (read_of (w ∷ ws)) (λ r. stops r b answers out) (λ x k.
    cond (has_room (length answers) (length out))
    (let a = answer_at b x (w ∷ ws) out in
    followed x k a (λ rest. batch_from n a.book (drop k (w ∷ ws)) (drop answer_numbers answers) rest))
    (stops 0 b answers out))

-- each instruction takes a word at least, so there are no more of them than words
abbrev pub batch_of : Book → List ℕ → List ℕ → List ℕ → Batch
batch_of b ws answers out = batch_from (length ws) b ws answers out

-- on a host's book: 1, where there is no room for one instruction, and 2; then the instructions
abbrev pub unless_refused : ℕ → Book → List ℕ → List ℕ → Batch → Batch
unless_refused zero b answers out d = d
unless_refused (suc r) b answers out d = stops (suc r) b answers out

unfoldable pub day_batch : ℕ → Book → List ℕ → List ℕ → List ℕ → Batch
day_batch phase b ws answers out =
    unless_refused (first_no (ask 1 (has_room (length answers) (length out)) ∷ ask 2 (sound_at phase b) ∷ [])) b answers out (batch_of b ws answers out)

-- what a function gives is that, with this number of a phase
pub record BatchIs (d : Batch) (phase : ℕ) (r : DayRan) (after : Book) (numbers words : List ℕ) : Type 0 where
  pub refusal : r.refusal ≡ d.refusal
  pub answered : r.answered ≡ d.answered
  pub used : r.used ≡ d.used
  pub written : r.written ≡ d.written
  pub book : after ≡ d.book
  pub stage : r.state.phase ≡ phase
  pub answers : numbers ≡ d.answers
  pub out : words ≡ d.out

-- of a host's book: a number that is no phase stays
abbrev pub DayRanIs : List ℕ → DayState → List ℕ → List ℕ → List ℕ → List ℕ → DayRan → LentColumns → LentColumns → Type 0
DayRanIs ws h answers answers' out out' r before after =
    let d = day_batch h.phase (lent_book (state_in h) before) ws answers out in
    BatchIs d (cond (leb h.phase 2) (number_of d.book.state.phase) h.phase) r (lent_book (state_in r.state) after) answers' out'

-- the same of columns that are lent one by one
abbrev pub DayRanIn : SharedColumn ℕ → DayState → Column ℕ → Column ℕ → DayRan → Columns → Type 0
DayRanIn words h answers out r c =
    let d = day_batch h.phase (book_at h c) words.entry.now answers.entry.now out.entry.now in
    BatchIs d (cond (leb h.phase 2) (number_of d.book.state.phase) h.phase) r (c.after (state_in r.state)) answers.exit.now out.exit.now

-- a refusal's number, with nothing done
abbrev pub stopped_by : ℕ → DayState → DayRan
stopped_by r h = record { refusal = r; answered = 0; used = 0; written = 0; state = h }

-- one turn of the code: both outputs, the words written and the book are those of the answer, and the book is sound, in columns
-- of a book's lengths
pub record Stepped (ws : List ℕ) (x : Instruction) (b : Book) (answers answers' out out' : List ℕ) (written : ℕ) (b' : Book) : Type 0 where
  pub told : answers' ≡ over (numbers_of (answer_at b x ws out)) answers
  pub left : out' ≡ (answer_at b x ws out).out
  pub put : written ≡ written_by x (answer_at b x ws out).count
  pub book : b' ≡ (answer_at b x ws out).book
  pub lengths : Lengths b'.nets b'.delivered b'.lifts b'.charges b'.issues b'.froms b'.tos b'.lots b'.days
  pub sound : sound b' ≡ true

-- A run on its way

-- a place within the words and the answers
abbrev pub within : List ℕ → List ℕ → Stand → Type 0
within ws answers p = (p.used ≤ length ws) × (answer_numbers * p.answered ≤ length answers)

-- the place behind one more instruction, of so many words, the records of which have so many
abbrev pub place_behind : Stand → ℕ → ℕ → Stand
place_behind p k w = record { used = p.used + k; answered = p.answered + 1; written = p.written + w }

pub record CanGoOn (p : Stand) (k w : ℕ) : Type 0 where
  pub words : p.used + k < 2 ^ 64
  pub numbers : p.answered + 1 < 2 ^ 64
  pub records : p.written + w < 2 ^ 64

-- what is done so far, with what is answered from here on behind it, is what is answered of all words
pub record Running (b₀ : Book) (ws answers₀ out₀ : List ℕ) (p : Stand) (b : Book) (answers out : List ℕ) : Type 0 where
  pub within : p.used ≤ length ws
  pub told : answer_numbers * p.answered ≤ length answers
  pub put : p.written ≤ length out
  pub left : ℕ
  pub enough : length ws ≤ p.used + left
  pub same :
      batch_of b₀ ws answers₀ out₀
      ≡ behind p.answered p.used p.written (take (answer_numbers * p.answered) answers) (take p.written out)
      (batch_from left b (drop p.used ws) (drop (answer_numbers * p.answered) answers) (drop p.written out))

-- instructions that are passed: a run that stands in front of them goes on behind them
pub record Passed (ws : List ℕ) (b b' : Book) (answers answers' out out' : List ℕ) (from to : Stand) : Type 0 where
  pub on : from.used ≤ to.used
  pub going : (b₀ : Book) (answers₀ out₀ : List ℕ) → Running b₀ ws answers₀ out₀ from b answers out → Running b₀ ws answers₀ out₀ to b' answers' out'

-- with whichever output has so much room
abbrev pub PassedBeside : List ℕ → Book → Book → List ℕ → List ℕ → ℕ → Stand → Stand → Type 0
PassedBeside ws b b' answers answers' room from to =
    (out : List ℕ) → length out - from.written ≡ room → Passed ws b b' answers answers' out out from to

-- where a run ends, and what it leaves
pub record Stopped (d : Batch) (r : ℕ) (p : Stand) (b : Book) (numbers words : List ℕ) : Type 0 where
  pub refusal : r ≡ d.refusal
  pub answered : p.answered ≡ d.answered
  pub used : p.used ≡ d.used
  pub written : p.written ≡ d.written
  pub book : b ≡ d.book
  pub answers : numbers ≡ d.answers
  pub out : words ≡ d.out

abbrev pub RanIs : List ℕ → Book → List ℕ → List ℕ → List ℕ → List ℕ → Ran → Book → Type 0
RanIs ws b answers answers' out out' r b' = Stopped (batch_of b ws answers out) (number_in r.stop) r.stand b' answers' out'

abbrev pub ended_at : Result Unit Refusal → Stand → State → Ran
ended_at r p s = record { stop = r; stand = p; state = s }

-- in plain numbers
abbrev pub told_of : Ran → DayRan
told_of r =
    record {
      refusal = number_in r.stop;
      answered = r.stand.answered;
      used = r.stand.used;
      written = r.stand.written;
      state = state_numbers r.state;
    }
