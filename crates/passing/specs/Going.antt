-- A run part by part: what is printed of the words that are there, and the run from where it stands then.
use Rattle.std.specs.Prelude.{◌≡◌, Bool, true, false, cond, List, [], ◌++◌, ℕ, ◌+◌, ◌*◌, ◌≤◌, ◌<◌, ◌^◌, leb, ltb, length, take, drop}
use Rattle.rules.specs.declared.Book.{Book}
use Rattle.rules.specs.declared.Instruction.{Instruction}
use Rattle.rules.specs.declared.Name.TheVariants.{Tape}
use Rattle.rules.specs.Book.{sound, Lengths}
use Rattle.rules.specs.Run.{Ran, line, name_of, answer_of, stopped, run_rest}
use Rattle.rules.specs.Text.{line_text, lines_text}
use Rattle.report.specs.Added.{Added}

-- one turn: the instruction's line is put down, and the book is the answer's
pub record Stepped (ws : List ℕ) (x : Instruction) (index : ℕ) (b : Book) (text text' : List ℕ) (at end : ℕ) (b' : Book) : Type 0 where
  pub printed : Added 72 text text' at end (line_text (line index (name_of x) (answer_of b x ws).refusal (answer_of b x ws).count))
  pub book : b' ≡ (answer_of b x ws).book
  pub lengths : Lengths b'.nets b'.delivered b'.lifts b'.charges b'.issues b'.froms b'.tos b'.lots b'.days
  pub sound : sound b' ≡ true

-- a whole instruction can be read: thirty-three words hold any, and the last words are all there are
abbrev pub enough : ℕ → Bool → Bool
enough left last = cond last (ltb 0 left) (leb 33 left)

-- a last word of 1 to 3 bytes has a line
abbrev pub stray_text : Bool → ℕ → List ℕ
stray_text stray index = cond stray (line_text (line index Tape 13 0)) []

-- what may follow some words: nothing where they are the last
pub record Follows (last stray : Bool) (more : List ℕ) (then : Bool) : Type 0 where
  pub none : last ≡ true → more ≡ []
  pub same : last ≡ true → then ≡ stray

-- what is printed of a run is this text and what is printed of another, and both end in one book
pub record Goes (from : Ran) (text : List ℕ) (on : Ran) : Type 0 where
  pub printed : lines_text from.lines ≡ text ++ lines_text on.lines
  pub book : from.book ≡ on.book

-- the run from an index on, or nothing more where it is over
abbrev pub onward : Bool → ℕ → Book → List ℕ → Bool → Ran
onward over at b ws stray = cond over (stopped [] b) (run_rest at b ws stray)

-- a part of a run: whatever follows the words, the run of them is this text and the run from here. Fewer words than any
-- instruction may have end no run, unless they are the last
pub record Went (ws : List ℕ) (last stray : Bool) (index : ℕ) (b : Book) (text : List ℕ) (used end : ℕ) (over : Bool) (b' : Book) : Type 0 where
  pub within : used ≤ length ws
  pub few : over ≡ false → length ws < used + 33
  pub goes : over ≡ false → last ≡ false
  pub waits : last ≡ false → length ws < 33 → over ≡ false
  pub fits : end ≤ 72 * (length ws + 1)
  pub sound : sound b' ≡ true
  pub run : (more : List ℕ) (then : Bool) → Follows last stray more then →
      Goes (run_rest index b (ws ++ more) then) (take end text) (onward over (index + used) b' (drop used ws ++ more) then)

-- a run on its way: the text so far, and the run from here, whatever follows the words
pub record Going (ws : List ℕ) (last stray : Bool) (index : ℕ) (b₀ b : Book) (text : List ℕ) (at end : ℕ) : Type 0 where
  pub within : at ≤ length ws
  pub short : end ≤ 72 * at
  pub run : (more : List ℕ) (then : Bool) → Follows last stray more then →
      Goes (run_rest index b₀ (ws ++ more) then) (take end text) (run_rest (index + at) b (drop at ws ++ more) then)

-- a book's columns have a book's lengths
abbrev pub LengthsOf : Book → Type 0
LengthsOf b = Lengths b.nets b.delivered b.lifts b.charges b.issues b.froms b.tos b.lots b.days

-- a sound book in such columns
pub record Held (b : Book) : Type 0 where
  pub lengths : LengthsOf b
  pub sound : sound b ≡ true

-- some book with what is lent is one
pub record SomeHeld (within : Book → Book) : Type 0 where
  pub rest : Book
  pub held : Held (within rest)

-- a place of a run, at a word and at the end of its text: a line for each word has room, and the index of each is a number of 64 bits
abbrev pub IsPlace : List ℕ → ℕ → List ℕ → ℕ → ℕ → Type 0
IsPlace ws index text at end = (at ≤ length ws) × (end ≤ 72 * at) × (72 * (length ws + 1) ≤ length text) × (index + length ws < 2 ^ 64)

-- instructions that are passed on a way, whichever book it is that has what is lent: it stays sound, and the way goes on behind them
pub record Passed (ws : List ℕ) (last : Bool) (index : ℕ) (before after : Book → Book) (text text' : List ℕ) (at end at' end' : ℕ) : Type 0 where
  pub on : at ≤ at'
  pub held : (b : Book) → Held (before b) → Held (after b)
  pub going : (stray : Bool) (b₀ b : Book) → Held (before b) → Going ws last stray index b₀ (before b) text at end →
      Going ws last stray index b₀ (after b) text' at' end'
