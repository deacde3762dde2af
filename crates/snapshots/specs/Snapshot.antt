-- A snapshot: the words of a book, and the book of words.
use Rattle.std.specs.Prelude.{◌≡◌, Bool, Result, Ok, Err, true, ◌&&◌, List, [], ◌∷◌, ◌++◌, map, ℕ, zero, suc, ◌<◌, ◌/◌, ◌%◌, eqb, length, get_or, drop}
use Rattle.rules.specs.declared.Book.{Book}
use Rattle.rules.specs.Book.{state_of, book_of, sound, all, Lengths}
use Rattle.rules.specs.Questions.{Question, ask, first_no}
use Rattle.checksums.specs.Sums.{word_size, below, weighted}
use Rattle.snapshots.specs.Words.{phase_word, phase_in, signed_word, signed_in, long_words, longs_in, issue_in, from_in, to_in, day_in, entry_words, joined, parted}

-- the number of the format
abbrev pub version : ℕ
version = 1399734321

-- a body behind the version and its weighted sum, the low half first
abbrev pub seal : List ℕ → List ℕ
seal body = version ∷ weighted body % word_size ∷ weighted body / word_size ∷ body

-- day, phase, number of entries, first day of the new order; marks; nets; delivered lots; lifts; charges; of the ledger's
-- entries issue, from, to and day; their lots
abbrev pub widths : List ℕ
widths = 4 ∷ 16 ∷ 1024 ∷ 1024 ∷ 288 ∷ 128 ∷ 2048 ∷ 2048 ∷ []

-- the words of a snapshot: 3 of the seal, and the columns
abbrev pub snapshot_words : ℕ
snapshot_words = 6583

abbrev pub columns_of : Book → List (List ℕ)
columns_of b =
    (b.state.day ∷ phase_word b.state.phase ∷ b.state.entries ∷ b.state.turn ∷ [])
    ∷ b.state.marks
    ∷ map signed_word b.nets
    ∷ b.delivered
    ∷ b.lifts
    ∷ long_words b.charges
    ∷ entry_words b.issues b.froms b.tos b.days
    ∷ b.lots
    ∷ []

abbrev pub book_from : List (List ℕ) → Book
book_from cs =
    let s = get_or cs 0 [] in
    let es = get_or cs 6 [] in
    book_of (state_of (get_or s 0 0) (phase_in (get_or s 1 0)) (get_or s 2 0) (get_or s 3 0) (get_or cs 1 []))
    (map signed_in (get_or cs 2 [])) (get_or cs 3 []) (get_or cs 4 []) (longs_in (get_or cs 5 []))
    (map issue_in es) (map from_in es) (map to_in es) (get_or cs 7 []) (map day_in es)

-- the words of a book
unfoldable pub saved : Book → List ℕ
saved b = seal (joined (columns_of b))

-- the columns of words, and their book
unfoldable pub columns_in : List ℕ → List (List ℕ)
columns_in ws = parted widths (drop 3 ws)

unfoldable pub book_in : List ℕ → Book
book_in ws = book_from (columns_in ws)

-- numbers that fit the book's fields; the phase is one of three
unfoldable pub fitting : Book → ℕ → Bool
fitting b phase = all (below 256) b.state.marks && below 65536 b.state.day && below 3 phase

unfoldable pub seal_questions : List ℕ → List Question
seal_questions ws =
    -- 1. Are there so many words, of 32 bits?
    ask 1 (eqb (length ws) snapshot_words && all (below word_size) ws)
    -- 2. Is it this version?
    ∷ ask 2 (eqb (get_or ws 0 0) version)
    -- 3. Is the checksum right?
    ∷ ask 3 (eqb (get_or ws 1 0) (weighted (drop 3 ws) % word_size) && eqb (get_or ws 2 0) (weighted (drop 3 ws) / word_size))
    ∷ []

unfoldable pub questions : List ℕ → List Question
unfolding seal_questions
questions ws =
    seal_questions ws
    -- 4. Does each number fit its field?
    ++ (ask 4 (fitting (book_in ws) (get_or ws 4 0))
    -- 5. Is the book sound?
    ∷ ask 5 (sound (book_in ws))
    ∷ [])

-- what words are opened as: a book, or the number of the question answered 'no'
abbrev pub Opened : Type 0
Opened = Result Book ℕ

abbrev pub answer : ℕ → Book → Opened
answer zero b = Ok b
answer (suc n) b = Err (suc n)

-- the book of words, or the number of the question answered 'no'
unfoldable pub opened : List ℕ → Opened
opened ws = answer (first_no (questions ws)) (book_in ws)

-- what of a book the types of its fields and columns give
pub record Typed (b : Book) : Type 0 where
  pub lengths : Lengths b.nets b.delivered b.lifts b.charges b.issues b.froms b.tos b.lots b.days
  pub sixteen : length b.state.marks ≡ 16
  pub day : b.state.day < 65536
  pub turn : b.state.turn < word_size
  pub marks : all (below 256) b.state.marks ≡ true
  pub lifts : all (below word_size) b.lifts ≡ true
