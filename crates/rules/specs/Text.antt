-- What the program prints, as bytes.
use Rattle.std.specs.Prelude.{◌≡◌, Bool, true, cond, List, [], ◌∷◌, ◌++◌, ℕ, zero, suc, ◌+◌, ◌/◌, ◌%◌, ltb, length, take, drop, ℤ, pos, negsuc}
use Rattle.rules.specs.declared.Book.{Book}
use Rattle.rules.specs.declared.Entry.{Entry}
use Rattle.rules.specs.declared.Line.{Line}
use Rattle.rules.specs.declared.Name.{Name}
use Rattle.rules.specs.declared.Name.TheVariants.{Trade, Deliver, Resolve, PairOff, Close, Cutoff, Roll, Mark, Turn, Tape}
use Rattle.rules.specs.Bytes.{words_in, stray_in}
use Rattle.rules.specs.Run.{Ran, ChargeLine, run_of, fail_lines, charge_lines}

-- at most so many decimal digits of n, with no 0 in front
abbrev pub digits_up_to : ℕ → ℕ → List ℕ
digits_up_to zero n = []
digits_up_to (suc k) n = cond (ltb n 10) ((48 + n) ∷ []) (digits_up_to k (n / 10) ++ ((48 + n % 10) ∷ []))

-- a number below 2 ^ 64 has at most twenty
unfoldable pub decimal : ℕ → List ℕ
decimal n = digits_up_to 20 n

-- with a minus in front of a negative one
abbrev pub signed : ℤ → List ℕ
signed (pos n) = decimal n
signed (negsuc n) = 45 ∷ decimal (suc n)

-- trade, deliver, resolve, pair-off, close, cutoff, roll, mark, turn, tape
abbrev pub name_text : Name → List ℕ
name_text Trade = 116 ∷ 114 ∷ 97 ∷ 100 ∷ 101 ∷ []
name_text Deliver = 100 ∷ 101 ∷ 108 ∷ 105 ∷ 118 ∷ 101 ∷ 114 ∷ []
name_text Resolve = 114 ∷ 101 ∷ 115 ∷ 111 ∷ 108 ∷ 118 ∷ 101 ∷ []
name_text PairOff = 112 ∷ 97 ∷ 105 ∷ 114 ∷ 45 ∷ 111 ∷ 102 ∷ 102 ∷ []
name_text Close = 99 ∷ 108 ∷ 111 ∷ 115 ∷ 101 ∷ []
name_text Cutoff = 99 ∷ 117 ∷ 116 ∷ 111 ∷ 102 ∷ 102 ∷ []
name_text Roll = 114 ∷ 111 ∷ 108 ∷ 108 ∷ []
name_text Mark = 109 ∷ 97 ∷ 114 ∷ 107 ∷ []
name_text Turn = 116 ∷ 117 ∷ 114 ∷ 110 ∷ []
name_text Tape = 116 ∷ 97 ∷ 112 ∷ 101 ∷ []

-- a space and a number
abbrev pub field : ℕ → List ℕ
field n = 32 ∷ decimal n

-- index, name, refusal number, count
unfoldable pub line_text : Line → List ℕ
line_text l =
    decimal l.index ++ (32 ∷ []) ++ name_text l.name ++ field l.refusal ++ field l.count ++ (10 ∷ [])

abbrev pub lines_text : List Line → List ℕ
lines_text [] = []
lines_text (l ∷ ls) = line_text l ++ lines_text ls

-- `F` issue from to lots day
unfoldable pub fail_text : Entry → List ℕ
fail_text e =
    (70 ∷ []) ++ field e.issue ++ field e.from ++ field e.to ++ field e.lots ++ field e.day ++ (10 ∷ [])

abbrev pub fails_text : List Entry → List ℕ
fails_text [] = []
fails_text (e ∷ es) = fail_text e ++ fails_text es

abbrev pub yen_of : ℕ → ℤ → ChargeLine
yen_of a y = record { account = a; yen = y }

-- `C` account yen
unfoldable pub charge_text : ChargeLine → List ℕ
charge_text c = (67 ∷ []) ++ field c.account ++ (32 ∷ []) ++ signed c.yen ++ (10 ∷ [])

abbrev pub charges_text : List ChargeLine → List ℕ
charges_text [] = []
charges_text (c ∷ cs) = charge_text c ++ charges_text cs

-- the run of a tape, from its bytes
unfoldable pub ran_of : List ℕ → Ran
ran_of bytes = run_of (words_in bytes) (stray_in bytes)

-- the lines behind a run's: the ledger's entries and the charges of the book in which it ends
unfoldable pub closing_text : Book → List ℕ
closing_text b = fails_text (fail_lines b) ++ charges_text (charge_lines b)

-- all that is printed for a tape, from its bytes
unfoldable pub printed_of : List ℕ → List ℕ
printed_of bytes = lines_text (ran_of bytes).lines ++ closing_text (ran_of bytes).book

-- bytes that may be written when `sent` were: of the bytes that came, what is printed from there on. Until the tape has ended it
-- must be so whatever bytes still come; so a tape that could not be read to its end gives no `F` and no `C`
pub record PrintedAt (came : List ℕ) (ended : Bool) (sent : ℕ) (text : List ℕ) : Type 0 where
  pub part : (more : List ℕ) → (ended ≡ true → more ≡ []) → take (length text) (drop sent (printed_of (came ++ more))) ≡ text
