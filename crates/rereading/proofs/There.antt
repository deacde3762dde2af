-- Written is read: each field of a written word lies apart from the others, so no word is wrong and each field is read back.
use mathlib.Core.Path.{◌≡◌, refl, ◌∙◌}
use mathlib.Core.Bool.{true}
use mathlib.Core.List.{List, [], ◌∷◌, ◌++◌, map}
use Prim.Native.Nat.{ℕ, ◌^◌, ◌/◌, ◌%◌, ◌<◌}
use native.Mathlib.Omega.{arith}
use borrow.Author.Tests.{ltb-true}
use lib.Dec.{leb}
use lib.ListN.{length, drop, length-map}
use lib.Seq.{take_at}
use Rattle.rules.specs.declared.Instruction.{Instruction}
use Rattle.rules.specs.declared.Instruction.TheVariants.{Trade, Deliver, Resolve, PairOff, Close, Cutoff, Roll, Mark, Turn}
use Rattle.std.specs.Prelude.{Ok}
use Rattle.rules.specs.Measures.{quote_count, tape_words}
use Rattle.rules.specs.Book.{all}
use Rattle.rules.specs.Records.{bits, issue_bits, days_bits, rate_bits, mark_bits, day_bits, quote_bits, of_field, head_word, over}
use Rattle.rules.specs.Tape.{kind_of, words_wrong, read_of, quotes_of, roll_word, mark_word, turn_word, quote_word, words_of, fits, fields_fit, write_of}
use Rattle.laws.proofs.Basics.{by_test, and_left, and_right}
use Rattle.words.proofs.Fields.{kind_read, issue_read, from_read, to_read, lots_read, lots_kind}
use Rattle.writing.proofs.Fitting.{RollFits, roll_fits, MarkFits, mark_fits, head_fits_lem, lots_fit}

-- what is below a head's fields
below_to : (k i f t : ℕ) → of_field (bits 0 12) (head_word k i f t) ≡ 0
below_to k i f t = omega arith

below_from : (k i f : ℕ) → of_field (bits 0 18) (head_word k i f 0) ≡ 0
below_from k i f = omega arith

-- a mark's word
module _ (i m : ℕ) (h : MarkFits i m) where
  mark_kind : kind_of (mark_word i m) ≡ 13
  mark_kind = omega arith

  mark_issue : of_field issue_bits (mark_word i m) ≡ i
  mark_issue = omega arith

  mark_bit : of_field mark_bits (mark_word i m) ≡ m
  mark_bit = omega arith

  mark_clears : of_field (bits 1 23) (mark_word i m) ≡ 0
  mark_clears = omega arith

-- a turn's word
module _ (d : ℕ) (h : d < 2 ^ 16) where
  turn_kind : kind_of (turn_word d) ≡ 14
  turn_kind = omega arith

  turn_day : of_field day_bits (turn_word d) ≡ d
  turn_day = omega arith

  turn_clears : of_field (bits 16 12) (turn_word d) ≡ 0
  turn_clears = omega arith

-- words of quotes are right, and give their quotes
module _ (p : ℕ) (h : p < 2 ^ 18) where
  quote_kind : kind_of (quote_word p) ≡ 9
  quote_kind = omega arith

  quote_clears : of_field (bits 18 10) (quote_word p) ≡ 0
  quote_clears = omega arith

  quote_back : of_field quote_bits (quote_word p) ≡ p
  quote_back = omega arith

quotes_right_lem : (ps rest : List ℕ) → all (fits quote_bits) ps ≡ true → words_wrong 9 (length ps) (map quote_word ps ++ rest) ≡ 0
quotes_right_lem [] rest e = refl
quotes_right_lem (p ∷ ps) rest e =
    let h : p < 2 ^ 18 = ltb-true p 262144 (and_left (fits quote_bits p) (all (fits quote_bits) ps) e) in
    simp (quote_kind p h, quote_clears p h) (quotes_right_lem ps rest (and_right (fits quote_bits p) (all (fits quote_bits) ps) e))

quotes_back : (ps : List ℕ) → all (fits quote_bits) ps ≡ true → map (of_field quote_bits) (map quote_word ps) ≡ ps
quotes_back [] e = refl
quotes_back (p ∷ ps) e =
    rw (quote_back p (ltb-true p 262144 (and_left (fits quote_bits p) (all (fits quote_bits) ps) e)), quotes_back ps (and_right (fits quote_bits p) (all (fits quote_bits) ps) e))

-- a roll whose fields fit
module _ (days rate : ℕ) (quotes rest : List ℕ) (fit : fields_fit (Roll days rate) quotes ≡ true) where
  fields : RollFits days rate quotes
  fields = roll_fits days rate quotes fit

  roll_kind : kind_of (roll_word days rate) ≡ 7
  roll_kind = let f = fields in omega arith

  roll_days : of_field days_bits (roll_word days rate) ≡ days
  roll_days = let f = fields in omega arith

  roll_rate : of_field rate_bits (roll_word days rate) ≡ rate
  roll_rate = let f = fields in omega arith

  roll_clears : of_field (bits 0 10) (roll_word days rate) ≡ 0
  roll_clears = omega arith

  roll_read : read_of (words_of (Roll days rate) quotes ++ rest) ≡ Ok (Roll days rate, length (words_of (Roll days rate) quotes))
  unfolding read_of
  roll_read =
      simp (roll_kind, roll_days, roll_rate, roll_clears, length-map quotes quote_word, fields.count)
      (rw (rw fields.count at (quotes_right_lem quotes rest fields.each)))

  -- and the quotes are read back
  pub quotes_read : quotes_of (words_of (Roll days rate) quotes ++ rest) ≡ quotes
  unfolding quotes_of
  quotes_read =
      rw (take_at (map quote_word quotes) rest quote_count (length-map quotes quote_word ∙ fields.count)) (quotes_back quotes fields.each)

mod_one : (w : ℕ) → w / 1 % 1 ≡ 0
mod_one w = omega arith

-- an instruction whose fields fit is read back from the words written for it, whatever follows
pub written_is_read : (x : Instruction) (quotes rest : List ℕ) → fields_fit x quotes ≡ true →
    read_of (words_of x quotes ++ rest) ≡ Ok (x, length (words_of x quotes))
unfolding read_of
written_is_read (Trade i f t x) quotes rest fit =
    let h = head_fits_lem 1 i f t x (omega arith) fit in
    let l = lots_fit 1 i f t x (omega arith) fit in
    simp (kind_read 1 i f t h, issue_read 1 i f t h, from_read 1 i f t h, to_read 1 i f t h, below_to 1 i f t, lots_read x l, lots_kind x l, mod_one)
written_is_read (Deliver i a x) quotes rest fit =
    let h = head_fits_lem 2 i a 0 x (omega arith) fit in
    let l = lots_fit 2 i a 0 x (omega arith) fit in
    simp (kind_read 2 i a 0 h, issue_read 2 i a 0 h, from_read 2 i a 0 h, below_from 2 i a, lots_read x l, lots_kind x l, mod_one)
written_is_read (Resolve i a x) quotes rest fit =
    let h = head_fits_lem 3 i a 0 x (omega arith) fit in
    let l = lots_fit 3 i a 0 x (omega arith) fit in
    simp (kind_read 3 i a 0 h, issue_read 3 i a 0 h, from_read 3 i a 0 h, below_from 3 i a, lots_read x l, lots_kind x l, mod_one)
written_is_read (PairOff i a) quotes rest fit =
    let h = head_fits_lem 4 i a 0 0 (omega arith) fit in
    simp (kind_read 4 i a 0 h, issue_read 4 i a 0 h, from_read 4 i a 0 h, below_from 4 i a)
written_is_read Close quotes rest fit = refl
written_is_read Cutoff quotes rest fit = refl
written_is_read (Roll days rate) quotes rest fit = roll_read days rate quotes rest fit
written_is_read (Mark i m) quotes rest fit =
    let h = mark_fits i m fit in
    simp (mark_kind i m h, mark_issue i m h, mark_bit i m h, mark_clears i m h)
written_is_read (Turn d) quotes rest fit =
    let h : d < 2 ^ 16 = ltb-true d 65536 fit in
    simp (turn_kind d h, turn_day d h, turn_clears d h)

-- the same of the writer's output, whatever stood in it
module _ (x : Instruction) (quotes out : List ℕ) (done : (write_of x quotes out).refusal ≡ 0) where
  roomy : leb tape_words (length out) ≡ true
  unfolding write_of
  roomy =
      by_test (leb tape_words (length out)) (λ t. t) (λ t. let z : ◌≡◌ {A = ℕ} 1 0 = simp t at done in absurd (omega arith))

  fitting : fields_fit x quotes ≡ true
  unfolding write_of
  fitting =
      by_test (fields_fit x quotes) (λ t. t)
      (λ t. let z : ◌≡◌ {A = ℕ} 15 0 = simp (roomy, t) at done in absurd (omega arith))

  stands : write_of x quotes out ≡ record { refusal = 0; count = length (words_of x quotes); out = over (words_of x quotes) out }
  unfolding write_of
  stands = simp (roomy, fitting)

  pub writer_is_read : read_of (write_of x quotes out).out ≡ Ok (x, (write_of x quotes out).count)
  writer_is_read = rw stands (written_is_read x quotes (drop (length (words_of x quotes)) out) fitting)

pub writer_quotes : (days rate : ℕ) (quotes out : List ℕ) → (write_of (Roll days rate) quotes out).refusal ≡ 0 →
    quotes_of (write_of (Roll days rate) quotes out).out ≡ quotes
writer_quotes days rate quotes out done =
    let x = Roll days rate in
    rw (stands x quotes out done)
    (quotes_read days rate quotes (drop (length (words_of x quotes)) out) (fitting x quotes out done))
