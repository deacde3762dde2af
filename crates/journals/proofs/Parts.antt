-- The parts of a record: its number, the words of its call, its checksum.
use mathlib.Core.Path.{◌≡◌, refl, ap, ◌∙◌}
use mathlib.Core.Bool.{true}
use mathlib.Core.List.{List, [], ◌∷◌, ◌++◌, append_assoc}
use Prim.Native.Nat.{ℕ, suc, ◌+◌, ◌-◌, ◌/◌, ◌%◌, ◌≤◌}
use native.Mathlib.Omega.{arith}
use lib.ListN.{length, get_or, take, replicate, length-append, length-replicate, length-map}
use lib.Seq.{take_at, get_or_at, get_or-append-add}
use Rattle.rules.specs.declared.Instruction.{Instruction}
use Rattle.rules.specs.declared.Instruction.TheVariants.{Trade, Deliver, Resolve, PairOff, Close, Cutoff, Roll, Mark, Turn}
use Rattle.rules.specs.Measures.{tape_words}
use Rattle.rules.specs.Tape.{quote_word, words_of, fields_fit}
use Rattle.writing.proofs.Fitting.{roll_fits}
use Rattle.checksums.specs.Sums.{word_size, weighted}
use Rattle.journals.specs.Record.{record_words, summed_words, Logged, instructed, committed, Fits, call_words, padded, closed, record_of, call_part}
use Rattle.journals.proofs.Checked.{Summed}

-- an instruction has at most thirty-three words, and so has a commit
pub words_count : (x : Instruction) (quotes : List ℕ) → fields_fit x quotes ≡ true → length (words_of x quotes) ≤ tape_words
words_count (Trade i f t x) quotes h = omega arith
words_count (Deliver i a x) quotes h = omega arith
words_count (Resolve i a x) quotes h = omega arith
words_count (PairOff i a) quotes h = omega arith
words_count Close quotes h = omega arith
words_count Cutoff quotes h = omega arith
words_count (Roll days rate) quotes h = omega (arith, length-map quotes quote_word, (roll_fits days rate quotes h).count)
words_count (Mark i m) quotes h = omega arith
words_count (Turn d) quotes h = omega arith

pub call_count : (c : Logged) → Fits c → length (call_words c) ≤ tape_words
call_count (instructed x quotes) f = words_count x quotes f.0
call_count (committed t) f = omega arith

pub length_padded : (ws : List ℕ) → length ws ≤ tape_words → length (padded ws) ≡ tape_words
unfolding padded
length_padded ws h =
    length-append ws (replicate (tape_words - length ws) 0)
    ∙ omega (arith, length-replicate {A = ℕ} (tape_words - length ws) 0)

-- a body of n words with its checksum, whatever follows
module _ (n : ℕ) (body : List ℕ) (e : length body ≡ n) where
  abbrev low : ℕ
  low = weighted body % word_size

  abbrev high : ℕ
  high = weighted body / word_size

  pub length_closed : length (closed body) ≡ 2 + n
  unfolding closed
  length_closed = length-append body (low ∷ high ∷ []) ∙ omega (arith, e)

  module _ (rest : List ℕ) where
    laid : closed body ++ rest ≡ body ++ (low ∷ high ∷ rest)
    unfolding closed
    laid = append_assoc body (low ∷ high ∷ []) rest

    pub closed_body : take n (closed body ++ rest) ≡ body
    closed_body = ap (take n) laid ∙ take_at body (low ∷ high ∷ rest) n e

    closed_low : get_or (closed body ++ rest) n 0 ≡ low
    closed_low = ap (λ l. get_or l n 0) laid ∙ get_or_at body low (high ∷ rest) 0 n e

    closed_high : get_or (closed body ++ rest) (suc n) 0 ≡ high
    closed_high =
        let k : suc n ≡ length body + 1 = omega (arith, e) in
        ap (λ l. get_or l (suc n) 0) laid ∙ ap (λ m. get_or (body ++ (low ∷ high ∷ rest)) m 0) k
        ∙ get_or-append-add body (low ∷ high ∷ rest) 1 0

    pub closed_summed : Summed n (closed body ++ rest)
    closed_summed = ap weighted closed_body ∙ omega (arith, closed_low, closed_high)

-- a record of a call that fits
module _ (n : ℕ) (c : Logged) (f : Fits c) where
  pub length_body : length (n ∷ padded (call_words c)) ≡ summed_words
  length_body = ap suc (length_padded (call_words c) (call_count c f))

  pub length_record : length (record_of n c) ≡ record_words
  unfolding record_of
  length_record = length_closed summed_words (n ∷ padded (call_words c)) length_body

  module _ (rest : List ℕ) where
    pub record_summed : Summed summed_words (record_of n c ++ rest)
    unfolding record_of
    record_summed = closed_summed summed_words (n ∷ padded (call_words c)) length_body rest

    pub record_number : get_or (record_of n c ++ rest) 0 0 ≡ n
    unfolding record_of closed
    record_number = refl

    pub record_call : call_part (record_of n c ++ rest) ≡ padded (call_words c)
    unfolding record_of closed
    record_call =
        let b = n ∷ padded (call_words c) in
        let q = weighted b % word_size ∷ weighted b / word_size ∷ [] in
        ap (take tape_words) (append_assoc (padded (call_words c)) q rest)
        ∙ take_at (padded (call_words c)) (q ++ rest) tape_words (length_padded (call_words c) (call_count c f))
