-- Read is written: the words that are read as a record are exactly those written for its call, and a journal that is read
-- whole is the journal of its calls.
use mathlib.Core.Path.{◌≡◌, refl, sym, ap, ◌∙◌}
use mathlib.Core.Bool.{Bool, true, false, cond, ◌&&◌}
use mathlib.Core.List.{List, [], ◌∷◌, ◌++◌}
use Prim.Native.Nat.{ℕ, zero, suc, ◌+◌, ◌-◌, ◌*◌, ◌/◌, ◌%◌, ◌≤◌, ◌<◌}
use native.Mathlib.Omega.{arith}
use borrow.Author.Tests.{eqb-true, leb-true, ltb-true, ltb-false}
use lib.Dec.{leb, ltb, eqb}
use lib.ListN.{length, get_or, take, drop, replicate, length-drop, length-take, take-append-drop, get_or-eq_default}
use lib.Seq.{length-take-le, get_or-take, get_or-drop, drop-cons, take-add}
use Rattle.rules.specs.declared.Instruction.{Instruction}
use Rattle.rules.specs.declared.Instruction.TheVariants.{Trade, Deliver, Resolve, PairOff, Close, Cutoff, Roll, Mark, Turn}
use Rattle.std.specs.Prelude.{Option, Some, None, Result, Ok, Err}
use Rattle.rules.specs.Measures.{tape_words}
use Rattle.rules.specs.Book.{all, is_zero}
use Rattle.rules.specs.Tape.{read_of, quotes_of, words_of}
use Rattle.laws.proofs.Basics.{by_test, and_left, and_right}
use Rattle.rereading.proofs.Sized.{read_sized}
use Rattle.rereading.proofs.Back.{Words, read_is_written}
use Rattle.checksums.specs.Sums.{word_size, weighted}
use Rattle.journals.specs.Record.{record_words, summed_words, Logged, quotes_for, commit_word, commit_words, ticket_words, ticket_in, call_words, padded, closed, record_of, checks, ticket_told, instruction_told, call_in, call_part, read_record}
use Rattle.journals.specs.Journal.{journal_from, journal_of, Next, call, none, torn, damaged, next_of, read_next, Journal, goes_on, whole, read_from, read_journal}
use Rattle.journals.proofs.Checked.{Summed, is_summed}
use Rattle.journals.proofs.There.{unread_call}

-- what is told where a test holds
told_if : {A : Type 0} (b : Bool) (x : Option A) (c : A) → cond b x None ≡ Some c → (b ≡ true) × (x ≡ Some c)
told_if true x c e = (refl, e)
told_if false x c e = absurd cc

some_back : {A : Type 0} {x y : A} → Some x ≡ Some y → y ≡ x
some_back e = cc

zeros : (ws : List ℕ) → all is_zero ws ≡ true → ws ≡ replicate (length ws) 0
zeros [] e = refl
zeros (w ∷ ws) e =
    let z : w ≡ 0 = eqb-true w 0 (and_left (is_zero w) (all is_zero ws) e) in
    rw z (ap (λ l. 0 ∷ l) (zeros ws (and_right (is_zero w) (all is_zero ws) e)))

-- words with zeros behind the first n are these n, padded
pad_back : (n : ℕ) (ps : List ℕ) → length ps ≡ tape_words → n ≤ tape_words → all is_zero (drop n ps) ≡ true → padded (take n ps) ≡ ps
unfolding padded
pad_back n ps h l e =
    let t : length (take n ps) ≡ n = length-take-le n ps (omega arith) in
    let k : tape_words - length (take n ps) ≡ length (drop n ps) = omega (arith, t, length-drop n ps) in
    ap (λ m. take n ps ++ replicate m 0) k ∙ ap (λ l. take n ps ++ l) (sym (zeros (drop n ps) e)) ∙ take-append-drop n ps

-- a commit
seven : (ps : List ℕ) → length ps ≡ tape_words → get_or ps 0 0 ∷ ticket_words (ticket_in (drop 1 ps)) ≡ take commit_words ps
seven [] h = absurd (omega arith)
seven (a ∷ []) h = absurd (omega arith)
seven (a ∷ b ∷ []) h = absurd (omega arith)
seven (a ∷ b ∷ c ∷ []) h = absurd (omega arith)
seven (a ∷ b ∷ c ∷ d ∷ []) h = absurd (omega arith)
seven (a ∷ b ∷ c ∷ d ∷ e ∷ []) h = absurd (omega arith)
seven (a ∷ b ∷ c ∷ d ∷ e ∷ f ∷ []) h = absurd (omega arith)
seven (a ∷ b ∷ c ∷ d ∷ e ∷ f ∷ g ∷ ps) h = refl

-- the words of an instruction have no other quotes than its own
pub words_told : (x : Instruction) (quotes : List ℕ) → words_of x (quotes_for x quotes) ≡ words_of x quotes
words_told (Trade i f t x) quotes = refl
words_told (Deliver i a x) quotes = refl
words_told (Resolve i a x) quotes = refl
words_told (PairOff i a) quotes = refl
words_told Close quotes = refl
words_told Cutoff quotes = refl
words_told (Roll days rate) quotes = refl
words_told (Mark i m) quotes = refl
words_told (Turn d) quotes = refl

module _ (ps : List ℕ) (h : length ps ≡ tape_words) (b : Words ps) (c : Logged) where
  ticket_back : eqb (get_or ps 0 0) commit_word ≡ true → ticket_told ps ≡ Some c → padded (call_words c) ≡ ps
  ticket_back t e =
      let r = told_if (all is_zero (drop commit_words ps)) _ c e in
      ap (λ d. padded (call_words d)) (some_back r.1)
      ∙ ap (λ w. padded (w ∷ ticket_words (ticket_in (drop 1 ps)))) (sym (eqb-true (get_or ps 0 0) commit_word t))
      ∙ ap padded (seven ps h) ∙ pad_back commit_words ps h (omega arith) r.0

  instruction_back : (q : Result (Instruction × ℕ) ℕ) → read_of ps ≡ q → instruction_told q ps ≡ Some c → padded (call_words c) ≡ ps
  instruction_back (Ok (x, n)) p e =
      let r = told_if (all is_zero (drop n ps)) _ c e in
      let s = read_sized ps x n p in
      ap (λ d. padded (call_words d)) (some_back r.1)
      ∙ ap padded (words_told x (quotes_of ps) ∙ sym (read_is_written ps x n b p))
      ∙ pad_back n ps h (omega arith) r.0
  instruction_back (Err n) p e = absurd cc

  pub call_back : call_in ps ≡ Some c → padded (call_words c) ≡ ps
  unfolding call_in
  call_back e =
      by_test (eqb (get_or ps 0 0) commit_word)
      (λ t. ticket_back t (rw t at e))
      (λ t. instruction_back (read_of ps) refl (rw t at e))

-- the two halves of a sum
low_is : (x l h : ℕ) → l < word_size → x ≡ l + word_size * h → x % word_size ≡ l
low_is x l h k e = omega (arith, e, k)

high_is : (x l h : ℕ) → l < word_size → x ≡ l + word_size * h → x / word_size ≡ h
high_is x l h k e = omega (arith, e, k)

two_behind : (n : ℕ) (ws : List ℕ) → 2 + n ≤ length ws → take 2 (drop n ws) ≡ get_or ws n 0 ∷ get_or ws (suc n) 0 ∷ []
two_behind n ws h = rw (drop-cons ws n 0 (omega arith), drop-cons ws (suc n) 0 (omega arith))

-- words of a part are words
words_part : (ws : List ℕ) → Words ws → Words (call_part ws)
words_part ws b i =
    by_test (ltb i tape_words)
    (λ t. rw (get_or-take tape_words (drop 1 ws) i 0 (ltb-true i tape_words t), get_or-drop 1 ws i 0) (b (1 + i)))
    (λ t. rw (get_or-eq_default (call_part ws) 0 {n = i} (omega (arith, length-take tape_words (drop 1 ws), ltb-false i tape_words t))) (omega arith))

first_body : (ws : List ℕ) → record_words ≤ length ws → take summed_words ws ≡ get_or ws 0 0 ∷ call_part ws
first_body [] h = absurd (omega arith)
first_body (w ∷ ws) h = refl

part_length : (ws : List ℕ) → record_words ≤ length ws → length (call_part ws) ≡ tape_words
part_length ws h = length-take-le tape_words (drop 1 ws) (omega (arith, length-drop 1 ws))

closed_back : (n : ℕ) (ws : List ℕ) → 2 + n ≤ length ws → Words ws → Summed n ws → closed (take n ws) ≡ take (n + 2) ws
unfolding closed
closed_back n ws h b s =
    let x = weighted (take n ws) in
    let l = low_is x (get_or ws n 0) (get_or ws (suc n) 0) (b n) s in
    let u = high_is x (get_or ws n 0) (get_or ws (suc n) 0) (b n) s in
    ap (λ m. take n ws ++ (m ∷ x / word_size ∷ [])) l ∙ ap (λ m. take n ws ++ (get_or ws n 0 ∷ m ∷ [])) u
    ∙ ap (λ t. take n ws ++ t) (sym (two_behind n ws h)) ∙ sym (take-add n 2 ws)

-- the words that are read as a record
module _ (n : ℕ) (ws : List ℕ) (c : Logged) (b : Words ws) (e : read_record n ws ≡ Some c) where
  abbrev whole? : Bool
  whole? = leb record_words (length ws)

  abbrev numbered? : Bool
  numbered? = eqb (get_or ws 0 0) n

  told : (whole? && numbered? && checks summed_words ws ≡ true) × (call_in (call_part ws) ≡ Some c)
  unfolding read_record
  told = told_if (whole? && numbered? && checks summed_words ws) (call_in (call_part ws)) c e

  pub has_words : record_words ≤ length ws
  has_words =
      leb-true record_words (length ws) (and_left whole? numbered? (and_left (whole? && numbered?) (checks summed_words ws) told.0))

  has_number : get_or ws 0 0 ≡ n
  has_number = eqb-true (get_or ws 0 0) n (and_right whole? numbered? (and_left (whole? && numbered?) (checks summed_words ws) told.0))

  has_sum : Summed summed_words ws
  has_sum = is_summed summed_words ws (and_right (whole? && numbered?) (checks summed_words ws) told.0)

  pub record_back : record_of n c ≡ take record_words ws
  unfolding record_of
  record_back =
      let p = call_back (call_part ws) (part_length ws has_words) (words_part ws b) c told.1 in
      ap (λ l. closed (n ∷ l)) p ∙ ap (λ m. closed (m ∷ call_part ws)) (sym has_number)
      ∙ ap closed (sym (first_body ws has_words)) ∙ closed_back summed_words ws has_words b has_sum

-- Record by record

next_back : (q : Option Logged) (left : ℕ) (c : Logged) → next_of q left ≡ call c → q ≡ Some c
next_back None left c e = absurd (unread_call left c e)
next_back (Some d) left c e = ap Some cc

-- nothing is read where no word is left
nothing : (q : Option Logged) (left : ℕ) → next_of q left ≡ none → left ≡ 0
nothing None left e =
    by_test (eqb left 0) (λ t. eqb-true left 0 t)
    (λ t.
    by_test (leb left record_words)
    (λ u. let z : ◌≡◌ {A = Next} torn none = rw (t, u) at e in absurd (let o : ◌≡◌ {A = ℕ} 0 1 = cc in omega arith))
    (λ u. let z : ◌≡◌ {A = Next} damaged none = rw (t, u) at e in absurd (let o : ◌≡◌ {A = ℕ} 0 1 = cc in omega arith)))
nothing (Some d) left e = absurd (let o : ◌≡◌ {A = ℕ} 0 1 = cc in omega arith)

no_words : (ws : List ℕ) → length ws ≡ 0 → [] ≡ ws
no_words [] h = refl
no_words (w ∷ ws) h = absurd (omega arith)

words_drop : (n : ℕ) (ws : List ℕ) → Words ws → Words (drop n ws)
words_drop n ws b i = rw (get_or-drop n ws i 0) (b (n + i))

-- one record, and the rest of a journal that is read whole
one_back : (n : ℕ) (ws : List ℕ) → Words ws → (r : Next) (j : Journal) → read_next n ws ≡ r →
    (record_words ≤ length ws → j.ending ≡ whole → journal_from (suc n) j.calls ≡ drop record_words ws) →
    (goes_on r n j).ending ≡ whole → journal_from n (goes_on r n j).calls ≡ ws
unfolding read_next
one_back n ws b (call c) j p f e =
    let q = next_back (read_record n ws) (length ws) c p in
    ap (λ l. l ++ journal_from (suc n) j.calls) (record_back n ws c b q)
    ∙ ap (λ l. take record_words ws ++ l) (f (has_words n ws c b q) e) ∙ take-append-drop record_words ws
one_back n ws b none j p f e = no_words ws (nothing (read_record n ws) (length ws) p)
one_back n ws b torn j p f e = absurd (let o : ◌≡◌ {A = ℕ} 0 1 = cc in omega arith)
one_back n ws b damaged j p f e = absurd (let o : ◌≡◌ {A = ℕ} 0 1 = cc in omega arith)

from_back : (k n : ℕ) (ws : List ℕ) → length ws < k → Words ws → (read_from k n ws).ending ≡ whole → journal_from n (read_from k n ws).calls ≡ ws
from_back zero n ws h b e = absurd (omega arith)
from_back (suc k) n ws h b e =
    one_back n ws b (read_next n ws) (read_from k (suc n) (drop record_words ws)) refl
    (λ l g. from_back k (suc n) (drop record_words ws) (omega (arith, length-drop record_words ws)) (words_drop record_words ws b) g) e

-- a journal that is read whole is the journal of its calls
pub read_written : (ws : List ℕ) → Words ws → (read_journal ws).ending ≡ whole → journal_of (read_journal ws).calls ≡ ws
unfolding read_journal journal_of
read_written ws b e = from_back (suc (length ws)) 0 ws (omega arith) b e
