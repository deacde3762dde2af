-- Written calls are read back: a record's number, checksum and call are what was written, so record by record the
-- journal gives its calls.
use mathlib.Core.Path.{◌≡◌, refl, sym, ap, ◌∙◌}
use mathlib.Core.Bool.{true, false}
use mathlib.Core.List.{List, [], ◌∷◌, ◌++◌, append-nil, append_assoc}
use Prim.Native.Nat.{ℕ, zero, suc, ◌+◌, ◌-◌, ◌≤◌, ◌<◌}
use native.Mathlib.Omega.{arith}
use borrow.Author.Tests.{eqb-true, leb-true, le-leb, eq-eqb}
use native.Mathlib.Nat.{add-zero}
use lib.Dec.{leb, eqb}
use lib.ListN.{length, get_or, drop, replicate, length-append, length-drop}
use lib.Seq.{drop-append_seam, drop_at}
use Rattle.rules.specs.declared.Instruction.{Instruction}
use Rattle.rules.specs.declared.Instruction.TheVariants.{Trade, Deliver, Resolve, PairOff, Close, Cutoff, Roll, Mark, Turn}
use Rattle.rules.specs.declared.Ticket.{Ticket}
use Rattle.std.specs.Prelude.{Some, Result, Ok, Err}
use Rattle.rules.specs.Measures.{Every, tape_words}
use Rattle.rules.specs.Book.{all, is_zero}
use Rattle.rules.specs.Tape.{kind_of, read_of, quotes_of, words_of, fields_fit}
use Rattle.laws.proofs.Basics.{by_test, all_replicate}
use Rattle.rereading.proofs.Window.{quotes_window}
use Rattle.rereading.proofs.There.{written_is_read, quotes_read}
use Rattle.journals.specs.Record.{record_words, summed_words, Logged, instructed, committed, quotes_for, Fits, commit_kind, commit_word, ticket_words, call_words, padded, record_of, call_in, read_record}
use Rattle.journals.specs.Journal.{journal_from, journal_of, Next, call, none, torn, damaged, unread, read_next, Journal, ended, behind, goes_on, whole, read_from, read_rest, read_journal}
use Rattle.journals.proofs.Checked.{summed_checks}
use Rattle.journals.proofs.Parts.{length_record, record_summed, record_number, record_call}

-- the tape's reader refuses a word of a commit's kind: a journal is no tape
pub commit_refused : (w : ℕ) (rest : List ℕ) → kind_of w ≡ commit_kind → read_of (w ∷ rest) ≡ Err 14
unfolding read_of
commit_refused w rest e = rw e

not_commit : (ws : List ℕ) (x : Instruction) (n : ℕ) → read_of ws ≡ Ok (x, n) → eqb (get_or ws 0 0) commit_word ≡ false
unfolding read_of
not_commit [] x n e = refl
not_commit (w ∷ ws) x n e =
    by_test (eqb w commit_word)
    (λ t.
    let k : kind_of w ≡ commit_kind = ap kind_of (eqb-true w commit_word t) in
    let z : ◌≡◌ {A = Result (Instruction × ℕ) ℕ} (Err 14) (Ok (x, n)) = sym (commit_refused w ws k) ∙ e in
    cc)
    (λ t. t)

-- the zeros behind a call
pad_zeros : (ws : List ℕ) → all is_zero (drop (length ws) (padded ws)) ≡ true
unfolding padded
pad_zeros ws =
    ap (all is_zero) (drop-append_seam ws (replicate (tape_words - length ws) 0))
    ∙ all_replicate is_zero (tape_words - length ws) 0 refl

-- only a roll's quotes are looked at
pub quotes_told : (x : Instruction) (quotes rest : List ℕ) → fields_fit x quotes ≡ true → quotes_for x quotes ≡ quotes →
    quotes_for x (quotes_of (words_of x quotes ++ rest)) ≡ quotes
quotes_told (Trade i f t x) quotes rest h e = e
quotes_told (Deliver i a x) quotes rest h e = e
quotes_told (Resolve i a x) quotes rest h e = e
quotes_told (PairOff i a) quotes rest h e = e
quotes_told Close quotes rest h e = e
quotes_told Cutoff quotes rest h e = e
quotes_told (Roll days rate) quotes rest h e = quotes_read days rate quotes rest h
quotes_told (Mark i m) quotes rest h e = e
quotes_told (Turn d) quotes rest h e = e

-- the call of a record's words
module _ (x : Instruction) (quotes : List ℕ) (f : Fits (instructed x quotes)) where
  abbrev zeros : List ℕ
  zeros = replicate (tape_words - length (words_of x quotes)) 0

  instruction_read : read_of (padded (words_of x quotes)) ≡ Ok (x, length (words_of x quotes))
  unfolding padded
  instruction_read = written_is_read x quotes zeros f.0

  quotes_back : quotes_for x (quotes_of (padded (words_of x quotes))) ≡ quotes
  unfolding padded
  quotes_back = quotes_told x quotes zeros f.0 f.1

ticket_read : (t : Ticket) → call_in (padded (commit_word ∷ ticket_words t)) ≡ Some (committed t)
unfolding call_in padded
ticket_read t = refl

pub call_read : (c : Logged) → Fits c → call_in (padded (call_words c)) ≡ Some c
unfolding call_in
call_read (instructed x quotes) f =
    let r = instruction_read x quotes f in
    rw (not_commit (padded (words_of x quotes)) x _ r, r, pad_zeros (words_of x quotes))
    (ap (λ q. Some (instructed x q)) (quotes_back x quotes f))
call_read (committed t) f = ticket_read t

-- a record is read back, whatever follows
pub record_read : (n : ℕ) (c : Logged) (rest : List ℕ) → Fits c → read_record n (record_of n c ++ rest) ≡ Some c
unfolding read_record
record_read n c rest f =
    let l : record_words ≤ length (record_of n c ++ rest) =
    omega (arith, length-append (record_of n c) rest, length_record n c f) in
    rw (le-leb record_words (length (record_of n c ++ rest)) l, eq-eqb (get_or (record_of n c ++ rest) 0 0) n (record_number n c f rest), summed_checks summed_words (record_of n c ++ rest) (record_summed n c f rest), record_call n c f rest)
    (call_read c f)

-- and a roll's quotes are those of the words from the record's second on
pub record_quotes : (n days rate : ℕ) (quotes rest : List ℕ) → Fits (instructed (Roll days rate) quotes) →
    quotes_of (drop 1 (record_of n (instructed (Roll days rate) quotes) ++ rest)) ≡ quotes
record_quotes n days rate quotes rest f =
    let c = instructed (Roll days rate) quotes in
    sym (quotes_window tape_words (drop 1 (record_of n c ++ rest)) (omega arith)) ∙ ap quotes_of (record_call n c f rest)
    ∙ quotes_back (Roll days rate) quotes f

-- Record by record

-- fuel above the number of words changes nothing
same_rest : (r : Next) (n : ℕ) (i j : Journal) → ((c : Logged) → r ≡ call c → i ≡ j) → goes_on r n i ≡ goes_on r n j
same_rest (call c) n i j h = ap (behind c) (h c refl)
same_rest none n i j h = refl
same_rest torn n i j h = refl
same_rest damaged n i j h = refl

-- where no call is read there is none
pub unread_call : (left : ℕ) (c : Logged) → unread left ≡ call c → ⊥
unread_call left c e =
    by_test (eqb left 0)
    (λ t. let z : ◌≡◌ {A = Next} none (call c) = rw t at e in let o : ◌≡◌ {A = ℕ} 0 1 = cc in omega arith)
    (λ t.
    by_test (leb left record_words)
    (λ u. let z : ◌≡◌ {A = Next} torn (call c) = rw (t, u) at e in let o : ◌≡◌ {A = ℕ} 0 1 = cc in omega arith)
    (λ u. let z : ◌≡◌ {A = Next} damaged (call c) = rw (t, u) at e in let o : ◌≡◌ {A = ℕ} 0 1 = cc in omega arith))

-- a record that is read has its words
pub read_whole : (n : ℕ) (ws : List ℕ) (c : Logged) → read_next n ws ≡ call c → record_words ≤ length ws
unfolding read_next read_record
read_whole n ws c e =
    by_test (leb record_words (length ws))
    (λ t. leb-true record_words (length ws) t)
    (λ t. absurd (unread_call (length ws) c (rw t at e)))

fuel : (k m n : ℕ) (ws : List ℕ) → length ws < k → length ws < m → read_from k n ws ≡ read_from m n ws
fuel zero m n ws h g = absurd (omega arith)
fuel (suc k) zero n ws h g = absurd (omega arith)
fuel (suc k) (suc m) n ws h g =
    same_rest (read_next n ws) n (read_from k (suc n) (drop record_words ws)) (read_from m (suc n) (drop record_words ws))
    (λ c e.
    let l = read_whole n ws c e in
    let d = length-drop record_words ws in
    fuel k m (suc n) (drop record_words ws) (omega arith) (omega arith))

-- the calls before, and the rest
abbrev pub before : List Logged → Journal → Journal
before cs j = ended (cs ++ j.calls) j.ending

module _ (n : ℕ) (c : Logged) (rest : List ℕ) (f : Fits c) where
  next_read : read_next n (record_of n c ++ rest) ≡ call c
  unfolding read_next
  next_read = rw (record_read n c rest f)

  rest_read : read_rest n (record_of n c ++ rest) ≡ behind c (read_rest (suc n) rest)
  rest_read =
      let l : length (record_of n c ++ rest) ≡ record_words + length rest =
      length-append (record_of n c) rest ∙ ap (λ k. k + length rest) (length_record n c f) in
      rw (next_read, drop_at (record_of n c) rest record_words (length_record n c f))
      (ap (behind c) (fuel (length (record_of n c ++ rest)) (suc (length rest)) (suc n) rest (omega arith) (omega arith)))

-- of a journal with anything behind it, all its calls are read, and then what is behind it
pub journal_read : (n : ℕ) (cs : List Logged) (rest : List ℕ) → Every Fits cs →
    read_rest n (journal_from n cs ++ rest) ≡ before cs (read_rest (n + length cs) rest)
journal_read n [] rest f = rw (add-zero n)
journal_read n (c ∷ cs) rest f =
    ap (read_rest n) (append_assoc (record_of n c) (journal_from (suc n) cs) rest)
    ∙ rest_read n c (journal_from (suc n) cs ++ rest) f.0
    ∙ ap (behind c) (journal_read (suc n) cs rest f.1)
    ∙ ap (λ k. before (c ∷ cs) (read_rest k rest)) (omega arith)

nothing_left : (n : ℕ) → read_rest n [] ≡ ended [] whole
unfolding read_next read_record
nothing_left n = refl

-- written calls are read back: those calls, whole
pub written_read : (cs : List Logged) → Every Fits cs → read_journal (journal_of cs) ≡ ended cs whole
unfolding read_journal journal_of
written_read cs f =
    ap (read_rest 0) (sym (append-nil (journal_from 0 cs))) ∙ journal_read 0 cs [] f
    ∙ ap (before cs) (nothing_left (0 + length cs)) ∙ ap (λ l. ended l whole) (append-nil cs)
