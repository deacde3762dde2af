-- What is seen of a journal that is not as it was written: cut inside its last record, it is torn there; a record with a
-- word changed, two words exchanged, words lowered, or another number is not read: torn where nothing stands behind it,
-- else damaged.
use mathlib.Core.Path.{◌≡◌, refl, sym, ap, subst, ◌∙◌}
use mathlib.Core.Bool.{◌&&◌, false≢true}
use mathlib.Core.List.{List, [], ◌∷◌, ◌++◌, append-nil, append_assoc}
use Prim.Native.Nat.{ℕ, zero, suc, ◌+◌, ◌≤◌, ◌<◌}
use native.Mathlib.Nat.{add-zero, zero-add}
use native.Mathlib.Omega.{arith}
use borrow.Author.Tests.{le-leb, lt-leb, ne_eqb}
use lib.Dec.{leb, eqb}
use lib.ListN.{length, get_or, set, take, drop, length-append, length-set, get_or-append}
use lib.Seq.{length-take-le, get_or-take, get_or-drop, take-append-le, take-append-add}
use Rattle.std.specs.Prelude.{Option, None}
use Rattle.rules.specs.Measures.{Every, tape_words}
use Rattle.rules.specs.Tape.{read_of}
use Rattle.laws.proofs.Basics.{by_test, either}
use Rattle.checksums.specs.Sums.{weighted, exchanged, Under}
use Rattle.journals.specs.Record.{record_words, summed_words, Logged, Fits, record_of, checks, call_in, call_part, read_record}
use Rattle.journals.specs.Journal.{journal_from, journal_of, read_next, Ending, ended, torn, damaged, read_rest, read_journal}
use Rattle.journals.proofs.Checked.{Summed, is_summed, summed_checks, one_kept, two_kept, lowered_same}
use Rattle.journals.proofs.Parts.{length_record, record_summed, record_number}
use Rattle.journals.proofs.There.{before, journal_read}

-- Records that are not read

short_unread : (n : ℕ) (ws : List ℕ) → length ws < record_words → read_record n ws ≡ None
unfolding read_record
short_unread n ws h = rw (lt-leb record_words (length ws) h)

number_unread : (n : ℕ) (ws : List ℕ) → (get_or ws 0 0 ≡ n → ⊥) → read_record n ws ≡ None
unfolding read_record
number_unread n ws d =
    by_test (leb record_words (length ws))
    (λ t. rw (t, ne_eqb (get_or ws 0 0) n d))
    (λ t. rw t)

sum_unread : (n : ℕ) (ws : List ℕ) → (Summed summed_words ws → ⊥) → read_record n ws ≡ None
unfolding read_record
sum_unread n ws d =
    by_test (checks summed_words ws)
    (λ t. absurd (d (is_summed summed_words ws t)))
    (λ t.
    by_test (leb record_words (length ws))
    (λ u. by_test (eqb (get_or ws 0 0) n) (λ v. rw (u, v, t)) (λ v. rw (u, v)))
    (λ u. rw u))

-- a checksum of 0 is that of zeros alone, and they tell no call
weighted_zero : (ws : List ℕ) (i : ℕ) → weighted ws ≡ 0 → get_or ws i 0 ≡ 0
weighted_zero [] i e = refl
weighted_zero (w ∷ ws) zero e = omega (arith, e)
weighted_zero (w ∷ ws) (suc i) e = weighted_zero ws i (omega (arith, e))

no_call : (ps : List ℕ) → get_or ps 0 0 ≡ 0 → call_in ps ≡ None
unfolding call_in read_of
no_call [] e = refl
no_call (p ∷ ps) e = rw e

zero_unread : (n : ℕ) (ws : List ℕ) → get_or ws summed_words 0 ≡ 0 → get_or ws (suc summed_words) 0 ≡ 0 → read_record n ws ≡ None
unfolding read_record
zero_unread n ws l h =
    by_test (checks summed_words ws)
    (λ t.
    let z : weighted (take summed_words ws) ≡ 0 = omega (arith, is_summed summed_words ws t, l, h) in
    let f : get_or (call_part ws) 0 0 ≡ 0 =
    get_or-take tape_words (drop 1 ws) 0 0 (omega arith) ∙ get_or-drop 1 ws 0 0 ∙ sym (get_or-take summed_words ws 1 0 (omega arith))
    ∙ weighted_zero (take summed_words ws) 1 z in
    rw (no_call (call_part ws) f)
    (either (λ (c : Option Logged). c ≡ None) (leb record_words (length ws) && eqb (get_or ws 0 0) n && checks summed_words ws) refl refl))
    (λ t. sum_unread n ws (λ s. false≢true (sym t ∙ summed_checks summed_words ws s)))

-- a record is read from its own words
module _ (n : ℕ) (ws more : List ℕ) (h : length ws ≡ record_words) where
  same_word : (i : ℕ) → i < record_words → get_or (ws ++ more) i 0 ≡ get_or ws i 0
  same_word i l = get_or-append ws more 0 i (omega arith)

  same_checks : checks summed_words (ws ++ more) ≡ checks summed_words ws
  unfolding checks
  same_checks =
      rw (take-append-le summed_words ws more (omega arith), same_word summed_words (omega arith), same_word (suc summed_words) (omega arith))

  same_call_lem : (vs : List ℕ) → record_words ≤ length vs → call_part (vs ++ more) ≡ call_part vs
  same_call_lem [] l = absurd (omega arith)
  same_call_lem (v ∷ vs) l = take-append-le tape_words vs more (omega arith)

  pub own_words : read_record n (ws ++ more) ≡ read_record n ws
  unfolding read_record
  own_words =
      rw (le-leb record_words (length (ws ++ more)) (omega (arith, length-append ws more)), le-leb record_words (length ws) (omega arith), same_word 0 (omega arith), same_checks, same_call_lem ws (omega arith))

-- the facts of a record alone
module _ (n : ℕ) (c : Logged) (f : Fits c) where
  number_is : get_or (record_of n c) 0 0 ≡ n
  number_is = ap (λ l. get_or l 0 0) (sym (append-nil (record_of n c))) ∙ record_number n c f []

  summed_is : Summed summed_words (record_of n c)
  summed_is = subst (Summed summed_words) (append-nil (record_of n c)) (record_summed n c f [])

-- one call more is one record more
from_more : (n : ℕ) (cs : List Logged) (c : Logged) → journal_from n (cs ++ (c ∷ [])) ≡ journal_from n cs ++ record_of (n + length cs) c
from_more n [] c = append-nil (record_of n c) ∙ ap (λ k. record_of k c) (sym (add-zero n))
from_more n (d ∷ cs) c =
    ap (λ l. record_of n d ++ l) (from_more (suc n) cs c)
    ∙ sym (append_assoc (record_of n d) (journal_from (suc n) cs) (record_of (suc n + length cs) c))
    ∙ ap (λ k. record_of n d ++ journal_from (suc n) cs ++ record_of k c) (omega arith)

pub one_more : (cs : List Logged) (c : Logged) → journal_of (cs ++ (c ∷ [])) ≡ journal_of cs ++ record_of (length cs) c
unfolding journal_of
one_more cs c = from_more 0 cs c ∙ ap (λ k. journal_from 0 cs ++ record_of k c) (zero-add (length cs))

-- How reading ends there

module _ (n : ℕ) (ws : List ℕ) where
  rest_torn : 0 < length ws → length ws ≤ record_words → read_record n ws ≡ None → read_rest n ws ≡ ended [] torn
  unfolding read_next
  rest_torn h l e = rw (e, ne_eqb (length ws) 0 (λ z. omega (arith, z)), le-leb (length ws) record_words l)

  rest_damaged : record_words < length ws → read_record n ws ≡ None → read_rest n ws ≡ ended [] (damaged n)
  unfolding read_next
  rest_damaged h e = rw (e, ne_eqb (length ws) 0 (λ z. omega (arith, z)), lt-leb (length ws) record_words h)

-- a journal whose next record is `bad`: with nothing behind it, all calls before it and torn; with something behind it,
-- all calls before it and damaged, by its number
pub record Seen (cs : List Logged) (bad : List ℕ) : Type 0 where
  pub last : read_journal (journal_of cs ++ bad) ≡ ended cs torn
  pub earlier : (more : List ℕ) → 0 < length more → read_journal (journal_of cs ++ (bad ++ more)) ≡ ended cs (damaged (length cs))

module _ (cs : List Logged) (fit : Every Fits cs) where
  stops : (ws : List ℕ) (end : Ending) → read_rest (length cs) ws ≡ ended [] end → read_journal (journal_of cs ++ ws) ≡ ended cs end
  unfolding read_journal journal_of
  stops ws end e =
      journal_read 0 cs ws fit ∙ ap (λ k. before cs (read_rest k ws)) (zero-add (length cs)) ∙ ap (before cs) e
      ∙ ap (λ l. ended l end) (append-nil cs)

  pub seen : (bad : List ℕ) → length bad ≡ record_words → read_record (length cs) bad ≡ None → Seen cs bad
  seen bad l e =
      record {
        last = stops bad torn (rest_torn (length cs) bad (omega arith) (omega arith) e);
        earlier = λ more h.
            stops (bad ++ more) (damaged (length cs))
            (rest_damaged (length cs) (bad ++ more) (omega (arith, length-append bad more)) (own_words (length cs) bad more l ∙ e));
      }

  -- words that are no whole record
  pub part_torn : (ws : List ℕ) → 0 < length ws → length ws < record_words → read_journal (journal_of cs ++ ws) ≡ ended cs torn
  part_torn ws h l = stops ws torn (rest_torn (length cs) ws h (omega arith) (short_unread (length cs) ws l))

  -- a record with another number, sealed as it is: the next one, where this is lost, or one before, which is doubled
  pub number_seen : (n : ℕ) (c : Logged) → Fits c → (n ≡ length cs → ⊥) → Seen cs (record_of n c)
  number_seen n c f d =
      seen (record_of n c) (length_record n c f)
      (number_unread (length cs) (record_of n c) (λ e. d (sym (number_is n c f) ∙ e)))

  -- words that end with a checksum of 0, as where all words from some place of a record on are lost and read as 0
  pub zero_seen : (ws : List ℕ) → length ws ≡ record_words → get_or ws summed_words 0 ≡ 0 → get_or ws (suc summed_words) 0 ≡ 0 → Seen cs ws
  zero_seen ws e l h = seen ws e (zero_unread (length cs) ws l h)

  module _ (c : Logged) (f : Fits c) where
    -- the next record
    abbrev next : List ℕ
    next = record_of (length cs) c

    pub cut_torn : (k : ℕ) → 0 < k → k < record_words →
        read_journal (take (length (journal_of cs) + k) (journal_of (cs ++ (c ∷ [])))) ≡ ended cs torn
    cut_torn k h l =
        let t : length (take k next) ≡ k = length-take-le k next (omega (arith, length_record (length cs) c f)) in
        ap read_journal (ap (take (length (journal_of cs) + k)) (one_more cs c) ∙ take-append-add (journal_of cs) next k)
        ∙ part_torn (take k next) (omega (arith, t)) (omega (arith, t))

    long : length next ≡ 2 + summed_words
    long = length_record (length cs) c f

    pub changed_seen : (i w : ℕ) → i < record_words → (w ≡ get_or next i 0 → ⊥) → Seen cs (set next i w)
    changed_seen i w h d =
        seen (set next i w) (length-set next i w ∙ long)
        (sum_unread (length cs) (set next i w) (λ s. d (one_kept summed_words next long (summed_is (length cs) c f) i w h s)))

    pub exchanged_seen : (i j : ℕ) → i < record_words → j < record_words → (get_or next i 0 ≡ get_or next j 0 → ⊥) → Seen cs (exchanged next i j)
    exchanged_seen i j h g d =
        seen (exchanged next i j) (length-set (set next i (get_or next j 0)) j (get_or next i 0) ∙ length-set next i (get_or next j 0) ∙ long)
        (sum_unread (length cs) (exchanged next i j) (λ s. d (two_kept summed_words next long (summed_is (length cs) c f) i j h g s)))

    -- any of the summed words lowered, as where a run of them is lost and read as 0
    pub lowered_seen : (ws : List ℕ) → length ws ≡ record_words → Under (take summed_words ws) (take summed_words next) →
        get_or ws summed_words 0 ≡ get_or next summed_words 0 → get_or ws (suc summed_words) 0 ≡ get_or next (suc summed_words) 0 →
        (take summed_words ws ≡ take summed_words next → ⊥) → Seen cs ws
    lowered_seen ws e u l h d =
        seen ws e
        (sum_unread (length cs) ws (λ s. d (lowered_same summed_words ws next s (summed_is (length cs) c f) u l h)))
