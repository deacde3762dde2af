-- Running the calls of a journal from the book that it was begun with gives the book that the host had, call by call.
use mathlib.Core.Path.{◌≡◌, refl, sym, ap, ◌∙◌}
use mathlib.Core.List.{List, [], ◌∷◌, ◌++◌}
use Prim.Native.Nat.{ℕ, ◌+◌, ◌<◌}
use native.Mathlib.Omega.{arith}
use lib.ListN.{length, take}
use Rattle.rules.specs.declared.Book.{Book}
use Rattle.rules.specs.Measures.{Every}
use Rattle.rules.specs.Calls.{Call, Trade, Close, Deliver, Ask, Commit, Cutoff, Resolve, PairOff, Roll, Mark, Turn, HasRoom, called}
use Rattle.rules.specs.Run.{any_output}
use Rattle.laws.proofs.Answers.{by_answer}
use Rattle.rereading.proofs.Run.{answer_any_output, any_room}
use Rattle.journals.specs.Record.{record_words, Logged, Fits}
use Rattle.journals.specs.Journal.{journal_of, read_journal}
use Rattle.journals.specs.Replay.{book_after, replay, logged_of, Kept, opened, noted, left_out}
use Rattle.journals.proofs.There.{written_read}
use Rattle.journals.proofs.Unread.{cut_torn}

-- an ask, and a call that is refused, leave the book
pub ask_leaves : (b : Book) (i k : ℕ) (out : List ℕ) → (called b (Ask i k) out).book ≡ b
ask_leaves b i k out = by_answer (λ r. r.book ≡ b) b (Ask i k) out (λ y. refl) (λ r. refl)

pub refusal_leaves : (b : Book) (c : Call) (out : List ℕ) → 0 < (called b c out).refusal → (called b c out).book ≡ b
refusal_leaves b c out =
    by_answer (λ r. 0 < r.refusal → r.book ≡ b) b c out (λ y h. absurd (omega arith)) (λ r h. refl)

-- what stands in the output does not matter to the book
any_book : (b : Book) (c : Call) (out : List ℕ) → HasRoom c out → (called b c any_output).book ≡ (called b c out).book
any_book b c out h = (answer_any_output b c any_output out (any_room c) h).book

-- a call's record gives the book that the call gave
pub one_replayed : (b : Book) (c : Call) (out : List ℕ) → HasRoom c out → replay b (logged_of c) ≡ (called b c out).book
one_replayed b (Trade i f t x) out h = any_book b (Trade i f t x) out h
one_replayed b Close out h = any_book b Close out h
one_replayed b (Deliver i a x) out h = any_book b (Deliver i a x) out h
one_replayed b (Ask i k) out h = sym (ask_leaves b i k out)
one_replayed b (Commit t) out h = any_book b (Commit t) out h
one_replayed b Cutoff out h = any_book b Cutoff out h
one_replayed b (Resolve i a x) out h = any_book b (Resolve i a x) out h
one_replayed b (PairOff i a) out h = any_book b (PairOff i a) out h
one_replayed b (Roll days rate quotes) out h = any_book b (Roll days rate quotes) out h
one_replayed b (Mark i m) out h = any_book b (Mark i m) out h
one_replayed b (Turn d) out h = any_book b (Turn d) out h

pub replay_append : (b : Book) (cs ds : List Logged) → replay b (cs ++ ds) ≡ replay (replay b cs) ds
replay_append b [] ds = refl
replay_append b (c ∷ cs) ds = replay_append (book_after b c) cs ds

-- call by call: at any time, the calls noted so far give the book
pub replayed : {b : Book} {cs : List Logged} {d : Book} → Kept b cs d → replay b cs ≡ d
replayed opened = refl
replayed {b} (noted {cs} {d} k c out h) =
    replay_append b cs (logged_of c) ∙ ap (λ e. replay e (logged_of c)) (replayed k) ∙ one_replayed d c out h
replayed (left_out k c out e) = replayed k ∙ sym e

-- and so do the calls that are read back from the journal
pub read_replayed : {b : Book} {cs : List Logged} {d : Book} → Kept b cs d → Every Fits cs → replay b (read_journal (journal_of cs)).calls ≡ d
read_replayed {b} {cs} k f = ap (λ j. replay b j.calls) (written_read cs f) ∙ replayed k

-- where writing the next record broke off, the journal gives the book before that call
pub torn_replayed : {b : Book} {cs : List Logged} {d : Book} → Kept b cs d → Every Fits cs → (c : Logged) → Fits c → (k : ℕ) →
    0 < k → k < record_words → replay b (read_journal (take (length (journal_of cs) + k) (journal_of (cs ++ (c ∷ []))))).calls ≡ d
torn_replayed {b} {cs} kept fs c f k h l = ap (λ j. replay b j.calls) (cut_torn cs fs c f k h l) ∙ replayed kept
