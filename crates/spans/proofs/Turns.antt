-- The turns of a span: by what the reader says of the words. They are the run's: behind as many instructions both have one book.
use mathlib.Core.Path.{◌≡◌, refl, sym, ap, ◌∙◌}
use mathlib.Core.Bool.{Bool, true, false, false≢true}
use mathlib.Core.List.{List, [], ◌∷◌, ◌++◌}
use Prim.Native.Nat.{ℕ, zero, suc, ◌+◌, ◌≤◌, ◌<◌}
use native.Mathlib.Omega.{arith}
use native.Mathlib.Nat.{zero-add, suc-add}
use lib.ListN.{length, drop}
use Rattle.rules.specs.declared.Book.{Book}
use Rattle.rules.specs.declared.Instruction.{Instruction}
use Rattle.std.specs.Prelude.{Result, Ok, Err}
use Rattle.rules.specs.Book.{fresh}
use Rattle.rules.specs.Tape.{read_of}
use Rattle.rules.specs.Run.{Ran, answer_of, ended, run_from, run_of}
use Rattle.laws.proofs.Basics.{by_test}
use Rattle.rereading.proofs.Run.{run_fuel, run_start, not_ended}
use Rattle.spans.specs.Span.{Turn, turn_of, turns_from, book_behind, words_behind}

-- By what is read

pub turns_none : (b : Book) (ws : List ℕ) → turns_from 0 b ws ≡ []
unfolding turns_from
turns_none b ws = refl

-- a reader's refusal ends the span there
pub turns_refused : (n : ℕ) (b : Book) (ws : List ℕ) (r : ℕ) → read_of ws ≡ Err r → turns_from n b ws ≡ []
unfolding turns_from
turns_refused zero b ws r e = refl
turns_refused (suc n) b ws r e = rw e

-- an instruction is one of the span's, refused or not
pub turns_read : (n : ℕ) (b : Book) (ws : List ℕ) (x : Instruction) (k : ℕ) → read_of ws ≡ Ok (x, k) →
    turns_from (suc n) b ws ≡ turn_of b x ws ∷ turns_from n (answer_of b x ws).book (drop k ws)
unfolding turns_from
turns_read n b ws x k e = rw e

words_refused : (n : ℕ) (ws : List ℕ) (r : ℕ) → read_of ws ≡ Err r → words_behind n ws ≡ ws
unfolding words_behind
words_refused zero ws r e = refl
words_refused (suc n) ws r e = rw e

words_read : (n : ℕ) (ws : List ℕ) (x : Instruction) (k : ℕ) → read_of ws ≡ Ok (x, k) → words_behind (suc n) ws ≡ words_behind n (drop k ws)
unfolding words_behind
words_read n ws x k e = rw e

words_none : (ws : List ℕ) → words_behind 0 ws ≡ ws
unfolding words_behind
words_none ws = refl

-- a span has no more than so many instructions
few_turns : (n : ℕ) (b : Book) (ws : List ℕ) (r : Result (Instruction × ℕ) ℕ) → read_of ws ≡ r → ((c : Book) (vs : List ℕ) → length (turns_from n c vs) ≤ n) →
    length (turns_from (suc n) b ws) ≤ suc n
few_turns n b ws (Err r) e h = rw (turns_refused (suc n) b ws r e) (omega arith)
few_turns n b ws (Ok (x, k)) e h = rw (turns_read n b ws x k e) (omega (arith, h (answer_of b x ws).book (drop k ws)))

pub turns_most : (n : ℕ) (b : Book) (ws : List ℕ) → length (turns_from n b ws) ≤ n
turns_most zero b ws = rw (turns_none b ws) (omega arith)
turns_most (suc n) b ws = few_turns n b ws (read_of ws) refl (turns_most n)

-- The run

ended_refused : (ws : List ℕ) (stray : Bool) → ended ws stray ≡ true → read_of ws ≡ Err 13
unfolding read_of
ended_refused [] stray e = refl
ended_refused (w ∷ ws) stray e = absurd (false≢true (sym (not_ended w ws stray) ∙ e))

book_read : (n at : ℕ) (b : Book) (ws : List ℕ) (stray : Bool) (r : Result (Instruction × ℕ) ℕ) → read_of ws ≡ r → ended ws stray ≡ false →
    ((k : ℕ) (c : Book) (vs : List ℕ) → book_behind c (turns_from n c vs) ≡ (run_from n k c vs stray).book) →
    book_behind b (turns_from (suc n) b ws) ≡ (run_from (suc n) at b ws stray).book
book_read n at b ws stray (Err r) e f h = rw (turns_refused (suc n) b ws r e, f, e)
book_read n at b ws stray (Ok (x, k)) e f h = rw (turns_read n b ws x k e, f, e) (h (at + k) (answer_of b x ws).book (drop k ws))

-- the span's book is that of the run of so many instructions
pub span_book : (n at : ℕ) (b : Book) (ws : List ℕ) (stray : Bool) → book_behind b (turns_from n b ws) ≡ (run_from n at b ws stray).book
span_book zero at b ws stray = ap (book_behind b) (turns_none b ws)
span_book (suc n) at b ws stray =
    by_test (ended ws stray)
    (λ e. rw (turns_refused (suc n) b ws 13 (ended_refused ws stray e), e))
    (λ e. book_read n at b ws stray (read_of ws) refl e (λ k c vs. span_book n k c vs stray))

-- and of a tape with fewer words than that, the book in which its run ends
pub whole_run : (n : ℕ) (ws : List ℕ) (stray : Bool) → length ws < n → book_behind fresh (turns_from n fresh ws) ≡ (run_of ws stray).book
whole_run n ws stray h =
    span_book n 0 fresh ws stray
    ∙ ap (λ (r : Ran). r.book) (run_fuel n (suc (length ws)) 0 fresh ws stray h (omega arith) ∙ sym (run_start ws stray))

-- Two spans, one behind the other

behind_append : (b : Book) (ts us : List Turn) → book_behind b (ts ++ us) ≡ book_behind (book_behind b ts) us
behind_append b [] us = refl
behind_append b (t ∷ ts) us = behind_append t.answer.book ts us

parts_read : (m n : ℕ) (b : Book) (ws : List ℕ) (r : Result (Instruction × ℕ) ℕ) → read_of ws ≡ r →
    ((c : Book) (vs : List ℕ) → turns_from (m + n) c vs ≡ turns_from m c vs ++ turns_from n (book_behind c (turns_from m c vs)) (words_behind m vs)) →
    turns_from (suc (m + n)) b ws
    ≡ turns_from (suc m) b ws ++ turns_from n (book_behind b (turns_from (suc m) b ws)) (words_behind (suc m) ws)
parts_read m n b ws (Err r) e h =
    rw (turns_refused (suc (m + n)) b ws r e, turns_refused (suc m) b ws r e, words_refused (suc m) ws r e)
    (sym (turns_refused n b ws r e))
parts_read m n b ws (Ok (x, k)) e h =
    rw (turns_read (m + n) b ws x k e, turns_read m b ws x k e, words_read m ws x k e)
    (ap (λ (ts : List Turn). turn_of b x ws ∷ ts) (h (answer_of b x ws).book (drop k ws)))

-- the turns of m + n instructions are those of m, and of n more from the book and the words behind them
pub turns_parts : (m n : ℕ) (b : Book) (ws : List ℕ) →
    turns_from (m + n) b ws ≡ turns_from m b ws ++ turns_from n (book_behind b (turns_from m b ws)) (words_behind m ws)
turns_parts zero n b ws = rw (zero-add n, turns_none b ws, words_none ws)
turns_parts (suc m) n b ws = rw (suc-add m n) (parts_read m n b ws (read_of ws) refl (turns_parts m n))
