-- The instructions that are answered are the turns of a span: as many as it says, from this book and these words, and the book is
-- the one behind them. So it is that of the program's run of so many instructions, and what is answered of the words that are
-- left, from this book, goes on with the same run.
use mathlib.Core.Path.{◌≡◌, refl, sym, ap, ◌∙◌}
use mathlib.Core.Bool.{Bool}
use mathlib.Core.List.{List, [], ◌∷◌}
use Prim.Native.Nat.{ℕ, zero, suc, ◌+◌, ◌<◌}
use native.Mathlib.Omega.{arith}
use borrow.Author.Tests.{leb-true}
use lib.Dec.{leb}
use lib.ListN.{length, drop}
use lib.Seq.{drop-drop}
use Rattle.std.specs.Prelude.{Result, Ok, Err}
use Rattle.rules.specs.declared.Book.{Book}
use Rattle.rules.specs.declared.Instruction.{Instruction}
use Rattle.rules.specs.Measures.{output_words}
use Rattle.rules.specs.Tape.{read_of}
use Rattle.rules.specs.Run.{answer_of, run_from}
use Rattle.laws.proofs.Basics.{by_test, and_right}
use Rattle.rereading.proofs.Run.{answer_lent}
use Rattle.spans.specs.Span.{turns_from, book_behind, words_behind}
use Rattle.spans.proofs.Turns.{turns_none, turns_read, span_book}
use Rattle.batch.specs.Batch.{answer_at, written_by, answer_numbers, has_room, Batch, batch_from, batch_of}
use Rattle.batch.proofs.Batches.{no_instruction, no_room, one_more}

-- so many turns, the book behind them, and the words behind them
pub record Turned (b : Book) (ws : List ℕ) (d : Batch) : Type 0 where
  pub turns : length (turns_from d.answered b ws) ≡ d.answered
  pub behind : d.book ≡ book_behind b (turns_from d.answered b ws)
  pub left : drop d.used ws ≡ words_behind d.answered ws

none_turned : (r : ℕ) (b : Book) (ws answers out : List ℕ) →
    Turned b ws (record { refusal = r; answered = 0; used = 0; written = 0; book = b; answers = answers; out = out })
unfolding words_behind
none_turned r b ws answers out =
    record { turns = ap length (turns_none b ws); behind = ap (book_behind b) (sym (turns_none b ws)); left = refl }

words_read : (n : ℕ) (ws : List ℕ) (x : Instruction) (k : ℕ) → read_of ws ≡ Ok (x, k) → words_behind (suc n) ws ≡ words_behind n (drop k ws)
unfolding words_behind
words_read n ws x k e = rw e refl

abbrev TurnedOf : ℕ → Type 0
TurnedOf n = (b : Book) (ws answers out : List ℕ) → Turned b ws (batch_from n b ws answers out)

-- an instruction in front
turned_first : (d : Batch) (b : Book) (x : Instruction) (k w : ℕ) (ws numbers records : List ℕ) (b' : Book) → read_of ws ≡ Ok (x, k) →
    b' ≡ (answer_of b x ws).book → Turned b' (drop k ws) d →
    Turned b ws (record {
      refusal = d.refusal;
      answered = 1 + d.answered;
      used = k + d.used;
      written = w;
      book = d.book;
      answers = numbers;
      out = records;
    })
turned_first d b x k w ws numbers records b' e p t =
    let one : 1 + d.answered ≡ suc d.answered = omega arith in
    let u = rw p at t in
    let r = turns_read d.answered b ws x k e in
    record {
      turns = rw (one, r) (ap suc u.turns);
      behind = rw (one, r) u.behind;
      left = rw (one, words_read d.answered ws x k e, ← drop-drop d.used k ws) u.left;
    }

by_words : (n : ℕ) → TurnedOf n → (b : Book) (ws answers out : List ℕ) → 0 < length ws → (r : Result (Instruction × ℕ) ℕ) → read_of ws ≡ r →
    Turned b ws (batch_from (suc n) b ws answers out)
by_words n h b ws answers out some (Err r) e = rw (no_instruction n b ws answers out some r e) (none_turned r b ws answers out)
by_words n h b ws answers out some (Ok (x, k)) e =
    let a = answer_at b x ws out in
    by_test (has_room (length answers) (length out))
    (λ g.
    let room = leb-true output_words (length out) (and_right (leb answer_numbers (length answers)) _ g) in
    rw (one_more n b x k ws answers out some e g)
    (turned_first _ b x k _ ws _ _ a.book e (answer_lent b out room x ws).book
    (h a.book (drop k ws) (drop answer_numbers answers) (drop (written_by x a.count) a.out))))
    (λ g. rw (no_room n b x k ws answers out some e g) (none_turned 0 b ws answers out))

turned : (n : ℕ) → TurnedOf n
unfolding batch_from
turned zero b ws answers out = none_turned 0 b ws answers out
turned (suc n) b [] answers out = none_turned 0 b [] answers out
turned (suc n) b (w ∷ ws) answers out = by_words n (turned n) b (w ∷ ws) answers out (omega arith) (read_of (w ∷ ws)) refl

pub batch_turned : (b : Book) (ws answers out : List ℕ) → Turned b ws (batch_of b ws answers out)
batch_turned b ws answers out = turned (length ws) b ws answers out

-- the book is that of the program's run of so many instructions
pub batch_book : (b : Book) (ws answers out : List ℕ) (at : ℕ) (stray : Bool) →
    (let d = batch_of b ws answers out in d.book ≡ (run_from d.answered at b ws stray).book)
batch_book b ws answers out at stray =
    (batch_turned b ws answers out).behind ∙ span_book (batch_of b ws answers out).answered at b ws stray
