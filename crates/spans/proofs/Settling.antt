-- A day still settling adds its resolves and nothing else. A book's stage, three times its day and the place of its phase, never
-- falls along a run, and a close, a cutoff and a roll raise it; so between two books of one day in Settling there is no cutoff and
-- no trade.
use mathlib.Core.Path.{◌≡◌, refl, ap, ◌∙◌}
use mathlib.Core.Bool.{true, false, false≢true}
use mathlib.Core.List.{List, [], ◌∷◌}
use Prim.Native.Nat.{ℕ, zero, suc, ◌+◌, ◌*◌, ◌≤◌}
use native.Mathlib.Omega.{arith}
use lib.ListN.{drop}
use Rattle.rules.specs.declared.Book.{Book}
use Rattle.rules.specs.declared.Instruction.{Instruction}
use Rattle.rules.specs.declared.Instruction.TheVariants as instruction
use Rattle.rules.specs.declared.Phase.{Phase}
use Rattle.rules.specs.declared.Phase.TheVariants.{Taking, Settling, Cut}
use Rattle.std.specs.Prelude.{Result, Ok, Err}
use Rattle.rules.specs.Measures.{total, Every}
use Rattle.rules.specs.Book.{is_taking, is_settling, is_cut}
use Rattle.rules.specs.Calls.{Answer}
use Rattle.rules.specs.Tape.{read_of, quotes_of}
use Rattle.rules.specs.Run.{call_of, any_output, answer_of}
use Rattle.laws.proofs.Basics.{total_append}
use Rattle.laws.proofs.Answers.{by_answer}
use Rattle.spans.specs.Span.{Turn, turn_of, turns_from, book_behind, words_behind}
use Rattle.spans.specs.Statement.{settles, due_by, delivered_by, failed_by, resolved_by, statement_of, statement_over}
use Rattle.spans.proofs.Turns.{turns_none, turns_refused, turns_read, turns_parts}
use Rattle.spans.proofs.Sums.{same_statement}

-- Stages

abbrev place_of : Phase → ℕ
place_of Taking = 0
place_of Settling = 1
place_of Cut = 2

abbrev stage : Book → ℕ
stage b = 3 * b.state.day + place_of b.state.phase

taking_place : (p : Phase) → is_taking p ≡ true → place_of p ≡ 0
taking_place Taking h = refl
taking_place Settling h = absurd (false≢true h)
taking_place Cut h = absurd (false≢true h)

settling_place : (p : Phase) → is_settling p ≡ true → place_of p ≡ 1
settling_place Taking h = absurd (false≢true h)
settling_place Settling h = refl
settling_place Cut h = absurd (false≢true h)

cut_place : (p : Phase) → is_cut p ≡ true → place_of p ≡ 2
cut_place Taking h = absurd (false≢true h)
cut_place Settling h = absurd (false≢true h)
cut_place Cut h = refl

-- A turn

-- the stage does not fall; where it stays there is no cutoff, and where the phase is not Taking either, the nets stay too
pub record Moves (t : Turn) : Type 0 where
  pub least : stage t.before ≤ stage t.answer.book
  pub quiet : stage t.before ≡ stage t.answer.book → settles t ≡ false
  pub still : stage t.before ≡ stage t.answer.book → (place_of t.before.state.phase ≡ 0 → ⊥) → t.answer.book.nets ≡ t.before.nets

abbrev answered_as : Book → Instruction → Answer → Turn
answered_as b x r = record { instruction = x; before = b; answer = r }

-- a turn that leaves stage and nets
module _ (b : Book) (x : Instruction) (r : Answer) (d : r.book.state.day ≡ b.state.day) (p : r.book.state.phase ≡ b.state.phase) where
  same_stage : stage r.book ≡ stage b
  same_stage = rw (d, p)

  leaves : settles (answered_as b x r) ≡ false → r.book.nets ≡ b.nets → Moves (answered_as b x r)
  leaves q n = record { least = omega (arith, same_stage); quiet = λ e. q; still = λ e f. n }

turn_moves : (b : Book) (x : Instruction) (ws : List ℕ) → Moves (turn_of b x ws)
unfolding answer_of
turn_moves b (instruction.Trade i f t x) ws =
    by_answer (λ r. Moves (answered_as b (instruction.Trade i f t x) r)) b (call_of (instruction.Trade i f t x) (quotes_of ws)) any_output
    (λ y. record { least = omega arith; quiet = λ e. refl; still = λ e g. absurd (g (taking_place b.state.phase y.1.0)) })
    (λ r. leaves b (instruction.Trade i f t x) _ refl refl refl refl)
turn_moves b (instruction.Deliver i a x) ws =
    by_answer (λ r. Moves (answered_as b (instruction.Deliver i a x) r)) b (call_of (instruction.Deliver i a x) (quotes_of ws)) any_output
    (λ y. leaves b (instruction.Deliver i a x) _ refl refl refl refl) (λ r. leaves b (instruction.Deliver i a x) _ refl refl refl refl)
turn_moves b (instruction.Resolve i a x) ws =
    by_answer (λ r. Moves (answered_as b (instruction.Resolve i a x) r)) b (call_of (instruction.Resolve i a x) (quotes_of ws)) any_output
    (λ y. leaves b (instruction.Resolve i a x) _ refl refl refl refl) (λ r. leaves b (instruction.Resolve i a x) _ refl refl refl refl)
turn_moves b (instruction.PairOff i a) ws =
    by_answer (λ r. Moves (answered_as b (instruction.PairOff i a) r)) b (call_of (instruction.PairOff i a) (quotes_of ws)) any_output
    (λ y. leaves b (instruction.PairOff i a) _ refl refl refl refl) (λ r. leaves b (instruction.PairOff i a) _ refl refl refl refl)
turn_moves b instruction.Close ws =
    by_answer (λ r. Moves (answered_as b instruction.Close r)) b (call_of instruction.Close (quotes_of ws)) any_output
    (λ y.
    let k = taking_place b.state.phase y.1.0 in
    record { least = omega (arith, k); quiet = λ e. refl; still = λ e g. refl })
    (λ r. leaves b instruction.Close _ refl refl refl refl)
turn_moves b instruction.Cutoff ws =
    by_answer (λ r. Moves (answered_as b instruction.Cutoff r)) b (call_of instruction.Cutoff (quotes_of ws)) any_output
    (λ y.
    let k = settling_place b.state.phase y.1.1.0 in
    record { least = omega (arith, k); quiet = λ e. absurd (omega (arith, k, e)); still = λ e g. refl })
    (λ r. leaves b instruction.Cutoff _ refl refl refl refl)
turn_moves b (instruction.Roll days rate) ws =
    by_answer (λ r. Moves (answered_as b (instruction.Roll days rate) r)) b (call_of (instruction.Roll days rate) (quotes_of ws)) any_output
    (λ y.
    let k = cut_place b.state.phase y.1.0 in
    record { least = omega (arith, k); quiet = λ e. refl; still = λ e g. absurd (omega (arith, k, e)) })
    (λ r. leaves b (instruction.Roll days rate) _ refl refl refl refl)
turn_moves b (instruction.Mark i m) ws =
    by_answer (λ r. Moves (answered_as b (instruction.Mark i m) r)) b (call_of (instruction.Mark i m) (quotes_of ws)) any_output
    (λ y. leaves b (instruction.Mark i m) _ refl refl refl refl) (λ r. leaves b (instruction.Mark i m) _ refl refl refl refl)
turn_moves b (instruction.Turn d) ws =
    by_answer (λ r. Moves (answered_as b (instruction.Turn d) r)) b (call_of (instruction.Turn d) (quotes_of ws)) any_output
    (λ y. leaves b (instruction.Turn d) _ refl refl refl refl) (λ r. leaves b (instruction.Turn d) _ refl refl refl refl)

-- Turns from a book on

-- as for a turn
record MovesOn (b : Book) (ts : List Turn) : Type 0 where
  pub least : stage b ≤ stage (book_behind b ts)
  pub quiet : stage b ≡ stage (book_behind b ts) → Every (λ t. settles t ≡ false) ts
  pub still : stage b ≡ stage (book_behind b ts) → place_of b.state.phase ≡ 1 → (book_behind b ts).nets ≡ b.nets

no_turns : (b : Book) → MovesOn b []
no_turns b = record { least = omega arith; quiet = λ e. tt; still = λ e p. refl }

place_most : (p : Phase) → place_of p ≤ 2
place_most Taking = omega arith
place_most Settling = omega arith
place_most Cut = omega arith

one_more : (b : Book) (t : Turn) (ts : List Turn) → t.before ≡ b → Moves t → MovesOn t.answer.book ts → MovesOn b (t ∷ ts)
one_more b t ts s m h =
    let z = ap stage s in
    let q = place_most t.answer.book.state.phase in
    record {
      least = omega (arith, z, m.least, h.least);
      quiet = λ e. (m.quiet (omega (arith, z, m.least, h.least, e)), h.quiet (omega (arith, z, m.least, h.least, e)));
      still = λ e p.
          let k : stage t.before ≡ stage t.answer.book = omega (arith, z, m.least, h.least, e) in
          h.still (omega (arith, z, m.least, h.least, e)) (omega (arith, z, k, p, q, ap (λ (c : Book). place_of c.state.phase) s))
          ∙ m.still k (λ o. omega (arith, o, p, ap (λ (c : Book). place_of c.state.phase) s))
          ∙ ap (λ (c : Book). c.nets) s;
    }

moves_read : (n : ℕ) (b : Book) (ws : List ℕ) (r : Result (Instruction × ℕ) ℕ) → read_of ws ≡ r → ((c : Book) (vs : List ℕ) → MovesOn c (turns_from n c vs)) →
    MovesOn b (turns_from (suc n) b ws)
moves_read n b ws (Err r) e h = rw (turns_refused (suc n) b ws r e) (no_turns b)
moves_read n b ws (Ok (x, k)) e h =
    rw (turns_read n b ws x k e)
    (one_more b (turn_of b x ws) (turns_from n (answer_of b x ws).book (drop k ws)) refl (turn_moves b x ws) (h (answer_of b x ws).book (drop k ws)))

moves_on : (n : ℕ) (b : Book) (ws : List ℕ) → MovesOn b (turns_from n b ws)
moves_on zero b ws = rw (turns_none b ws) (no_turns b)
moves_on (suc n) b ws = moves_read n b ws (read_of ws) refl (moves_on n)

-- A day still settling

-- two books of one day, both in Settling
pub record SameDay (b c : Book) : Type 0 where
  pub before : is_settling b.state.phase ≡ true
  pub behind : is_settling c.state.phase ≡ true
  pub day : c.state.day ≡ b.state.day

same_stages : (b c : Book) → SameDay b c → stage b ≡ stage c
same_stages b c s =
    omega (arith, s.day, settling_place b.state.phase s.before, settling_place c.state.phase s.behind)

total_none : (f : Turn → ℕ) → ((t : Turn) → settles t ≡ false → f t ≡ 0) → (ts : List Turn) → Every (λ t. settles t ≡ false) ts → total f ts ≡ 0
total_none f h [] q = refl
total_none f h (t ∷ ts) q = omega (arith, h t q.0, total_none f h ts q.1)

-- nothing is due, delivered or failed in it
pub record Quiet (i a : ℕ) (ts : List Turn) : Type 0 where
  pub due : total (due_by i a) ts ≡ 0
  pub delivered : total (delivered_by i a) ts ≡ 0
  pub failed : total (failed_by i a) ts ≡ 0

pub settling_quiet : (n : ℕ) (b : Book) (ws : List ℕ) → SameDay b (book_behind b (turns_from n b ws)) → (i a : ℕ) → Quiet i a (turns_from n b ws)
settling_quiet n b ws s i a =
    let q = (moves_on n b ws).quiet (same_stages b (book_behind b (turns_from n b ws)) s) in
    record {
      due = total_none (due_by i a) (λ t e. rw e) (turns_from n b ws) q;
      delivered = total_none (delivered_by i a) (λ t e. rw e) (turns_from n b ws) q;
      failed = total_none (failed_by i a) (λ t e. rw e) (turns_from n b ws) q;
    }

-- so the nets that a cutoff finds are those of the close
pub settling_nets : (n : ℕ) (b : Book) (ws : List ℕ) → SameDay b (book_behind b (turns_from n b ws)) → (book_behind b (turns_from n b ws)).nets ≡ b.nets
settling_nets n b ws s =
    (moves_on n b ws).still (same_stages b (book_behind b (turns_from n b ws)) s) (settling_place b.state.phase s.before)

-- A span that ends in a day still settling, n of its instructions behind a book of that day in Settling, states what the
-- others do, and the resolves of those n
pub still_settling : (m n : ℕ) (b : Book) (ws : List ℕ) (i a : ℕ) →
    let c = book_behind b (turns_from m b ws) in
    let us = turns_from n c (words_behind m ws) in
    let s = statement_over i a (turns_from m b ws) in
    SameDay c (book_behind c us) →
    statement_over i a (turns_from (m + n) b ws)
    ≡ statement_of s.due s.delivered s.failed (s.resolved + total (resolved_by i a) us)
unfolding statement_over
still_settling m n b ws i a s =
    let ts = turns_from m b ws in
    let c = book_behind b ts in
    let us = turns_from n c (words_behind m ws) in
    let q = settling_quiet n c (words_behind m ws) s i a in
    rw (turns_parts m n b ws)
    (same_statement _ _ _ _ _ _ _ _
    (omega (arith, total_append (due_by i a) ts us, q.due)) (omega (arith, total_append (delivered_by i a) ts us, q.delivered))
    (omega (arith, total_append (failed_by i a) ts us, q.failed)) (total_append (resolved_by i a) ts us))
