-- Lots due are lots delivered and lots failed: of each cutoff, and so of every span.
use mathlib.Core.Path.{◌≡◌, refl}
use mathlib.Core.List.{List, [], ◌∷◌}
use Prim.Native.Nat.{ℕ, zero, suc, ◌+◌, ◌<◌}
use native.Mathlib.Omega.{arith}
use lib.Dec.{leb}
use lib.ListN.{get_or, drop}
use borrow.Author.Tests.{leb-true}
use Rattle.rules.specs.declared.Book.{Book}
use Rattle.rules.specs.declared.Instruction.{Instruction}
use Rattle.rules.specs.declared.Instruction.TheVariants as instruction
use Rattle.std.specs.Prelude.{Result, Ok, Err}
use Rattle.rules.specs.Measures.{total, Every}
use Rattle.rules.specs.Book.{fresh}
use Rattle.rules.specs.Questions.{first_no, ask_issue, ask_account}
use Rattle.rules.specs.Calls.{Cutoff}
use Rattle.rules.specs.Tape.{read_of}
use Rattle.rules.specs.Run.{any_output, answer_of}
use Rattle.laws.proofs.Answers.{yes, by_answer}
use Rattle.laws.proofs.Called.{Standing}
use Rattle.spans.specs.declared.Statement.{Statement}
use Rattle.spans.specs.Span.{Turn, turn_of, turns_from}
use Rattle.spans.specs.Statement.{due_by, delivered_by, failed_by, statement_of, statement_over, statement_on, most_span, stated_as, statement}
use Rattle.spans.proofs.Turns.{turns_none, turns_refused, turns_read}
use Rattle.spans.proofs.Cuts.{fresh_stands, answer_stands, cut_owed}

-- Every turn of a span is one on a book that stands

module _ (P : Turn → Type 0) (p : (b : Book) → Standing b → (x : Instruction) (ws : List ℕ) → P (turn_of b x ws)) where
  each_read : (n : ℕ) (b : Book) (ws : List ℕ) → Standing b → (r : Result (Instruction × ℕ) ℕ) → read_of ws ≡ r →
      ((c : Book) (vs : List ℕ) → Standing c → Every P (turns_from n c vs)) → Every P (turns_from (suc n) b ws)
  each_read n b ws s (Err r) e h = rw (turns_refused (suc n) b ws r e) tt
  each_read n b ws s (Ok (x, k)) e h =
      rw (turns_read n b ws x k e) (p b s x ws, h (answer_of b x ws).book (drop k ws) (answer_stands b x ws s))

  pub each_turn : (n : ℕ) (b : Book) (ws : List ℕ) → Standing b → Every P (turns_from n b ws)
  each_turn zero b ws s = rw (turns_none b ws) tt
  each_turn (suc n) b ws s = each_read n b ws s (read_of ws) refl (each_turn n)

-- Due is delivered and failed

abbrev Whole : ℕ → ℕ → Turn → Type 0
Whole i a t = due_by i a t ≡ delivered_by i a t + failed_by i a t

module _ (i a : ℕ) (hi : i < 16) (ha : a < 64) where
  cutoff_whole : (b : Book) → Standing b → (ws : List ℕ) → Whole i a (turn_of b instruction.Cutoff ws)
  unfolding answer_of
  cutoff_whole b s ws =
      by_answer (λ r. Whole i a (record { instruction = instruction.Cutoff; before = b; answer = r })) b Cutoff any_output
      (λ y. omega (arith, cut_owed b s i a hi ha)) (λ r. refl)

  turn_whole : (b : Book) → Standing b → (x : Instruction) (ws : List ℕ) → Whole i a (turn_of b x ws)
  turn_whole b s (instruction.Trade j f t x) ws = refl
  turn_whole b s (instruction.Deliver j c x) ws = refl
  turn_whole b s (instruction.Resolve j c x) ws = refl
  turn_whole b s (instruction.PairOff j c) ws = refl
  turn_whole b s instruction.Close ws = refl
  turn_whole b s instruction.Cutoff ws = cutoff_whole b s ws
  turn_whole b s (instruction.Roll days rate) ws = refl
  turn_whole b s (instruction.Mark j m) ws = refl
  turn_whole b s (instruction.Turn d) ws = refl

whole_all : (i a : ℕ) (ts : List Turn) → Every (Whole i a) ts →
    total (due_by i a) ts ≡ total (delivered_by i a) ts + total (failed_by i a) ts
whole_all i a [] h = refl
whole_all i a (t ∷ ts) h = omega (arith, h.0, whole_all i a ts h.1)

-- a statement by its numbers
pub same_statement : (d d' g g' f f' r r' : ℕ) → d ≡ d' → g ≡ g' → f ≡ f' → r ≡ r' → statement_of d g f r ≡ statement_of d' g' f' r'
same_statement d d' g g' f f' r r' p q s t = rw (p, q, s, t)

-- and its due
abbrev pub DueWhole : Statement → Type 0
DueWhole s = s.due ≡ s.delivered + s.failed

pub span_whole : (n : ℕ) (b : Book) (ws : List ℕ) → Standing b → (i a : ℕ) → i < 16 → a < 64 → DueWhole (statement_over i a (turns_from n b ws))
unfolding statement_over
span_whole n b ws s i a hi ha = whole_all i a (turns_from n b ws) (each_turn (Whole i a) (turn_whole i a hi ha) n b ws s)

pub due_whole : (ws : List ℕ) (i a : ℕ) → i < 16 → a < 64 → DueWhole (statement_on ws i a)
unfolding statement_on
due_whole ws i a hi ha = span_whole most_span fresh ws fresh_stands i a hi ha

-- of every answer, whatever the words, the issue and the account: the first number is the second and the third
numbers_whole : (r : ℕ) (s : Statement) → (r ≡ 0 → DueWhole s) →
    get_or (stated_as r s).numbers 0 0 ≡ get_or (stated_as r s).numbers 1 0 + get_or (stated_as r s).numbers 2 0
numbers_whole zero s h = h refl
numbers_whole (suc r) s h = refl

pub answer_whole : (ws : List ℕ) (i a : ℕ) → let ns = (statement ws i a).numbers in get_or ns 0 0 ≡ get_or ns 1 0 + get_or ns 2 0
unfolding statement
answer_whole ws i a =
    numbers_whole (first_no (ask_issue i ∷ ask_account a ∷ [])) (statement_on ws i a)
    (λ h.
    let p = yes 3 (leb i 15) (ask_account a ∷ []) h in
    let q = yes 4 (leb a 63) [] p.others in
    due_whole ws i a (omega (arith, leb-true i 15 p.first)) (omega (arith, leb-true a 63 q.first)))
