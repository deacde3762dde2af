-- What an instruction adds, from the numbers at hand, is what its turn adds by the definition: of a cutoff the rest that an account
-- owes is what it failed. Invariant of the loop: with what the turns from here on add, the statement is the span's.
use mathlib.Core.Path.{◌≡◌, refl, sym, ap, subst, ◌∙◌}
use mathlib.Core.Bool.{Bool, true, false, cond, ◌&&◌}
use mathlib.Core.List.{List, [], ◌∷◌}
use Prim.Native.Nat.{ℕ, zero, suc, ◌+◌, ◌-◌, ◌*◌, ◌≤◌, ◌<◌}
use native.Mathlib.Omega.{arith}
use lib.Dec.{leb, eqb}
use lib.ListN.{length, take, drop, replicate, length-take, length-replicate}
use lib.Seq.{drop-drop}
use lib.IntN.{ℤ, pos}
use borrow.Author.Tests.{le-leb, lt-leb}
use Rattle.rules.specs.declared.Book.{Book}
use Rattle.rules.specs.declared.Instruction.{Instruction}
use Rattle.rules.specs.declared.Instruction.TheVariants as instruction
use Rattle.std.specs.Prelude.{Ok, Err}
use Rattle.rules.specs.declared.Phase.TheVariants.{Taking}
use Rattle.rules.specs.declared.State.{State}
use Rattle.rules.specs.Measures.{output_words, total}
use Rattle.rules.specs.Book.{net_at, delivered_at, sound, fresh, state_of, book_of, Lengths}
use Rattle.rules.specs.Questions.{first_no, ask_issue, ask_account}
use Rattle.rules.specs.Calls.{Cutoff}
use Rattle.rules.specs.Tape.{read_of}
use Rattle.rules.specs.Run.{any_output, answer_of}
use Rattle.rules.specs.Tally.{accepted}
use Rattle.laws.proofs.Sound.{sound_parts}
use Rattle.laws.proofs.Answers.{said_yes, said_no, by_answer}
use Rattle.laws.proofs.Called.{Standing, fresh_sound}
use Rattle.rereading.proofs.Sized.{read_sized}
use Rattle.rereading.proofs.Window.{read_window}
use Rattle.columns.specs.declared.LentColumns.{LentColumns}
use Rattle.columns.specs.Books.{lent_book, IsReady}
use Rattle.rules.specs.Refusals.{number_in}
use Rattle.answers.specs.Turns.{Given}
use Rattle.instructions.specs.Answering.{AnsweredIn}
use Rattle.spans.specs.declared.Statement.{Statement}
use Rattle.spans.specs.Span.{Turn as Turned, turn_of, turns_from}
use Rattle.spans.specs.Statement.{due_by, delivered_by, failed_by, resolved_by, statement_of, statement_over, statement_on, most_span, stated, numbers_of, stated_as, statement}
use Rattle.spans.proofs.Turns.{turns_none, turns_refused, turns_read}
use Rattle.spans.proofs.Cuts.{cut_owed}
use Rattle.spans.proofs.Sums.{same_statement}
use Rattle.statement.specs.declared.Step.{Step}
use Rattle.counting.specs.Counting.{most_added, CanAdd, Grown, resolved_in, added_in}
use Rattle.statement.specs.Counting.{Within, Stepped, plus_turn}

-- One turn

quiet : (b : Bool) (c : Statement) → cond b c c ≡ statement_of (c.due + 0) (c.delivered + 0) (c.failed + 0) (c.resolved + cond b 0 0)
quiet true c = same_statement _ _ _ _ _ _ _ _ (omega arith) (omega arith) (omega arith) (omega arith)
quiet false c = same_statement _ _ _ _ _ _ _ _ (omega arith) (omega arith) (omega arith) (omega arith)

resolves : (b own : Bool) (c : Statement) (x : ℕ) →
    cond b (resolved_in c own x) c ≡ statement_of (c.due + 0) (c.delivered + 0) (c.failed + 0) (c.resolved + cond b (cond own x 0) 0)
resolves true own c x = same_statement _ _ _ _ _ _ _ _ (omega arith) (omega arith) (omega arith) refl
resolves false own c x = same_statement _ _ _ _ _ _ _ _ (omega arith) (omega arith) (omega arith) (omega arith)

module _ (i a : ℕ) (hi : i < 16) (ha : a < 64) (c : Statement) where
  cuts : (b : Book) → Standing b → (ws : List ℕ) →
      added_in c instruction.Cutoff (answer_of b instruction.Cutoff ws).refusal (net_at b.nets i a) (delivered_at b.delivered i a) i a
      ≡ plus_turn i a c (turn_of b instruction.Cutoff ws)
  unfolding answer_of
  cuts b s ws =
      by_answer (λ r. added_in c instruction.Cutoff r.refusal (net_at b.nets i a) (delivered_at b.delivered i a) i a
      ≡ plus_turn i a c (record { instruction = instruction.Cutoff; before = b; answer = r })) b Cutoff any_output
      (λ y. same_statement _ _ _ _ _ _ _ _ refl refl (omega (arith, cut_owed b s i a hi ha)) (omega arith))
      (λ r. same_statement _ _ _ _ _ _ _ _ (omega arith) (omega arith) (omega arith) (omega arith))

  pub added_turn : (b : Book) → Standing b → (x : Instruction) (ws : List ℕ) →
      added_in c x (answer_of b x ws).refusal (net_at b.nets i a) (delivered_at b.delivered i a) i a ≡ plus_turn i a c (turn_of b x ws)
  added_turn b s (instruction.Trade j f t x) ws = quiet (accepted (answer_of b (instruction.Trade j f t x) ws).refusal) c
  added_turn b s (instruction.Deliver j d x) ws = quiet (accepted (answer_of b (instruction.Deliver j d x) ws).refusal) c
  added_turn b s (instruction.Resolve j d x) ws =
      resolves (accepted (answer_of b (instruction.Resolve j d x) ws).refusal) (eqb j i && eqb d a) c x
  added_turn b s (instruction.PairOff j d) ws = quiet (accepted (answer_of b (instruction.PairOff j d) ws).refusal) c
  added_turn b s instruction.Close ws = quiet (accepted (answer_of b instruction.Close ws).refusal) c
  added_turn b s instruction.Cutoff ws = cuts b s ws
  added_turn b s (instruction.Roll days rate) ws = quiet (accepted (answer_of b (instruction.Roll days rate) ws).refusal) c
  added_turn b s (instruction.Mark j m) ws = quiet (accepted (answer_of b (instruction.Mark j m) ws).refusal) c
  added_turn b s (instruction.Turn d) ws = quiet (accepted (answer_of b (instruction.Turn d) ws).refusal) c

-- a turn of the code is the run's
pub stepped : (ws : List ℕ) (x : Instruction) (i a : ℕ) (c : Statement) (b : Book) → Standing b → Within i a → (t : Given) (b' : Book) (net : ℤ) →
    net ≡ net_at b.nets i a → (r : Step) → r.statement ≡ added_in c x (number_in t) net (delivered_at b.delivered i a) i a → Grown c r.statement →
    AnsweredIn ws x b t b' → Stepped ws x i a c b r b'
stepped ws x i a c b s w t b' net e r q g h =
    record {
      counted = q ∙ ap (λ (n : ℤ). added_in c x (number_in t) n (delivered_at b.delivered i a) i a) e
          ∙ ap (λ (n : ℕ). added_in c x n (net_at b.nets i a) (delivered_at b.delivered i a) i a) h.says.refusal
          ∙ added_turn i a (omega (arith, w.issue)) (omega (arith, w.account)) c b s x ws;
      grown = g;
      book = h.says.book;
      lengths = h.lengths;
      sound = h.sound;
    }

-- a sound book in its columns
pub ready_stands : (s : State) (c : LentColumns) (out : List ℕ) → IsReady s c out → Standing (lent_book s c)
ready_stands s c out r =
    let l = r.lengths in
    record {
      sizes = record { nets = l.cells.nets; delivered = l.cells.delivered; lifts = l.lifts; charges = l.charges };
      parts = sound_parts (lent_book s c) r.sound;
    }

-- On the way

-- a statement with what turns add
abbrev plus_turns : ℕ → ℕ → Statement → List Turned → Statement
plus_turns i a c ts =
    statement_of (c.due + total (due_by i a) ts) (c.delivered + total (delivered_by i a) ts) (c.failed + total (failed_by i a) ts) (c.resolved + total (resolved_by i a) ts)

-- so many instructions are left, and there is room for what they add
pub record Room (left : ℕ) (c : Statement) : Type 0 where
  pub due : c.due + left * most_added ≤ 17592186044416
  pub delivered : c.delivered + left * most_added ≤ 17592186044416
  pub failed : c.failed + left * most_added ≤ 17592186044416
  pub resolved : c.resolved + left * most_added ≤ 17592186044416

pub record Counting (i a : ℕ) (b₀ : Book) (ws₀ : List ℕ) (left : ℕ) (c : Statement) (b : Book) (ws : List ℕ) : Type 0 where
  pub room : Room left c
  pub sum : plus_turns i a c (turns_from left b ws) ≡ statement_over i a (turns_from most_span b₀ ws₀)

pub starts : (i a : ℕ) (b : Book) (ws : List ℕ) → Counting i a b ws most_span (statement_of 0 0 0 0) b ws
unfolding statement_over
starts i a b ws =
    record {
      room = record { due = omega arith; delivered = omega arith; failed = omega arith; resolved = omega arith };
      sum = same_statement _ _ _ _ _ _ _ _ (omega arith) (omega arith) (omega arith) (omega arith);
    }

-- room for one more
pub one_more : (left : ℕ) (c : Statement) → 0 < left → Room left c → CanAdd c
one_more left c h r =
    record {
      due = omega (arith, h, r.due);
      delivered = omega (arith, h, r.delivered);
      failed = omega (arith, h, r.failed);
      resolved = omega (arith, h, r.resolved);
    }

less_room : (left : ℕ) (c d : Statement) → Room (suc left) c → Grown c d → Room left d
less_room left c d r g =
    record {
      due = omega (arith, r.due, g.due);
      delivered = omega (arith, r.delivered, g.delivered);
      failed = omega (arith, r.failed, g.failed);
      resolved = omega (arith, r.resolved, g.resolved);
    }

one_turn : (i a : ℕ) (c : Statement) (t : Turned) (ts : List Turned) → plus_turns i a (plus_turn i a c t) ts ≡ plus_turns i a c (t ∷ ts)
one_turn i a c t ts = same_statement _ _ _ _ _ _ _ _ (omega arith) (omega arith) (omega arith) (omega arith)

module _ (i a : ℕ) (b₀ : Book) (ws₀ : List ℕ) (c : Statement) (b : Book) (ws : List ℕ) where
  -- one instruction more
  again_suc : (left : ℕ) → Counting i a b₀ ws₀ (suc left) c b ws → (x : Instruction) (k : ℕ) → read_of ws ≡ Ok (x, k) → (d : Statement) (b' : Book) →
      d ≡ plus_turn i a c (turn_of b x ws) → Grown c d → b' ≡ (answer_of b x ws).book → Counting i a b₀ ws₀ left d b' (drop k ws)
  again_suc left g x k e d b' q w p =
      record {
        room = less_room left c d g.room w;
        sum =
            rw (q, p)
            (one_turn i a c (turn_of b x ws) (turns_from left (answer_of b x ws).book (drop k ws))
            ∙ ap (plus_turns i a c) (sym (turns_read left b ws x k e)) ∙ g.sum);
      }

  pub again : (left : ℕ) → 0 < left → Counting i a b₀ ws₀ left c b ws → (x : Instruction) (k : ℕ) → read_of ws ≡ Ok (x, k) → (d : Statement) (b' : Book) →
      d ≡ plus_turn i a c (turn_of b x ws) → Grown c d → b' ≡ (answer_of b x ws).book → Counting i a b₀ ws₀ (left - 1) d b' (drop k ws)
  again zero h g x k e d b' q w p = absurd (omega arith)
  again (suc left) h g x k e d b' q w p =
      let z : left ≡ suc left - 1 = omega arith in
      subst (λ (n : ℕ). Counting i a b₀ ws₀ n d b' (drop k ws)) z (again_suc left g x k e d b' q w p)

  -- the reader refuses, or no instruction is left
  pub ends : (left : ℕ) → Counting i a b₀ ws₀ left c b ws → turns_from left b ws ≡ [] → c ≡ statement_over i a (turns_from most_span b₀ ws₀)
  ends left g e =
      same_statement _ _ _ _ _ _ _ _ (omega arith) (omega arith) (omega arith) (omega arith) ∙ sym (ap (plus_turns i a c) e) ∙ g.sum

  pub ends_refused : (left : ℕ) → Counting i a b₀ ws₀ left c b ws → (r : ℕ) → read_of ws ≡ Err r → c ≡ statement_over i a (turns_from most_span b₀ ws₀)
  ends_refused left g r e = ends left g (turns_refused left b ws r e)

  pub ends_out : (left : ℕ) → left ≤ 0 → Counting i a b₀ ws₀ left c b ws → c ≡ statement_over i a (turns_from most_span b₀ ws₀)
  ends_out zero h g = ends 0 g (turns_none b ws)
  ends_out (suc left) h g = absurd (omega arith)

-- An instruction has at most thirty-three words
pub read_few : (ws : List ℕ) (x : Instruction) (n : ℕ) → read_of ws ≡ Ok (x, n) → n ≤ 33
read_few ws x n e =
    let z = read_sized (take 33 ws) x n (read_window 33 ws (omega arith) ∙ e) in
    omega (arith, z.1, length-take 33 ws)

-- the same of the words from a place on
pub again_at : (i a : ℕ) (b₀ : Book) (ws : List ℕ) (c : Statement) (b : Book) (at left : ℕ) → 0 < left → Counting i a b₀ ws left c b (drop at ws) →
    (x : Instruction) (k : ℕ) → read_of (drop at ws) ≡ Ok (x, k) → (d : Statement) (b' : Book) →
    d ≡ plus_turn i a c (turn_of b x (drop at ws)) → Grown c d → b' ≡ (answer_of b x (drop at ws)).book → Counting i a b₀ ws (left - 1) d b' (drop (at + k) ws)
again_at i a b₀ ws c b at left h g x k e d b' q w p =
    rw (← drop-drop k at ws) (again i a b₀ ws c b (drop at ws) left h g x k e d b' q w p)

-- The answer, by its questions

module _ (ws : List ℕ) (i a : ℕ) where
  as_number : (n : ℕ) → first_no (ask_issue i ∷ ask_account a ∷ []) ≡ n → stated_as n (statement_on ws i a) ≡ statement ws i a
  unfolding statement
  as_number n e = sym (ap (λ (m : ℕ). stated_as m (statement_on ws i a)) e)

  pub above_issues : 15 < i → stated 4 (replicate 6 0) ≡ statement ws i a
  above_issues h = as_number 4 (said_no 4 (leb i 15) (ask_account a ∷ []) (lt-leb i 15 h))

  pub above_accounts : i ≤ 15 → 63 < a → stated 5 (replicate 6 0) ≡ statement ws i a
  above_accounts h k =
      as_number 5 (said_yes 4 (leb i 15) (ask_account a ∷ []) (le-leb i 15 h) ∙ said_no 5 (leb a 63) [] (lt-leb a 63 k))

  pub in_range : i ≤ 15 → a ≤ 63 → (c : Statement) → c ≡ statement_on ws i a → stated 0 (numbers_of c) ≡ statement ws i a
  in_range h k c e =
      ap (λ (d : Statement). stated 0 (numbers_of d)) e
      ∙ as_number 0 (said_yes 4 (leb i 15) (ask_account a ∷ []) (le-leb i 15 h) ∙ said_yes 5 (leb a 63) [] (le-leb a 63 k))

-- A fresh book in its columns

abbrev fresh_state : State
fresh_state = state_of 0 Taking 0 0 (replicate 16 0)

abbrev fresh_in : State → Book
fresh_in s =
    book_of s (replicate 1024 (pos 0)) (replicate 1024 0) (replicate 288 0) (replicate 64 (pos 0)) (replicate 2048 0) (replicate 2048 0) (replicate 2048 0) (replicate 2048 0) (replicate 2048 0)

fresh_in_lem : (s : State) → s ≡ fresh_state → fresh_in s ≡ fresh
fresh_in_lem s e = ap fresh_in e

pub fresh_lengths : Lengths (replicate 1024 (pos 0)) (replicate 1024 0) (replicate 288 0) (replicate 64 (pos 0)) (replicate 2048 0) (replicate 2048 0) (replicate 2048 0) (replicate 2048 0) (replicate 2048 0)
fresh_lengths =
    record {
      cells = record { nets = length-replicate 1024 (pos 0); delivered = length-replicate {A = ℕ} 1024 0 };
      lifts = length-replicate {A = ℕ} 288 0;
      charges = length-replicate 64 (pos 0);
      ledger = record {
        issues = length-replicate {A = ℕ} 2048 0;
        froms = length-replicate {A = ℕ} 2048 0;
        tos = length-replicate {A = ℕ} 2048 0;
        lots = length-replicate {A = ℕ} 2048 0;
        days = length-replicate {A = ℕ} 2048 0;
      };
    }

pub fresh_is_sound : (s : State) → s ≡ fresh_state → sound (fresh_in s) ≡ true
fresh_is_sound s e = ap sound (fresh_in_lem s e) ∙ fresh_sound

pub fresh_room : output_words ≤ length (replicate {A = ℕ} 4096 0)
fresh_room = subst (λ (n : ℕ). output_words ≤ n) (sym (length-replicate {A = ℕ} 4096 0)) (omega arith)

pub on_fresh_book : (s : State) → s ≡ fresh_state → (ws : List ℕ) (i a : ℕ) →
    statement_over i a (turns_from most_span (fresh_in s) ws) ≡ statement_on ws i a
unfolding statement_on
on_fresh_book s e ws i a = ap (λ (b : Book). statement_over i a (turns_from most_span b ws)) (fresh_in_lem s e)
