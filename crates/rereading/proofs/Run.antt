-- The run of a tape: each instruction takes a word at least, so fuel beyond the words changes nothing, and a turn of the run is
-- one equation. What stands in the lent output changes no line.
use mathlib.Core.Path.{◌≡◌, refl, ap}
use mathlib.Core.Bool.{Bool, true, false, cond}
use mathlib.Core.List.{List, [], ◌∷◌}
use Prim.Native.Nat.{ℕ, zero, suc, ◌+◌, ◌≤◌, ◌<◌}
use native.Mathlib.Omega.{arith}
use borrow.Author.Tests.{ne_eqb}
use lib.ListN.{length, drop, length-drop, length-replicate}
use Rattle.rules.specs.declared.Book.{Book}
use Rattle.rules.specs.declared.Instruction.{Instruction}
use Rattle.rules.specs.declared.Name.TheVariants as name
use Rattle.std.specs.Prelude.{Result, Ok, Err}
use Rattle.rules.specs.Measures.{output_words}
use Rattle.rules.specs.Book.{fresh}
use Rattle.rules.specs.Questions.{first_no, ask_sound}
use Rattle.rules.specs.Calls.{Call, lends, HasRoom, Answer, Effect, answer, own_asks, effect, called}
use Rattle.rules.specs.Tape.{read_of, quotes_of}
use Rattle.rules.specs.Run.{Ran, call_of, name_of, line, any_output, answer_of, ended, stopped, after_line, after_read, run_from, run_rest, run_of}
use Rattle.laws.proofs.Answers.{room, has_room}
use Rattle.rereading.proofs.Sized.{read_sized}

-- what an instruction at the front of some words does: its line, and the rest of the run
abbrev turn : ℕ → ℕ → Book → List ℕ → Bool → Instruction → ℕ → Ran
turn n at b ws stray x k =
    after_line (line at (name_of x) (answer_of b x ws).refusal (answer_of b x ws).count)
    (run_from n (at + k) (answer_of b x ws).book (drop k ws) stray)

-- two turns that agree where an instruction is read
read_same : (at : ℕ) (b : Book) (r : Result (Instruction × ℕ) ℕ) (f g : Instruction → ℕ → Ran) →
    ((x : Instruction) (k : ℕ) → r ≡ Ok (x, k) → f x k ≡ g x k) → after_read at b r f ≡ after_read at b r g
read_same at b (Err r) f g h = refl
read_same at b (Ok p) f g h = h p.0 p.1 refl

-- fuel above the number of words
pub run_fuel : (n m at : ℕ) (b : Book) (ws : List ℕ) (stray : Bool) → length ws < n → length ws < m →
    run_from n at b ws stray ≡ run_from m at b ws stray
run_fuel zero m at b ws stray h g = absurd (omega arith)
run_fuel (suc n) zero at b ws stray h g = absurd (omega arith)
run_fuel (suc n) (suc m) at b ws stray h g =
    ap (cond (ended ws stray) (stopped [] b))
    (read_same at b (read_of ws) (turn n at b ws stray) (turn m at b ws stray)
    (λ x k e.
    let s = read_sized ws x k e in
    let d = length-drop k ws in
    ap (after_line (line at (name_of x) (answer_of b x ws).refusal (answer_of b x ws).count))
    (run_fuel n m (at + k) (answer_of b x ws).book (drop k ws) stray (omega arith) (omega arith))))

pub run_start : (ws : List ℕ) (stray : Bool) → run_of ws stray ≡ run_rest 0 fresh ws stray
unfolding run_of
run_start ws stray = refl

-- one turn: the tape ends, the reader refuses, or an instruction is answered and the run goes on
module _ (at : ℕ) (b : Book) (ws : List ℕ) (stray : Bool) where
  pub run_ended : ended ws stray ≡ true → run_rest at b ws stray ≡ stopped [] b
  run_ended e = rw e

  pub run_refused : (r : ℕ) → ended ws stray ≡ false → read_of ws ≡ Err r →
      run_rest at b ws stray ≡ stopped (line at name.Tape r 0 ∷ []) b
  run_refused r e f = rw (e, f)

  pub run_instruction : (x : Instruction) (k : ℕ) → ended ws stray ≡ false → read_of ws ≡ Ok (x, k) →
      run_rest at b ws stray
      ≡ after_line (line at (name_of x) (answer_of b x ws).refusal (answer_of b x ws).count)
      (run_rest (at + k) (answer_of b x ws).book (drop k ws) stray)
  run_instruction x k e f =
      let s = read_sized ws x k f in
      let d = length-drop k ws in
      rw (e, f)
      (ap (after_line (line at (name_of x) (answer_of b x ws).refusal (answer_of b x ws).count))
      (run_fuel (length ws) (suc (length (drop k ws))) (at + k) (answer_of b x ws).book (drop k ws) stray (omega arith) (omega arith)))

-- words that are left do not end a tape; where none is left, a stray byte does not either
pub not_ended : (w : ℕ) (ws : List ℕ) (stray : Bool) → ended (w ∷ ws) stray ≡ false
not_ended w ws stray = simp (ne_eqb (suc (length ws)) 0 (λ e. omega arith))

-- number, count and book of two answers are the same
pub record SameAnswer (a c : Answer) : Type 0 where
  pub refusal : a.refusal ≡ c.refusal
  pub count : a.count ≡ c.count
  pub book : a.book ≡ c.book

same : (a : Answer) → SameAnswer a a
same a = record { refusal = refl; count = refl; book = refl }

any_out : (r : ℕ) (b : Book) (out lent : List ℕ) (e : Effect) → SameAnswer (answer r b out e) (answer r b lent e)
any_out zero b out lent e = record { refusal = refl; count = refl; book = refl }
any_out (suc r) b out lent e = record { refusal = refl; count = refl; book = refl }

-- two outputs with room for a call
pub answer_any_output : (b : Book) (c : Call) (out lent : List ℕ) → HasRoom c out → HasRoom c lent → SameAnswer (called b c out) (called b c lent)
unfolding called
answer_any_output b c out lent h g =
    let qs = ask_sound b ∷ own_asks b c in
    rw (room (lends c) out qs h, room (lends c) lent qs g) (any_out (first_no qs) b out lent (effect b c))

-- one that is long enough has it
pub any_room : (c : Call) → HasRoom c any_output
any_room c = has_room c any_output (omega (arith, length-replicate {A = ℕ} output_words 0))

-- so any such output gives the line and the book of the run
pub answer_lent : (b : Book) (out : List ℕ) → output_words ≤ length out → (x : Instruction) (ws : List ℕ) →
    SameAnswer (called b (call_of x (quotes_of ws)) out) (answer_of b x ws)
unfolding answer_of
answer_lent b out long x ws = let c = call_of x (quotes_of ws) in answer_any_output b c out any_output (has_room c out long) (any_room c)
