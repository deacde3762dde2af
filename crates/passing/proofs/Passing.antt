-- Instructions one behind another: each leaves the state of a book as it is, so the columns that it changes alone are lent to it.
use mathlib.Core.Path.{◌≡◌, refl, ap, ◌∙◌}
use mathlib.Core.Bool.{Bool, true}
use mathlib.Core.List.{List}
use Prim.Native.Nat.{ℕ, ◌+◌}
use native.Mathlib.Omega.{arith}
use lib.IntN.{ℤ}
use lib.ListN.{length, drop}
use Rattle.rules.specs.declared.Book.{Book}
use Rattle.rules.specs.declared.Instruction.{Instruction}
use Rattle.rules.specs.declared.Instruction.TheVariants as instruction
use Rattle.rules.specs.declared.Name.TheVariants as name
use Rattle.std.specs.Prelude.{Ok}
use Rattle.rules.specs.declared.State.{State}
use Rattle.rules.specs.Book.{sound}
use Rattle.rules.specs.Calls.{Trade, Deliver, called}
use Rattle.rules.specs.Run.{line, name_of, any_output, answer_of}
use Rattle.rules.specs.Tape.{read_of}
use Rattle.rules.specs.Text.{line_text}
use Rattle.report.specs.Added.{Added}
use Rattle.report.proofs.Texts.{added_as}
use Rattle.rules.specs.Refusals.{number_in}
use Rattle.answers.specs.Turns.{Says, TurnIs, Given, count_in, state_after, within_nets, within_cells}
use Rattle.answers.proofs.Turning.{says, trade_state, deliver_state}
use Rattle.passing.specs.Going.{enough, LengthsOf, Held, Passed}
use Rattle.passing.proofs.Goings.{answer_sound, same_line, going_again}

-- the answer of a trade on the nets is that of any book with this state and these nets
trade_says : (s : State) (nets nets' : List ℤ) (b : Book) (i f t x : ℕ) (r : Given) (ws : List ℕ) →
    TurnIs (called (within_nets s nets b) (Trade i f t x) any_output) r (within_nets (state_after s r) nets' b) any_output →
    Says (answer_of (within_nets s nets b) (instruction.Trade i f t x) ws) r (within_nets s nets' b)
unfolding answer_of
trade_says s nets nets' b i f t x r ws d =
    let e : state_after s r ≡ s = ap (λ (c : Book). c.state) d.book ∙ trade_state (within_nets s nets b) i f t x any_output in
    says (rw e at d)

-- and that of a delivery on the cells of any book with this state and these
deliver_says : (s : State) (nets : List ℤ) (delivered delivered' lifts lifts' : List ℕ) (b : Book) (i a x : ℕ) (r : Given) (ws : List ℕ) →
    Says (called (within_cells s nets delivered lifts b) (Deliver i a x) any_output) r (within_cells (state_after s r) nets delivered' lifts' b) →
    Says (answer_of (within_cells s nets delivered lifts b) (instruction.Deliver i a x) ws) r (within_cells s nets delivered' lifts' b)
unfolding answer_of
deliver_says s nets delivered delivered' lifts lifts' b i a x r ws d =
    let e : state_after s r ≡ s = ap (λ (c : Book). c.state) d.book ∙ deliver_state (within_cells s nets delivered lifts b) i a x any_output in
    rw e at d

-- no instruction is passed yet
pub passed_none : (ws : List ℕ) (last : Bool) (index : ℕ) (f : Book → Book) (text : List ℕ) (at end : ℕ) → Passed ws last index f f text text at end at end
passed_none ws last index f text at end = record { on = omega arith; held = λ b h. h; going = λ stray b₀ b h g. g }

-- one more
module _ (ws : List ℕ) (last : Bool) (index : ℕ) (before f f' : Book → Book) (text₀ text text' : List ℕ) (from to at end end' : ℕ)
    (x : Instruction) (r : Given) (lengths : (b : Book) → Held (f b) → LengthsOf (f' b))
    (told : (b : Book) → Held (f b) → Says (answer_of (f b) x (drop at ws)) r (f' b)) where
  kept : (b : Book) → Held (f b) → Held (f' b)
  kept b h =
      let l = h.lengths in
      record {
        lengths = lengths b h;
        sound = answer_sound (f b) (f' b) r x (drop at ws)
            (record { nets = l.cells.nets; delivered = l.cells.delivered; lifts = l.lifts; charges = l.charges }) h.sound (told b h);
      }

  pub passed_on : (n : ℕ) → Passed ws last index before f text₀ text from to at end → enough (length (drop at ws)) last ≡ true →
      read_of (drop at ws) ≡ Ok (x, n) → Added 72 text text' end end' (line_text (line (index + at) (name_of x) (number_in r) (count_in r))) →
      Passed ws last index before f' text₀ text' from to (at + n) end'
  passed_on n p q g a =
      record {
        on = omega (arith, p.on);
        held = λ b h. kept b (p.held b h);
        going = λ stray b₀ b h m.
            let k = p.held b h in
            let y = told b k in
            going_again ws last stray index b₀ (f b) text text' at end (p.going stray b₀ b h m) x n end' (f' b) q g
            (record {
              printed = added_as 72 72 _ _ _ _ _ _ (omega arith) (same_line (index + at) _ _ _ _ _ _ refl y.refusal y.count) a;
              book = y.book;
              lengths = (kept b k).lengths;
              sound = (kept b k).sound;
            });
      }

-- a trade more
module _ (ws : List ℕ) (last : Bool) (index : ℕ) (s : State) (before : Book → Book) (nets nets' : List ℤ) (text₀ text text' : List ℕ) (from to at end end' : ℕ)
    (i f t x : ℕ) (r : Given) where
  pub trade_on : Passed ws last index before (within_nets s nets) text₀ text from to at end → enough (length (drop at ws)) last ≡ true →
      read_of (drop at ws) ≡ Ok (instruction.Trade i f t x, 2) → length nets' ≡ length nets →
      ((b : Book) → sound (within_nets s nets b) ≡ true → TurnIs (called (within_nets s nets b) (Trade i f t x) any_output) r (within_nets (state_after s r) nets' b) any_output) →
      Added 72 text text' end end' (line_text (line (index + at) name.Trade (number_in r) (count_in r))) →
      Passed ws last index before (within_nets s nets') text₀ text' from to (at + 2) end'
  trade_on p q g e d a =
      passed_on ws last index before (within_nets s nets) (within_nets s nets') text₀ text text' from to at end end' (instruction.Trade i f t x) r
      (λ b h.
      let l = h.lengths in
      record { cells = record { nets = e ∙ l.cells.nets; delivered = l.cells.delivered }; lifts = l.lifts; charges = l.charges; ledger = l.ledger })
      (λ b h. trade_says s nets nets' b i f t x r (drop at ws) (d b h.sound)) 2 p q g a

-- a delivery more
module _ (ws : List ℕ) (last : Bool) (index : ℕ) (s : State) (before : Book → Book) (nets : List ℤ) (delivered delivered' lifts lifts' : List ℕ) (text₀ text text' : List ℕ)
    (from to at end end' : ℕ) (i a x : ℕ) (r : Given) where
  pub deliver_on : Passed ws last index before (within_cells s nets delivered lifts) text₀ text from to at end → enough (length (drop at ws)) last ≡ true →
      read_of (drop at ws) ≡ Ok (instruction.Deliver i a x, 2) → length delivered' ≡ length delivered → length lifts' ≡ length lifts →
      ((b : Book) → sound (within_cells s nets delivered lifts b) ≡ true →
      Says (called (within_cells s nets delivered lifts b) (Deliver i a x) any_output) r (within_cells (state_after s r) nets delivered' lifts' b)) →
      Added 72 text text' end end' (line_text (line (index + at) name.Deliver (number_in r) (count_in r))) →
      Passed ws last index before (within_cells s nets delivered' lifts') text₀ text' from to (at + 2) end'
  deliver_on p q g e k d t =
      passed_on ws last index before (within_cells s nets delivered lifts) (within_cells s nets delivered' lifts') text₀ text text' from to at end end'
      (instruction.Deliver i a x) r
      (λ b h.
      let l = h.lengths in
      record { cells = record { nets = l.cells.nets; delivered = e ∙ l.cells.delivered }; lifts = k ∙ l.lifts; charges = l.charges; ledger = l.ledger })
      (λ b h. deliver_says s nets delivered delivered' lifts lifts' b i a x r (drop at ws) (d b h.sound)) 2 p q g t
