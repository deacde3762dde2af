-- An accepted cutoff on a sound book: the entries that it puts into the ledger are the new ones, so that an account
-- fails in an issue what it owes and has not delivered.
use mathlib.Core.Path.{◌≡◌, refl, sym, ap, ◌∙◌}
use mathlib.Core.List.{List, [], ◌∷◌, ◌++◌}
use Prim.Native.Nat.{ℕ, ◌+◌, ◌≤◌, ◌<◌}
use native.Mathlib.Omega.{arith}
use lib.ListN.{length, drop, length-replicate}
use lib.IntN.{pos}
use Rattle.rules.specs.declared.Book.{Book}
use Rattle.rules.specs.declared.Instruction.{Instruction}
use Rattle.rules.specs.declared.Phase.TheVariants.{Cut}
use Rattle.rules.specs.Measures.{owed_of}
use Rattle.rules.specs.Ledger.{is_from, lots_of}
use Rattle.rules.specs.Book.{net_at, delivered_at, order_of, ledger_of, with_state, with_phase, with_ledger, cell, fresh}
use Rattle.rules.specs.Calls.{new_entries}
use Rattle.rules.specs.Tape.{quotes_of}
use Rattle.rules.specs.Run.{call_of, any_output, answer_of}
use Rattle.laws.proofs.Sound.{sound_parts, within_at}
use Rattle.laws.proofs.Ledger.{ledger_written}
use Rattle.laws.proofs.Issue.{owed_out}
use Rattle.laws.proofs.Called.{Standing, stands, fresh_sound}
use Rattle.tally.proofs.Cutting.{new_from}
use Rattle.spans.specs.Statement.{put_by}

-- the fresh book stands, and every answer leaves a book that does
pub fresh_stands : Standing fresh
fresh_stands =
    record {
      sizes = record {
        nets = length-replicate 1024 (pos 0);
        delivered = length-replicate {A = ℕ} 1024 0;
        lifts = length-replicate {A = ℕ} 288 0;
        charges = length-replicate 64 (pos 0);
      };
      parts = sound_parts fresh fresh_sound;
    }

pub answer_stands : (b : Book) (x : Instruction) (ws : List ℕ) → Standing b → Standing (answer_of b x ws).book
unfolding answer_of
answer_stands b x ws s = stands b (call_of x (quotes_of ws)) any_output s

-- What is put into the ledger

drop_front {ℓ} : {A : Type ℓ} (xs ys : List A) → drop (length xs) (xs ++ ys) ≡ ys
drop_front [] ys = refl
drop_front (x ∷ xs) ys = drop_front xs ys

-- the book behind an accepted cutoff
abbrev pub cut_book : Book → Book
cut_book b = with_ledger (with_state b (with_phase b.state Cut)) (ledger_of b ++ new_entries b.state.day (order_of b) b.nets b.delivered)

pub cut_put : (b : Book) → put_by b (cut_book b) ≡ new_entries b.state.day (order_of b) b.nets b.delivered
cut_put b =
    let new = new_entries b.state.day (order_of b) b.nets b.delivered in
    ap (drop (length (ledger_of b))) (ledger_written b (ledger_of b ++ new)) ∙ drop_front (ledger_of b) new

-- delivered and failed are what was owed
pub cut_owed : (b : Book) → Standing b → (i a : ℕ) → i < 16 → a < 64 →
    delivered_at b.delivered i a + lots_of (is_from i a) (put_by b (cut_book b)) ≡ owed_of (net_at b.nets i a)
cut_owed b s i a hi ha =
    omega (
      arith,
      ap (lots_of (is_from i a)) (cut_put b),
      new_from b i a hi,
      owed_out b s.parts s.sizes.nets s.sizes.delivered i hi a ha,
    )

-- no account has delivered more than it owes
pub owed_most : (b : Book) → Standing b → (i a : ℕ) → delivered_at b.delivered i a ≤ owed_of (net_at b.nets i a)
owed_most b s i a = within_at b.nets b.delivered (cell i a) (s.sizes.nets ∙ sym s.sizes.delivered) s.parts.owed
