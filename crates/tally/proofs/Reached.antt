-- Every book that a list of calls reaches is sound, in columns of a book's lengths; and a refused call leaves book and tally as
-- they were.
use mathlib.Core.Path.{◌≡◌, refl}
use mathlib.Core.Bool.{true}
use mathlib.Core.List.{List, [], ◌∷◌, ◌++◌}
use Prim.Native.Nat.{ℕ, ◌≤◌, ◌<◌}
use native.Mathlib.Omega.{arith}
use lib.ListN.{length, length-replicate}
use Rattle.rules.specs.declared.Book.{Book}
use Rattle.rules.specs.declared.Entry.{Entry}
use Rattle.rules.specs.Measures.{most_entries}
use Rattle.rules.specs.Ledger.{is_from, meet, pairing}
use Rattle.rules.specs.Book.{order_of, ledger_of, sound, column, LedgerLengths, Lengths, fresh}
use Rattle.rules.specs.Calls.{Call, Trade, Close, Deliver, Ask, Commit, Cutoff, Resolve, PairOff, Roll, Mark, Turn, new_entries, effect, called}
use Rattle.rules.specs.Tally.{Tallied, CallList, answered, after, after_all, start}
use Rattle.laws.proofs.Sound.{SoundBook, sound_parts, parts_sound}
use Rattle.laws.proofs.Ledger.{length_column}
use Rattle.laws.proofs.Answers.{by_answer}
use Rattle.laws.proofs.Called.{Sizes, Standing, stands, fresh_sound}
use Rattle.tally.proofs.Taking.{starts}

start_standing : Standing start.book
start_standing =
    record {
      sizes = record { nets = starts.size_nets; delivered = starts.size_delivered; lifts = starts.size_lifts; charges = starts.size_charges };
      parts = sound_parts fresh fresh_sound;
    }

stands_all : (s : Tallied) (cs : CallList) → Standing s.book → Standing (after_all s cs).book
stands_all s [] g = g
stands_all s (c ∷ cs) g = stands_all (after s c.0 c.1) cs (stands s.book c.0 c.1 g)

pub reached_standing : (cs : CallList) → Standing (after_all start cs).book
reached_standing cs = stands_all start cs start_standing

pub reached_sound : (cs : CallList) → sound (after_all start cs).book ≡ true
reached_sound cs = parts_sound (after_all start cs).book (reached_standing cs).parts

-- The ledger's columns: a call leaves them, or writes them anew

abbrev LedgerOf : Book → Type 0
LedgerOf b = LedgerLengths b.issues b.froms b.tos b.lots b.days

written : (es : List Entry) → length es ≤ most_entries →
    LedgerLengths (column (λ e. e.issue) es) (column (λ e. e.from) es) (column (λ e. e.to) es) (column (λ e. e.lots) es) (column (λ e. e.day) es)
written es h =
    record {
      issues = length_column (λ e. e.issue) es h;
      froms = length_column (λ e. e.from) es h;
      tos = length_column (λ e. e.to) es h;
      lots = length_column (λ e. e.lots) es h;
      days = length_column (λ e. e.day) es h;
    }

start_ledger : LedgerOf start.book
start_ledger =
    let l = length-replicate {A = ℕ} most_entries 0 in
    record { issues = l; froms = l; tos = l; lots = l; days = l }

-- what a call writes has at most 2,048 entries, since the book is sound after it
ledger_kept : (b : Book) (c : Call) → SoundBook (effect b c).book → LedgerOf b → LedgerOf (effect b c).book
ledger_kept b (Trade i f t x) g l = l
ledger_kept b Close g l = l
ledger_kept b (Deliver i a x) g l = l
ledger_kept b (Ask i k) g l = l
ledger_kept b (Commit t) g l = l
ledger_kept b Cutoff g l =
    written (ledger_of b ++ new_entries b.state.day (order_of b) b.nets b.delivered) g.ledger.count
ledger_kept b (Resolve i a x) g l = written (meet (is_from i a) x (ledger_of b)) g.ledger.count
ledger_kept b (PairOff i a) g l = written (pairing b.state.day i a (ledger_of b)).ledger g.ledger.count
ledger_kept b (Roll days rate quotes) g l = l
ledger_kept b (Mark i m) g l = l
ledger_kept b (Turn d) g l = l

ledger_all : (s : Tallied) (cs : CallList) → Standing s.book → LedgerOf s.book → LedgerOf (after_all s cs).book
ledger_all s [] g l = l
ledger_all s (c ∷ cs) g l =
    let h = stands s.book c.0 c.1 g in
    ledger_all (after s c.0 c.1) cs h
    (by_answer (λ r. SoundBook r.book → LedgerOf r.book) s.book c.0 c.1 (λ y k. ledger_kept s.book c.0 k l) (λ r k. l) h.parts)

-- a book that is reached
pub record Reached (b : Book) : Type 0 where
  pub lengths : Lengths b.nets b.delivered b.lifts b.charges b.issues b.froms b.tos b.lots b.days
  pub sound : sound b ≡ true

pub reached : (cs : CallList) → Reached (after_all start cs).book
reached cs =
    let z = (reached_standing cs).sizes in
    record {
      lengths = record {
        cells = record { nets = z.nets; delivered = z.delivered };
        lifts = z.lifts;
        charges = z.charges;
        ledger = ledger_all start cs start_standing start_ledger;
      };
      sound = reached_sound cs;
    }

-- after any call on a sound book in columns of a book's lengths, so is the book
pub called_reached : (b : Book) (c : Call) (out : List ℕ) → Reached b → Reached (called b c out).book
called_reached b c out r =
    let l = r.lengths in
    let z : Sizes b = record { nets = l.cells.nets; delivered = l.cells.delivered; lifts = l.lifts; charges = l.charges } in
    let h = stands b c out (record { sizes = z; parts = sound_parts b r.sound }) in
    record {
      lengths = record {
        cells = record { nets = h.sizes.nets; delivered = h.sizes.delivered };
        lifts = h.sizes.lifts;
        charges = h.sizes.charges;
        ledger = by_answer (λ a. SoundBook a.book → LedgerOf a.book) b c out (λ y k. ledger_kept b c k l.ledger) (λ n k. l.ledger) h.parts;
      };
      sound = parts_sound (called b c out).book h.parts;
    }

-- a refused call leaves everything as it was
pub refused_state : (s : Tallied) (c : Call) (out : List ℕ) → 0 < (called s.book c out).refusal → after s c out ≡ s
refused_state s c out =
    by_answer (λ r. 0 < r.refusal → answered c r s ≡ s) s.book c out (λ y h. absurd (omega arith)) (λ r h. refl)
