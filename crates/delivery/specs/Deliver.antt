-- What a delivery in place may assume, and what it does.
use Rattle.std.specs.Prelude.{◌≡◌, Bool, false, true, List, [], ℕ, ◌+◌, ◌-◌, ◌*◌, ◌≤◌, ◌<◌, length, get_or, take, drop, ℤ}
use Rattle.rules.specs.declared.Book.{Book}
use Rattle.rules.specs.declared.State.{State}
use Rattle.rules.specs.Measures.{most_lots, output_words, lift_cells, owed_of}
use Rattle.rules.specs.Units.{AccountLots}
use Rattle.rules.specs.Handover.{covered}
use Rattle.rules.specs.Book.{cell, net_at, delivered_at, delivered_total, order_in, in_force, sound, CellLengths}
use Rattle.rules.specs.Records.{words, over}
use Rattle.rules.specs.Calls.{Call, called, raised_delivered, raised_count, deliver_records}
use Rattle.rules.specs.Run.{any_output}
use Rattle.book.specs.Cells.{SoundCells}
use Rattle.book.specs.States.{Lent, Shared}
use Rattle.answers.specs.Turns.{Given, Says, Within, SomeSound, within_cells, state_after}
use Rattle.waiting.specs.declared.Kept.{Kept}
use Rattle.runs.specs.Runs.{units_of_words}
use Rattle.waiting.specs.Waiting.{Ready, Keeps}
use Rattle.serving.specs.Serving.{Served}

-- what a sound book and the answered questions give
pub record CanDeliver (nets : List ℤ) (delivered lifts : List ℕ) (i a x : ℕ) (out : List ℕ) : Type 0 where
  pub sound : SoundCells nets delivered lifts
  pub issue : i < 16
  pub account : a < 64
  pub lots : x ≤ most_lots
  pub owed : delivered_at delivered i a + x ≤ owed_of (net_at nets i a)
  pub room : output_words ≤ length out

-- the numbers that rise are there, and have room
pub record CanRaise (delivered lifts : List ℕ) (i a x : ℕ) : Type 0 where
  pub cell : cell i a < length delivered
  pub lots : delivered_at delivered i a + x < 4294967296
  pub word : i * 18 + 1 < length lifts
  pub count : get_or lifts (i * 18 + 1) 0 + 1 < 4294967296

-- what it leaves, in the new order or the old
pub record Delivered (new : Bool) (nets : List ℤ) (before after lifts raised : List ℕ) (i a x : ℕ) (lent out : List ℕ) (r : ℕ) : Type 0 where
  pub column : after ≡ raised_delivered before i a x
  pub counted : raised ≡ raised_count lifts i
  pub count : r ≡ length (deliver_records (order_in new nets lifts) before i x)
  pub output : out ≡ over (words (deliver_records (order_in new nets lifts) before i x)) lent

-- What is kept of each issue

abbrev pub nothing : Kept
nothing = record { runs = []; number = 0; first = 0; stock = 0 }

abbrev pub kept_at : List Kept → ℕ → Kept
kept_at ks i = get_or ks i nothing

-- no runs
abbrev pub NoneKept : List Kept → Type 0
NoneKept ks = (i : ℕ) → (kept_at ks i).number ≡ 0

-- where there are runs, they are those of the issue's units that wait
pub record KeepsEach (nets : List ℤ) (delivered lifts : List ℕ) (ks : List Kept) : Type 0 where
  pub issues : length ks ≡ 16
  pub each : (i : ℕ) → 0 < (kept_at ks i).number → Keeps (order_in false nets lifts i) (delivered_total delivered i) (kept_at ks i)

pub record CanMake (nets : List ℤ) (delivered lifts : List ℕ) (i : ℕ) (ks : List Kept) : Type 0 where
  pub sound : SoundCells nets delivered lifts
  pub issue : i < 16
  pub kept : KeepsEach nets delivered lifts ks

-- and an issue's are there
pub record Made (nets : List ℤ) (delivered lifts : List ℕ) (i : ℕ) (after : List Kept) : Type 0 where
  pub kept : KeepsEach nets delivered lifts after
  pub here : Keeps (order_in false nets lifts i) (delivered_total delivered i) (kept_at after i)

-- the answer of a call on every sound book with what is lent, whose records nobody reads
abbrev pub Counts : Within → State → Call → Given → Type 0
Counts w s c r = (b : Book) → sound (w.before s b) ≡ true → Says (called (w.before s b) c any_output) r (w.after (state_after s r) b)

abbrev pub count_ready : State → Shared ℤ → Lent ℕ → Lent ℕ → Lent Kept → Type 0
count_ready s nets delivered lifts kept =
    CellLengths nets.now delivered.now × (length lifts.now ≡ lift_cells)
    × SomeSound (within_cells s nets.now delivered.now lifts.now)
    × KeepsEach nets.now delivered.now lifts.now kept.now

-- x more lots can be handed on from what is kept of an issue: the records of the units that they cover have room
pub record CanHandKept (k : Kept) (i x : ℕ) (out : List ℕ) : Type 0 where
  pub ready : Ready k
  pub issue : i < 16
  pub small : k.stock + x < 4294967296
  pub room : 2 * covered (units_of_words (take (k.number - k.first) (drop k.first k.runs))) (k.stock + x) ≤ length out

-- what is kept goes on to what waits after them, and the records of the units that they hand over stand in front of the output
abbrev pub HandsKept : Kept → Kept → ℕ → ℕ → List ℕ → List ℕ → ℕ → Type 0
HandsKept before after i x lent out n =
    (us : List AccountLots) (d : ℕ) → Keeps us d before → Keeps us (d + x) after × Served us i d x lent out n

-- with room for the records, on a day on which full units are not dealt in turn
abbrev pub kept_ready : State → Shared ℤ → Lent ℕ → Lent ℕ → Lent Kept → Lent ℕ → Type 0
kept_ready s nets delivered lifts kept out =
    count_ready s nets delivered lifts kept × (output_words ≤ length out.now) × (in_force s.turn s.day ≡ false)
