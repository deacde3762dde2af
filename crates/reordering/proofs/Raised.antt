-- One delivery: when it is accepted, and what the book has after it, cell by cell.
use mathlib.Core.Path.{◌≡◌, sym, ap, ◌∙◌}
use mathlib.Core.Bool.{true, cond}
use mathlib.Core.List.{List, [], map}
use Prim.Native.Nat.{ℕ, ◌+◌, ◌≤◌, ◌<◌}
use native.Mathlib.Omega.{arith}
use native.Mathlib.Nat.{add-zero}
use lib.Dec.{leb, eqb, lit<}
use lib.IntN.{pos}
use lib.ListN.{length, get_or}
use lib.Seq.{get_or-set_same, get_or-set_other}
use borrow.Author.Tests.{leb-true, le-leb, eqb-true, eqb-false}
use Rattle.rules.specs.declared.Book.{Book}
use Rattle.rules.specs.Measures.{output_words, most_lots, between, sum, owed_of}
use Rattle.rules.specs.Units.{AccountLots}
use Rattle.rules.specs.Handover.{handovers}
use Rattle.rules.specs.Book.{is_settling, cell, delivered_total, lift_cell, order_of, dealt_today, lots_even}
use Rattle.rules.specs.Questions.{first_no}
use Rattle.rules.specs.Records.{handover}
use Rattle.rules.specs.Calls.{asks, effect, called, answer}
use Rattle.laws.proofs.Basics.{by_test}
use Rattle.laws.proofs.Handover.{each_handovers}
use Rattle.laws.proofs.Fails.{each_of_map}
use Rattle.laws.proofs.Cells.{get_or_block, row_other, delivered_rises}
use Rattle.laws.proofs.LiftColumn.{raised_order}
use Rattle.laws.proofs.Sound.{sound_parts, parts_sound}
use Rattle.laws.proofs.Records.{Fits, records_read}
use Rattle.laws.proofs.Issue.{units_fit}
use Rattle.laws.proofs.Answers.{AllYes, no_no, by_answer}
use Rattle.laws.proofs.Called.{Sizes, Standing}
use Rattle.reordering.specs.Reordering.{Delivery, deliver, records_from}

-- what is asked of a delivery beside the lots still owed: nothing that a delivery changes
pub record Fit (marks : List ℕ) (d : Delivery) : Type 0 where
  pub room : leb output_words (length d.out) ≡ true
  pub issue : leb d.issue 15 ≡ true
  pub account : leb d.account 63 ≡ true
  pub lots : between 1 most_lots d.lots ≡ true
  pub even : lots_even marks d.issue d.lots ≡ true

-- a sound book in Settling
pub record Ready (b : Book) : Type 0 where
  pub standing : Standing b
  pub settling : is_settling b.state.phase ≡ true

-- the cell of a delivery, and its word of the count
abbrev pub cell_of : Delivery → ℕ
cell_of d = cell d.issue d.account

abbrev pub word_of : Delivery → ℕ
word_of d = lift_cell d.issue 1

-- what it raises a cell and a word by, and the issue's total
abbrev pub lots_at : ℕ → Delivery → ℕ
lots_at m d = cond (eqb m (cell_of d)) d.lots 0

abbrev pub counts_at : ℕ → Delivery → ℕ
counts_at m d = cond (eqb m (word_of d)) 1 0

abbrev pub lots_in : ℕ → Delivery → ℕ
lots_in i d = cond (eqb d.issue i) d.lots 0

-- Accepted or not

pub all_yes_of : (b : Book) (d : Delivery) → (called b (deliver d) d.out).refusal ≡ 0 → AllYes (asks b (deliver d) d.out)
all_yes_of b d =
    by_answer (λ r. r.refusal ≡ 0 → AllYes (asks b (deliver d) d.out)) b (deliver d) d.out (λ y h. y) (λ r h. absurd (omega arith))

pub accepted_fit : (b : Book) (d : Delivery) → (called b (deliver d) d.out).refusal ≡ 0 → Fit b.state.marks d
accepted_fit b d h =
    let y = all_yes_of b d h in
    record {
      room = y.0;
      issue = y.1.1.1.0;
      account = y.1.1.1.1.0;
      lots = y.1.1.1.1.1.0;
      even = y.1.1.1.1.1.1.0;
    }

pub accepted_ready : (b : Book) (d : Delivery) → Sizes b → (called b (deliver d) d.out).refusal ≡ 0 → Ready b
accepted_ready b d z h =
    let y = all_yes_of b d h in
    record { standing = record { sizes = z; parts = sound_parts b y.1.0 }; settling = y.1.1.0 }

module _ (b : Book) (s : Ready b) (d : Delivery) (f : Fit b.state.marks d) where
  i<16 : d.issue < 16
  i<16 = omega (arith, leb-true d.issue 15 f.issue)

  a<64 : d.account < 64
  a<64 = omega (arith, leb-true d.account 63 f.account)

  -- with the lots still owed it is accepted
  pub accepts : get_or b.delivered (cell_of d) 0 + d.lots ≤ owed_of (get_or b.nets (cell_of d) (pos 0)) → first_no (asks b (deliver d) d.out) ≡ 0
  accepts o =
      sym (no_no (asks b (deliver d) d.out)
      (f.room, (parts_sound b s.standing.parts, (s.settling, (f.issue, (f.account, (f.lots, (f.even, (le-leb _ _ o, tt)))))))))

  -- The book after it

  abbrev next : Book
  next = (effect b (deliver d)).book

  pub cells : (m : ℕ) → get_or next.delivered m 0 ≡ get_or b.delivered m 0 + lots_at m d
  cells m =
      by_test (eqb m (cell_of d))
      (λ e.
      simp e (rw (eqb-true m (cell_of d) e)
      (get_or-set_same b.delivered (cell_of d) _ 0 (let z = s.standing.sizes.delivered in let p = i<16 in let q = a<64 in omega arith))))
      (λ e. simp e (get_or-set_other b.delivered (cell_of d) m _ 0 (eqb-false m (cell_of d) e) ∙ sym (add-zero (get_or b.delivered m 0))))

  pub words : (m : ℕ) → get_or next.lifts m 0 ≡ get_or b.lifts m 0 + counts_at m d
  words m =
      by_test (eqb m (word_of d))
      (λ e.
      simp e (rw (eqb-true m (word_of d) e)
      (get_or-set_same b.lifts (word_of d) _ 0 (let z = s.standing.sizes.lifts in let p = i<16 in omega arith)
      ∙ ap (λ n. n + 1) (get_or_block 18 b.lifts d.issue 1 0 (lit< tt)))))
      (λ e. simp e (get_or-set_other b.lifts (word_of d) m _ 0 (eqb-false m (word_of d) e) ∙ sym (add-zero (get_or b.lifts m 0))))

  pub orders : (i : ℕ) → order_of next i ≡ order_of b i
  orders i = raised_order b.lifts d.issue (dealt_today b) b.nets i

  pub totals : (i : ℕ) → delivered_total next.delivered i ≡ delivered_total b.delivered i + lots_in i d
  totals i =
      by_test (eqb d.issue i)
      (λ e.
      let q = eqb-true d.issue i e in
      simp e (rw (sym q) (delivered_rises b.delivered d.issue d.account d.lots s.standing.sizes.delivered i<16 a<64)))
      (λ e.
      let ne = eqb-false d.issue i e in
      simp e
      (ap sum (row_other b.delivered d.issue d.account i _ a<64 (λ q. ne (sym q)))
      ∙ sym (add-zero (delivered_total b.delivered i))))

  -- the records that it wrote, as they are read from the words
  abbrev units : List AccountLots
  units = handovers (order_of b d.issue) (delivered_total b.delivered d.issue) d.lots

  pub written : (i : ℕ) →
      records_from i d (answer 0 b d.out (effect b (deliver d))) ≡ cond (eqb d.issue i) (map (handover d.issue) units) []
  written i =
      ap (λ l. cond (eqb d.issue i) l [])
      (records_read (map (handover d.issue) units) d.out
      (each_of_map Fits (handover d.issue) units
      (each_handovers (λ u. Fits (handover d.issue u)) (order_of b d.issue) (delivered_total b.delivered d.issue) d.lots
      (units_fit (dealt_today b) b.nets b.lifts d.issue i<16 s.standing.sizes.nets))))
