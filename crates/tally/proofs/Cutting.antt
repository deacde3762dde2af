-- Cutoff keeps the invariant: of sixteen issues' records and entries, those of one issue are that
-- issue's, and there what is handed on and failed is each due and each owed.
use mathlib.Core.Path.{◌≡◌, refl, ap, ◌∙◌}
use mathlib.Core.Bool.{true, cond}
use mathlib.Core.List.{List, [], ◌∷◌, ◌++◌, map, append-nil}
use Prim.Native.Nat.{ℕ, zero, suc, ◌+◌, ◌≤◌, ◌<◌}
use native.Mathlib.Omega.{arith}
use lib.Dec.{eqb}
use borrow.Author.Tests.{eqb-true, eqb-false, eq-eqb, ne_eqb}
use Rattle.rules.specs.declared.Book.{Book}
use Rattle.rules.specs.declared.Entry.{Entry}
use Rattle.rules.specs.declared.Phase.TheVariants.{Cut}
use Rattle.rules.specs.Measures.{total, due_of}
use Rattle.rules.specs.Units.{of_account}
use Rattle.rules.specs.Handover.{handed, partials}
use Rattle.rules.specs.Fails.{Fail}
use Rattle.rules.specs.Ledger.{is_from, is_to, lots_of}
use Rattle.rules.specs.Book.{is_settling, tabulate, net_at, delivered_total, order_of, ledger_of, with_state, with_phase, with_ledger}
use Rattle.rules.specs.Records.{Rec, handover, record_of}
use Rattle.rules.specs.Calls.{writes, Cutoff, issue_partials, issue_fails, fail_entry, issue_entries, issue_records, joined, new_entries, cutoff_records, called}
use Rattle.rules.specs.Tally.{Tallied, records_of}
use Rattle.laws.proofs.Basics.{by_test, total_append, Every}
use Rattle.laws.proofs.Fails.{lots_to, lots_from}
use Rattle.laws.proofs.Sound.{SoundBook, sound_parts}
use Rattle.laws.proofs.Ledger.{ledger_written}
use Rattle.laws.proofs.Records.{Fits, records_read, records_of_append, tens_same, tens_other, tens_fails, each_joined}
use Rattle.laws.proofs.Issue.{delivered_units, owed_out, due_in, records_fit}
use Rattle.laws.proofs.Answers.{by_answer}
use Rattle.tally.proofs.Invariant.{cut_row, Inv, Keeps, did}
use Rattle.tally.proofs.Delivering.{to_settling}

-- One issue of sixteen

records_joined_none : (q j : ℕ) (g : ℕ → List Rec) (k n : ℕ) → ((i : ℕ) → (i ≡ j → ⊥) → records_of q j (g i) ≡ []) → j < k →
    records_of q j (joined (tabulate g k n)) ≡ []
records_joined_none q j g k zero f h = refl
records_joined_none q j g k (suc n) f h =
    records_of_append q j (g k) (joined (tabulate g (suc k) n)) ∙ ap (λ l. l ++ records_of q j (joined (tabulate g (suc k) n))) (f k (omega arith))
    ∙ records_joined_none q j g (suc k) n f (omega arith)

records_joined : (q j : ℕ) (g : ℕ → List Rec) (k n : ℕ) → ((i : ℕ) → (i ≡ j → ⊥) → records_of q j (g i) ≡ []) → k ≤ j → j < k + n →
    records_of q j (joined (tabulate g k n)) ≡ records_of q j (g j)
records_joined q j g k zero f h l = absurd (omega arith)
records_joined q j g k (suc n) f h l =
    records_of_append q j (g k) (joined (tabulate g (suc k) n))
    ∙ by_test (eqb k j)
    (λ e.
    let z = eqb-true k j e in
    ap (λ r. records_of q j (g k) ++ r) (records_joined_none q j g (suc k) n f (omega arith)) ∙ append-nil (records_of q j (g k))
    ∙ ap (λ r. records_of q j (g r)) z)
    (λ e.
    let ne = eqb-false k j e in
    ap (λ r. r ++ records_of q j (joined (tabulate g (suc k) n))) (f k ne) ∙ records_joined q j g (suc k) n f (omega arith) (omega arith))

total_joined_none {ℓ} : {A : Type ℓ} (w : A → ℕ) (j : ℕ) (g : ℕ → List A) (k n : ℕ) → ((i : ℕ) → (i ≡ j → ⊥) → total w (g i) ≡ 0) → j < k →
    total w (joined (tabulate g k n)) ≡ 0
total_joined_none w j g k zero f h = refl
total_joined_none w j g k (suc n) f h =
    omega (arith, total_append w (g k) (joined (tabulate g (suc k) n)), f k (omega arith), total_joined_none w j g (suc k) n f (omega arith))

total_joined {ℓ} : {A : Type ℓ} (w : A → ℕ) (j : ℕ) (g : ℕ → List A) (k n : ℕ) → ((i : ℕ) → (i ≡ j → ⊥) → total w (g i) ≡ 0) → k ≤ j → j < k + n →
    total w (joined (tabulate g k n)) ≡ total w (g j)
total_joined w j g k zero f h l = absurd (omega arith)
total_joined w j g k (suc n) f h l =
    by_test (eqb k j)
    (λ e.
    let z = eqb-true k j e in
    omega (arith, total_append w (g k) (joined (tabulate g (suc k) n)), total_joined_none w j g (suc k) n f (omega arith), ap (λ r. total w (g r)) z))
    (λ e.
    let ne = eqb-false k j e in
    omega (arith, total_append w (g k) (joined (tabulate g (suc k) n)), f k ne, total_joined w j g (suc k) n f (omega arith) (omega arith)))

-- Entries of fails, by issue and account

entries_from : (day j a : ℕ) (fs : List Fail) → lots_of (is_from j a) (map (fail_entry day j) fs) ≡ total (lots_from a) fs
entries_from day j a [] = refl
entries_from day j a (f ∷ fs) = simp (eq-eqb j j refl) (omega (arith, entries_from day j a fs))

entries_to : (day j a : ℕ) (fs : List Fail) → lots_of (is_to j a) (map (fail_entry day j) fs) ≡ total (lots_to a) fs
entries_to day j a [] = refl
entries_to day j a (f ∷ fs) = simp (eq-eqb j j refl) (omega (arith, entries_to day j a fs))

other_from : (day i j a : ℕ) (fs : List Fail) → (i ≡ j → ⊥) → lots_of (is_from j a) (map (fail_entry day i) fs) ≡ 0
other_from day i j a [] ne = refl
other_from day i j a (f ∷ fs) ne = simp (ne_eqb i j ne) (omega (arith, other_from day i j a fs ne))

other_to : (day i j a : ℕ) (fs : List Fail) → (i ≡ j → ⊥) → lots_of (is_to j a) (map (fail_entry day i) fs) ≡ 0
other_to day i j a [] ne = refl
other_to day i j a (f ∷ fs) ne = simp (ne_eqb i j ne) (omega (arith, other_to day i j a fs ne))

-- the fails of an issue among the new entries
pub new_from : (b : Book) (j a : ℕ) → j < 16 →
    lots_of (is_from j a) (new_entries b.state.day (order_of b) b.nets b.delivered) ≡ total (lots_from a) (issue_fails (order_of b) b.nets b.delivered j)
new_from b j a hj =
    total_joined (λ e. cond (is_from j a e) e.lots 0) j (issue_entries b.state.day (order_of b) b.nets b.delivered) 0 16
    (λ i ne. other_from b.state.day i j a (issue_fails (order_of b) b.nets b.delivered i) ne) (omega arith) (omega arith)
    ∙ entries_from b.state.day j a (issue_fails (order_of b) b.nets b.delivered j)

pub new_to : (b : Book) (j a : ℕ) → j < 16 →
    lots_of (is_to j a) (new_entries b.state.day (order_of b) b.nets b.delivered) ≡ total (lots_to a) (issue_fails (order_of b) b.nets b.delivered j)
new_to b j a hj =
    total_joined (λ e. cond (is_to j a e) e.lots 0) j (issue_entries b.state.day (order_of b) b.nets b.delivered) 0 16
    (λ i ne. other_to b.state.day i j a (issue_fails (order_of b) b.nets b.delivered i) ne) (omega arith) (omega arith)
    ∙ entries_to b.state.day j a (issue_fails (order_of b) b.nets b.delivered j)

-- an issue's 10s among all records
pub cutoff_tens : (b : Book) (j : ℕ) → j < 16 →
    records_of 10 j (cutoff_records b.state.day (order_of b) b.nets b.delivered) ≡ issue_partials (order_of b) b.delivered j
cutoff_tens b j hj =
    let ps = issue_partials (order_of b) b.delivered in
    let es = issue_entries b.state.day (order_of b) b.nets b.delivered in
    records_joined 10 j (issue_records b.state.day (order_of b) b.nets b.delivered) 0 16
    (λ i ne.
    records_of_append 10 j (map (handover i) (ps i)) (map (record_of 12) (es i))
    ∙ ap (λ l. l ++ records_of 10 j (map (record_of 12) (es i))) (tens_other i j (ps i) ne)
    ∙ tens_fails j (es i))
    (omega arith) (omega arith)
    ∙ records_of_append 10 j (map (handover j) (ps j)) (map (record_of 12) (es j))
    ∙ ap (λ l. records_of 10 j (map (handover j) (ps j)) ++ l) (tens_fails j (es j))
    ∙ append-nil (records_of 10 j (map (handover j) (ps j)))
    ∙ tens_same j (ps j)

module _ (s : Tallied) (v : Inv s) (g : SoundBook s.book) (p : is_settling s.book.state.phase ≡ true) where
  abbrev b : Book
  b = s.book

  abbrev rs : List Rec
  rs = cutoff_records b.state.day (order_of b) b.nets b.delivered

  abbrev new : List Entry
  new = new_entries b.state.day (order_of b) b.nets b.delivered

  pub all_fit : Every Fits rs
  all_fit =
      each_joined Fits (issue_records b.state.day (order_of b) b.nets b.delivered) 0 16
      (λ j h. records_fit b g v.size_nets v.size_delivered j (omega arith) b.state.day)

  row_cut : (j : ℕ) → j < 16 → s.tally.rows j ++ records_of 10 j rs ≡ cut_row (order_of b j) (delivered_total b.delivered j)
  unfolding issue_partials
  row_cut j hj =
      let l = to_settling b.state.phase (order_of b j) (delivered_total b.delivered j) (s.tally.rows j) p (v.rows j hj) in
      ap (λ z. z ++ records_of 10 j rs) l.0
      ∙ ap (λ z. handed (order_of b j) (delivered_total b.delivered j) ++ z) (cutoff_tens b j hj)

  -- today's handed and what is failed to an account are its due, in the tally's words
  pub due_handed : (j a : ℕ) → j < 16 → a < 64 →
      total (of_account a) (s.tally.rows j ++ records_of 10 j rs) + lots_of (is_to j a) new ≡ due_of (net_at b.nets j a)
  unfolding issue_partials
  due_handed j a hj ha =
      omega (
        arith,
        ap (total (of_account a)) (row_cut j hj),
        total_append (of_account a) (handed (order_of b j) (delivered_total b.delivered j)) (partials (order_of b j) (delivered_total b.delivered j)),
        due_in b g v.size_nets v.size_delivered j hj a ha,
        new_to b j a hj,
      )

  pub cut_inv : Inv (did Cutoff (writes (with_ledger (with_state b (with_phase b.state Cut)) (ledger_of b ++ new)) rs) s)
  cut_inv = record {
    size_nets = v.size_nets;
    size_delivered = v.size_delivered;
    size_lifts = v.size_lifts;
    size_charges = v.size_charges;
    nets = v.nets;
    given = v.given;
    handed = λ j c. omega (arith, v.handed j c, total_append (of_account c) (s.tally.rows j) (records_of 10 j rs));
    phase = refl;
    rows = λ j hj. (row_cut j hj, delivered_units b g v.size_nets v.size_delivered j hj);
    lifts = v.lifts;
    day = v.day;
    turn = v.turn;
    balance = λ j a hj ha.
        rw (ledger_written b (ledger_of b ++ new))
        (omega (
          arith,
          v.balance j a hj ha,
          v.nets j a hj ha,
          v.handed j a,
          v.given j a hj ha,
          total_append (λ e. cond (is_from j a e) e.lots 0) (ledger_of b) new,
          total_append (λ e. cond (is_to j a e) e.lots 0) (ledger_of b) new,
          total_append (of_account a) (s.tally.rows j) (records_of 10 j rs),
          due_handed j a hj ha,
          new_from b j a hj,
          owed_out b g v.size_nets v.size_delivered j hj a ha,
        ));
    charges = v.charges;
  }

pub keeps_cutoff : (s : Tallied) → Inv s → (out : List ℕ) → Keeps Cutoff s (called s.book Cutoff out)
keeps_cutoff s v out =
    let b = s.book in
    let rs = cutoff_records b.state.day (order_of b) b.nets b.delivered in
    by_answer (Keeps Cutoff s) b Cutoff out
    (λ y.
    let g = sound_parts b y.1.0 in
    let p = y.1.1.0 in
    rw (records_read rs out (all_fit s v g p)) (cut_inv s v g p))
    (λ r. v)
