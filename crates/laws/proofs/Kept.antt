-- Each accepted call keeps the book sound. What a call changes is shown sound anew; the rest is as it
-- was, and the ledger's part goes by its columns alone.
use mathlib.Core.Path.{◌≡◌, refl, ap, sym, ◌∙◌, subst}
use mathlib.Core.Bool.{true, ◌&&◌, false≢true, not, false}
use mathlib.Core.List.{List, [], ◌∷◌, ◌++◌, map}
use Prim.Native.Nat.{ℕ, ◌+◌, ◌*◌, ◌≤◌, ◌<◌}
use native.Mathlib.Omega.{arith}
use native.Mathlib.Nat.{le_trans}
use lib.Dec.{eqb, ltb}
use lib.ListN.{length, get_or, set, drop, replicate, length-append, length-set}
use lib.Seq.{get_or-set_other}
use lib.IntN.{ℤ, pos, nat_abs, ◌+ℤ◌, ◌-ℤ◌}
use borrow.Author.Tests.{leb-true, eqb-true, eqb-false, lt-leb, ltb-true, not-true}
use Rattle.rules.specs.declared.Book.{Book}
use Rattle.rules.specs.declared.Phase.{Phase}
use Rattle.rules.specs.declared.Phase.TheVariants.{Taking, Settling, Cut}
use Rattle.rules.specs.declared.Ticket.{Ticket}
use Rattle.rules.specs.Measures.{most_lots, most_entries, most_charge, most_days, most_rate, total, due_of, owed_of}
use Rattle.rules.specs.Handover.{covered}
use Rattle.rules.specs.Fails.{Fail}
use Rattle.rules.specs.Ledger.{is_from, meet, pairing, charged}
use Rattle.rules.specs.Book.{is_taking, is_settling, is_zero, row, cell, net_at, delivered_at, delivered_total, lift_number, order_in, order_of, dealt_today, ledger_of, within_size, is_marked, with_state, with_phase, with_marks, with_nets, with_delivered, with_lifts, with_ledger, in_force, with_turn}
use Rattle.rules.specs.Questions.{no_net, no_entry}
use Rattle.rules.specs.Calls.{traded_nets, raised_delivered, raised_count, commit_lift, with_lift, fail_entry, issue_entries, issue_fails, new_entries, rolled, marked_as}
use Rattle.laws.proofs.Basics.{by_test, and_left, and_right, all_replicate, Every, each_append, each_map, each_take, each_drop, each_replicate}
use Rattle.laws.proofs.Signed.{rises, falls}
use Rattle.laws.proofs.Cells.{length_row, total_set, each_set, within_set, within_zeros}
use Rattle.laws.proofs.Sound.{SoundEntry, Even, EvenEntry, SoundBook, SoundLifts}
use Rattle.laws.proofs.LiftsKept.{lifts_taking, lifts_later, lifts_delivered, lifts_committed, lifts_none}
use Rattle.laws.proofs.MarksKept.{traded_row, traded_other, even_traded, even_delivered, even_none, meet_even, pairing_even, new_even, even_marked, entries_marked}
use Rattle.laws.proofs.Lowering.{issue_from}
use Rattle.laws.proofs.Ledger.{length_ledger, with_ledger_lem}
use Rattle.laws.proofs.Meeting.{length_meet, sound_meet, days_meet, days_append, days_later}
use Rattle.laws.proofs.Stepping.{pairing_sound}
use Rattle.laws.proofs.Records.{each_joined}
use Rattle.laws.proofs.Issue.{entries_sound_lem}
use Rattle.laws.proofs.Charges.{Quoted, charged_balance, charged_most}

-- Trade

-- two stores in a row of nets keep it in balance: what is due is what is owed
trade_balance : (l : List ℤ) (f t x : ℕ) → f < length l → t < length l → (f ≡ t → ⊥) → total due_of l ≡ total owed_of l →
    total due_of (set (set l f (get_or l f (pos 0) -ℤ pos x)) t (get_or l t (pos 0) +ℤ pos x))
    ≡ total owed_of (set (set l f (get_or l f (pos 0) -ℤ pos x)) t (get_or l t (pos 0) +ℤ pos x))
trade_balance l f t x hf ht ne h =
    let nf = get_or l f (pos 0) in
    let nt = get_or l t (pos 0) in
    let l₁ = set l f (nf -ℤ pos x) in
    let ht₁ : t < length l₁ = rw length-set ht in
    let same : get_or l₁ t (pos 0) ≡ nt = get_or-set_other l f t (nf -ℤ pos x) (pos 0) (omega arith) in
    omega (
      arith,
      total_set due_of l f (nf -ℤ pos x) (pos 0) hf,
      total_set owed_of l f (nf -ℤ pos x) (pos 0) hf,
      total_set due_of l₁ t (nt +ℤ pos x) (pos 0) ht₁,
      total_set owed_of l₁ t (nt +ℤ pos x) (pos 0) ht₁,
      ap due_of same,
      ap owed_of same,
      rises nt x,
      falls nf x,
    )

pub trade_kept : (b : Book) → length b.nets ≡ 1024 → SoundBook b → (i f c x : ℕ) → i < 16 → f < 64 → c < 64 → (f ≡ c → ⊥) →
    is_taking b.state.phase ≡ true → (is_marked b.state.marks i ≡ true → Even x) →
    within_size most_lots (net_at b.nets i f -ℤ pos x) && within_size most_lots (net_at b.nets i c +ℤ pos x) ≡ true →
    SoundBook (with_nets b (traded_nets b.nets i f c x))
trade_kept b n g i f c x hi hf hc ne ph hx sm =
    let ns = b.nets in
    let nf = net_at ns i f -ℤ pos x in
    let nc = net_at ns i c +ℤ pos x in
    let l = row i ns in
    let k = length_row ns i n hi in
    record {
      size = each_set (λ m. nat_abs m ≤ most_lots) (set ns (cell i f) nf) (cell i c) nc
          (each_set (λ m. nat_abs m ≤ most_lots) ns (cell i f) nf g.size
          (leb-true _ _ (and_left (within_size most_lots nf) (within_size most_lots nc) sm)))
          (leb-true _ _ (and_right (within_size most_lots nf) (within_size most_lots nc) sm));
      rows = λ j hj.
          by_test (eqb j i)
          (λ p. rw (eqb-true j i p, traded_row ns i f c x hf hc) (trade_balance l f c x (omega arith) (omega arith) ne (g.rows i hi)))
          (λ p. rw (traded_other ns i f c x j hf hc (eqb-false j i p)) (g.rows j hj));
      owed = within_zeros (traded_nets ns i f c x) b.delivered (g.taking ph);
      taking = g.taking;
      ledger = g.ledger;
      balance = g.balance;
      bounded = g.bounded;
      lifts = λ j hj. lifts_taking b.state.phase (order_of b j) (order_in (dealt_today b) (traded_nets ns i f c x) b.lifts j) (delivered_total b.delivered j) b.lifts j ph (g.lifts j hj);
      even = λ j hj. even_traded b.state.marks ns b.delivered i f c x hf hc hx j (g.even j hj);
      even_entries = g.even_entries;
    }

-- Close and deliver

pub close_kept : (b : Book) → SoundBook b → SoundBook (with_state b (with_phase b.state Settling))
close_kept b g = record {
  size = g.size;
  rows = g.rows;
  owed = g.owed;
  taking = λ h. absurd (false≢true h);
  ledger = g.ledger;
  balance = g.balance;
  bounded = g.bounded;
  lifts = λ j hj. lifts_later b.state.phase Settling (order_of b j) (delivered_total b.delivered j) b.lifts j false≢true (g.lifts j hj);
  even = g.even;
  even_entries = g.even_entries;
}

not_taking : (p : Phase) → is_settling p ≡ true → is_taking p ≡ true → ⊥
not_taking Taking h k = false≢true h
not_taking Settling h k = false≢true k
not_taking Cut h k = false≢true h

pub deliver_kept : (b : Book) → length b.delivered ≡ 1024 → length b.lifts ≡ 288 → SoundBook b → (i a x : ℕ) → i < 16 → a < 64 → 1 ≤ x →
    is_settling b.state.phase ≡ true → (is_marked b.state.marks i ≡ true → Even x) → delivered_at b.delivered i a + x ≤ owed_of (net_at b.nets i a) →
    SoundBook (with_lifts (with_delivered b (raised_delivered b.delivered i a x)) (raised_count b.lifts i))
deliver_kept b m n g i a x hi ha hx ph hv o = record {
  size = g.size;
  rows = g.rows;
  owed = within_set b.nets b.delivered (cell i a) (delivered_at b.delivered i a + x) g.owed o;
  taking = λ h. absurd (not_taking b.state.phase ph h);
  ledger = g.ledger;
  balance = g.balance;
  bounded = g.bounded;
  lifts = λ j hj. lifts_delivered (dealt_today b) b.state.phase b.nets b.delivered b.lifts i a x m n hi ha hx j (g.lifts j hj);
  even = λ j hj. even_delivered b.state.marks b.nets b.delivered i a x ha hv j (g.even j hj);
  even_entries = g.even_entries;
}

-- Commit

pub commit_kept : (b : Book) → length b.lifts ≡ 288 → SoundBook b → (t : Ticket) → t.issue < 16 → is_settling b.state.phase ≡ true →
    covered (order_of b t.issue) (delivered_total b.delivered t.issue) ≤ t.unit → t.unit < length (order_of b t.issue) →
    lift_number b.lifts t.issue < 8 →
    SoundBook (with_lifts b (with_lift b.lifts t.issue (commit_lift (order_of b) b.delivered t)))
commit_kept b n g t hi ph h l few = record {
  size = g.size;
  rows = g.rows;
  owed = g.owed;
  taking = g.taking;
  ledger = g.ledger;
  balance = g.balance;
  bounded = g.bounded;
  lifts = λ j hj.
      lifts_committed (dealt_today b) b.state.phase b.nets b.delivered b.lifts t.issue t.unit n hi few h l (not_taking b.state.phase ph) j (g.lifts j hj);
  even = g.even;
  even_entries = g.even_entries;
}

-- Resolve and pair-off

pub resolve_kept : (b : Book) → SoundBook b → (i a x : ℕ) → (is_marked b.state.marks i ≡ true → Even x) → SoundBook (with_ledger b (meet (is_from i a) x (ledger_of b)))
resolve_kept b g i a x hx =
    with_ledger_lem b (meet (is_from i a) x (ledger_of b)) g
    (omega (arith, length_meet (is_from i a) x (ledger_of b), length_ledger b, g.ledger.count))
    (sound_meet (is_from i a) x (ledger_of b) g.ledger.each) (days_meet 0 b.state.day (is_from i a) x (ledger_of b) g.ledger.days)
    (meet_even b.state.marks (is_from i a) i (issue_from i a) x (ledger_of b) hx g.even_entries)

pub pair_off_kept : (b : Book) → SoundBook b → (i a : ℕ) → i < 16 → SoundBook (with_ledger b (pairing b.state.day i a (ledger_of b)).ledger)
pair_off_kept b g i a hi =
    let r = pairing_sound b.state.day i a (ledger_of b) hi g.ledger.each g.ledger.days in
    with_ledger_lem b (pairing b.state.day i a (ledger_of b)).ledger g
    (le_trans r.few (rw (length_ledger b) g.ledger.count)) r.each r.days
    (pairing_even b.state.marks b.state.day i a (ledger_of b) g.even_entries)

-- Cutoff

module _ (b : Book) (n : length b.nets ≡ 1024) (m : length b.delivered ≡ 1024) (g : SoundBook b) where
  new_sound : Every SoundEntry (new_entries b.state.day (order_of b) b.nets b.delivered)
  new_sound =
      each_joined SoundEntry (issue_entries b.state.day (order_of b) b.nets b.delivered) 0 16
      (λ j h. entries_sound_lem b g n m j (omega arith) b.state.day)

  all_today : (j : ℕ) (fs : List Fail) → Every (λ e. e.day ≡ b.state.day) (map (fail_entry b.state.day j) fs)
  all_today j [] = tt
  all_today j (f ∷ fs) = (refl, all_today j fs)

  new_today : Every (λ e. e.day ≡ b.state.day) (new_entries b.state.day (order_of b) b.nets b.delivered)
  new_today =
      each_joined (λ e. e.day ≡ b.state.day) (issue_entries b.state.day (order_of b) b.nets b.delivered) 0 16
      (λ j h. all_today j (issue_fails (order_of b) b.nets b.delivered j))

  pub cutoff_kept : b.state.entries + length (new_entries b.state.day (order_of b) b.nets b.delivered) ≤ most_entries →
      SoundBook (with_ledger (with_state b (with_phase b.state Cut)) (ledger_of b ++ new_entries b.state.day (order_of b) b.nets b.delivered))
  cutoff_kept few =
      let new = new_entries b.state.day (order_of b) b.nets b.delivered in
      let r = with_ledger_lem b (ledger_of b ++ new) g
      (rw (length-append (ledger_of b) new, length_ledger b) few)
      (each_append SoundEntry (ledger_of b) new g.ledger.each new_sound)
      (days_append 0 b.state.day (ledger_of b) new g.ledger.days new_today)
      (each_append (EvenEntry b.state.marks) (ledger_of b) new g.even_entries (new_even b.state.marks (dealt_today b) b.state.day b.nets b.delivered b.lifts g.even)) in
      record {
        size = r.size;
        rows = r.rows;
        owed = r.owed;
        taking = λ h. absurd (false≢true h);
        ledger = r.ledger;
        balance = r.balance;
        bounded = r.bounded;
        lifts = λ j hj. lifts_later b.state.phase Cut (order_of b j) (delivered_total b.delivered j) b.lifts j false≢true (g.lifts j hj);
        even = r.even;
        even_entries = r.even_entries;
      }

-- Roll

none_due : (ns : List ℤ) → Every (λ n. n ≡ pos 0) ns → total due_of ns ≡ total owed_of ns
none_due [] h = refl
none_due (n ∷ ns) h = omega (arith, ap due_of h.0, ap owed_of h.0, none_due ns h.1)

pub roll_kept : (b : Book) → length b.charges ≡ 64 → SoundBook b → (days rate : ℕ) (quotes : List ℕ) → days ≤ most_days → rate ≤ most_rate →
    Quoted quotes → SoundBook (rolled b days rate quotes)
roll_kept b n g days rate quotes hd hr hp =
    let f = g.ledger in
    let l = length_ledger b in
    record {
      size = each_replicate (λ m. nat_abs m ≤ most_lots) 1024 (pos 0) (omega arith);
      rows = λ i h. none_due (row i (replicate 1024 (pos 0)))
          (each_take (λ m. m ≡ pos 0) 64 (drop (i * 64) (replicate 1024 (pos 0)))
          (each_drop (λ m. m ≡ pos 0) (i * 64) (replicate 1024 (pos 0)) (each_replicate (λ m. m ≡ pos 0) 1024 (pos 0) refl)));
      owed = within_zeros (replicate 1024 (pos 0)) (replicate 1024 0) (all_replicate is_zero 1024 0 refl);
      taking = λ h. all_replicate is_zero 1024 0 refl;
      ledger = record {
        count = f.count;
        each = f.each;
        days = days_later 0 b.state.day (ledger_of b) f.days;
        unused_issues = f.unused_issues;
        unused_froms = f.unused_froms;
        unused_tos = f.unused_tos;
        unused_lots = f.unused_lots;
        unused_days = f.unused_days;
      };
      balance = charged_balance days rate quotes (ledger_of b) b.charges n f.each g.balance;
      bounded = each_map (λ c. nat_abs c ≤ most_charge * b.state.day + length (ledger_of b) * 65753424657)
          (λ c. nat_abs c ≤ most_charge * (b.state.day + 1)) (λ c q. omega (arith, q, l, f.count))
          (charged days rate quotes (ledger_of b) b.charges)
          (charged_most days rate quotes (ledger_of b) b.charges (most_charge * b.state.day) hd hr hp f.each g.bounded);
      lifts = λ j hj. lifts_none Taking (order_in _ (replicate 1024 (pos 0)) (replicate 288 0) j) (delivered_total (replicate 1024 0) j) j 288;
      even = λ j hj. even_none b.state.marks 1024 1024 j;
      even_entries = g.even_entries;
    }

-- Mark

pub mark_kept : (b : Book) → length b.nets ≡ 1024 → length b.delivered ≡ 1024 → SoundBook b → (i m : ℕ) → i < 16 →
    no_net b.nets i ≡ true → no_entry (ledger_of b) i ≡ true → SoundBook (with_state b (with_marks b.state (marked_as b.state.marks i m)))
mark_kept b n d g i m hi h k = record {
  size = g.size;
  rows = g.rows;
  owed = g.owed;
  taking = g.taking;
  ledger = g.ledger;
  balance = g.balance;
  bounded = g.bounded;
  lifts = g.lifts;
  even = λ j hj. even_marked b.state.marks b.nets b.delivered i m hi n d g.owed h j (g.even j hj);
  even_entries = entries_marked b.state.marks i m (ledger_of b) k g.even_entries;
}

-- Turn: a day that has not come changes no order today

not_yet : (d today : ℕ) → today < d → in_force d today ≡ false
not_yet d today h = by_test (ltb 0 d) (λ e. simp (e, lt-leb d today h)) (λ e. simp e)

pub turn_same : (turn today d : ℕ) → ltb today d && not (in_force turn today) ≡ true → in_force d today ≡ in_force turn today
turn_same turn today d h =
    not_yet d today (ltb-true today d (and_left (ltb today d) (not (in_force turn today)) h))
    ∙ sym (not-true (in_force turn today) (and_right (ltb today d) (not (in_force turn today)) h))

pub turn_kept : (b : Book) → SoundBook b → (d : ℕ) → ltb b.state.day d && not (dealt_today b) ≡ true → SoundBook (with_state b (with_turn b.state d))
turn_kept b g d h = record {
  size = g.size;
  rows = g.rows;
  owed = g.owed;
  taking = g.taking;
  ledger = g.ledger;
  balance = g.balance;
  bounded = g.bounded;
  lifts = λ j hj.
      subst (λ new. SoundLifts b.state.phase (order_in new b.nets b.lifts j) (delivered_total b.delivered j) b.lifts j)
      (sym (turn_same b.state.turn b.state.day d h)) (g.lifts j hj);
  even = g.even;
  even_entries = g.even_entries;
}
