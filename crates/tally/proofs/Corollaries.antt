-- What demand 3 and its invariant say in a clearing house's own words, of every list of calls.
use mathlib.Core.Path.{◌≡◌, sym, ◌∙◌}
use mathlib.Core.Bool.{true}
use mathlib.Core.List.{List}
use Prim.Native.Nat.{ℕ, ◌-◌, ◌≤◌, ◌<◌}
use native.Mathlib.Omega.{arith}
use lib.Dec.{leb, ltb}
use lib.ListN.{length, get_or}
use borrow.Author.Tests.{leb-true, leb-false, ltb-true}
use Rattle.rules.specs.declared.Book.{Book}
use Rattle.rules.specs.declared.Phase.{Phase}
use Rattle.rules.specs.declared.Phase.TheVariants.{Taking, Settling, Cut}
use Rattle.rules.specs.declared.Ticket.{Ticket}
use Rattle.rules.specs.Measures.{unit_lots, total, due_of, owed_of}
use Rattle.rules.specs.Units.{AccountLots, of_account}
use Rattle.rules.specs.Handover.{covered, handed, partials}
use Rattle.rules.specs.Book.{cell, row, net_at, delivered_total, order_of, stock_of, ledger_of, is_marked, sound, dealt_today}
use Rattle.rules.specs.Calls.{Commit, Cutoff, called}
use Rattle.rules.specs.Tally.{Tallied, CallList, after, after_all, start, no_lots, units_today}
use Rattle.laws.proofs.Basics.{by_test, and_left, and_right, total_append, Every, each_map}
use Rattle.laws.proofs.Fails.{additive_account}
use Rattle.laws.proofs.Cutoff.{settled}
use Rattle.laws.proofs.Cells.{due_at}
use Rattle.laws.proofs.Sound.{Even, EvenEntry, delivered_owed}
use Rattle.laws.proofs.Even.{EvenLots, EvenNet, total_even, order_even, stock_even}
use Rattle.laws.proofs.SoundRows.{order_in_lem}
use Rattle.laws.proofs.Room.{commit_few}
use Rattle.laws.proofs.Answers.{by_answer}
use Rattle.tally.proofs.Signs.{less}
use Rattle.tally.proofs.Invariant.{RowIs}
use Rattle.tally.proofs.Demand.{reached, demand3}
use Rattle.tally.proofs.Reached.{reached_standing, reached_sound}
use Rattle.tally.proofs.Settles.{net_today, Settled, cutoff_settles}

-- every book that a list of calls reaches is sound
pub every_book_is_sound : (cs : CallList) → sound (after_all start cs).book ≡ true
every_book_is_sound = reached_sound

-- lots of an issue that are even
pub record EvenIssue (b : Book) (i : ℕ) : Type 0 where
  pub nets : Every EvenNet (row i b.nets)
  pub delivered : Every Even (row i b.delivered)
  pub units : Every EvenLots (order_of b i)
  pub stock : Even (stock_of b i)
  pub fails : Every (λ e. e.issue ≡ i → Even e.lots) (ledger_of b)

-- of every book that a list of calls reaches, a marked issue has even lots only
pub a_marked_issue_is_even : (cs : CallList) (i : ℕ) → i < 16 → is_marked (after_all start cs).book.state.marks i ≡ true → EvenIssue (after_all start cs).book i
a_marked_issue_is_even cs i h m =
    let b = (after_all start cs).book in
    let g = (reached_standing cs).parts in
    let ns = (g.even i h).nets m in
    let ds = (g.even i h).delivered m in
    let us = order_even (dealt_today b) b.nets b.lifts i ns in
    record {
      nets = ns;
      delivered = ds;
      units = us;
      stock = stock_even (order_of b i) (delivered_total b.delivered i) us (total_even (λ x. x) (row i b.delivered) ds);
      fails = each_map (EvenEntry b.state.marks) (λ e. e.issue ≡ i → Even e.lots) (λ e p q. p (rw q m)) (ledger_of b) g.even_entries;
    }

module _ (cs : CallList) where
  abbrev s : Tallied
  s = after_all start cs

  -- no unit is handed to two accounts: the k-th handover of a day is to the account of the k-th unit
  pub no_unit_to_two_accounts : (i : ℕ) → i < 16 → (k : ℕ) → k < length (s.tally.rows i) →
      (get_or (s.tally.rows i) k no_lots).account ≡ (get_or (units_today s.tally i) k no_lots).account
  no_unit_to_two_accounts i h k l = ((demand3 cs).turns i h k l).named

  -- nor twice: there are no more handovers than units
  pub no_unit_twice : (i : ℕ) → i < 16 → length (s.tally.rows i) ≤ length (units_today s.tally i)
  no_unit_twice i h =
      let n = length (s.tally.rows i) in
      by_test (leb n 0)
      (λ e. omega (arith, leb-true n 0 e))
      (λ e. let l = leb-false n 0 e in omega (arith, ((demand3 cs).turns i h (n - 1) (omega arith)).exists))

  -- and none is handed more than it is
  pub no_unit_overfilled : (i : ℕ) → i < 16 → (k : ℕ) → k < length (s.tally.rows i) →
      (get_or (s.tally.rows i) k no_lots).lots ≤ (get_or (units_today s.tally i) k no_lots).lots
  no_unit_overfilled i h k l = ((demand3 cs).turns i h k l).most

  net_is : (i a : ℕ) → i < 16 → a < 64 → net_today s.tally i a ≡ net_at s.book.nets i a
  net_is i a hi ha = less (net_at s.book.nets i a) (s.tally.today.sold i a) (s.tally.today.bought i a) ((reached cs).nets i a hi ha)

  -- no account is handed more in a day than its due
  pub no_account_handed_more_than_its_due : (i a : ℕ) → i < 16 → a < 64 → s.tally.today.handed i a ≤ due_of (net_today s.tally i a)
  no_account_handed_more_than_its_due i a hi ha =
      let v = reached cs in
      rw (net_is i a hi ha)
      (omega (
        arith,
        v.handed i a,
        row_most s.book.state.phase (order_of s.book i) (delivered_total s.book.delivered i) (s.tally.rows i) a (v.rows i hi),
        (order_in_lem (dealt_today s.book) s.book.nets s.book.lifts i).due a,
        due_at s.book.nets i a ha,
      ))
    where
      row_most : (p : Phase) (us : List AccountLots) (d : ℕ) (row : List AccountLots) (a : ℕ) → RowIs p us d row → total (of_account a) row ≤ total (of_account a) us
      row_most Taking us d row a r = rw r.0 (omega arith)
      row_most Settling us d row a r = rw r.0 (omega (arith, settled unit_lots (of_account a) (additive_account a) us d r.1))
      row_most Cut us d row a r =
          rw r.0
          (omega (arith, total_append (of_account a) (handed us d) (partials us d), settled unit_lots (of_account a) (additive_account a) us d r.1))

  -- and none gives more than it owes
  pub no_account_gives_more_than_it_owes : (i a : ℕ) → i < 16 → a < 64 → s.tally.today.given i a ≤ owed_of (net_today s.tally i a)
  no_account_gives_more_than_it_owes i a hi ha =
      let v = reached cs in
      rw (net_is i a hi ha)
      (omega (
        arith,
        v.given i a hi ha,
        delivered_owed s.book (reached_standing cs).parts (cell i a) (v.size_nets ∙ sym v.size_delivered),
      ))

  -- after an accepted cutoff the house holds nothing, every account's due is what it was handed and
  -- what is failed to it, and what it owes is what it gave and what it fails
  pub a_cutoff_settles_the_day : (out : List ℕ) → (called s.book Cutoff out).refusal ≡ 0 → Settled s (after s Cutoff out)
  a_cutoff_settles_the_day out h = cutoff_settles s (reached cs) out h

  -- a commit hands at most one unit over
  pub a_commit_hands_at_most_one_unit : (t : Ticket) (out : List ℕ) → (called s.book (Commit t) out).count ≤ 1
  a_commit_hands_at_most_one_unit t out =
      let b = s.book in
      let us = order_of b t.issue in
      let h = covered us (delivered_total b.delivered t.issue) in
      by_answer (λ r. r.count ≤ 1) b (Commit t) out
      (λ y.
      let there = y.1.1.1.1.0 in
      commit_few (order_of b) b.delivered t (leb-true h t.unit (and_left (leb h t.unit) (ltb t.unit (length us)) there))
      (ltb-true t.unit (length us) (and_right (leb h t.unit) (ltb t.unit (length us)) there)))
      (λ r. omega arith)
