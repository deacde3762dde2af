-- 4,096 words are enough for the records of one call, whatever the order of units. An account has at most two
-- stretches, of its full units and of its small one; an issue's fails are fewer than its shortfalls and stretches
-- together, and an account is deliverer or receiver, not both. A delivery's units are full but for one an account.
use mathlib.Core.Path.{◌≡◌, refl, sym, ap, ◌∙◌}
use mathlib.Core.Bool.{Bool}
use mathlib.Core.List.{List, [], ◌∷◌, map}
use Prim.Native.Nat.{ℕ, zero, suc, ◌+◌, ◌-◌, ◌*◌, ◌≤◌, ◌<◌, min}
use native.Mathlib.Omega.{arith}
use native.Mathlib.Nat.{zero-add}
use lib.Dec.{leb, eqb}
use lib.IntN.{ℤ, pos, negsuc}
use lib.ListN.{length, get_or, take, drop, length-map, length-append, take-append-drop, get_or-map}
use borrow.Author.Tests.{leb-true, eqb-true, eqb-false}
use Rattle.rules.specs.declared.Ticket.{Ticket}
use Rattle.rules.specs.Measures.{total, sum, due_of, owed_of, unit_lots, most_lots, issue_count, output_words}
use Rattle.rules.specs.Units.{AccountLots, by_account, sum_lots, receivers}
use Rattle.rules.specs.Handover.{covered, waiting, handovers, partials, handed_from}
use Rattle.rules.specs.Lifts.{lift}
use Rattle.rules.specs.Fails.{stretches, lacks, undelivered, shortfalls, fails}
use Rattle.rules.specs.Book.{tabulate, row, dues_of, obligations_of, delivered_total, order_in}
use Rattle.rules.specs.Records.{handover, record_of}
use Rattle.rules.specs.Calls.{deliver_records, commit_lift, commit_records, issue_partials, issue_fails, fail_entry, issue_records, cutoff_records, joined}
use Rattle.laws.proofs.Basics.{by_test, Every, count_one, total_take_le, total_drop_le, length_put, length_parts}
use Rattle.laws.proofs.Units.{UnitSized, Order, of_small, is_of}
use Rattle.laws.proofs.Handover.{partials_length, order_stock, handovers_sum, waits_short}
use Rattle.laws.proofs.Fails.{nonzero, nonzero_le, overlaps_count}
use Rattle.laws.proofs.Stretches.{every_stretches, account_stretches, stretches_drop, lacks_length}
use Rattle.laws.proofs.DealtStretches.{stretches_front}
use Rattle.laws.proofs.Cutoff.{SoundRow, dues, obligations, delivered_due, shorts_lacks, order_due}
use Rattle.laws.proofs.Lifts.{lift_few}
use Rattle.laws.proofs.Orders.{on_account, tab_add, by_accounts, sum_tab}

-- what a unit lacks of a full one
pub gap : AccountLots → ℕ
gap u = unit_lots - u.lots

-- Stretches and gaps of an order

tab_le : (f g : ℕ → ℕ) (k n : ℕ) → ((a : ℕ) → f a ≤ g a) → sum (tabulate f k n) ≤ sum (tabulate g k n)
tab_le f g k zero h = omega arith
tab_le f g k (suc n) h = omega (arith, h k, tab_le f g (suc k) n h)

count_parts : (k : ℕ) (xs : List ℕ) → length (by_account k xs) ≡ sum (map (min 1) xs)
count_parts k [] = refl
count_parts k (x ∷ xs) = omega (arith, length_put k x (by_account (suc k) xs), count_parts (suc k) xs)

-- receivers, counted by account
receivers_count : (dues : List ℕ) → length (receivers dues) ≡ sum (tabulate (λ a. min 1 (get_or dues a 0)) 0 (length dues))
receivers_count dues =
    count_parts 0 dues
    ∙ sym (sum_tab (λ a. min 1 (get_or dues a 0)) 0 (map (min 1) dues)
    (λ a. ap (λ n. min 1 (get_or dues n 0)) (zero-add a) ∙ sym (get_or-map (min 1) dues a 0)))
    ∙ ap (λ n. sum (tabulate (λ a. min 1 (get_or dues a 0)) 0 n)) (length-map dues (min 1))

none_due : (dues : List ℕ) (a : ℕ) (vs : List AccountLots) → get_or dues a 0 ≡ 0 → Every (λ v. 1 ≤ get_or dues v.account 0) vs →
    total (is_of a) vs ≡ 0
none_due dues a [] z ps = refl
none_due dues a (v ∷ vs) z ps =
    by_test (eqb v.account a)
    (λ e. absurd (omega (arith, ap (λ n. get_or dues n 0) (eqb-true v.account a e), ps.0)))
    (λ e. simp e (omega (arith, none_due dues a vs z ps.1)))

module _ (xs : List ℕ) (us : List AccountLots) (o : Order xs us) where
  -- at most two stretches a receiver
  order_stretches : length (stretches unit_lots us) ≤ 2 * length (receivers xs)
  order_stretches =
      let vs = stretches unit_lots us in
      let n = length xs in
      let rs = every_stretches unit_lots (λ a. 1 ≤ get_or xs a 0) us (order_due xs us o) in
      let one : ℕ → ℕ = λ a. min 1 (get_or xs a 0) in
      let two : (a : ℕ) → total (is_of a) vs ≤ one a + one a =
      (λ a.
      by_test (eqb (get_or xs a 0) 0)
      (λ e. omega (arith, none_due xs a vs (eqb-true (get_or xs a 0) 0 e) rs))
      (λ e. let ne = eqb-false (get_or xs a 0) 0 e in omega (arith, account_stretches unit_lots a us, o.small a))) in
      omega (
        arith,
        receivers_count xs,
        by_accounts (λ v. 1) n vs (every_stretches unit_lots (λ a. a < n) us o.accounts),
        count_one vs,
        tab_le (λ a. total (is_of a) vs) (λ a. one a + one a) 0 n two,
        tab_add one one 0 n,
      )

  -- the gaps are at most one unit an account
  order_gaps : total gap us ≤ unit_lots * length xs
  unfolding gap
  order_gaps =
      let n = length xs in
      omega (
        arith,
        gaps us o.sized,
        by_accounts (of_small unit_lots (λ v. 1)) n us o.accounts,
        tab_le (λ a. total (on_account (of_small unit_lots (λ v. 1)) a) us) (λ a. 1) 0 n (λ a. omega (arith, same a us, o.small a)),
        ones 0 n,
      )
    where
      gaps : (vs : List AccountLots) → Every UnitSized vs → total gap vs ≤ unit_lots * total (of_small unit_lots (λ v. 1)) vs
      gaps [] ps = omega arith
      gaps (v ∷ vs) ps =
          by_test (leb unit_lots v.lots)
          (λ e. simp e (omega (arith, leb-true unit_lots v.lots e, gaps vs ps.1)))
          (λ e. simp e (omega (arith, gaps vs ps.1)))

      same : (a : ℕ) (vs : List AccountLots) → total (on_account (of_small unit_lots (λ v. 1)) a) vs ≡ total (of_small unit_lots (is_of a)) vs
      same a [] = refl
      same a (v ∷ vs) =
          by_test (leb unit_lots v.lots)
          (λ e. by_test (eqb v.account a) (λ q. simp (e, q, zero-add) (same a vs)) (λ q. simp (e, q, zero-add) (same a vs)))
          (λ e. by_test (eqb v.account a) (λ q. simp (e, q) (ap (λ n. 1 + n) (same a vs))) (λ q. simp (e, q, zero-add) (same a vs)))

      ones : (k n : ℕ) → sum (tabulate (λ a. 1) k n) ≡ n
      ones k zero = refl
      ones k (suc n) = omega (arith, ones (suc k) n)

-- any part of an order has at most two stretches an account
pub part_stretches : (xs : List ℕ) (us : List AccountLots) → Order xs us → (k n : ℕ) → length (stretches unit_lots (take n (drop k us))) ≤ 2 * length xs
part_stretches xs us o k n =
    let vs = drop k us in
    omega (
      arith,
      stretches_front unit_lots (take n vs) (drop n vs),
      ap (λ l. length (stretches unit_lots l)) (take-append-drop n vs),
      stretches_drop unit_lots k us,
      order_stretches xs us o,
      length_parts 0 xs,
    )

-- Fails of an issue

-- receivers and deliverers with a shortfall are no more than the accounts
sides : (k : ℕ) (ns : List ℤ) (ds : List ℕ) →
    length (by_account k (map due_of ns)) + length (by_account k (undelivered (map owed_of ns) ds)) ≤ length ns
sides k [] ds = omega arith
sides k (n ∷ ns) [] =
    omega (arith, length_put k (due_of n) (by_account (suc k) (map due_of ns)), sides (suc k) ns [], none ns)
  where
    none : (ms : List ℤ) → length (by_account (suc k) (undelivered (map owed_of ms) [])) ≡ 0
    none [] = refl
    none (m ∷ ms) = refl
sides k (n ∷ ns) (d ∷ ds) =
    omega (
      arith,
      length_put k (due_of n) (by_account (suc k) (map due_of ns)),
      length_put k (owed_of n - d) (by_account (suc k) (undelivered (map owed_of ns) ds)),
      sides (suc k) ns ds,
      one n,
    )
  where
    one : (m : ℤ) → min 1 (due_of m) + min 1 (owed_of m) ≤ 1
    one (pos m) = omega arith
    one (negsuc m) = omega arith

-- some have lots where the sum is not 0, and none where it is
nonzero_sum : (vs : List AccountLots) → (min 1 (sum_lots vs) ≤ nonzero vs) × (nonzero vs ≤ sum_lots vs)
nonzero_sum [] = (omega arith, omega arith)
nonzero_sum (v ∷ vs) = let h = nonzero_sum vs in (omega arith, omega arith)

-- n accounts have at most 2 (n − 1) fails
pub fails_few : (nets : List ℤ) (delivered : List ℕ) (us : List AccountLots) → Order (dues nets) us → SoundRow nets delivered →
    length (fails unit_lots us (obligations nets) delivered) ≤ 2 * (length nets - 1)
unfolding fails
fails_few nets delivered us o r =
    let ss = shortfalls (obligations nets) delivered in
    let vs = lacks unit_lots us (sum delivered) in
    let e = shorts_lacks nets delivered us o r unit_lots in
    omega (
      arith,
      overlaps_count ss vs e,
      nonzero_sum ss,
      nonzero_sum vs,
      nonzero_le ss,
      nonzero_le vs,
      lacks_length unit_lots us (sum delivered),
      order_stretches (dues nets) us o,
      sides 0 nets delivered,
    )

-- of 64 accounts: at most 126
pub issue_fails_lem : (nets : List ℤ) (delivered : List ℕ) (us : List AccountLots) → Order (dues nets) us → length nets ≡ 64 →
    SoundRow nets delivered → length (fails unit_lots us (obligations nets) delivered) ≤ 126
issue_fails_lem nets delivered us o n r = omega (arith, fails_few nets delivered us o r)

-- Records of a cutoff

length_joined {ℓ} : {A : Type ℓ} (g : ℕ → List A) (m k n : ℕ) → ((i : ℕ) → i < k + n → length (g i) ≤ m) → length (joined (tabulate g k n)) ≤ n * m
length_joined g m k zero h = omega arith
length_joined g m k (suc n) h =
    omega (
      arith,
      length-append (g k) (joined (tabulate g (suc k) n)),
      h k (omega arith),
      length_joined g m (suc k) n (λ i l. h i (omega arith)),
    )

-- of the issues' orders
module _ (new : Bool) (today : ℕ) (nets : List ℤ) (delivered lifts : List ℕ) (o : (i : ℕ) → Order (dues_of nets i) (order_in new nets lifts i)) where
  pub issue_records_lem : (i : ℕ) → length (row i nets) ≡ 64 → SoundRow (row i nets) (row i delivered) →
      length (issue_records today (order_in new nets lifts) nets delivered i) ≤ 127
  unfolding issue_partials issue_fails
  issue_records_lem i n r =
      let us = order_in new nets lifts i in
      let d = delivered_total delivered i in
      let fs = fails unit_lots us (obligations_of nets i) (row i delivered) in
      omega (
        arith,
        length-append (map (handover i) (partials us d)) (map (record_of 12) (map (fail_entry today i) fs)),
        length-map (partials us d) (handover i),
        length-map (map (fail_entry today i) fs) (record_of 12),
        length-map fs (fail_entry today i),
        partials_length us d,
        issue_fails_lem (row i nets) (row i delivered) us (o i) n r,
      )

  -- 16 issues have at most 16 × 127 records
  pub cutoff_room : ((i : ℕ) → i < 16 → length (row i nets) ≡ 64) → ((i : ℕ) → i < 16 → SoundRow (row i nets) (row i delivered)) →
      2 * length (cutoff_records today (order_in new nets lifts) nets delivered) ≤ output_words
  cutoff_room n r =
      omega (
        arith,
        length_joined (issue_records today (order_in new nets lifts) nets delivered) 127 0 issue_count
            (λ i h. issue_records_lem i (n i (omega arith)) (r i (omega arith))),
      )

-- Records of a delivery

-- so many units have so many lots, or gaps
pub many : (us : List AccountLots) → length us * unit_lots ≤ sum_lots us + total gap us
unfolding gap
many [] = omega arith
many (u ∷ us) = omega (arith, many us)

-- a delivery hands over at most 264 units of an order
pub handovers_few : (xs : List ℕ) (us : List AccountLots) (d x : ℕ) → Order xs us → length xs ≡ 64 → x ≤ most_lots → d ≤ sum xs →
    length (handovers us d x) ≤ 264
unfolding handovers
handovers_few xs us d x o n h g =
    let new = handovers us d x in
    omega (
      arith,
      many new,
      handovers_sum us d x,
      order_stock xs us d o g,
      total_take_le gap (covered us (d + x) - covered us d) (waiting us d),
      total_drop_le gap (covered us d) us,
      order_gaps xs us o,
    )

pub deliver_room : (new : Bool) (nets : List ℤ) (delivered lifts : List ℕ) (i x : ℕ) → Order (dues_of nets i) (order_in new nets lifts i) → length (row i nets) ≡ 64 →
    SoundRow (row i nets) (row i delivered) → x ≤ most_lots → 2 * length (deliver_records (order_in new nets lifts) delivered i x) ≤ output_words
deliver_room new nets delivered lifts i x o n r h =
    omega (
      arith,
      length-map (handovers (order_in new nets lifts i) (delivered_total delivered i) x) (handover i),
      handovers_few (dues_of nets i) (order_in new nets lifts i) (delivered_total delivered i) x o (length-map (row i nets) due_of ∙ n) h
          (delivered_due (row i nets) (row i delivered) r),
    )

-- a commit writes at most one record, whatever the order
pub commit_few : (us : ℕ → List AccountLots) (delivered : List ℕ) (t : Ticket) →
    covered (us t.issue) (delivered_total delivered t.issue) ≤ t.unit → t.unit < length (us t.issue) →
    length (commit_records us delivered t) ≤ 1
commit_few us delivered t h l =
    let vs = us t.issue in
    let d = delivered_total delivered t.issue in
    let v = commit_lift us delivered t in
    omega (
      arith,
      length-map (handed_from (lift v vs) v.new d) (handover t.issue),
      lift_few vs d t.unit (waits_short vs d (omega arith)) h l,
    )
