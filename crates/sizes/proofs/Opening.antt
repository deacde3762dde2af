-- The opening, with nothing delivered, and what is read off the end.
use mathlib.Core.Path.{◌≡◌, refl, sym, ap, ◌∙◌}
use mathlib.Core.Bool.{true}
use mathlib.Core.List.{List, [], ◌∷◌, map}
use Prim.Native.Nat.{ℕ, ◌+◌, ◌-◌, ◌*◌, ◌≤◌, ◌<◌}
use native.Mathlib.Omega.{arith}
use native.Mathlib.Nat.{zero-add}
use lib.ListN.{length, get_or, take, drop, replicate, length-replicate, length-map}
use lib.Seq.{ext_get_or}
use lib.IntN.{ℤ, nat_abs}
use borrow.Author.Tests.{leb-true}
use Rattle.rules.specs.Measures.{Every, most_lots, total, sum, owed_of}
use Rattle.rules.specs.Units.{units}
use Rattle.rules.specs.Handover.{stock}
use Rattle.rules.specs.Fails.{undelivered}
use Rattle.rules.specs.Book.{tabulate, all, is_zero, block, row, within_size, dues_of, obligations_of}
use Rattle.laws.proofs.Basics.{and_left, and_right, all_replicate, length_tab, get_or_tab, each_take, each_drop}
use Rattle.laws.proofs.Signed.{size_of_lem}
use Rattle.laws.proofs.Handover.{handed_stock}
use Rattle.laws.proofs.Fails.{length_shorts, each_shorts}
use Rattle.laws.proofs.Cells.{length_block, length_row, row_zeros, within_row, within_zeros}
use Rattle.laws.proofs.Sound.{within_at}
use Rattle.book.specs.Cells.{OwedCells}
use Rattle.runs.proofs.Cells.{row_part, owed_sized}
use Rattle.desks.specs.Desk.{plan, desk, ended, opening, owed_lots, simulated, owed_of_issue, owed_of_each}
use Rattle.simulation.specs.Repeated.{ending}
use Rattle.simulation.proofs.Stops.{left_owed}
use Rattle.simulation.proofs.Ending.{simulated_ending}
use Rattle.ranking.specs.Orders.{Table}
use Rattle.sizes.specs.Steps.{CanEnd, EndIs, CanSum, CanSimulate, SimulatedIs}

sum_each : (m : ℕ) (l : List ℕ) → Every (λ x. x ≤ m) l → sum l ≤ m * length l
sum_each m [] h = omega arith
sum_each m (x ∷ xs) h = omega (arith, h.0, sum_each m xs h.1)

owed_bound : (ns : List ℤ) → all (within_size most_lots) ns ≡ true → total owed_of ns ≤ 20000000 * length ns
owed_bound [] h = omega arith
owed_bound (n ∷ ns) h =
    let a = within_size most_lots n in
    let b = all (within_size most_lots) ns in
    omega (arith, leb-true (nat_abs n) most_lots (and_left a b h), size_of_lem n, owed_bound ns (and_right a b h))

zeros : length {A = ℕ} (replicate 1024 0) ≡ 1024
zeros = let z : ℕ = 0 in length-replicate 1024 z

-- the desk can go on from the opening
module _ (nets : List ℤ) (settles v : List ℕ) (size : ℕ) (owed : List ℕ) (c : CanSimulate nets settles v size owed) where
  held_small : (i : ℕ) → i < 16 → sum (block 16 i v) ≤ 320000000
  held_small i h =
      omega (
        arith,
        sum_each most_lots (block 16 i v) (each_take (λ x. x ≤ most_lots) 16 (drop (i * 16) v) (each_drop (λ x. x ≤ most_lots) (i * 16) v c.held)),
        length_block 16 v i (omega (arith, c.stocks)),
      )

  pub can_end : (runs counts w : List ℕ) → Table size nets runs counts → w ≡ v → CanEnd nets settles runs counts size (replicate 1024 0) w
  unfolding owed_lots
  can_end runs counts w t e =
      record {
        can = record {
          cells = record {
            cells = c.cells;
            both = zeros;
            size = c.sized;
            owed = within_zeros nets (replicate 1024 0) (all_replicate is_zero 1024 0 refl);
          };
          accounts = c.accounts;
          settled = c.settled;
          stocks = ap length e ∙ c.stocks;
          some = c.some;
          ranked = t;
          lots = λ i h.
              let us = units size (dues_of nets i) in
              omega (
                arith,
                ap (λ l. sum (block 16 i l)) e,
                held_small i h,
                ap (stock us) (row_zeros i 1024),
                handed_stock us 0,
              );
        };
        few = omega (arith, left_owed (plan nets settles size) w, owed_bound nets c.sized, c.cells);
      }

  -- and its end is the definition's
  pub simulated_is : (w d' v' : List ℕ) (deliveries rounds : ℕ) (out : List ℕ) → w ≡ v → EndIs nets settles size (replicate 1024 0) d' w v' deliveries rounds →
      out ≡ owed_of_each nets d' → SimulatedIs nets (simulated (plan nets settles size) v) deliveries rounds out
  simulated_is w d' v' deliveries rounds out e g o =
      let p = plan nets settles size in
      let q : simulated p v ≡ ended (desk d' v' deliveries) rounds =
      simulated_ending p v zeros ∙ ap (λ l. ending p (opening l)) (sym e) ∙ g.desk in
      record {
        made = sym (ap (λ r. r.desk.made) q);
        number = sym (ap (λ r. r.rounds) q);
        each = o ∙ sym (ap (λ r. owed_of_each nets r.desk.delivered) q);
      }

-- An issue's lots still owed

pub can_sum : (nets : List ℤ) (delivered : List ℕ) (i : ℕ) → OwedCells nets delivered → i < 16 → CanSum (row i nets) (row i delivered)
can_sum nets delivered i c h =
    let ln = length_row nets i c.cells h in
    let ld = length_row delivered i c.both h in
    let os = obligations_of nets i in
    let ss = undelivered os (row i delivered) in
    record {
      accounts = ln;
      both = ld ∙ sym ln;
      most = λ a. within_at (row i nets) (row i delivered) a (ln ∙ sym ld) (within_row i nets delivered c.owed);
      small = omega (
        arith,
        sum_each most_lots ss (each_shorts most_lots os (row i delivered) (owed_sized nets i c.size)),
        length_shorts os (row i delivered),
        length-map (row i nets) owed_of,
        ln,
      );
    }

pub each_owed : (nets : List ℤ) (delivered out : List ℕ) (i : ℕ) → length out ≡ 16 → 16 ≤ i →
    ((j : ℕ) → j < i → get_or out j 0 ≡ owed_of_issue nets delivered j) → out ≡ owed_of_each nets delivered
unfolding owed_of_each
each_owed nets delivered out i l h g =
    let f = owed_of_issue nets delivered in
    ext_get_or 0 out (tabulate f 0 16) (l ∙ sym (length_tab f 0 16))
    (λ j q. g j (omega arith) ∙ sym (get_or_tab f 0 16 j 0 (omega arith) ∙ ap f (zero-add j)))

-- of the parts that are cut out for it
pub can_sum_part : (nets : List ℤ) (delivered : List ℕ) (i : ℕ) → OwedCells nets delivered → i < 16 →
    CanSum (take (i * 64 + 64 - i * 64) (drop (i * 64) nets)) (take (i * 64 + 64 - i * 64) (drop (i * 64) delivered))
can_sum_part nets delivered i c h = rw (row_part nets i, row_part delivered i) (can_sum nets delivered i c h)

pub missing_row : (nets : List ℤ) (delivered : List ℕ) (i r : ℕ) →
    r ≡ sum (undelivered (map owed_of (take (i * 64 + 64 - i * 64) (drop (i * 64) nets))) (take (i * 64 + 64 - i * 64) (drop (i * 64) delivered))) →
    r ≡ owed_of_issue nets delivered i
missing_row nets delivered i r e = e ∙ rw (row_part nets i, row_part delivered i)
