-- A round, turn by turn: each turn leaves what the next one asks.
use mathlib.Core.Path.{◌≡◌, refl, sym, ap, subst, ◌∙◌}
use mathlib.Core.Bool.{true}
use mathlib.Core.List.{List, [], ◌∷◌}
use Prim.Native.Nat.{ℕ, zero, suc, ◌+◌, ◌-◌, ◌*◌, ◌/◌, ◌%◌, ◌≤◌, ◌<◌}
use native.Mathlib.Omega.{arith}
use native.Mathlib.Nat.{add-zero}
use lib.ListN.{length, get_or, set, take, drop}
use Rattle.std.proofs.lemmas.List.{take-take}
use lib.Dec.{ltb}
use lib.IntN.{ℤ, pos, nat_abs}
use borrow.Author.Tests.{leb-true, ltb-true, ltb-false}
use Rattle.rules.specs.Measures.{sum, owed_of, most_lots}
use Rattle.rules.specs.Book.{block, row, cell, net_at, delivered_at, delivered_total, within_owed, within_size, all}
use Rattle.laws.proofs.Basics.{by_test, and_left, and_right}
use Rattle.laws.proofs.Signed.{size_of_lem}
use Rattle.laws.proofs.Cells.{get_or_row, length_row, get_or_block, within_set}
use Rattle.laws.proofs.Sound.{within_at}
use Rattle.book.specs.Cells.{OwedCells}
use Rattle.runs.proofs.Cells.{cell_owed}
use Rattle.desks.specs.Desk.{Plan, plan, desk, amount, turns_from, round}
use Rattle.rounds.specs.Turns.{CanTurn, Turned, CanRound}
use Rattle.simulation.proofs.Stops.{amount_le}
use Rattle.simulation.proofs.Leaps.{turn_column}
use Rattle.simulation.proofs.Keeps.{Kept, kept_turn}
use Rattle.joining.proofs.Joining.{one_of}

sum_most : (m : ℕ) (l : List ℕ) → ((k : ℕ) → get_or l k 0 ≤ m) → sum l ≤ m * length l
sum_most m [] h = omega arith
sum_most m (x ∷ xs) h = omega (arith, h 0, sum_most m xs (λ k. h (suc k)))

-- an issue's lots, each within 20,000,000
pub total_bounded : (l : List ℕ) (i : ℕ) → length l ≡ 1024 → i < 16 → ((k : ℕ) → get_or l k 0 ≤ 20000000) → delivered_total l i ≤ 1280000000
total_bounded l i n hi h =
    omega (arith, sum_most 20000000 (row i l) (λ k. at_most (row i l) k (λ a q. omega (arith, get_or_row l i a 0 (omega (arith, length_row l i n hi)), h (i * 64 + a)))), length_row l i n hi)
  where
    at_most : (r : List ℕ) (c : ℕ) → ((a : ℕ) → a < length r → get_or r a 0 ≤ 20000000) → get_or r c 0 ≤ 20000000
    at_most [] c q = omega arith
    at_most (x ∷ xs) zero q = q 0 (omega arith)
    at_most (x ∷ xs) (suc c) q = at_most xs c (λ a t. q (suc a) (omega arith))

pub total_most : (nets : List ℤ) (d : List ℕ) (i : ℕ) → OwedCells nets d → i < 16 → delivered_total d i ≤ 1280000000
total_most nets d i o hi = total_bounded d i o.both hi (cell_owed nets d o)

pub net_most : (nets : List ℤ) (c : ℕ) → all (within_size most_lots) nets ≡ true → owed_of (get_or nets c (pos 0)) ≤ 20000000
net_most [] c h = omega arith
net_most (n ∷ ns) zero h = omega (arith, leb-true (nat_abs n) most_lots (and_left (within_size most_lots n) (all (within_size most_lots) ns) h), size_of_lem n)
net_most (n ∷ ns) (suc c) h = net_most ns c (and_right (within_size most_lots n) (all (within_size most_lots) ns) h)

-- a place of the inventories is one of an issue
stock_small : (v : List ℕ) → length v ≡ 256 → ((i : ℕ) → i < 16 → sum (block 16 i v) ≤ 320000000) → (c : ℕ) → c < 256 → get_or v c 0 < 2000000000
stock_small v l h c k =
    let e : c / 16 * 16 + c % 16 ≡ c = omega arith in
    omega (
      arith,
      h (c / 16) (omega arith),
      one_of (block 16 (c / 16) v) (c % 16),
      get_or_block 16 v (c / 16) (c % 16) 0 (omega arith),
      ap (λ n. get_or v n 0) e,
    )

pub past_end : (v : List ℕ) (c : ℕ) → length v ≤ c → get_or v c 0 ≡ 0
past_end [] c h = refl
past_end (x ∷ xs) zero h = absurd (omega arith)
past_end (x ∷ xs) (suc c) h = past_end xs c (omega arith)

-- an issue's runs as they are lent
pub part_block : (l : List ℕ) (i n : ℕ) → n ≤ 128 → take (i * 128 + n - i * 128) (drop (i * 128) l) ≡ take n (block 128 i l)
part_block l i n h =
    let e : i * 128 + n - i * 128 ≡ n = omega arith in
    ap (λ m. take m (drop (i * 128) l)) e ∙ sym (take-take n 128 (drop (i * 128) l) h)

module _ (nets : List ℤ) (settles runs counts : List ℕ) (size : ℕ) where
  abbrev p : Plan
  p = plan nets settles size

  small : (d v : List ℕ) → CanRound nets settles runs counts size d v → (c : ℕ) → get_or v c 0 < 2000000000
  small d v r c =
      by_test (ltb c 256)
      (λ e. stock_small v r.stocks (λ i h. omega (arith, r.lots i h)) c (ltb-true c 256 e))
      (λ e. omega (arith, past_end v c (omega (arith, r.stocks, ltb-false c 256 e))))

  -- a turn of it
  pub can_turn : (d v : List ℕ) (a i : ℕ) → CanRound nets settles runs counts size d v → a < 64 → i < 16 →
      CanTurn nets settles (take (i * 128 + get_or counts i 0 - i * 128) (drop (i * 128) runs)) size a i d v
  can_turn d v a i r ha hi =
      subst (λ l. CanTurn nets settles l size a i d v) (sym (part_block runs i (get_or counts i 0) (r.ranked.orders i hi).few))
      (record {
        asks = record {
          cells = r.cells.cells;
          whole = r.cells.both;
          accounts = r.accounts;
          settled = r.settled;
          stocks = r.stocks;
          account = ha;
          issue = hi;
        };
        some = r.some;
        units = (r.ranked.orders i hi).units;
        fits = omega (arith, total_most nets d i r.cells hi, owed_most d i a r);
        small = small d v r;
      })
    where
      owed_most : (e : List ℕ) (j b : ℕ) → CanRound nets settles runs counts size e v → owed_of (net_at nets j b) ≤ 20000000
      owed_most e j b q = net_most nets (cell j b) q.cells.size

  -- and what it leaves
  pub can_again : (d d' v v' : List ℕ) (a i x : ℕ) → CanRound nets settles runs counts size d v → a < 64 → i < 16 →
      Turned nets settles size a i d d' v v' x → CanRound nets settles runs counts size d' v'
  can_again d d' v v' a i x r ha hi t =
      let s = desk d v 0 in
      let q = t.desk 0 in
      let k = subst (Kept p r.settled s) (sym q) (kept_turn p r.settled a i s r.cells.both r.stocks ha hi) in
      let c : d' ≡ set d (cell i a) (delivered_at d i a + amount p s a i) = ap (λ e. e.delivered) q ∙ turn_column p a i s in
      record {
        cells = record {
          cells = r.cells.cells;
          both = k.whole;
          size = r.cells.size;
          owed = ap (within_owed nets) c
              ∙ within_set nets d (cell i a) (delivered_at d i a + amount p s a i) r.cells.owed
              (omega (arith, amount_le p s a i, within_at nets d (cell i a) (r.cells.cells ∙ sym r.cells.both) r.cells.owed));
        };
        accounts = r.accounts;
        settled = r.settled;
        stocks = k.stocks;
        some = r.some;
        ranked = r.ranked;
        lots = λ j hj. omega (arith, k.lots j hj, r.lots j hj);
      }

  -- the turns from here on
  pub round_begin : (s v : List ℕ) (m : ℕ) → turns_from p 0 1024 (desk s v (m + 0)) ≡ round p (desk s v m)
  unfolding round
  round_begin s v m = ap (λ n. turns_from p 0 1024 (desk s v n)) (add-zero m)

  pub round_step : (t made m : ℕ) (d d' v v' : List ℕ) (r : ℕ) → t < 1024 → Turned nets settles size (t / 16) (t % 16) d d' v v' r →
      turns_from p t (1024 - t) (desk d v (m + made)) ≡ turns_from p (t + 1) (1024 - (t + 1)) (desk d' v' (m + (made + r)))
  round_step t made m d d' v v' r h g =
      let e : 1024 - t ≡ suc (1024 - (t + 1)) = omega arith in
      let f : suc t ≡ t + 1 = omega arith in
      let a : m + made + r ≡ m + (made + r) = omega arith in
      ap (λ n. turns_from p t n (desk d v (m + made))) e
      ∙ ap (turns_from p (suc t) (1024 - (t + 1))) (sym (g.desk (m + made)) ∙ ap (desk d' v') a)
      ∙ ap (λ n. turns_from p n (1024 - (t + 1)) (desk d' v' (m + (made + r)))) f
