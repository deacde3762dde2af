-- An issue's units, dealt out of its runs and then lifted.
use mathlib.Core.Path.{◌≡◌, refl, sym, ap, ◌∙◌}
use mathlib.Core.Bool.{Bool, true, false}
use mathlib.Core.List.{List, [], ◌∷◌, ◌++◌, map}
use Prim.Native.Nat.{ℕ, suc, ◌+◌, ◌-◌, ◌*◌, ◌/◌, ◌%◌, ◌≤◌, ◌<◌}
use native.Mathlib.Omega.{arith}
use lib.Dec.{leb}
use lib.ListN.{length, take, drop, get_or, get_or-map, drop_of_length-le}
use lib.Seq.{take_all, take_at, drop-cons, length-take-le}
use lib.IntN.{ℤ}
use borrow.Author.Tests.{leb-true, leb-false}
use Rattle.rules.specs.Measures.{Every, unit_lots}
use Rattle.std.specs.Prelude.{Some, None}
use Rattle.rules.specs.Units.{AccountLots, account_lots, units, units_of_nets, sum_lots}
use Rattle.rules.specs.Dealt.{dealt}
use Rattle.rules.specs.Book.{row, dues_of, lifts_at, order_in}
use Rattle.laws.proofs.Basics.{by_test, each_take, each_drop, put_pos}
use Rattle.laws.proofs.Units.{UnitSized, Small}
use Rattle.laws.proofs.Lifts.{length_lifted}
use Rattle.laws.proofs.Dealt.{dealt_lots, same_length}
use Rattle.laws.proofs.SoundRows.{order_in_lem}
use Rattle.runs.specs.Runs.{part_of, runs_in, units_of_run, units_of_runs, units_of_words, units_in, unit_of, found_of, PlainIn, CanOrder, RankedNets}
use Rattle.dealing.specs.declared.Ranks.{Ranks}
use Rattle.inturn.specs.InTurn.{smalls_of, dealt_runs}
use Rattle.dealing.specs.Dealing.{lifted_runs, full_number, IsRanked, CanDealOut, DealtOut, CanWindow}
use Rattle.runs.proofs.Cells.{dues_sum}
use Rattle.runs.proofs.Loops.{dues_small}
use Rattle.laws.proofs.LiftColumn.{length_lift_words}
use Rattle.lifted.proofs.Lifted.{words_part}
use Rattle.runs.proofs.Units.{smalls_sorted}
use Rattle.dealing.proofs.Fulls.{can_deal, small_ss, dealt_runs_lem}

-- a unit is a run of its own
one_unit_lem : (u : AccountLots) → UnitSized u → units_of_run u ≡ u ∷ []
one_unit_lem u p =
    by_test (leb 100000 u.lots)
    (λ e.
    let q : u.lots / 100000 ≡ 1 = omega (arith, leb-true 100000 u.lots e, p.1) in
    let r : u.lots % 100000 ≡ 0 = omega (arith, leb-true 100000 u.lots e, p.1) in
    let s : 100000 ≡ u.lots = omega (arith, leb-true 100000 u.lots e, p.1) in
    rw (q, r) (ap (λ x. account_lots u.account x ∷ []) s))
    (λ e.
    let q : u.lots / 100000 ≡ 0 = omega (arith, leb-false 100000 u.lots e) in
    let r : u.lots % 100000 ≡ u.lots = omega (arith, leb-false 100000 u.lots e) in
    rw (q, r) (put_pos u.account u.lots [] p.0))

each_unit : (us : List AccountLots) → Every UnitSized us → units_of_runs us ≡ us
each_unit [] ps = refl
each_unit (u ∷ us) ps = rw (one_unit_lem u ps.0, each_unit us ps.1)

-- no order has more units than a word can count: each has a lot
length_lots : (us : List AccountLots) → Every UnitSized us → length us ≤ sum_lots us
length_lots [] ps = omega arith
length_lots (u ∷ us) ps = omega (arith, ps.0.0, length_lots us ps.1)

pub order_short : (nets : List ℤ) (lifts : List ℕ) (i : ℕ) → CanOrder nets lifts i → length (order_in true nets lifts i) < 4294967296
order_short nets lifts i o =
    let r = order_in_lem true nets lifts i in
    omega (arith, length_lots (order_in true nets lifts i) r.sized, r.whole, dues_sum nets i o.size o.cells o.issue)

module _ (nets : List ℤ) (lifts : List ℕ) (i : ℕ) (o : CanOrder nets lifts i) (runs : List ℕ) (n : ℕ) (held : n ≤ length runs) (p : RankedNets nets i runs n) where
  abbrev m : ℕ
  m = full_number (runs_in runs n)

  abbrev ws : List ℕ
  ws = take (i * 18 + 18 - i * 18) (drop (i * 18) lifts)

  small : (a : ℕ) → get_or (dues_of nets i) a 0 ≤ 20000000
  small = dues_small nets i (dues_of nets i) refl o.size

  as_dealt : dealt_runs runs n m ≡ dealt unit_lots (dues_of nets i)
  as_dealt = dealt_runs_lem (dues_of nets i) runs n held (omega (arith, p.few)) small p.runs

  pub as_lifted : lifted_runs runs n m ws ≡ order_in true nets lifts i
  unfolding lifted_runs order_in
  as_lifted = rw (words_part lifts i, as_dealt)

  as_many : length (order_in false nets lifts i) ≡ length (dealt_runs runs n m)
  unfolding order_in
  as_many =
      length_lifted (lifts_at lifts i) (units_of_nets unit_lots (row i nets))
      ∙ sym (same_length (dealt unit_lots (dues_of nets i)) (units unit_lots (dues_of nets i)) (dealt_lots (dues_of nets i)))
      ∙ ap length (sym as_dealt)

  whole_length : length (dealt_runs runs n m) ≡ length (order_in true nets lifts i)
  unfolding order_in
  whole_length = ap length as_dealt ∙ sym (length_lifted (lifts_at lifts i) (dealt unit_lots (dues_of nets i)))

  pub can_window : (k : ℕ) (out : List ℕ) → k + length out ≤ length (order_in true nets lifts i) → CanWindow runs n m ws k out
  can_window k out h =
      record {
        ready = can_deal (dues_of nets i) runs n held (omega (arith, p.few)) small p.runs;
        words = rw (words_part lifts i) (record { whole = length_lift_words lifts i o.lifted o.issue; few = o.few });
        places = rw (words_part lifts i, ← as_many) o.places;
        there = omega (arith, h, whole_length);
        few = omega (arith, h, order_short nets lifts i o);
      }

-- A ranked issue: the words that hold it, and its words of lifts

abbrev pub words_of : List ℕ → Ranks → List ℕ
words_of keys p = take p.n keys

abbrev pub lift_words : List ℕ → ℕ → List ℕ
lift_words lifts i = take (i * 18 + 18 - i * 18) (drop (i * 18) lifts)

module _ (nets : List ℤ) (i : ℕ) (keys : List ℕ) (p : Ranks) (r : IsRanked nets i keys p) where
  words_length : length (words_of keys p) ≡ p.n
  words_length = length-take-le p.n keys r.held

  words_whole : take (length (words_of keys p)) (words_of keys p) ≡ (words_of keys p)
  words_whole = take_all (length (words_of keys p)) (words_of keys p) (omega arith)

  pub words_fulls : p.full ≡ full_number (runs_in (words_of keys p) (length (words_of keys p)))
  words_fulls = r.fulls ∙ sym (ap (λ ws. full_number (map part_of ws)) words_whole)

  words_ranked : RankedNets nets i (words_of keys p) (length (words_of keys p))
  unfolding units_in
  words_ranked =
      record {
        few = omega (arith, words_length, r.order.few);
        units = ap (λ ws. units_of_runs (map part_of ws)) words_whole ∙ r.order.units;
        plain = rw words_whole r.order.plain;
        runs = ap (map part_of) words_whole ∙ r.order.runs;
      }

  pub words_plain : PlainIn (words_of keys p) (length (words_of keys p))
  words_plain = words_ranked.plain

  pub same_units : units_in (words_of keys p) (length (words_of keys p)) ≡ units_in keys p.n
  same_units = words_ranked.units ∙ sym r.order.units

module _ (keys : List ℕ) (p : Ranks) (lifts : List ℕ) (i : ℕ) where
  pub can_deal_out : (k : ℕ) (out : List ℕ) → (c : CanDealOut keys p lifts i k out) → CanWindow (words_of keys p) (length (words_of keys p)) p.full (lift_words lifts i) k out
  can_deal_out k out c =
      rw (words_fulls c.nets i keys p c.ranked)
      (can_window c.nets lifts i c.order (words_of keys p) (length (words_of keys p)) (omega arith) (words_ranked c.nets i keys p c.ranked) k out c.there)

  pub dealt_out : (k len : ℕ) (out : List ℕ) →
      map part_of out ≡ take len (drop k (lifted_runs (words_of keys p) (length (words_of keys p)) p.full (lift_words lifts i))) →
      DealtOut keys p lifts i k len out
  dealt_out k len out e nets o r =
      (rw (words_fulls nets i keys p r) at e)
      ∙ ap (λ us. take len (drop k us)) (as_lifted nets lifts i o (words_of keys p) (length (words_of keys p)) (omega arith) (words_ranked nets i keys p r))

module _ (nets : List ℤ) (lifts : List ℕ) (i : ℕ) (o : CanOrder nets lifts i) (keys : List ℕ) (p : Ranks) (r : IsRanked nets i keys p) where
  pub ranked_lifted : lifted_runs (words_of keys p) (length (words_of keys p)) p.full (lift_words lifts i) ≡ order_in true nets lifts i
  ranked_lifted = rw (words_fulls nets i keys p r) (as_lifted nets lifts i o (words_of keys p) (length (words_of keys p)) (omega arith) (words_ranked nets i keys p r))

  pub ranked_length : length (dealt_runs (words_of keys p) (length (words_of keys p)) p.full) ≡ length (order_in true nets lifts i)
  ranked_length = rw (words_fulls nets i keys p r) (whole_length nets lifts i o (words_of keys p) (length (words_of keys p)) (omega arith) (words_ranked nets i keys p r))

  pub ranked_number : length (units_of_words (words_of keys p)) ≡ length (order_in true nets lifts i)
  unfolding order_in units_in
  ranked_number =
      ap length r.order.units ∙ sym (length_lifted (lifts_at lifts i) (units_of_nets unit_lots (row i nets)))
      ∙ as_many nets lifts i o keys p.n r.held r.order ∙ whole_length nets lifts i o keys p.n r.held r.order

  pub ranked_smalls : Every (Small unit_lots) (smalls_of (words_of keys p) (length (words_of keys p)) p.full)
  ranked_smalls =
      let w = words_ranked nets i keys p r in
      rw (words_fulls nets i keys p r, small_ss (dues_of nets i) (words_of keys p) (length (words_of keys p)) (omega arith) (omega (arith, w.few)) (small nets lifts i o (words_of keys p) (length (words_of keys p)) (omega arith) w) w.runs)
      (smalls_sorted (dues_of nets i))

-- words of units are runs of one unit each
pub words_units : (new : Bool) (nets : List ℤ) (lifts : List ℕ) (i k len : ℕ) (out : List ℕ) → length out ≡ len →
    map part_of out ≡ take len (drop k (order_in new nets lifts i)) → units_in out len ≡ take len (drop k (order_in new nets lifts i))
unfolding units_in
words_units new nets lifts i k len out l e =
    let us = order_in new nets lifts i in
    ap (λ ws. units_of_runs (map part_of ws)) (take_all len out (omega arith)) ∙ ap units_of_runs e
    ∙ each_unit (take len (drop k us)) (each_take UnitSized len (drop k us) (each_drop UnitSized k us (order_in_lem new nets lifts i).sized))

-- a copy is ranked as well
pub copy_ranked : (nets : List ℤ) (i : ℕ) (keys runs : List ℕ) (n : ℕ) → take n runs ≡ take n keys → RankedNets nets i keys n → RankedNets nets i runs n
unfolding units_in
copy_ranked nets i keys runs n e p =
    record {
      few = p.few;
      units = ap (λ ws. units_of_runs (map part_of ws)) e ∙ p.units;
      plain = rw e p.plain;
      runs = ap (map part_of) e ∙ p.runs;
    }

-- The k-th unit

module _ (nets : List ℤ) (lifts : List ℕ) (i k : ℕ) (o : CanOrder nets lifts i) (keys : List ℕ) (p : Ranks) (r : IsRanked nets i keys p) where
  pub none_found : length (units_of_words (take p.n keys)) ≤ k → None ≡ found_of (drop k (order_in true nets lifts i))
  none_found h =
      let g : length (order_in true nets lifts i) ≤ k = omega (arith, ranked_number nets lifts i o keys p r) in
      sym (ap found_of (drop_of_length-le (order_in true nets lifts i) g))

  pub one_there : (out : List ℕ) → length out ≡ 1 → k < length (units_of_words (take p.n keys)) → CanDealOut keys p lifts i k out
  one_there out l h = record { nets = nets; order = o; ranked = r; there = omega (arith, ranked_number nets lifts i o keys p r) }

  pub one_found : (out : List ℕ) → length out ≡ 1 → k < length (units_of_words (take p.n keys)) → DealtOut keys p lifts i k 1 out →
      Some (unit_of (get_or out 0 0 % 64) (get_or out 0 0 / 64)) ≡ found_of (drop k (order_in true nets lifts i))
  one_found out l h d =
      let us = order_in true nets lifts i in
      let z = part_of 0 in
      let g : k < length us = omega (arith, ranked_number nets lifts i o keys p r) in
      let f : part_of (get_or out 0 0) ≡ get_or us k z =
      sym (get_or-map part_of out 0 0)
      ∙ ap (λ l. get_or l 0 z) (d nets o r)
      ∙ ap (λ l. get_or (take 1 l) 0 z) (drop-cons us k z g) in
      ap found_of (ap (λ u. u ∷ drop (suc k) us) f) ∙ ap found_of (sym (drop-cons us k z g))

-- words put in front of an array are its first
pub copied : (keys runs part : List ℕ) (n : ℕ) → n ≤ length keys → part ≡ take n keys → take n (part ++ drop n runs) ≡ take n keys
copied keys runs part n h e = take_at part (drop n runs) n (ap length e ∙ length-take-le n keys h) ∙ e
