-- The cursor's steps: a shortfall or a run of 0 lots in front changes no overlap, so the cursor may go on to the next;
-- and what a step says of the list of overlaps that are left.
use mathlib.Core.Path.{◌≡◌, ap, ◌∙◌}
use mathlib.Core.List.{List, [], ◌∷◌, map}
use Prim.Native.Nat.{ℕ, suc, ◌+◌, ◌-◌, ◌/◌, ◌%◌, ◌≤◌, ◌<◌, min}
use native.Mathlib.Numerals.{add-one}
use native.Mathlib.Omega.{arith}
use lib.Dec.{leb}
use lib.ListN.{length, drop, get_or, drop_of_length-le}
use borrow.Author.Tests.{leb-true, leb-false}
use Rattle.rules.specs.Units.{AccountLots, account_lots, prepend, by_account}
use Rattle.rules.specs.Fails.{Fail, fail_of, overlaps}
use Rattle.laws.proofs.Basics.{by_test, put_pos}
use Rattle.laws.proofs.Overlaps.{overlaps_short0, overlaps_lack0, overlaps_end, overlaps_short, overlaps_lack}
use Rattle.units.specs.declared.Cursor.{Cursor}
use Rattle.runs.specs.Runs.{part_of}
use Rattle.units.specs.Cursor.{overlaps_on, overlaps_in, overlap_at, IsShort, IsLacking, Advanced}
use Rattle.sorting.proofs.Ranking.{parts_at}
use Rattle.runs.proofs.Words.{word_at, words_end}
use Rattle.std.specs.Prelude.{Some, None}

-- a shortfall of 0 lots, one that is not, and none left
module _ (ss : List ℕ) (a : ℕ) where
  pub short_none : a < length ss → get_or ss a 0 ≡ 0 → by_account a (drop a ss) ≡ by_account (a + 1) (drop (a + 1) ss)
  short_none h e = rw add-one (parts_at ss a h ∙ ap (λ x. prepend a x (by_account (suc a) (drop (suc a) ss))) e)

  pub short_some : a < length ss → 0 < get_or ss a 0 → by_account a (drop a ss) ≡ account_lots a (get_or ss a 0) ∷ by_account (a + 1) (drop (a + 1) ss)
  short_some h g = rw add-one (parts_at ss a h ∙ put_pos a (get_or ss a 0) (by_account (suc a) (drop (suc a) ss)) g)

  pub short_end : length ss ≤ a → by_account a (drop a ss) ≡ []
  short_end h = ap (by_account a) (drop_of_length-le ss h)

-- from a cursor whose shortfall is 0
module _ (ss : List ℕ) (c : Cursor) (z : c.short ≡ 0) where
  pub front_short : (us : List AccountLots) → overlaps_on us ss c ≡ overlaps (by_account c.account (drop c.account ss)) (account_lots c.to c.lack ∷ drop c.run us)
  front_short us = rw z (overlaps_short0 (by_account c.account (drop c.account ss)) (account_lots c.to c.lack ∷ drop c.run us) c.from)

-- and from one whose run lacks nothing
module _ (us : List AccountLots) (c : Cursor) (z : c.lack ≡ 0) where
  pub front_run : (ss : List ℕ) → overlaps_on us ss c ≡ overlaps (account_lots c.from c.short ∷ by_account c.account (drop c.account ss)) (drop c.run us)
  front_run ss = rw z (overlaps_lack0 (account_lots c.from c.short ∷ by_account c.account (drop c.account ss)) (drop c.run us) c.to)

module _ (ss : List AccountLots) (runs : List ℕ) (j : ℕ) where
  pub run_none : j < length runs → get_or runs j 0 < 64 → overlaps ss (drop j (map part_of runs)) ≡ overlaps ss (drop (j + 1) (map part_of runs))
  run_none h g =
      let z : get_or runs j 0 / 64 ≡ 0 = omega arith in
      ap (overlaps ss) (word_at runs j h) ∙ rw z (overlaps_lack0 ss (drop (j + 1) (map part_of runs)) (get_or runs j 0 % 64))

  pub run_some : j < length runs → overlaps ss (drop j (map part_of runs)) ≡ overlaps ss (part_of (get_or runs j 0) ∷ drop (j + 1) (map part_of runs))
  run_some h = ap (overlaps ss) (word_at runs j h)

  pub run_end : length runs ≤ j → overlaps ss (drop j (map part_of runs)) ≡ []
  run_end h = ap (overlaps ss) (words_end runs j h) ∙ overlaps_end ss

-- the smaller of a shortfall and a lack is laid
overlaps_least : (ss vs : List AccountLots) (a x b y z : ℕ) → 0 < x → 0 < y → z ≡ min x y →
    overlaps (account_lots a x ∷ ss) (account_lots b y ∷ vs) ≡ fail_of a (account_lots b z) ∷ overlaps (account_lots a (x - z) ∷ ss) (account_lots b (y - z) ∷ vs)
overlaps_least ss vs a x b y z p q m =
    let F : ℕ → ℕ → ℕ → List Fail = λ w u v. fail_of a (account_lots b w) ∷ overlaps (account_lots a u ∷ ss) (account_lots b v ∷ vs) in
    by_test (leb x y)
    (λ e.
    let l = leb-true x y e in
    let i : 0 ≡ x - x = omega arith in
    let j : x ≡ z = omega (arith, m) in
    overlaps_short ss vs a x b y p l ∙ ap (λ u. F x u (y - x)) i ∙ ap (λ w. F w (x - w) (y - w)) j)
    (λ e.
    let l : y ≤ x = omega (arith, leb-false x y e) in
    let i : 0 ≡ y - y = omega arith in
    let j : y ≡ z = omega (arith, m) in
    overlaps_lack ss vs a x b y q l ∙ ap (λ v. F y (x - y) v) i ∙ ap (λ w. F w (x - w) (y - w)) j)

-- one step: on to a shortfall, on to a run, then the overlap of the two is handed out
module _ (runs ss : List ℕ) (c : Cursor) where
  pub none_short : ((us : List AccountLots) → overlaps_on us ss c ≡ []) → Advanced runs ss c None
  unfolding overlaps_in
  none_short e = record { list = e (map part_of runs); range = tt }

  module _ (s : Cursor) (p : IsShort ss c s) where
    pub none_run : ((missing : List ℕ) → overlaps_on (map part_of runs) missing s ≡ []) → Advanced runs ss c None
    unfolding overlaps_in
    none_run e = record { list = p.same (map part_of runs) ∙ e ss; range = tt }

    pub hand_least : (v : Cursor) → IsLacking (map part_of runs) s v → (x : ℕ) → x ≡ min v.short v.lack → Advanced runs ss c (Some (overlap_at v x))
    unfolding overlaps_in
    hand_least v q x least =
        let r = q.range in
        record {
          list = p.same (map part_of runs) ∙ q.same ss
              ∙ overlaps_least (by_account v.account (drop v.account ss)) (drop v.run (map part_of runs)) v.from v.short v.to v.lack x
              (omega (arith, p.some, q.short)) q.some least;
          range = record {
            from = r.from;
            to = r.to;
            lots = omega (arith, r.short);
            cursor = record { from = r.from; to = r.to; short = omega (arith, r.short) };
          };
        }
