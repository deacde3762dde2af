-- The lots of the units up to one, run by run: either a whole run is passed, or the unit stands in it.
use mathlib.Core.Path.{◌≡◌, ap, ◌∙◌}
use mathlib.Core.List.{List, ◌++◌, map}
use Prim.Native.Nat.{ℕ, suc, ◌+◌, ◌-◌, ◌*◌, ◌/◌, ◌≤◌, ◌<◌, min}
use native.Mathlib.Omega.{arith}
use lib.ListN.{length, take, drop, get_or}
use Rattle.rules.specs.Units.{AccountLots, sum_lots}
use Rattle.laws.proofs.Basics.{total_append, total_split}
use Rattle.runs.specs.Runs.{part_of, units_of_run, units_of_runs}
use Rattle.runs.proofs.Units.{run_lots, run_drop, unit_past}
use Rattle.runs.proofs.Words.{units_at_word}

abbrev lots_of : AccountLots → ℕ
lots_of u = u.lots

module _ (u : AccountLots) (us : List AccountLots) where
  run_sum : sum_lots (units_of_run u ++ us) ≡ u.lots + sum_lots us
  run_sum = omega (arith, total_append lots_of (units_of_run u) us, run_lots u)

  up_past : (k c : ℕ) → c ≡ (u.lots + 99999) / 100000 → c ≤ k →
      sum_lots (take (suc k) (units_of_run u ++ us)) ≡ u.lots + sum_lots (take (suc (k - c)) us)
  up_past k c e h =
      let q : suc k - (u.lots + 99999) / 100000 ≡ suc (k - c) = omega arith in
      omega (
        arith,
        run_sum,
        total_split lots_of (suc k) (units_of_run u ++ us),
        ap sum_lots (unit_past u us (suc k) (omega arith) ∙ ap (λ n. drop n us) q),
        total_split lots_of (suc (k - c)) us,
      )

  up_here : (k : ℕ) → k * 100000 < u.lots → sum_lots (take (suc k) (units_of_run u ++ us)) ≡ min ((k + 1) * 100000) u.lots
  up_here k h =
      let r = u.lots - suc k * 100000 in
      omega (
        arith,
        run_sum,
        total_split lots_of (suc k) (units_of_run u ++ us),
        ap sum_lots (run_drop u.account u.lots (suc k) us (omega arith)),
        total_append lots_of (units_of_run (record { account = u.account; lots = r })) us,
        run_lots (record { account = u.account; lots = r }),
      )

-- the units of the words from j on
abbrev pub from : List ℕ → ℕ → List AccountLots
from runs j = units_of_runs (drop j (map part_of runs))

module _ (runs : List ℕ) (j : ℕ) (h : j < length runs) where
  pub sum_next : sum_lots (from runs j) ≡ get_or runs j 0 / 64 + sum_lots (from runs (j + 1))
  sum_next = rw (units_at_word runs j h) (run_sum (part_of (get_or runs j 0)) (from runs (j + 1)))

  pub up_next : (k c : ℕ) → c ≡ (get_or runs j 0 / 64 + 99999) / 100000 → c ≤ k →
      sum_lots (take (suc k) (from runs j)) ≡ get_or runs j 0 / 64 + sum_lots (take (suc (k - c)) (from runs (j + 1)))
  up_next k c e g = rw (units_at_word runs j h) (up_past (part_of (get_or runs j 0)) (from runs (j + 1)) k c e g)

  pub up_last : (k : ℕ) → k * 100000 < get_or runs j 0 / 64 →
      sum_lots (take (suc k) (from runs j)) ≡ min ((k + 1) * 100000) (get_or runs j 0 / 64)
  up_last k g = rw (units_at_word runs j h) (up_here (part_of (get_or runs j 0)) (from runs (j + 1)) k g)
