-- A slice of words that stand for units, taken one by one: the words from j on.
use mathlib.Core.Path.{◌≡◌, ap, ◌∙◌}
use mathlib.Core.List.{List, [], ◌∷◌, ◌++◌, map}
use Prim.Native.Nat.{ℕ, suc, ◌+◌, ◌-◌, ◌*◌, ◌/◌, ◌%◌, ◌≤◌, ◌<◌, min}
use native.Mathlib.Omega.{arith}
use native.Mathlib.Numerals.{add-one}
use lib.ListN.{length, drop, get_or, length-append, length-map, get_or-map, drop_of_length-le}
use lib.Seq.{drop-cons}
use Rattle.rules.specs.Units.{account_lots}
use Rattle.rules.specs.Handover.{covered, stock}
use Rattle.runs.specs.Runs.{part_of, units_of_run, units_of_runs}
use Rattle.runs.proofs.Units.{unit_past, unit_here, covered_run, stock_run, covered_over, stock_over, run_length}

module _ (runs : List ℕ) where
  pub words_end : (j : ℕ) → length runs ≤ j → drop j (map part_of runs) ≡ []
  words_end j h = drop_of_length-le (map part_of runs) (omega (arith, length-map runs part_of))

  module _ (j : ℕ) (h : j < length runs) where
    pub word_at : drop j (map part_of runs) ≡ part_of (get_or runs j 0) ∷ drop (j + 1) (map part_of runs)
    word_at =
        rw add-one
        (drop-cons (map part_of runs) j (part_of 0) (omega (arith, length-map runs part_of))
        ∙ ap (λ u. u ∷ drop (suc j) (map part_of runs)) (get_or-map part_of runs j 0))

    pub units_at_word : units_of_runs (drop j (map part_of runs)) ≡ units_of_run (part_of (get_or runs j 0)) ++ units_of_runs (drop (j + 1) (map part_of runs))
    units_at_word = ap units_of_runs word_at

    -- how many units there are from a word on
    pub number_at : length (units_of_runs (drop j (map part_of runs))) ≡ (get_or runs j 0 / 64 + 99999) / 100000 + length (units_of_runs (drop (j + 1) (map part_of runs)))
    number_at = ap length units_at_word ∙ length-append (units_of_run (part_of (get_or runs j 0))) (units_of_runs (drop (j + 1) (map part_of runs))) ∙ ap (λ c. c + length (units_of_runs (drop (j + 1) (map part_of runs)))) (run_length (part_of (get_or runs j 0)))

    -- the k-th unit: past a word, or in it
    pub past_word : (k : ℕ) → (get_or runs j 0 / 64 + 99999) / 100000 ≤ k →
        drop k (units_of_runs (drop j (map part_of runs))) ≡ drop (k - (get_or runs j 0 / 64 + 99999) / 100000) (units_of_runs (drop (j + 1) (map part_of runs)))
    past_word k g = rw units_at_word (unit_past (part_of (get_or runs j 0)) (units_of_runs (drop (j + 1) (map part_of runs))) k g)

    pub in_word : (k x : ℕ) → k * 100000 < get_or runs j 0 / 64 → x ≡ min (get_or runs j 0 / 64 - k * 100000) 100000 →
        drop k (units_of_runs (drop j (map part_of runs)))
        ≡ account_lots (get_or runs j 0 % 64) x ∷ drop (k + 1) (units_of_runs (drop j (map part_of runs)))
    in_word k x g e = rw units_at_word (unit_here (part_of (get_or runs j 0)) (units_of_runs (drop (j + 1) (map part_of runs))) k x g e)

    -- what a total covers, and the stock
    pub covered_past_word : (d : ℕ) → get_or runs j 0 / 64 ≤ d →
        covered (units_of_runs (drop j (map part_of runs))) d
        ≡ (get_or runs j 0 / 64 + 99999) / 100000 + covered (units_of_runs (drop (j + 1) (map part_of runs))) (d - get_or runs j 0 / 64)
    covered_past_word d g = rw units_at_word (covered_over (part_of (get_or runs j 0)) (units_of_runs (drop (j + 1) (map part_of runs))) d g)

    pub stock_past_word : (d : ℕ) → get_or runs j 0 / 64 ≤ d →
        stock (units_of_runs (drop j (map part_of runs))) d ≡ stock (units_of_runs (drop (j + 1) (map part_of runs))) (d - get_or runs j 0 / 64)
    stock_past_word d g = rw units_at_word (stock_over (part_of (get_or runs j 0)) (units_of_runs (drop (j + 1) (map part_of runs))) d g)

    pub covered_in_word : (d : ℕ) → d < get_or runs j 0 / 64 → covered (units_of_runs (drop j (map part_of runs))) d ≡ d / 100000
    covered_in_word d g = rw units_at_word (covered_run (part_of (get_or runs j 0)) (units_of_runs (drop (j + 1) (map part_of runs))) d g)

    pub stock_in_word : (d : ℕ) → d < get_or runs j 0 / 64 → stock (units_of_runs (drop j (map part_of runs))) d ≡ d % 100000
    stock_in_word d g = rw units_at_word (stock_run (part_of (get_or runs j 0)) (units_of_runs (drop (j + 1) (map part_of runs))) d g)
