-- How many units so many runs stand for; a run of full units less some of them.
use mathlib.Core.Path.{◌≡◌, ap, ◌∙◌}
use mathlib.Core.List.{List, [], ◌∷◌, ◌++◌, map, map-append, append-nil}
use Prim.Native.Nat.{ℕ, ◌+◌, ◌-◌, ◌*◌, ◌/◌, ◌%◌, ◌≤◌, ◌<◌}
use native.Mathlib.Omega.{arith}
use native.Mathlib.Numerals.{add-one}
use lib.ListN.{length, length-append, take, get_or}
use lib.Seq.{take-suc}
use Rattle.rules.specs.Units.{AccountLots}
use Rattle.runs.specs.Runs.{part_of, units_of_run, units_of_runs, units_in}
use Rattle.runs.proofs.Units.{units_append, run_length}

-- the units of a list of words
abbrev pub units_of : List ℕ → List AccountLots
units_of ws = units_of_runs (map part_of ws)

pub of_append : (xs ys : List ℕ) → units_of (xs ++ ys) ≡ units_of xs ++ units_of ys
of_append xs ys = ap units_of_runs (map-append part_of xs ys) ∙ units_append (map part_of xs) (map part_of ys)

of_one : (w : ℕ) → units_of (w ∷ []) ≡ units_of_run (part_of w)
of_one w = append-nil (units_of_run (part_of w))

-- one run further
pub number_more : (runs : List ℕ) (j : ℕ) → j < length runs →
    length (units_in runs (j + 1)) ≡ length (units_in runs j) + (get_or runs j 0 / 64 + 99999) / 100000
unfolding units_in
number_more runs j h =
    let k = get_or runs j 0 in
    rw (add-one, take-suc runs j 0 h, of_append (take j runs) (k ∷ []), of_one k)
    (length-append (units_of (take j runs)) (units_of_run (part_of k)) ∙ ap (λ c. length (units_of (take j runs)) + c) (run_length (part_of k)))

pub plain_less : (x k : ℕ) → k * 100000 ≤ x → x % 100000 ≡ 0 → (x - k * 100000) % 100000 ≡ 0
plain_less x k h r = omega arith
