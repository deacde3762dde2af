-- How many rounds can be leapt: the run that a round's units lie in.
use mathlib.Core.Path.{◌≡◌, refl, sym, ap, subst, ◌∙◌}
use mathlib.Core.List.{List, [], ◌∷◌, ◌++◌, map, append-nil}
use Prim.Native.Nat.{ℕ, zero, suc, ◌+◌, ◌-◌, ◌*◌, ◌/◌, ◌%◌, ◌≤◌, ◌<◌}
use native.Mathlib.Omega.{arith}
use native.Mathlib.Nat.{div-add-mod', div-mul-le_self, mul-le-mul_right, add-zero, zero-mul}
use Rattle.std.proofs.Common.{add-one}
use lib.Dec.{eqb}
use borrow.Author.Tests.{eqb-true, eqb-false}
use lib.ListN.{length, get_or, take, drop, replicate, take-append-drop}
use Rattle.rules.specs.Units.{AccountLots, account_lots, sum_lots}
use Rattle.rules.specs.Handover.{handovers}
use Rattle.laws.proofs.Basics.{by_test, total_append, put_none}
use Rattle.runs.specs.Runs.{part_of}
use Rattle.ranking.specs.Runs.{units_of_run, units_of_runs}
use Rattle.simulation.specs.Repeated.{AgainFor}
use Rattle.simulation.proofs.Leaps.{InRun, again_run}
use Rattle.ranking.proofs.Sized.{units_append}
use Rattle.rounds.proofs.Joins.{sum_run}

pub sum_runs : (size : ℕ) (rs : List AccountLots) → sum_lots (units_of_runs size rs) ≡ sum_lots rs
sum_runs size [] = refl
sum_runs size (r ∷ rs) =
    omega (arith, total_append (λ u. u.lots) (units_of_run size r) (units_of_runs size rs), sum_run size r.account r.lots, sum_runs size rs)

-- a run of full units, and what stands before and behind it
in_run : (size : ℕ) (rs : List AccountLots) (j : ℕ) (r : AccountLots) (d e : ℕ) → drop j rs ≡ r ∷ drop (suc j) rs → r.lots % size ≡ 0 →
    sum_lots (take j rs) ≤ d → e < sum_lots (take j rs) + r.lots → InRun (units_of_runs size rs) size d e
in_run size rs j r d e here full lo hi =
    let front = units_of_runs size (take j rs) in
    let k = r.lots / size in
    let fulls = replicate k (account_lots r.account size) in
    let behind = units_of_runs size (drop (suc j) rs) in
    let s = sum_runs size (take j rs) in
    let one : units_of_run size r ≡ fulls =
    ap (λ l. fulls ++ l) (put_none r.account (r.lots % size) [] full) ∙ append-nil fulls in
    record {
      front = front;
      account = r.account;
      number = k;
      behind = behind;
      whole = ap (units_of_runs size) (sym (take-append-drop j rs) ∙ ap (λ l. take j rs ++ l) here)
          ∙ units_append size (take j rs) (r ∷ drop (suc j) rs)
          ∙ ap (λ l. front ++ (l ++ behind)) one;
      begins = omega (arith, s);
      ends = omega (arith, s, div-add-mod' r.lots size);
    }

-- a run, and those behind it
runs_at : (runs : List ℕ) (j : ℕ) → j < length runs → drop j (map part_of runs) ≡ part_of (get_or runs j 0) ∷ drop (suc j) (map part_of runs)
runs_at [] j h = absurd (omega arith)
runs_at (k ∷ ks) zero h = refl
runs_at (k ∷ ks) (suc j) h = runs_at ks j (omega arith)

pub again_here : (size : ℕ) (runs : List ℕ) (j d x b k : ℕ) → 0 < size → j < length runs → x % size ≡ 0 →
    b + sum_lots (take j (map part_of runs)) ≡ d → get_or runs j 0 / 64 % size ≡ 0 → b + x + k * x < get_or runs j 0 / 64 →
    AgainFor (units_of_runs size (map part_of runs)) d x k
again_here size runs j d x b k p h m s full room i hi =
    let q = mul-le-mul_right x hi in
    again_run (units_of_runs size (map part_of runs)) size d (d + x) x i p m
    (in_run size (map part_of runs) j (part_of (get_or runs j 0)) d (d + x + i * x) (runs_at runs j h) full (omega (arith, s))
    (omega (arith, s, room, q)))

pub again_never : (us : List AccountLots) (d x : ℕ) → AgainFor us d x 0
again_never us d x j h t y lo hi =
    let z : j ≡ 0 = omega arith in
    let e : t + j * x ≡ t = ap (λ n. t + n * x) z ∙ ap (λ n. t + n) (zero-mul x) ∙ add-zero t in
    ap (λ n. handovers us n y) e

pub room_for : (l b x : ℕ) → 0 < x → b + x < l → b + x + (l - b - x - 1) / x * x < l
room_for l b x p h = omega (arith, div-mul-le_self (l - b - x - 1) x)

-- the lots of one run more
pub sum_next : (runs : List ℕ) (j : ℕ) → j < length runs →
    sum_lots (take (j + 1) (map part_of runs)) ≡ sum_lots (take j (map part_of runs)) + get_or runs j 0 / 64
sum_next runs j h = rw add-one (next runs j h)
  where
    next : (ks : List ℕ) (i : ℕ) → i < length ks →
        sum_lots (take (suc i) (map part_of ks)) ≡ sum_lots (take i (map part_of ks)) + get_or ks i 0 / 64
    next [] i l = absurd (omega arith)
    next (k ∷ ks) zero l = omega arith
    next (k ∷ ks) (suc i) l = omega (arith, next ks i (omega arith))

pub again_fewer : (us : List AccountLots) (d x k r : ℕ) → r ≤ k → AgainFor us d x k → AgainFor us d x r
again_fewer us d x k r le h j q = h j (omega arith)

-- one issue more
pub again_more : (us : ℕ → List AccountLots) (ds xs : ℕ → ℕ) (k r c : ℕ) → r ≤ k → ((i : ℕ) → i < c → AgainFor (us i) (ds i) (xs i) k) →
    AgainFor (us c) (ds c) (xs c) r → (i : ℕ) → i < c + 1 → AgainFor (us i) (ds i) (xs i) r
again_more us ds xs k r c le h e i lt =
    by_test (eqb i c)
    (λ t. subst (λ n. AgainFor (us n) (ds n) (xs n) r) (sym (eqb-true i c t)) e)
    (λ t. let ne = eqb-false i c t in again_fewer (us i) (ds i) (xs i) k r le (h i (omega (arith, ne))))

-- of equal units and numbers
pub moved : {us vs : List AccountLots} {d d' x x' k : ℕ} → us ≡ vs → d ≡ d' → x ≡ x' → AgainFor us d x k → AgainFor vs d' x' k
moved {us = us} {vs = vs} {d = d} {d' = d'} {x = x} {x' = x'} {k = k} a b c h =
    subst (λ n. AgainFor vs d' n k) c (subst (λ n. AgainFor vs n x k) b (subst (λ ws. AgainFor ws d x k) a h))
