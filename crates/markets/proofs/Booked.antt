-- The fails of a market are those that the book's cutoff gives its issue: accounts without a net change nothing, and nets below
-- a unit have one order, whether full units are dealt in turn or not.
use mathlib.Core.Path.{◌≡◌, refl, sym, ap, ◌∙◌}
use mathlib.Core.Bool.{Bool, true, false, cond}
use mathlib.Core.List.{List, [], ◌∷◌, ◌++◌, map}
use Prim.Native.Nat.{ℕ, zero, suc, ◌+◌, ◌-◌, ◌/◌, ◌<◌}
use native.Mathlib.Omega.{arith}
use native.Mathlib.Nat.{div-eq_of_lt}
use lib.ListN.{length, replicate}
use lib.IntN.{ℤ, pos}
use Rattle.rules.specs.Measures.{Every, unit_lots, sum, due_of, owed_of}
use Rattle.rules.specs.Units.{AccountLots, by_account, receivers, largest_first, fulls, smalls, units, units_of_nets}
use Rattle.rules.specs.Handover.{first_unit}
use Rattle.rules.specs.Dealt.{rounds, dealt}
use Rattle.rules.specs.Lifts.{Lift, lifted}
use Rattle.rules.specs.Fails.{undelivered, shortfalls, fails}
use Rattle.rules.specs.Book.{row, lifts_at, units_by, order_in}
use Rattle.rules.specs.Calls.{issue_fails}
use Rattle.laws.proofs.Basics.{each_sort}
use Rattle.markets.specs.Counts.{fails_of}
use Rattle.markets.proofs.Entries.{Below, fulls_none, small_receivers}

-- Nets below a unit are dealt as they are ranked

first_below : (us : List AccountLots) → Every (λ u. u.lots < 100000) us → (first_unit us).lots / unit_lots ≡ 0
first_below [] h = refl
first_below (u ∷ us) h = div-eq_of_lt h.0

pub small_dealt : (xs : List ℕ) → Every Below xs → dealt unit_lots xs ≡ units unit_lots xs
unfolding dealt units
small_dealt xs h =
    let rs = receivers xs in
    let s = each_sort (λ u. u.lots < 100000) rs (small_receivers 0 xs h) in
    rw (fulls_none (largest_first rs) s, first_below (largest_first rs) s) refl

either_order : (new : Bool) (ns : List ℤ) → Every Below (map due_of ns) → units_by new ns ≡ units_of_nets unit_lots ns
either_order true ns h = small_dealt (map due_of ns) h
either_order false ns h = refl

-- Accounts without a net

parts_padded : (k : ℕ) (xs : List ℕ) (j : ℕ) → by_account k (xs ++ replicate j 0) ≡ by_account k xs
parts_padded k [] zero = refl
parts_padded k [] (suc j) = parts_padded (suc k) [] j
parts_padded k (x ∷ xs) j = rw (parts_padded (suc k) xs j) refl

units_padded : (size : ℕ) (xs : List ℕ) (j : ℕ) → units size (xs ++ replicate j 0) ≡ units size xs
unfolding units
units_padded size xs j = rw (parts_padded 0 xs j) refl

sum_padded : (xs : List ℕ) (j : ℕ) → sum (xs ++ replicate j 0) ≡ sum xs
sum_padded [] zero = refl
sum_padded [] (suc j) = omega (arith, sum_padded [] j)
sum_padded (x ∷ xs) j = ap (λ n. x + n) (sum_padded xs j)

short_padded : (xs ds : List ℕ) (j : ℕ) → length xs ≡ length ds →
    undelivered (xs ++ replicate j 0) (ds ++ replicate j 0) ≡ undelivered xs ds ++ replicate j 0
short_padded [] [] zero e = refl
short_padded [] [] (suc j) e = ap (λ l. 0 ∷ l) (short_padded [] [] j refl)
short_padded [] (d ∷ ds) j e = absurd (omega arith)
short_padded (x ∷ xs) [] j e = absurd (omega arith)
short_padded (x ∷ xs) (d ∷ ds) j e = ap (λ l. (x - d) ∷ l) (short_padded xs ds j (omega arith))

dues_padded : (ns : List ℤ) (j : ℕ) → map due_of (ns ++ replicate j (pos 0)) ≡ map due_of ns ++ replicate j 0
dues_padded [] zero = refl
dues_padded [] (suc j) = ap (λ l. 0 ∷ l) (dues_padded [] j)
dues_padded (n ∷ ns) j = ap (λ l. due_of n ∷ l) (dues_padded ns j)

oweds_padded : (ns : List ℤ) (j : ℕ) → map owed_of (ns ++ replicate j (pos 0)) ≡ map owed_of ns ++ replicate j 0
oweds_padded [] zero = refl
oweds_padded [] (suc j) = ap (λ l. 0 ∷ l) (oweds_padded [] j)
oweds_padded (n ∷ ns) j = ap (λ l. owed_of n ∷ l) (oweds_padded ns j)

length_oweds : (ns : List ℤ) → length (map owed_of ns) ≡ length ns
length_oweds [] = refl
length_oweds (n ∷ ns) = ap suc (length_oweds ns)

pub fails_padded : (v : List ℤ) (ds : List ℕ) (j : ℕ) → length v ≡ length ds →
    fails_of (ds ++ replicate j 0) (v ++ replicate j (pos 0)) ≡ fails_of ds v
unfolding fails_of fails
fails_padded v ds j e =
    rw (
      dues_padded v j,
      oweds_padded v j,
      units_padded unit_lots (map due_of v) j,
      short_padded (map owed_of v) ds j (length_oweds v ∙ e),
      parts_padded 0 (undelivered (map owed_of v) ds) j,
      sum_padded ds j,
    )
    refl

small_padded : (xs : List ℕ) (j : ℕ) → Every Below xs → Every Below (xs ++ replicate j 0)
small_padded [] zero h = tt
small_padded [] (suc j) h = (omega arith, small_padded [] j tt)
small_padded (x ∷ xs) j h = (h.0, small_padded xs j h.1)

as_fails : (w : List ℤ) (cs : List ℕ) → fails unit_lots (units_of_nets unit_lots w) (map owed_of w) cs ≡ fails_of cs w
unfolding fails_of
as_fails w cs = refl

-- an issue of the book with a market's nets and delivered lots, all other accounts without a net, and no lift
pub book_fails : (new : Bool) (nets : List ℤ) (delivered lifts : List ℕ) (i : ℕ) (v : List ℤ) (ds : List ℕ) (j : ℕ) →
    row i nets ≡ v ++ replicate j (pos 0) → row i delivered ≡ ds ++ replicate j 0 → length v ≡ length ds →
    lifts_at lifts i ≡ [] → Every Below (map due_of v) →
    issue_fails (order_in new nets lifts) nets delivered i ≡ fails_of ds v
unfolding issue_fails order_in
book_fails new nets delivered lifts i v ds j en ed l z h =
    let w = v ++ replicate j (pos 0) in
    let b : Every Below (map due_of w) = rw (dues_padded v j) (small_padded (map due_of v) j h) in
    rw (en, ed, z, either_order new w b) (as_fails w (ds ++ replicate j 0)) ∙ fails_padded v ds j l
