-- What a delivered total covers of a list of units, whatever their order. Each law goes along the list:
-- a unit that the total covers is taken off both, and the first that it does not cover ends the matter.
use mathlib.Core.Path.{◌≡◌, refl, sym, ap, ◌∙◌}
use mathlib.Core.List.{List, [], ◌∷◌, ◌++◌}
use Prim.Native.Nat.{ℕ, suc, ◌+◌, ◌-◌, ◌≤◌, ◌<◌, min}
use native.Mathlib.Omega.{arith}
use native.Mathlib.Nat.{sub-zero, zero-add, add-zero}
use lib.Dec.{leb, lit<}
use lib.ListN.{length, take, drop, length-drop, take-append-drop}
use lib.Seq.{take-add, drop-drop, length-take-le}
use borrow.Author.Tests.{leb-true, leb-false, le-leb}
use Rattle.rules.specs.Measures.{total, sum, unit_lots}
use Rattle.rules.specs.Units.{AccountLots, account_lots, sum_lots}
use Rattle.rules.specs.Handover.{covered, stock, handed, waiting, handovers, first_unit, partials}
use Rattle.laws.proofs.Basics.{by_test, Every, total_append, total_put, length_put, each_map, each_take, each_drop, each_put}
use Rattle.laws.proofs.Units.{UnitSized, Order}

-- A total

-- nothing is lost: what is handed and the stock are the total
pub handed_stock : (us : List AccountLots) (d : ℕ) → sum_lots (handed us d) + stock us d ≡ d
handed_stock [] d = omega arith
handed_stock (u ∷ us) d =
    by_test (leb u.lots d)
    (λ e. simp e (omega (arith, handed_stock us (d - u.lots), leb-true u.lots d e)))
    (λ e. simp e (omega arith))

-- the units handed and those that wait are the units
pub handed_waiting : (us : List AccountLots) (d : ℕ) → handed us d ++ waiting us d ≡ us
handed_waiting us d = take-append-drop (covered us d) us

pub total_handed : (f : AccountLots → ℕ) (us : List AccountLots) (d : ℕ) → total f (handed us d) + total f (waiting us d) ≡ total f us
total_handed f us d = sym (total_append f (handed us d) (waiting us d)) ∙ ap (total f) (handed_waiting us d)

pub covered_le : (us : List AccountLots) (d : ℕ) → covered us d ≤ length us
covered_le [] d = omega arith
covered_le (u ∷ us) d = by_test (leb u.lots d) (λ e. simp e (omega (arith, covered_le us (d - u.lots)))) (λ e. simp e (omega arith))

pub handed_length : (us : List AccountLots) (d : ℕ) → length (handed us d) ≡ covered us d
handed_length us d = length-take-le (covered us d) us (covered_le us d)

-- while the total is short of all units, the stock is below the next unit
pub stock_below : (us : List AccountLots) (d : ℕ) → d < sum_lots us → stock us d < (first_unit (waiting us d)).lots
stock_below [] d h = omega arith
stock_below (u ∷ us) d h =
    by_test (leb u.lots d)
    (λ e. simp e (stock_below us (d - u.lots) (omega (arith, leb-true u.lots d e))))
    (λ e. simp e (leb-false u.lots d e))

-- and where none is left it is 0
pub stock_next : (us : List AccountLots) (d : ℕ) → d ≤ sum_lots us → stock us d ≤ (first_unit (waiting us d)).lots - 1
stock_next [] d h = omega arith
stock_next (u ∷ us) d h =
    by_test (leb u.lots d)
    (λ e. simp e (stock_next us (d - u.lots) (omega (arith, leb-true u.lots d e))))
    (λ e. simp e (omega (arith, leb-false u.lots d e)))

-- a total short of all units leaves one waiting
pub covered_short : (us : List AccountLots) (d : ℕ) → d < sum_lots us → covered us d < length us
covered_short [] d h = absurd (omega arith)
covered_short (u ∷ us) d h =
    by_test (leb u.lots d)
    (λ e. simp e (omega (arith, covered_short us (d - u.lots) (omega (arith, leb-true u.lots d e)))))
    (λ e. simp e (omega arith))

-- where units are at most m, m > 0, and the total at most their sum, the stock is below m
pub stock_bound : (m : ℕ) (us : List AccountLots) (d : ℕ) → 0 < m → Every (λ u. u.lots ≤ m) us → d ≤ sum_lots us → stock us d < m
stock_bound m [] d p ps h = omega arith
stock_bound m (u ∷ us) d p ps h =
    by_test (leb u.lots d)
    (λ e. simp e (stock_bound m us (d - u.lots) p ps.1 (omega (arith, leb-true u.lots d e))))
    (λ e. simp e (omega (arith, leb-false u.lots d e, ps.0)))

-- of an order: at most 99,999
pub order_stock : (dues : List ℕ) (us : List AccountLots) (d : ℕ) → Order dues us → d ≤ sum dues → stock us d ≤ 99999
order_stock dues us d o h =
    omega (
      arith,
      stock_bound unit_lots us d (lit< tt) (each_map UnitSized (λ u. u.lots ≤ unit_lots) (λ u p. p.1) us o.sized)
          (omega (arith, o.whole)),
    )

-- More lots

-- x more lots go on from what waits and from the stock
pub covered_more : (us : List AccountLots) (d x : ℕ) → covered us (d + x) ≡ covered us d + covered (waiting us d) (stock us d + x)
covered_more [] d x = refl
covered_more (u ∷ us) d x =
    by_test (leb u.lots d)
    (λ e.
    let le = leb-true u.lots d e in
    let eq : d + x - u.lots ≡ d - u.lots + x = omega arith in
    simp (e, le-leb u.lots (d + x) (omega arith), eq) (omega (arith, covered_more us (d - u.lots) x)))
    (λ e. simp (e, zero-add))

pub stock_more : (us : List AccountLots) (d x : ℕ) → stock us (d + x) ≡ stock (waiting us d) (stock us d + x)
stock_more [] d x = refl
stock_more (u ∷ us) d x =
    by_test (leb u.lots d)
    (λ e.
    let le = leb-true u.lots d e in
    let eq : d + x - u.lots ≡ d - u.lots + x = omega arith in
    simp (e, le-leb u.lots (d + x) (omega arith), eq) (stock_more us (d - u.lots) x))
    (λ e. simp e)

-- a larger total covers at least as many
pub covered_grows : (us : List AccountLots) (d x : ℕ) → covered us d ≤ covered us (d + x)
covered_grows us d x = omega (arith, covered_more us d x)

-- what is handed stays handed: more lots only add units behind
pub handed_extends : (us : List AccountLots) (d x : ℕ) → handed us (d + x) ≡ handed us d ++ handovers us d x
unfolding handovers
handed_extends us d x =
    let h = covered_grows us d x in
    let e : covered us (d + x) ≡ covered us d + (covered us (d + x) - covered us d) = omega arith in
    ap (λ n. take n us) e ∙ take-add (covered us d) (covered us (d + x) - covered us d) us

-- a delivery hands over what the stock and its lots cover of the units that wait
pub handovers_handed : (us : List AccountLots) (d x : ℕ) → handovers us d x ≡ handed (waiting us d) (stock us d + x)
unfolding handovers
handovers_handed us d x =
    let e : covered us (d + x) - covered us d ≡ covered (waiting us d) (stock us d + x) = omega (arith, covered_more us d x) in
    rw e

-- what x and then y more lots hand over is what x + y hand over
pub handovers_more : (us : List AccountLots) (d x y : ℕ) → handovers us d x ++ handovers us (d + x) y ≡ handovers us d (x + y)
unfolding handovers
handovers_more us d x y =
    let c = covered us d in
    let c₁ = covered us (d + x) in
    let c₂ = covered us (d + x + y) in
    let p : d + (x + y) ≡ d + x + y = omega arith in
    let q : c₂ - c ≡ c₁ - c + (c₂ - c₁) = omega (arith, covered_grows us d x, covered_grows us (d + x) y) in
    let r : c + (c₁ - c) ≡ c₁ = omega (arith, covered_grows us d x) in
    sym
    (
    ap (λ n. take (covered us n - c) (drop c us)) p
    ∙ ap (λ n. take n (drop c us)) q
    ∙ take-add (c₁ - c) (c₂ - c₁) (drop c us)
    ∙ ap (λ l. take (c₁ - c) (drop c us) ++ take (c₂ - c₁) l) (drop-drop (c₁ - c) c us ∙ ap (λ n. drop n us) r)
    )

pub handovers_length : (us : List AccountLots) (d x : ℕ) → length (handovers us d x) ≡ covered us (d + x) - covered us d
unfolding handovers
handovers_length us d x =
    length-take-le (covered us (d + x) - covered us d) (waiting us d)
    (omega (arith, length-drop (covered us d) us, covered_le us (d + x)))

pub handovers_sum : (us : List AccountLots) (d x : ℕ) → sum_lots (handovers us d x) + stock us (d + x) ≡ stock us d + x
handovers_sum us d x = rw (handovers_handed us d x, stock_more us d x) (handed_stock (waiting us d) (stock us d + x))

-- what each unit has, each unit handed over has
pub each_handovers : (P : AccountLots → Type 0) (us : List AccountLots) (d x : ℕ) → Every P us → Every P (handovers us d x)
unfolding handovers
each_handovers P us d x ps =
    each_take P (covered us (d + x) - covered us d) (waiting us d) (each_drop P (covered us d) us ps)

-- A list and more

pub covered_past : (us vs : List AccountLots) (d : ℕ) → sum_lots us ≤ d → covered (us ++ vs) d ≡ length us + covered vs (d - sum_lots us)
covered_past [] vs d h = rw sub-zero (sym (zero-add (covered vs d)))
covered_past (u ∷ us) vs d h =
    let e : d - u.lots - sum_lots us ≡ d - (u.lots + sum_lots us) = omega arith in
    rw (le-leb u.lots d (omega arith), covered_past us vs (d - u.lots) (omega arith), e) (omega arith)

-- while a unit waits, the total is short of all units
pub waits_short : (us : List AccountLots) (d : ℕ) → covered us d < length us → d < sum_lots us
waits_short [] d h = absurd (omega arith)
waits_short (u ∷ us) d h =
    by_test (leb u.lots d)
    (λ e. let k = leb-true u.lots d e in omega (arith, waits_short us (d - u.lots) (let q = simp e at h in omega arith)))
    (λ e. omega (arith, leb-false u.lots d e))

pub stock_past : (us vs : List AccountLots) (d : ℕ) → sum_lots us ≤ d → stock (us ++ vs) d ≡ stock vs (d - sum_lots us)
stock_past [] vs d h = rw sub-zero
stock_past (u ∷ us) vs d h =
    let e : d - u.lots - sum_lots us ≡ d - (u.lots + sum_lots us) = omega arith in
    rw (le-leb u.lots d (omega arith), stock_past us vs (d - u.lots) (omega arith), e)

pub covered_within : (us vs : List AccountLots) (d : ℕ) → d < sum_lots us → covered (us ++ vs) d ≡ covered us d
covered_within [] vs d h = absurd (omega arith)
covered_within (u ∷ us) vs d h =
    by_test (leb u.lots d)
    (λ e. simp e (ap suc (covered_within us vs (d - u.lots) (omega (arith, leb-true u.lots d e)))))
    (λ e. simp e)

pub stock_within : (us vs : List AccountLots) (d : ℕ) → d < sum_lots us → stock (us ++ vs) d ≡ stock us d
stock_within [] vs d h = absurd (omega arith)
stock_within (u ∷ us) vs d h =
    by_test (leb u.lots d)
    (λ e. simp e (stock_within us vs (d - u.lots) (omega (arith, leb-true u.lots d e))))
    (λ e. simp e)

-- The stock to the next unit at the cutoff

pub partials_length : (us : List AccountLots) (d : ℕ) → length (partials us d) ≡ min 1 (stock us d)
unfolding partials
partials_length us d = omega (arith, length_put (first_unit (waiting us d)).account (stock us d) [])

pub total_partials : (f : AccountLots → ℕ) (us : List AccountLots) (d : ℕ) → ((a : ℕ) → f (account_lots a 0) ≡ 0) →
    total f (partials us d) ≡ f (account_lots (first_unit (waiting us d)).account (stock us d))
unfolding partials
total_partials f us d z =
    let a = (first_unit (waiting us d)).account in
    total_put f a (stock us d) [] (z a) ∙ add-zero (f (account_lots a (stock us d)))

pub each_partials : (P : AccountLots → Type 0) (us : List AccountLots) (d : ℕ) →
    (0 < stock us d → P (account_lots (first_unit (waiting us d)).account (stock us d))) → Every P (partials us d)
unfolding partials
each_partials P us d p = each_put P (first_unit (waiting us d)).account (stock us d) [] p tt
