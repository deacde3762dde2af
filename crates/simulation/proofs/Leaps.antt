-- Rounds that repeat: where a round leaves the inventories as they were, and its deliveries fit k times more into what is
-- still owed and into the run of units that they hand over, k more rounds do the same again.
use mathlib.Core.Path.{◌≡◌, refl, sym, ap, subst, ◌∙◌}
use mathlib.Core.Bool.{false}
use mathlib.Core.List.{List, [], ◌∷◌, ◌++◌}
use Prim.Native.Nat.{ℕ, zero, suc, ◌+◌, ◌-◌, ◌*◌, ◌/◌, ◌%◌, ◌≤◌, ◌<◌, min}
use native.Mathlib.Omega.{arith}
use native.Mathlib.Nat.{zero-add, add-zero, mul-zero, one-mul, mul-le-mul_right, mul_assoc, mul-add, sub-add-eq, div-add-mod', suc-add, suc-mul, sub-zero, suc-sub-suc, div-eq_of_lt, div-eq-sub-div, div-lt_iff_lt-mul, le-div_iff_mul-le, div-mul-le_self, add-mul-div_right}
use lib.Dec.{eqb, leb}
use lib.ListN.{length, get_or, set, take, drop, replicate}
use lib.Seq.{get_or-set_same, get_or-set_other, drop-append-add}
use borrow.Author.Tests.{eqb-true, eqb-false, ne_eqb, leb-true, leb-false, le-leb}
use Rattle.rules.specs.Measures.{sum, owed_of}
use Rattle.rules.specs.Units.{AccountLots, account_lots, sum_lots, units}
use Rattle.rules.specs.Handover.{covered, waiting, handovers}
use Rattle.rules.specs.Book.{cell, row, net_at, delivered_at, delivered_total}
use Rattle.laws.proofs.Basics.{by_test}
use Rattle.laws.proofs.Handover.{covered_past}
use Rattle.laws.proofs.Cells.{length_row, row_other, delivered_rises}
use Rattle.desks.specs.Desk.{Plan, Desk, desk, units_at, Ended, ended, one_round_more, inventory_at, with_inventory, settlement_of, still_owed, amount, joined, delivers, turn, turns_from, round, rounds_of}
use Rattle.simulation.specs.Repeated.{later, Again, plus_times}
use Rattle.simulation.proofs.Stops.{amount_le, Whole, goes_turn, turn_none, turn_some}

-- Units of one size in a row

abbrev same : ℕ → ℕ → AccountLots
same a u = account_lots a u

-- of z lots short of all of them, as many are covered as go whole into z
pub covered_same : (n a u z : ℕ) (vs : List AccountLots) → 0 < u → z < n * u → covered (replicate n (same a u) ++ vs) z ≡ z / u
covered_same zero a u z vs p h = absurd (omega arith)
covered_same (suc n) a u z vs p h =
    by_test (leb u z)
    (λ e.
    let le = leb-true u z e in
    let q : z / u ≡ suc ((z - u) / u) = omega (arith, div-eq-sub-div p le) in
    let k : z - u < n * u = omega (arith, suc-mul n u) in
    simp e (ap suc (covered_same n a u (z - u) vs p k) ∙ sym q))
    (λ e. simp e (sym (div-eq_of_lt (leb-false u z e))))

-- a total of at least all lots covers every unit
pub covered_whole : (us : List AccountLots) (d : ℕ) → sum_lots us ≤ d → covered us d ≡ length us
covered_whole [] d h = refl
covered_whole (u ∷ us) d h = simp (le-leb u.lots d (omega arith)) (ap suc (covered_whole us (d - u.lots) (omega arith)))

pub div_grows : (z w u : ℕ) → 0 < u → z ≤ w → z / u ≤ w / u
div_grows z w u p h = (le-div_iff_mul-le p).1 (omega (arith, div-mul-le_self z u))

pub take_same {ℓ} : {A : Type ℓ} (x : A) (vs : List A) (n m : ℕ) → m ≤ n → take m (replicate n x ++ vs) ≡ replicate m x
take_same x vs n zero h = refl
take_same x vs zero (suc m) h = absurd (omega arith)
take_same x vs (suc n) (suc m) h = ap (λ l. x ∷ l) (take_same x vs n m (omega arith))

drop_same {ℓ} : {A : Type ℓ} (x : A) (vs : List A) (n c : ℕ) → c ≤ n → drop c (replicate n x ++ vs) ≡ replicate (n - c) x ++ vs
drop_same x vs n zero h = ap (λ k. replicate k x ++ vs) (sym (sub-zero n))
drop_same x vs zero (suc c) h = absurd (omega arith)
drop_same x vs (suc n) (suc c) h = drop_same x vs n c (omega arith) ∙ ap (λ k. replicate k x ++ vs) (sym (suc-sub-suc n c))

-- a run of n units of one account and size, behind some units, in which so many lots begin and end
pub record InRun (us : List AccountLots) (u d e : ℕ) : Type 0 where
  pub front : List AccountLots
  pub account : ℕ
  pub number : ℕ
  pub behind : List AccountLots
  pub whole : us ≡ front ++ (replicate number (same account u) ++ behind)
  pub begins : sum_lots front ≤ d
  pub ends : e < sum_lots front + number * u

-- y more lots hand over so many of them
handovers_run : (us : List AccountLots) (u d e y : ℕ) → 0 < u → (r : InRun us u d e) → d + y ≤ e →
    handovers us d y ≡ replicate ((d + y - sum_lots r.front) / u - (d - sum_lots r.front) / u) (same r.account u)
unfolding handovers
handovers_run us u d e y p r h =
    let f = r.front in
    let x = same r.account u in
    let n = r.number in
    let z = d - sum_lots f in
    let w = d + y - sum_lots f in
    let rest = replicate n x ++ r.behind in
    let lt : w < n * u = omega (arith, r.ends, r.begins) in
    let c₀ : covered us d ≡ length f + z / u =
    ap (λ l. covered l d) r.whole ∙ covered_past f rest d r.begins ∙ ap (λ k. length f + k) (covered_same n r.account u z r.behind p (omega (arith, lt, r.begins))) in
    let c₁ : covered us (d + y) ≡ length f + w / u =
    ap (λ l. covered l (d + y)) r.whole ∙ covered_past f rest (d + y) (omega (arith, r.begins)) ∙ ap (λ k. length f + k) (covered_same n r.account u w r.behind p lt) in
    let m : covered us (d + y) - covered us d ≡ w / u - z / u = omega (arith, c₀, c₁) in
    let b : w / u < n = (div-lt_iff_lt-mul p).1 lt in
    let a : z / u ≤ w / u = div_grows z w u p (omega (arith, r.begins)) in
    let t : waiting us d ≡ replicate (n - z / u) x ++ r.behind =
    ap (λ k. drop k us) c₀ ∙ ap (λ l. drop (length f + z / u) l) r.whole ∙ drop-append-add f rest (z / u) ∙ drop_same x r.behind n (z / u) (omega arith) in
    ap (λ k. take k (waiting us d)) m ∙ ap (take (w / u - z / u)) t ∙ take_same x r.behind (n - z / u) (w / u - z / u) (omega arith)

-- and j times so many lots later the same: those are whole units
again_sum : (j q u : ℕ) → j * (q * u) ≡ j * q * u
again_sum j q u = sym (mul_assoc j q u)

again_div : (z j q u : ℕ) → 0 < u → (z + j * (q * u)) / u ≡ z / u + j * q
again_div z j q u p = ap (λ n. (z + n) / u) (again_sum j q u) ∙ add-mul-div_right z (j * q) p

pub again_run : (us : List AccountLots) (u lo hi each j : ℕ) → 0 < u → each % u ≡ 0 → InRun us u lo (hi + j * each) → Again us lo hi each j
again_run us u lo hi each j p m r d y l h =
    let f = sum_lots r.front in
    let q = each / u in
    let e : each ≡ q * u = omega (arith, div-add-mod' each u, m) in
    let je : j * each ≡ j * (q * u) = ap (λ n. j * n) e in
    let r₀ : InRun us u d (hi + j * each) = record { front = r.front; account = r.account; number = r.number; behind = r.behind; whole = r.whole; begins = omega (arith, r.begins); ends = r.ends } in
    let r₁ : InRun us u (d + j * each) (hi + j * each) = record { front = r.front; account = r.account; number = r.number; behind = r.behind; whole = r.whole; begins = omega (arith, r.begins); ends = r.ends } in
    let s₁ : d + j * each + y - f ≡ d + y - f + j * (q * u) = omega (arith, je, r.begins) in
    let s₀ : d + j * each - f ≡ d - f + j * (q * u) = omega (arith, je, r.begins) in
    let k : (d + j * each + y - f) / u - (d + j * each - f) / u ≡ (d + y - f) / u - (d - f) / u =
    omega (arith, ap (λ n. n / u) s₁ ∙ again_div (d + y - f) j q u p, ap (λ n. n / u) s₀ ∙ again_div (d - f) j q u p) in
    handovers_run us u (d + j * each) (hi + j * each) y p r₁ (omega arith)
    ∙ ap (λ n. replicate n (same r.account u)) k
    ∙ sym (handovers_run us u d (hi + j * each) y p r₀ (omega arith))

pub again_none : (us : List AccountLots) (lo hi each j : ℕ) → each ≡ 0 → Again us lo hi each j
again_none us lo hi each j e d y l h =
    let z : d + j * each ≡ d = ap (λ n. d + j * n) e ∙ ap (λ n. d + n) (mul-zero j) ∙ add-zero d in
    ap (λ n. handovers us n y) z

-- Columns with j times another added

plus_nothing : (j : ℕ) (xs : List ℕ) → plus_times j xs [] ≡ []
plus_nothing j [] = refl
plus_nothing j (x ∷ xs) = refl

pub length_plus : (j : ℕ) (xs ds : List ℕ) → length (plus_times j xs ds) ≡ length ds
length_plus j [] ds = refl
length_plus j (x ∷ xs) [] = refl
length_plus j (x ∷ xs) (d ∷ ds) = ap suc (length_plus j xs ds)

pub get_or_plus : (j : ℕ) (xs ds : List ℕ) (c : ℕ) → c < length ds → get_or (plus_times j xs ds) c 0 ≡ get_or ds c 0 + j * get_or xs c 0
get_or_plus j [] ds c h = sym (ap (λ n. get_or ds c 0 + n) (mul-zero j) ∙ add-zero (get_or ds c 0))
get_or_plus j (x ∷ xs) [] c h = absurd (omega arith)
get_or_plus j (x ∷ xs) (d ∷ ds) zero h = refl
get_or_plus j (x ∷ xs) (d ∷ ds) (suc c) h = get_or_plus j xs ds c (omega arith)

set_plus : (j : ℕ) (xs ds : List ℕ) (c y : ℕ) → c < length ds →
    set (plus_times j xs ds) c (get_or (plus_times j xs ds) c 0 + y) ≡ plus_times j xs (set ds c (get_or ds c 0 + y))
set_plus j [] ds c y h = refl
set_plus j (x ∷ xs) [] c y h = refl
set_plus j (x ∷ xs) (d ∷ ds) zero y h =
    let e : d + j * x + y ≡ d + y + j * x = omega arith in
    ap (λ n. n ∷ plus_times j xs ds) e
set_plus j (x ∷ xs) (d ∷ ds) (suc c) y h = ap (λ l. (d + j * x) ∷ l) (set_plus j xs ds c y (omega arith))

drop_plus : (j n : ℕ) (xs ds : List ℕ) → drop n (plus_times j xs ds) ≡ plus_times j (drop n xs) (drop n ds)
drop_plus j zero xs ds = refl
drop_plus j (suc n) [] ds = refl
drop_plus j (suc n) (x ∷ xs) [] = sym (plus_nothing j (drop n xs))
drop_plus j (suc n) (x ∷ xs) (d ∷ ds) = drop_plus j n xs ds

take_plus : (j n : ℕ) (xs ds : List ℕ) → take n (plus_times j xs ds) ≡ plus_times j (take n xs) (take n ds)
take_plus j zero xs ds = refl
take_plus j (suc n) [] ds = refl
take_plus j (suc n) (x ∷ xs) [] = refl
take_plus j (suc n) (x ∷ xs) (d ∷ ds) = ap (λ l. (d + j * x) ∷ l) (take_plus j n xs ds)

sum_plus : (j : ℕ) (xs ds : List ℕ) → length xs ≡ length ds → sum (plus_times j xs ds) ≡ sum ds + j * sum xs
sum_plus j [] ds h = sym (ap (λ n. sum ds + n) (mul-zero j) ∙ add-zero (sum ds))
sum_plus j (x ∷ xs) [] h = absurd (omega arith)
sum_plus j (x ∷ xs) (d ∷ ds) h = omega (arith, sum_plus j xs ds (omega arith), mul-add j x (sum xs))

pub total_plus : (j i : ℕ) (xs ds : List ℕ) → length xs ≡ 1024 → length ds ≡ 1024 → i < 16 →
    delivered_total (plus_times j xs ds) i ≡ delivered_total ds i + j * delivered_total xs i
total_plus j i xs ds h k hi =
    ap (λ l. sum (take 64 l)) (drop_plus j (i * 64) xs ds)
    ∙ ap sum (take_plus j 64 (drop (i * 64) xs) (drop (i * 64) ds))
    ∙ sum_plus j (row i xs) (row i ds) (length_row xs i h hi ∙ sym (length_row ds i k hi))

-- A desk j such rounds later: xs has what a round delivers, c how many deliveries it makes
abbrev pub shift : ℕ → List ℕ → ℕ → Desk → Desk
shift j xs c s = desk (plus_times j xs s.delivered) s.inventories (s.made + j * c)

pub desk_same : {d₁ d₂ v₁ v₂ : List ℕ} {m₁ m₂ : ℕ} → d₁ ≡ d₂ → v₁ ≡ v₂ → m₁ ≡ m₂ → desk d₁ v₁ m₁ ≡ desk d₂ v₂ m₂
desk_same {d₂ = d₂} {v₁ = v₁} {v₂ = v₂} {m₁ = m₁} a b c = ap (λ d. desk d v₁ m₁) a ∙ ap (λ v. desk d₂ v m₁) b ∙ ap (λ m. desk d₂ v₂ m) c

still_min : (v o y jy : ℕ) → y ≡ min v o → jy + y ≤ o → min v (o - jy) ≡ y
still_min v o y jy e h = omega arith

-- it delivers the same
amount_again : (p : Plan) (a i j : ℕ) (xs : List ℕ) (c : ℕ) (s : Desk) → Whole s → a < 64 → i < 16 →
    get_or xs (cell i a) 0 ≡ amount p s a i → j * amount p s a i + amount p s a i ≤ still_owed p s a i →
    amount p (shift j xs c s) a i ≡ amount p s a i
unfolding amount
amount_again p a i j xs c s w ha hi e h =
    let v = inventory_at s.inventories i (settlement_of p a) in
    let o = owed_of (net_at p.nets i a) in
    let d = delivered_at s.delivered i a in
    let y = min v (o - d) in
    let q : o - delivered_at (plus_times j xs s.delivered) i a ≡ o - d - j * y =
    ap (λ n. o - n) (get_or_plus j xs s.delivered (cell i a) (omega arith) ∙ ap (λ n. d + j * n) e) ∙ sub-add-eq o d (j * y) in
    ap (λ n. min v n) q ∙ still_min v (o - d) y (j * y) refl h

delivers_again : (p : Plan) (a i j : ℕ) (xs : List ℕ) (c : ℕ) (s : Desk) (y : ℕ) → Whole s → length xs ≡ 1024 → a < 64 → i < 16 →
    handovers (units_at p i) (delivered_total s.delivered i + j * delivered_total xs i) y ≡ handovers (units_at p i) (delivered_total s.delivered i) y →
    delivers p (shift j xs c s) a i y ≡ shift j xs c (delivers p s a i y)
unfolding delivers
delivers_again p a i j xs c s y w l ha hi h =
    let k = settlement_of p a in
    let v = with_inventory s.inventories i k (inventory_at s.inventories i k - y) in
    desk_same (set_plus j xs s.delivered (cell i a) y (omega arith))
    (ap (λ us. joined p i us v) (ap (λ d. handovers (units_at p i) d y) (total_plus j i xs s.delivered l w hi) ∙ h))
    (sym (suc-add s.made (j * c)))

pub turn_again : (p : Plan) (a i j : ℕ) (xs : List ℕ) (c : ℕ) (s : Desk) → Whole s → length xs ≡ 1024 → a < 64 → i < 16 →
    get_or xs (cell i a) 0 ≡ amount p s a i → j * amount p s a i + amount p s a i ≤ still_owed p s a i →
    handovers (units_at p i) (delivered_total s.delivered i + j * delivered_total xs i) (amount p s a i) ≡ handovers (units_at p i) (delivered_total s.delivered i) (amount p s a i) →
    turn p a i (shift j xs c s) ≡ shift j xs c (turn p a i s)
turn_again p a i j xs c s w l ha hi e h g =
    let q = amount_again p a i j xs c s w ha hi e h in
    by_test (eqb (amount p s a i) 0)
    (λ t.
    let z = eqb-true (amount p s a i) 0 t in
    turn_none p a i (shift j xs c s) (q ∙ z) ∙ sym (ap (shift j xs c) (turn_none p a i s z)))
    (λ t.
    turn_some p a i (shift j xs c s) (ap (λ n. eqb n 0) q ∙ t)
    ∙ ap (λ y. delivers p (shift j xs c s) a i y) q
    ∙ delivers_again p a i j xs c s (amount p s a i) w l ha hi g
    ∙ sym (ap (shift j xs c) (turn_some p a i s t)))

-- What a turn does to delivered lots: its own cell rises by the amount
pub set_self : (l : List ℕ) (c : ℕ) → set l c (get_or l c 0 + 0) ≡ l
set_self [] c = refl
set_self (x ∷ xs) zero = ap (λ n. n ∷ xs) (add-zero x)
set_self (x ∷ xs) (suc c) = ap (λ l. x ∷ l) (set_self xs c)

delivers_column : (p : Plan) (a i : ℕ) (s : Desk) (y : ℕ) →
    (delivers p s a i y).delivered ≡ set s.delivered (cell i a) (delivered_at s.delivered i a + y)
unfolding delivers
delivers_column p a i s y = refl

pub turn_column : (p : Plan) (a i : ℕ) (s : Desk) →
    (turn p a i s).delivered ≡ set s.delivered (cell i a) (delivered_at s.delivered i a + amount p s a i)
turn_column p a i s =
    by_test (eqb (amount p s a i) 0)
    (λ t.
    let z = eqb-true (amount p s a i) 0 t in
    ap (λ d. d.delivered) (turn_none p a i s z)
    ∙ sym (ap (λ n. set s.delivered (cell i a) (delivered_at s.delivered i a + n)) z ∙ set_self s.delivered (cell i a)))
    (λ t. ap (λ d. d.delivered) (turn_some p a i s t) ∙ delivers_column p a i s (amount p s a i))

-- the cell of turn k
abbrev pub place : ℕ → ℕ
place k = cell (k % 16) (k / 16)

place_apart : (k t : ℕ) → k < 1024 → t < 1024 → place k ≡ place t → k ≡ t
place_apart k t hk ht e = omega arith

abbrev pub turn_at : Plan → ℕ → Desk → Desk
turn_at p t s = turn p (t / 16) (t % 16) s

abbrev amount_at : Plan → ℕ → Desk → ℕ
amount_at p t s = amount p s (t / 16) (t % 16)

pub turn_own : (p : Plan) (t : ℕ) (s : Desk) → Whole s → t < 1024 →
    get_or (turn_at p t s).delivered (place t) 0 ≡ get_or s.delivered (place t) 0 + amount_at p t s
turn_own p t s w h =
    ap (λ l. get_or l (place t) 0) (turn_column p (t / 16) (t % 16) s)
    ∙ get_or-set_same s.delivered (place t) (get_or s.delivered (place t) 0 + amount_at p t s) 0 (omega arith)

pub turn_other : (p : Plan) (t k : ℕ) (s : Desk) → t < 1024 → k < 1024 → (k ≡ t → ⊥) →
    get_or (turn_at p t s).delivered (place k) 0 ≡ get_or s.delivered (place k) 0
turn_other p t k s ht hk ne =
    ap (λ l. get_or l (place k) 0) (turn_column p (t / 16) (t % 16) s)
    ∙ get_or-set_other s.delivered (place t) (place k) (get_or s.delivered (place t) 0 + amount_at p t s) 0 (λ e. ne (place_apart k t hk ht e))

-- turns behind k leave its cell
pub turns_past : (p : Plan) (k t n : ℕ) (s : Desk) → k < t → t + n ≤ 1024 →
    get_or (turns_from p t n s).delivered (place k) 0 ≡ get_or s.delivered (place k) 0
turns_past p k t zero s h q = refl
turns_past p k t (suc n) s h q =
    turns_past p k (suc t) n (turn_at p t s) (omega arith) (omega arith)
    ∙ turn_other p t k s (omega arith) (omega arith) (λ e. absurd (omega arith))

-- an issue's total rises by the amount, and another's stays
turn_total : (p : Plan) (a i : ℕ) (s : Desk) → Whole s → a < 64 → i < 16 →
    delivered_total (turn p a i s).delivered i ≡ delivered_total s.delivered i + amount p s a i
turn_total p a i s w ha hi =
    ap (λ l. delivered_total l i) (turn_column p a i s) ∙ delivered_rises s.delivered i a (amount p s a i) w hi ha

turn_total_le : (p : Plan) (a i j : ℕ) (s : Desk) → Whole s → a < 64 → i < 16 →
    delivered_total s.delivered j ≤ delivered_total (turn p a i s).delivered j
turn_total_le p a i j s w ha hi =
    by_test (eqb j i)
    (λ e.
    let q = eqb-true j i e in
    let r = turn_total p a i s w ha hi in
    omega (arith, ap (delivered_total s.delivered) q, ap (delivered_total (turn p a i s).delivered) q, r))
    (λ e.
    let r : delivered_total (turn p a i s).delivered j ≡ delivered_total s.delivered j =
    ap (λ l. delivered_total l j) (turn_column p a i s)
    ∙ ap sum (row_other s.delivered i a j (delivered_at s.delivered i a + amount p s a i) ha (eqb-false j i e)) in
    omega (arith, r))

turns_total_le : (p : Plan) (j t n : ℕ) (s : Desk) → Whole s → t + n ≤ 1024 →
    delivered_total s.delivered j ≤ delivered_total (turns_from p t n s).delivered j
turns_total_le p j t zero s w h = omega arith
turns_total_le p j t (suc n) s w h =
    let g = goes_turn p (t / 16) (t % 16) s w (omega arith) (omega arith) in
    omega (
      arith,
      turn_total_le p (t / 16) (t % 16) j s w (omega arith) (omega arith),
      turns_total_le p j (suc t) n (turn_at p t s) g.whole (omega arith),
    )

-- The turns of a round that is made again
pub record Again-from (p : Plan) (j : ℕ) (xs : List ℕ) (lo : ℕ → ℕ) (t n : ℕ) (s : Desk) : Type 0 where
  -- xs has what each turn delivers
  pub each : (k : ℕ) → t ≤ k → k < t + n → get_or (turns_from p t n s).delivered (place k) 0 ≡ get_or s.delivered (place k) 0 + get_or xs (place k) 0
  -- j times so much is still owed after them
  pub room : (k : ℕ) → t ≤ k → k < t + n → j * get_or xs (place k) 0 ≤ still_owed p (turns_from p t n s) (k / 16) (k % 16)
  pub from : (i : ℕ) → i < 16 → lo i ≤ delivered_total s.delivered i
  pub units : (i : ℕ) → i < 16 → Again (units_at p i) (lo i) (delivered_total (turns_from p t n s).delivered i) (delivered_total xs i) j

turn_amount : (p : Plan) (j : ℕ) (xs : List ℕ) (lo : ℕ → ℕ) (t n : ℕ) (s : Desk) → Whole s → t + suc n ≤ 1024 → Again-from p j xs lo t (suc n) s →
    get_or xs (place t) 0 ≡ amount_at p t s
turn_amount p j xs lo t n s w h g =
    let q = turns_past p t (suc t) n (turn_at p t s) (omega arith) (omega arith) in
    omega (arith, g.each t (omega arith) (omega arith), q, turn_own p t s w (omega arith))

again_rest : (p : Plan) (j : ℕ) (xs : List ℕ) (lo : ℕ → ℕ) (t n : ℕ) (s : Desk) → Whole s → t + suc n ≤ 1024 → Again-from p j xs lo t (suc n) s →
    Again-from p j xs lo (suc t) n (turn_at p t s)
again_rest p j xs lo t n s w h g =
    record {
      each = λ k a b. g.each k (omega arith) (omega arith) ∙ ap (λ m. m + get_or xs (place k) 0) (sym (turn_other p t k s (omega arith) (omega arith) (λ e. absurd (omega arith))));
      room = λ k a b. g.room k (omega arith) (omega arith);
      from = λ i hi. omega (arith, g.from i hi, turn_total_le p (t / 16) (t % 16) i s w (omega arith) (omega arith));
      units = g.units;
    }

room_left : (o d e y jx jy : ℕ) → jx ≤ o - e → e ≡ d + y → y ≤ o - d → jx ≡ jy → jy + y ≤ o - d
room_left o d e y jx jy h q k r = omega arith

pub turns_again : (p : Plan) (j : ℕ) (xs : List ℕ) (c : ℕ) (lo : ℕ → ℕ) (t n : ℕ) (s : Desk) → Whole s → length xs ≡ 1024 → t + n ≤ 1024 →
    Again-from p j xs lo t n s → turns_from p t n (shift j xs c s) ≡ shift j xs c (turns_from p t n s)
turns_again p j xs c lo t zero s w l h g = refl
turns_again p j xs c lo t (suc n) s w l h g =
    let a = t / 16 in
    let i = t % 16 in
    let ha : a < 64 = omega arith in
    let hi : i < 16 = omega arith in
    let e = turn_amount p j xs lo t n s w h g in
    let q = turns_past p t (suc t) n (turn_at p t s) (omega arith) (omega arith) in
    let own = turn_own p t s w (omega arith) in
    let je : j * get_or xs (place t) 0 ≡ j * amount_at p t s = ap (λ m. j * m) e in
    let room : j * amount_at p t s + amount_at p t s ≤ still_owed p s a i =
    room_left (owed_of (net_at p.nets i a)) (delivered_at s.delivered i a) (delivered_at (turns_from p t (suc n) s).delivered i a)
    (amount_at p t s) (j * get_or xs (place t) 0) (j * amount_at p t s) (g.room t (omega arith) (omega arith)) (q ∙ own) (amount_le p s a i) je in
    let f = goes_turn p a i s w ha hi in
    let hi-le : delivered_total s.delivered i + amount_at p t s ≤ delivered_total (turns_from p t (suc n) s).delivered i =
    omega (arith, turn_total p a i s w ha hi, turns_total_le p i (suc t) n (turn_at p t s) f.whole (omega arith)) in
    ap (turns_from p (suc t) n)
    (turn_again p a i j xs c s w l ha hi e room (g.units i hi (delivered_total s.delivered i) (amount_at p t s) (g.from i hi) hi-le))
    ∙ turns_again p j xs c lo (suc t) n (turn_at p t s) f.whole l (omega arith) (again_rest p j xs lo t n s w h g)

-- A round that is made again: it left the inventories as they were, what it delivered is j times more still owed, and its
-- units lie in a run that goes on
pub record Repeats (p : Plan) (k : ℕ) (d : Desk) : Type 0 where
  pub made : ℕ
  pub xs : List ℕ
  pub sized : length xs ≡ 1024
  pub after : round p d ≡ shift 1 xs made d
  pub some : 0 < made
  pub room : (t : ℕ) → t < 1024 → k * get_or xs (place t) 0 ≤ still_owed p (round p d) (t / 16) (t % 16)
  pub units : (i j : ℕ) → i < 16 → j ≤ k → Again (units_at p i) (delivered_total d.delivered i) (delivered_total (round p d).delivered i) (delivered_total xs i) j

plus_plus : (j : ℕ) (xs ds : List ℕ) → plus_times j xs (plus_times 1 xs ds) ≡ plus_times (suc j) xs ds
plus_plus j [] ds = refl
plus_plus j (x ∷ xs) [] = refl
plus_plus j (x ∷ xs) (d ∷ ds) =
    let e : d + 1 * x + j * x ≡ d + suc j * x = omega (arith, suc-mul j x) in
    ap (λ n. n ∷ plus_times j xs (plus_times 1 xs ds)) e ∙ ap (λ l. (d + suc j * x) ∷ l) (plus_plus j xs ds)

pub shift_shift : (j : ℕ) (xs : List ℕ) (c : ℕ) (d : Desk) → shift j xs c (shift 1 xs c d) ≡ shift (suc j) xs c d
shift_shift j xs c d =
    desk_same (plus_plus j xs d.delivered) refl (omega (arith, suc-mul j c))

pub round_is : (p : Plan) (d : Desk) → round p d ≡ turns_from p 0 1024 d
unfolding round
round_is p d = refl

pub round_again : (p : Plan) (k : ℕ) (d : Desk) → Whole d → (r : Repeats p k d) → (j : ℕ) → j ≤ k →
    round p (shift j r.xs r.made d) ≡ shift (suc j) r.xs r.made d
unfolding round
round_again p k d w r j h =
    let xs = r.xs in
    let c = r.made in
    let g : Again-from p j xs (delivered_total d.delivered) 0 1024 d =
    record {
      each = λ t a b.
          ap (λ e. get_or e.delivered (place t) 0) (round_is p d)
          ∙ ap (λ e. get_or e.delivered (place t) 0) r.after
          ∙ get_or_plus 1 xs d.delivered (place t) (omega arith)
          ∙ ap (λ m. get_or d.delivered (place t) 0 + m) (one-mul (get_or xs (place t) 0));
      room = λ t a b.
          subst (λ e. j * get_or xs (place t) 0 ≤ still_owed p e (t / 16) (t % 16)) (sym (round_is p d))
          (let q = mul-le-mul_right (get_or xs (place t) 0) h in let b = r.room t (omega arith) in omega (arith, q, b));
      from = λ i hi. omega arith;
      units = λ i hi.
          subst (λ e. Again (units_at p i) (delivered_total d.delivered i) (delivered_total e.delivered i) (delivered_total xs i) j) (sym (round_is p d))
          (r.units i j hi h);
    } in
    round_is p (shift j xs c d) ∙ turns_again p j xs c (delivered_total d.delivered) 0 1024 d w r.sized (omega arith) g
    ∙ ap (shift j xs c) (sym (round_is p d) ∙ r.after) ∙ shift_shift j xs c d

later_none : (e : Ended) → e ≡ later 0 e
later_none e = ap (λ n. ended e.desk n) (sym (zero-add e.rounds))

later_more : (j : ℕ) (e : Ended) → one_round_more (later j e) ≡ later (suc j) e
later_more j e = ap (λ n. ended e.desk n) (sym (suc-add j e.rounds))

pub rounds_on : (n : ℕ) (p : Plan) (d e : Desk) → round p d ≡ e → (e.made ≡ d.made → ⊥) → rounds_of (suc n) p d ≡ one_round_more (rounds_of n p e)
rounds_on n p d e q ne =
    let t : eqb (round p d).made d.made ≡ false = ap (λ f. eqb f.made d.made) q ∙ ne_eqb e.made d.made ne in
    simp t (ap (λ f. one_round_more (rounds_of n p f)) q)

rounds_again : (p : Plan) (k : ℕ) (d : Desk) → Whole d → (r : Repeats p k d) → (i j n : ℕ) → i + j ≤ k →
    rounds_of (j + n) p (shift (suc i) r.xs r.made d) ≡ later j (rounds_of n p (shift (suc (i + j)) r.xs r.made d))
rounds_again p k d w r i zero n h =
    ap (λ m. rounds_of m p (shift (suc i) r.xs r.made d)) (zero-add n)
    ∙ ap (λ m. rounds_of n p (shift (suc m) r.xs r.made d)) (sym (add-zero i))
    ∙ later_none (rounds_of n p (shift (suc (i + 0)) r.xs r.made d))
rounds_again p k d w r i (suc j) n h =
    let at : ℕ → Desk = λ m. shift m r.xs r.made d in
    let e : suc i + j ≡ i + suc j = omega arith in
    ap (λ m. rounds_of m p (at (suc i))) (suc-add j n)
    ∙ rounds_on (j + n) p (at (suc i)) (at (suc (suc i))) (round_again p k d w r (suc i) (omega arith))
    (λ q. absurd (omega (arith, r.some, suc-mul (suc i) r.made)))
    ∙ ap one_round_more (rounds_again p k d w r (suc i) j n (omega arith))
    ∙ later_more j (rounds_of n p (at (suc (suc i + j))))
    ∙ ap (λ m. later (suc j) (rounds_of n p (at (suc m)))) e

-- behind such a round, k more rounds are one leap
pub leap : (p : Plan) (k : ℕ) (d : Desk) → Whole d → (r : Repeats p k d) → (n : ℕ) →
    rounds_of (k + n) p (round p d) ≡ later k (rounds_of n p (shift k r.xs r.made (round p d)))
leap p k d w r n =
    ap (rounds_of (k + n) p) r.after
    ∙ rounds_again p k d w r 0 k n (omega arith)
    ∙ ap (λ m. later k (rounds_of n p (shift (suc m) r.xs r.made d))) (zero-add k)
    ∙ ap (λ e. later k (rounds_of n p e)) (sym (shift_shift k r.xs r.made d) ∙ ap (shift k r.xs r.made) (sym r.after))
