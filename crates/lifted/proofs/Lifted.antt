-- A lift among runs: the run of a unit is found, falls by it, and another is split where it goes. Lifts keep runs plain.
use mathlib.Core.Path.{◌≡◌, refl, sym, ap, ◌∙◌}
use mathlib.Core.Bool.{false}
use mathlib.Core.List.{List, [], ◌∷◌, ◌++◌, map, append_assoc}
use Prim.Native.Nat.{ℕ, zero, suc, ◌+◌, ◌-◌, ◌*◌, ◌/◌, ◌%◌, ◌≤◌, ◌<◌, min}
use native.Mathlib.Omega.{arith}
use native.Mathlib.Nat.{min-eq_left, min-eq_right, suc-sub-suc, sub-zero}
use lib.Dec.{leb}
use lib.ListN.{length, length-append, take, drop, get_or, set, length-set, length-drop, take-append-drop}
use lib.Seq.{take_at, take-set-le, take-set-lt, take-take, take_all, take-append_seam, take-append-le, take-append-add}
use lib.Seq.{drop-set-lt, get_or-set_same, get_or-take, get_or-drop, drop-drop, drop-append_seam, split_at, length-take-le, drop-append-le, drop-append-add}
use lib.IntN.{ℤ}
use borrow.Author.Tests.{leb-true, leb-false}
use Rattle.rules.specs.Measures.{unit_lots, total}
use Rattle.rules.specs.Units.{AccountLots, account_lots, of_account, units_of_nets}
use Rattle.rules.specs.Lifts.{Among, lift_of, to_front, lift, lifted}
use Rattle.rules.specs.Book.{row, block, dues_of, places_in, lifts_at, order_in}
use Rattle.laws.proofs.Basics.{by_test, Every, each_append, each_take, each_drop}
use Rattle.laws.proofs.Lifts.{length_lift, length_lifted}
use Rattle.laws.proofs.LiftColumn.{length_lift_words}
use Rattle.laws.proofs.SoundRows.{order_in_lem}
use Rattle.laws.proofs.RunLifts.{run_split, run_less, run_less_small}
use Rattle.runs.specs.Runs.{part_of, runs_in, units_of_run, units_in, Plain, PlainIn, RankedNets, CanOrder, Prepared}
use Rattle.handover.specs.declared.Seat.{Seat}
use Rattle.lifted.specs.Lifting.{HasUnit, UnitAt, TakenOut, PutIn, CanLiftAll, AllLifted}
use Rattle.runs.proofs.Units.{run_length}
use Rattle.runs.proofs.Loops.{runs_at_lem, dues_small}
use Rattle.runs.proofs.Numbers.{units_of, of_append, plain_less}

-- the first n runs lent as a list of their own: a unit of them is one of all runs
pub lent_unit : (runs : List ℕ) (n k : ℕ) → n ≤ length runs → k < length (units_in runs n) →
    HasUnit (take n runs) (length (take n runs)) k
unfolding units_in
lent_unit runs n k h t = record { held = omega arith; there = rw (take_all (length (take n runs)) (take n runs) (omega arith)) t }

pub lent_at : (runs : List ℕ) (n k : ℕ) (s : Seat) → n ≤ length runs → UnitAt (take n runs) (length (take n runs)) k s → UnitAt runs n k s
unfolding units_in
lent_at runs n k s h u =
    let l : s.run < n = omega (arith, u.below, length-take-le n runs h) in
    record {
      below = l;
      within = rw (get_or-take n runs s.run 0 l) at u.within;
      place = rw (take-take s.run n runs (omega arith)) at u.place;
    }

-- and given back without it, in front of the others
pub taken_front : (runs part : List ℕ) (n k r : ℕ) → n ≤ length runs → length part ≡ length (take n runs) →
    TakenOut (take n runs) part (length (take n runs)) k r → TakenOut runs (part ++ drop n runs) n k r
unfolding units_in
taken_front runs part n k r h l t =
    let L = length (take n runs) in
    let whole : take L (take n runs) ≡ take n runs = take_all L (take n runs) (omega arith) in
    let front : take n (part ++ drop n runs) ≡ take L part =
    take_at part (drop n runs) n (l ∙ length-take-le n runs h) ∙ sym (take_all L part (omega arith)) in
    record {
      rest = ap units_of front ∙ rw whole at t.rest;
      unit = rw whole at t.unit;
      plain = λ ps. rw front (t.plain (rw whole ps));
      one = t.one;
    }

-- unit m of a run as a run of its own, and the run without it
module _ (a x m : ℕ) (h : m * 100000 < x) where
  abbrev y : ℕ
  y = x - m * 100000

  run_piece : units_of_run (account_lots a (min 100000 y)) ≡ take 1 (drop m (units_of_run (account_lots a x)))
  run_piece =
      by_test (leb 100000 y)
      (λ t.
      let g = leb-true 100000 y t in
      rw (min-eq_left g, ← (run_split a x m (omega arith)).1) (run_split a y 1 (omega arith)).0)
      (λ t.
      let g : y < 100000 = leb-false 100000 y t in
      let g' : y ≤ 100000 = omega arith in
      rw (min-eq_right g', ← (run_split a x m (omega arith)).1)
      (sym (take_all 1 (units_of_run (account_lots a y)) (omega (arith, run_length (account_lots a y))))))

  run_rest_lem : units_of_run (account_lots a (x - min 100000 y)) ≡ take m (units_of_run (account_lots a x)) ++ drop (suc m) (units_of_run (account_lots a x))
  run_rest_lem =
      by_test (leb 100000 y)
      (λ t.
      let g = leb-true 100000 y t in
      rw (min-eq_left g) (run_less a x m (omega arith)))
      (λ t.
      let g : y < 100000 = leb-false 100000 y t in
      let e : x - min 100000 y ≡ m * 100000 = omega arith in
      rw e (run_less_small a x m h (omega arith)))

-- what stays of a run of full units, or of one small one
plain_out : (x m : ℕ) → m * 100000 < x → (100000 ≤ x → x % 100000 ≡ 0) →
    100000 ≤ x - min 100000 (x - m * 100000) → (x - min 100000 (x - m * 100000)) % 100000 ≡ 0
plain_out x m h p g =
    let r : x % 100000 ≡ 0 = p (omega arith) in
    let q : 100000 ≤ x - m * 100000 = omega arith in
    rw (min-eq_left q) (omega arith)

-- of words, instead of runs
abbrev PlainWord : ℕ → Type 0
PlainWord w = Plain (part_of w)

words_plain : (ws : List ℕ) → Every Plain (map part_of ws) → Every PlainWord ws
words_plain [] ps = tt
words_plain (w ∷ ws) ps = (ps.0, words_plain ws ps.1)

plain_words : (ws : List ℕ) → Every PlainWord ws → Every Plain (map part_of ws)
plain_words [] ps = tt
plain_words (w ∷ ws) ps = (ps.0, plain_words ws ps.1)

-- a place in the middle of three lists
module _ (ps us bs : List AccountLots) (m : ℕ) (h : m < length us) where
  front : take (length ps + m) (ps ++ (us ++ bs)) ≡ ps ++ take m us
  front = take-append-add ps (us ++ bs) m ∙ ap (λ l. ps ++ l) (take-append-le m us bs (omega arith))

  back : drop (length ps + m) (ps ++ (us ++ bs)) ≡ drop m us ++ bs
  back = drop-append-add ps (us ++ bs) m ∙ drop-append-le m us bs (omega arith)

  past : drop (suc (length ps + m)) (ps ++ (us ++ bs)) ≡ drop (suc m) us ++ bs
  past =
      let e : suc (length ps + m) ≡ length ps + suc m = omega arith in
      ap (λ n. drop n (ps ++ (us ++ bs))) e ∙ drop-append-add ps (us ++ bs) (suc m) ∙ drop-append-le (suc m) us bs h

-- n runs around run j, and with another in its place
module _ (runs : List ℕ) (n j : ℕ) (l : n ≤ length runs) (h : j < n) where
  abbrev behind : List ℕ
  behind = drop (suc j) (take n runs)

  around : take n runs ≡ take j runs ++ (get_or runs j 0 ∷ behind)
  around =
      let g : j < length (take n runs) = omega (arith, length-take-le n runs l) in
      split_at (take n runs) j 0 g ∙ rw (take-take j n runs (omega arith), get_or-take n runs j 0 h)

  units_around : units_in runs n ≡ units_in runs j ++ (units_of_run (part_of (get_or runs j 0)) ++ units_of behind)
  unfolding units_in
  units_around = ap units_of around ∙ of_append (take j runs) (get_or runs j 0 ∷ behind)

around_set : (runs : List ℕ) (n j v : ℕ) → n ≤ length runs → j < n →
    take n (set runs j v) ≡ take j runs ++ (v ∷ drop (suc j) (take n runs))
around_set runs n j v l h =
    let k : n ≤ length (set runs j v) = omega (arith, length-set runs j v) in
    around (set runs j v) n j k h
    ∙ rw (take-set-le j runs j v (omega arith), get_or-set_same runs j v 0 (omega arith), take-set-lt n runs j v h, drop-set-lt (suc j) (take n runs) j v (omega arith))

module _ (runs : List ℕ) (n j m k : ℕ) (l : n ≤ length runs) (h : j < n) (w : m * 100000 < get_or runs j 0 / 64) (p : k ≡ length (units_in runs j) + m) where
  abbrev key : ℕ
  key = get_or runs j 0

  abbrev U : List AccountLots
  U = units_of_run (part_of key)

  abbrev A : List AccountLots
  A = units_in runs j

  abbrev B : List AccountLots
  B = units_of (drop (suc j) (take n runs))

  key_plain : PlainIn runs n → Plain (part_of key)
  key_plain ps = (rw (runs_at_lem runs n j l h) at (each_drop Plain j (runs_in runs n) ps)).0

  -- words put in the place of run j
  others_plain : PlainIn runs n → (vs : List ℕ) → Every PlainWord vs → Every Plain (map part_of (take j runs ++ (vs ++ drop (suc j) (take n runs))))
  others_plain ps vs qs =
      let ws = words_plain (take n runs) ps in
      plain_words (take j runs ++ (vs ++ drop (suc j) (take n runs)))
      (each_append PlainWord (take j runs) (vs ++ drop (suc j) (take n runs)) (rw (take-take j n runs (omega arith)) at (each_take PlainWord j (take n runs) ws))
      (each_append PlainWord vs (drop (suc j) (take n runs)) qs (each_drop PlainWord (suc j) (take n runs) ws)))

  there : m < length U
  there = omega (arith, run_length (part_of key))

  before_k : take k (units_in runs n) ≡ A ++ take m U
  before_k = rw (p, units_around runs n j l h) (front A U B m there)

  from_k : drop k (units_in runs n) ≡ drop m U ++ B
  from_k = rw (p, units_around runs n j l h) (back A U B m there)

  past_k : drop (suc k) (units_in runs n) ≡ drop (suc m) U ++ B
  past_k = rw (p, units_around runs n j l h) (past A U B m there)

  -- the unit taken out
  pub taken : (r v : ℕ) → r ≡ min 100000 (key / 64 - m * 100000) * 64 + key % 64 → v ≡ key - r / 64 * 64 → TakenOut runs (set runs j v) n k r
  unfolding units_in
  taken r v e f =
      let a = key % 64 in
      let x = key / 64 in
      let z = min 100000 (x - m * 100000) in
      let r₁ : r % 64 ≡ a = omega arith in
      let r₂ : r / 64 ≡ z = omega arith in
      let v₁ : v % 64 ≡ a = omega arith in
      let v₂ : v / 64 ≡ x - z = omega arith in
      let one : 1 ≤ length (drop m U) = omega (arith, length-drop m U, there) in
      record {
        rest = ap units_of (around_set runs n j v l h) ∙ of_append (take j runs) (v ∷ drop (suc j) (take n runs))
            ∙ rw (v₁, v₂, run_rest_lem a x m w, before_k, past_k)
            (ap (λ q. A ++ q) (append_assoc (take m U) (drop (suc m) U) B) ∙ sym (append_assoc A (take m U) (drop (suc m) U ++ B)));
        unit = rw (r₁, r₂, run_piece a x m w, from_k) (sym (take-append-le 1 (drop m U) B one));
        plain = λ ps. rw (around_set runs n j v l h)
            (others_plain ps (v ∷ []) ((λ g. ap (λ y. y % 100000) v₂ ∙ plain_out x m w (key_plain ps) (omega arith)), tt));
        one = λ g. (let c : r / 64 ≡ 100000 = omega arith in ap (λ y. y % 100000) c);
      }

  -- a word put in front of it, in a run split there
  pub put : (w₀ h₀ t₀ : ℕ) (r₁ r₂ : List ℕ) → n < length runs → h₀ ≡ m * 6400000 + key % 64 → t₀ ≡ key - m * 6400000 →
      take (n + 1) r₁ ≡ take (j + 1) (set runs j h₀) ++ (w₀ ∷ drop (j + 1) (take n (set runs j h₀))) →
      take (n + 1 + 1) r₂ ≡ take (j + 2) r₁ ++ (t₀ ∷ drop (j + 2) (take (n + 1) r₁)) →
      PutIn runs r₂ n k w₀
  unfolding units_in
  put w₀ h₀ t₀ r₁ r₂ g eh et e₁ e₂ =
      let a = key % 64 in
      let x = key / 64 in
      let fs = take j runs in
      let bs = drop (suc j) (take n runs) in
      let h₁ : h₀ % 64 ≡ a = omega arith in
      let h₂ : h₀ / 64 ≡ m * 100000 = omega arith in
      let t₁ : t₀ % 64 ≡ a = omega arith in
      let t₂ : t₀ / 64 ≡ x - m * 100000 = omega arith in
      let lf : length fs ≡ j = length-take-le j runs (omega arith) in
      let s = run_split a x m (omega arith) in
      let p₀ = around_set runs n j h₀ l h ∙ sym (append_assoc fs (h₀ ∷ []) bs) in
      let p₁ = goes (set runs j h₀) r₁ n (j + 1) w₀ (fs ++ (h₀ ∷ [])) bs (omega (arith, length-append fs (h₀ ∷ []))) (omega arith) p₀ e₁ in
      let p₂ = goes r₁ r₂ (n + 1) (j + 2) t₀ ((fs ++ (h₀ ∷ [])) ++ (w₀ ∷ [])) bs
      (omega (arith, length-append fs (h₀ ∷ []), length-append (fs ++ (h₀ ∷ [])) (w₀ ∷ []))) (omega arith) p₁ e₂ in
      let n₂ : n + 2 ≡ n + 1 + 1 = omega arith in
      let words : take (n + 2) r₂ ≡ fs ++ (h₀ ∷ w₀ ∷ t₀ ∷ bs) = ap (λ i. take i r₂) n₂ ∙ p₂ ∙ chain fs bs h₀ w₀ t₀ in
      record {
        units = ap units_of words ∙ of_append fs (h₀ ∷ w₀ ∷ t₀ ∷ bs)
            ∙ sym (append_assoc A (units_of_run (part_of h₀)) (units_of_run (part_of w₀) ++ (units_of_run (part_of t₀) ++ B)))
            ∙ rw (h₁, h₂, t₁, t₂, s.0, s.1, before_k, from_k);
        plain = λ pw ps. rw words
            (others_plain ps (h₀ ∷ w₀ ∷ t₀ ∷ [])
            ((λ g. ap (λ y. y % 100000) h₂ ∙ omega arith), (pw, ((λ g. ap (λ y. y % 100000) t₂ ∙ plain_less x m (omega arith) (key_plain ps (omega arith))), tt))));
      }
    where
      chain : (fs bs : List ℕ) (a b c : ℕ) → (((fs ++ (a ∷ [])) ++ (b ∷ [])) ++ (c ∷ [])) ++ bs ≡ fs ++ (a ∷ b ∷ c ∷ bs)
      chain [] bs a b c = refl
      chain (f ∷ fs) bs a b c = ap (λ q. f ∷ q) (chain fs bs a b c)

      goes : (es xs : List ℕ) (n p c : ℕ) (fs bs : List ℕ) → length fs ≡ p → p ≤ n → take n es ≡ fs ++ bs →
          take (n + 1) xs ≡ take p es ++ (c ∷ drop p (take n es)) → take (n + 1) xs ≡ (fs ++ (c ∷ [])) ++ bs
      goes es xs n p c fs bs lf h e f =
          f ∙ ap (λ q. q ++ (c ∷ drop p (take n es))) (sym (take-take p n es h))
          ∙ rw (e, ← lf, take-append_seam fs bs, drop-append_seam fs bs) (sym (append_assoc fs (c ∷ []) bs))

-- a unit taken out and put in again is lifted
lift_by : (us : List AccountLots) (old new : ℕ) → new ≤ old → old < length us →
    take new (take old us ++ drop (suc old) us) ++ (take 1 (drop old us) ++ drop new (take old us ++ drop (suc old) us))
    ≡ lift (lift_of old new) us
unfolding lift
lift_by us old zero h l = ap (λ d. to_front d us) (sym (sub-zero old))
lift_by [] old (suc new) h l = absurd (omega arith)
lift_by (u ∷ us) zero (suc new) h l = absurd (omega arith)
lift_by (u ∷ us) (suc old) (suc new) h l =
    ap (λ q. u ∷ q) (lift_by us old new (omega arith) (omega arith))
    ∙ ap (λ d. u ∷ (take new us ++ to_front d (drop new us))) (sym (suc-sub-suc old new))

pub out_and_in : (us vs ws xs : List AccountLots) (old new : ℕ) → new ≤ old → old < length us → vs ≡ take old us ++ drop (suc old) us →
    ws ≡ take 1 (drop old us) → xs ≡ take new vs ++ (ws ++ drop new vs) → xs ≡ lift (lift_of old new) us
out_and_in us vs ws xs old new h l ev ew ex = ex ∙ rw (ev, ew) (lift_by us old new h l)

pub out_length : (us vs : List AccountLots) (old : ℕ) → old < length us → vs ≡ take old us ++ drop (suc old) us → suc (length vs) ≡ length us
out_length us vs old l e =
    omega (arith, ap length e, length-append (take old us) (drop (suc old) us), length-take-le old us (omega arith), length-drop (suc old) us)

pub lift_same : (us : List AccountLots) (old new : ℕ) → old ≡ new → us ≡ lift (lift_of old new) us
unfolding lift
lift_same us old new e =
    let z : 0 ≡ old - new = omega arith in
    sym (take-append-drop new us)
    ∙ ap (λ q. take new us ++ q) (sym (take-append-drop 1 (drop new us)) ∙ ap (λ d. to_front d (drop new us)) z)

-- the first of the lifts that are left
pub places_next : (ps : List ℕ) (i left : ℕ) → 0 < left →
    places_in left (drop i ps) ≡ lift_of (get_or ps i 0) (get_or ps (i + 1) 0) ∷ places_in (left - 1) (drop (i + 2) ps)
places_next ps i zero h = absurd (omega arith)
places_next ps i (suc l) h =
    let e : suc l - 1 ≡ l = omega arith in
    let z : i + 0 ≡ i = omega arith in
    rw (e, get_or-drop i ps 0 0, get_or-drop i ps 1 0, drop-drop 2 i ps, z)

module _ (ps : List ℕ) (i left : ℕ) (us : List AccountLots) (h : 0 < left) (ok : Every (Among (length us)) (places_in left (drop i ps))) where
  pub next_among : Among (length us) (lift_of (get_or ps i 0) (get_or ps (i + 1) 0))
  next_among = (rw (places_next ps i left h) at ok).0

  pub lifted_next : (vs : List AccountLots) → vs ≡ lift (lift_of (get_or ps i 0) (get_or ps (i + 1) 0)) us →
      lifted (places_in left (drop i ps)) us ≡ lifted (places_in (left - 1) (drop (i + 2) ps)) vs
  lifted_next vs e = rw (places_next ps i left h, e)

  pub among_next : (vs : List AccountLots) → vs ≡ lift (lift_of (get_or ps i 0) (get_or ps (i + 1) 0)) us →
      Every (Among (length vs)) (places_in (left - 1) (drop (i + 2) ps))
  among_next vs e = rw (e, length_lift (lift_of (get_or ps i 0) (get_or ps (i + 1) 0)) us) (rw (places_next ps i left h) at ok).1

-- the issue's words, cut out of the column
pub words_part : (lifts : List ℕ) (i : ℕ) → take (i * 18 + 18 - i * 18) (drop (i * 18) lifts) ≡ block 18 i lifts
words_part lifts i = let e : i * 18 + 18 - i * 18 ≡ 18 = omega arith in rw e

-- an issue's runs in the order without lifts can be lifted, and then hold its order
module _ (nets : List ℤ) (lifts : List ℕ) (i : ℕ) (runs : List ℕ) (n : ℕ) (o : CanOrder nets lifts i) (p : RankedNets nets i runs n) where
  pub can_lift_all : 144 ≤ length runs → CanLiftAll (take (i * 18 + 18 - i * 18) (drop (i * 18) lifts)) runs n
  unfolding order_in
  can_lift_all room =
      rw (words_part lifts i)
      (record {
        whole = length_lift_words lifts i o.lifted o.issue;
        few = o.few;
        held = omega (arith, p.few);
        places = rw (p.units, ← length_lifted (lifts_at lifts i) (units_of_nets unit_lots (row i nets))) o.places;
      })

  pub prepared : (after : List ℕ) (r : ℕ) → 144 ≤ length after → AllLifted (take (i * 18 + 18 - i * 18) (drop (i * 18) lifts)) runs after n r →
      Prepared nets lifts i after r
  unfolding order_in
  prepared after r room q =
      let a = rw (words_part lifts i) at q in
      let e : units_in after r ≡ order_in false nets lifts i = a.units ∙ ap (lifted (lifts_at lifts i)) p.units in
      record {
        held = record {
          few = omega (arith, a.few, p.few, o.few);
          there = omega (arith, a.few, p.few, o.few);
          plain = a.plain p.plain;
          small = λ b. omega (arith, ap (total (of_account b)) e, (order_in_lem false nets lifts i).due b, dues_small nets i (dues_of nets i) refl o.size b);
        };
        few = omega (arith, a.few, p.few);
        units = e;
      }
