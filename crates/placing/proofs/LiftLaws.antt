-- The scan of lifts: a flag along places and along issues; an issue's tests in turn; places that are right beside any
-- units handed are right beside all units, so the order can be lifted before it is known what is handed.
use mathlib.Core.Path.{◌≡◌, refl, ap, sym, ◌∙◌}
use mathlib.Core.Bool.{Bool, true, false, cond, ◌&&◌, false≢true}
use mathlib.Core.List.{List, [], ◌∷◌}
use Prim.Native.Nat.{ℕ, ◌+◌, ◌-◌, ◌*◌, ◌≤◌, ◌<◌}
use native.Mathlib.Nat.{zero-add}
use native.Mathlib.Omega.{arith}
use lib.Dec.{leb, ltb, lit<}
use lib.ListN.{length, take, drop, get_or}
use lib.IntN.{ℤ}
use borrow.Author.Tests.{le-leb, lt-leb, ne_eqb}
use Rattle.rules.specs.declared.Phase.{Phase}
use Rattle.rules.specs.Measures.{most_lots, unit_lots}
use Rattle.rules.specs.Units.{units_of_nets}
use Rattle.rules.specs.Handover.{covered}
use Rattle.rules.specs.Lifts.{Lift}
use Rattle.rules.specs.Book.{Orders, is_taking, is_zero, tabulate, all, row, balanced, within_size, within_owed, delivered_total, lift_number, count_at, places_in, lifts_at, order_in, places_sound, lift_conditions, lifts_sound}
use Rattle.laws.proofs.Basics.{by_test, and_left, and_right, all_at, length_tab, get_or_tab}
use Rattle.laws.proofs.Scans.{rest_of_issues, and_true, and_false, and_assoc}
use Rattle.laws.proofs.Cells.{length_row, get_or_block, within_row}
use Rattle.laws.proofs.Cutoff.{delivered_due}
use Rattle.laws.proofs.Lifts.{length_lifted}
use Rattle.laws.proofs.Sound.{place_parts, parts_place, places_among}
use Rattle.runs.specs.Runs.{units_in, RankedNets, CanOrder, Prepared}
use Rattle.runs.proofs.Cells.{dues_sum}
use Rattle.lifted.proofs.Lifted.{places_next, words_part}
use Rattle.balancing.specs.Scan.{nets_sound}
use Rattle.placing.specs.LiftScan.{all_lifts, CanScan, CanPlace}

-- The places

module _ (words : List ℕ) (number handed : ℕ) where
  -- what is left of the tests of places, from word j on
  abbrev pub rest_of_places : ℕ → ℕ → ℕ → Bool
  rest_of_places least left j = places_sound number handed least (places_in left (drop j words))

  pub places_turn : (least n k : ℕ) (g whole : Bool) → k < n → g && rest_of_places least (n - k) (2 * k + 2) ≡ whole →
      (g && (((leb least (get_or words (2 * k + 3) 0) && leb (get_or words (2 * k + 3) 0) (get_or words (2 * k + 2) 0)) && ltb (get_or words (2 * k + 2) 0) number) && leb (get_or words (2 * k + 3) 0) handed))
      && rest_of_places (get_or words (2 * k + 3) 0) (n - (k + 1)) (2 * (k + 1) + 2) ≡ whole
  places_turn least n k g whole h e =
      let a : 2 * k + 3 ≡ 2 * k + 2 + 1 = omega arith in
      let b : n - (k + 1) ≡ n - k - 1 = omega arith in
      let d : 2 * (k + 1) + 2 ≡ 2 * k + 2 + 2 = omega arith in
      rw (a, b, d)
      (and_assoc g _ _ ∙ ap (λ ls. g && places_sound number handed least ls) (sym (places_next words (2 * k + 2) (n - k) (omega arith))) ∙ e)

-- whatever is handed, they are places of units
wider : (number handed least : ℕ) (ls : List Lift) → places_sound number handed least ls ≡ true → places_sound number number least ls ≡ true
wider number handed least [] h = refl
wider number handed least (l ∷ ls) h =
    let p = place_parts number handed least l ls h in
    let a = p.0.among in
    parts_place number number least l ls (record { rises = p.0.rises; among = a; most = omega (arith, a.back, a.there) })
    (wider number handed l.new ls p.1)

module _ (nets : List ℤ) (lifts : List ℕ) (i : ℕ) (runs : List ℕ) (n k : ℕ) (c : CanPlace nets lifts i) (p : RankedNets nets i runs n)
    (e : k ≡ length (units_in runs n)) where
  abbrev words : List ℕ
  words = take (i * 18 + 18 - i * 18) (drop (i * 18) lifts)

  -- the test as it is made on the words that are lent
  abbrev pub test : ℕ → Bool
  test h = places_sound k h 0 (places_in (get_or words 0 0) (drop 2 words))

  abbrev wanted : ℕ → Bool
  wanted h = places_sound (length (order_in false nets lifts i)) h 0 (lifts_at lifts i)

  same : (h : ℕ) → test h ≡ wanted h
  unfolding order_in
  same h =
      rw (words_part lifts i)
      (ap (λ m. places_sound m h 0 (lifts_at lifts i)) (e ∙ ap length p.units ∙ sym (length_lifted (lifts_at lifts i) (units_of_nets unit_lots (row i nets)))))

  number_order : k ≡ length (order_in false nets lifts i)
  unfolding order_in
  number_order = e ∙ ap length p.units ∙ sym (length_lifted (lifts_at lifts i) (units_of_nets unit_lots (row i nets)))

  pub not_placed : (h : ℕ) → test k ≡ false → false ≡ wanted h
  not_placed h f =
      by_test (wanted h)
      (λ t. absurd (false≢true (sym f ∙ same k ∙ ap wanted number_order ∙ wider _ h 0 (lifts_at lifts i) t)))
      (λ t. sym t)

  pub placed_order : test k ≡ true → CanOrder nets lifts i
  placed_order t =
      record {
        cells = c.nets;
        lifted = c.lifts;
        issue = c.issue;
        size = c.size;
        few = c.few;
        places = places_among _ _ 0 (lifts_at lifts i) (sym (same k) ∙ t);
      }

  pub placed_is : (after : List ℕ) (m d h : ℕ) (r : Bool) → Prepared nets lifts i after m → h ≡ covered (units_in after m) d → r ≡ test h →
      r ≡ wanted (covered (order_in false nets lifts i) d)
  placed_is after m d h r q f t = t ∙ same h ∙ ap wanted (f ∙ ap (λ us. covered us d) q.units)

-- An issue

pub number_at : (lifts : List ℕ) (i : ℕ) → get_or lifts (i * 18) 0 ≡ lift_number lifts i
number_at lifts i = let z : i * 18 ≡ i * 18 + 0 = omega arith in ap (λ j. get_or lifts j 0) z ∙ sym (get_or_block 18 lifts i 0 0 (lit< tt))

pub count_at_lem : (lifts : List ℕ) (i : ℕ) → get_or lifts (i * 18 + 1) 0 ≡ count_at lifts i
count_at_lem lifts i = sym (get_or_block 18 lifts i 1 0 (lit< tt))

last_no : (a b c : Bool) → false ≡ a && (b && (c && (false && true)))
last_no a b c = rw (and_false c, and_false b, and_false a)

third_no : (a b c : Bool) → false ≡ a && (b && (false && (c && true)))
third_no a b c = rw (and_false b, and_false a)

module _ (phase : Phase) (us : Orders) (delivered lifts : List ℕ) (i m n d : ℕ) (em : m ≡ lift_number lifts i) (en : n ≡ count_at lifts i)
    (ed : d ≡ delivered_total delivered i) where
  abbrev few : Bool
  few = leb (lift_number lifts i) 8

  abbrev places : Bool
  places = places_sound (length (us i)) (covered (us i) (delivered_total delivered i)) 0 (lifts_at lifts i)

  abbrev counted : Bool
  counted = leb (count_at lifts i) (delivered_total delivered i + lift_number lifts i)

  pub lifts_many : 8 < m → false ≡ lifts_sound phase us delivered lifts i
  unfolding lifts_sound lift_conditions
  lifts_many h = rw (lt-leb (lift_number lifts i) 8 (omega arith))

  pub lifts_over : d + m < n → false ≡ lifts_sound phase us delivered lifts i
  unfolding lifts_sound lift_conditions
  lifts_over h = rw (lt-leb (count_at lifts i) (delivered_total delivered i + lift_number lifts i) (omega arith)) (last_no few places (cond (is_taking phase) (is_zero (lift_number lifts i)) true))

  pub lifts_none : n ≤ d + m → m ≡ 0 → true ≡ lifts_sound phase us delivered lifts i
  unfolding lifts_sound lift_conditions
  lifts_none h z =
      let y : lift_number lifts i ≡ 0 = sym em ∙ z in
      rw (y, le-leb (count_at lifts i) (delivered_total delivered i + 0) (omega arith))
      (by_test (is_taking phase) (λ t. simp t) (λ t. simp t))

  pub lifts_taking : (m ≡ 0 → ⊥) → is_taking phase ≡ true → false ≡ lifts_sound phase us delivered lifts i
  unfolding lifts_sound lift_conditions
  lifts_taking ne t = rw (t, ne_eqb (lift_number lifts i) 0 (λ z. ne (em ∙ z))) (third_no few places counted)

  pub lifts_placed : (r : Bool) → m ≤ 8 → n ≤ d + m → is_taking phase ≡ false →
      r ≡ places_sound (length (us i)) (covered (us i) d) 0 (lifts_at lifts i) → r ≡ lifts_sound phase us delivered lifts i
  unfolding lifts_sound lift_conditions
  lifts_placed r h g t e =
      rw (
        t,
        le-leb (lift_number lifts i) 8 (omega arith),
        le-leb (count_at lifts i) (delivered_total delivered i + lift_number lifts i) (omega arith),
        and_true,
      )
      (rw ed at e)

-- what is delivered of an issue fits a word
pub scan_total : (ns : List ℤ) (ds ls : List ℕ) (i : ℕ) → CanScan ns ds ls → i < 16 → delivered_total ds i ≤ most_lots * 64
unfolding nets_sound
scan_total ns ds ls i c h =
    let s = c.sound in
    let a = all (within_size most_lots) ns in
    let b = all (λ i. balanced (row i ns)) (tabulate (λ i. i) 0 16) in
    let o = within_owed ns ds in
    let r = and_right a (b && o) s in
    let t = all_at (λ i. balanced (row i ns)) (tabulate (λ i. i) 0 16) 0 i (and_left b o r) (omega (arith, length_tab (λ i. i) 0 16)) in
    omega (
      arith,
      delivered_due (row i ns) (row i ds)
          (record {
            lengths = length_row ns i c.nets h ∙ sym (length_row ds i c.delivered h);
            balance = rw (get_or_tab (λ i. i) 0 16 i 0 h, zero-add i) at t;
            owed = within_row i ns ds (and_right b o r);
          }),
      dues_sum ns i (and_left a (b && o) s) c.nets h,
    )

pub scan_sized : (ns : List ℤ) (ds ls : List ℕ) → CanScan ns ds ls → all (within_size most_lots) ns ≡ true
unfolding nets_sound
scan_sized ns ds ls c = and_left (all (within_size most_lots) ns) _ c.sound

-- All issues

pub lifts_start : (phase : Phase) (ns : List ℤ) (ds ls : List ℕ) → rest_of_issues (lifts_sound phase (order_in false ns ls) ds ls) 0 ≡ all_lifts phase ns ds ls
unfolding all_lifts
lifts_start phase ns ds ls = refl
