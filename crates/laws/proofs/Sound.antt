-- A sound book taken apart, and put together again: each condition of the test is a fact with a name,
-- then the same facts at one cell and at one entry, as code reads them.
use mathlib.Core.Path.{◌≡◌, refl, sym, ap, ◌∙◌}
use mathlib.Core.Bool.{Bool, true, false, cond, not, ◌&&◌, false≢true}
use mathlib.Core.List.{List, [], ◌∷◌, ◌++◌}
use Prim.Native.Nat.{ℕ, zero, suc, ◌+◌, ◌*◌, ◌%◌, ◌≤◌, ◌<◌}
use native.Mathlib.Omega.{arith}
use lib.Dec.{leb, ltb, eqb}
use lib.ListN.{length, get_or, drop}
use lib.IntN.{ℤ, pos, nat_abs}
use borrow.Author.Tests.{leb-true, le-leb, ltb-true, lt-ltb, eqb-true, eqb-false, eq-eqb, ne_eqb, not-true}
use Rattle.rules.specs.declared.Book.{Book}
use Rattle.rules.specs.declared.Entry.{Entry}
use Rattle.rules.specs.declared.Phase.{Phase}
use Rattle.rules.specs.Measures.{most_lots, most_entries, most_lifts, most_charge, between, total, due_of, owed_of}
use Rattle.rules.specs.Units.{AccountLots}
use Rattle.rules.specs.Handover.{covered}
use Rattle.rules.specs.Lifts.{Lift}
pub use Rattle.rules.specs.Lifts.{Among}
use Rattle.rules.specs.Book.{is_taking, tabulate, all, row, entries, ledger_of, balanced, within_size, within_owed, is_zero, entry_sound, days_sound, delivered_total, lift_number, count_at, lifts_at, order_of, places_sound, lift_conditions, lifts_sound, is_marked, is_even, lots_even, cells_even, entry_even, conditions, sound}
use Rattle.laws.proofs.Basics.{by_test, and_left, and_right, and_both, total_map, Every, each_map}

-- Tests of all elements

pub all_each {ℓ} : {A : Type ℓ} (p : A → Bool) (l : List A) → all p l ≡ true → Every (λ x. p x ≡ true) l
all_each p [] h = tt
all_each p (x ∷ xs) h = (and_left (p x) (all p xs) h, all_each p xs (and_right (p x) (all p xs) h))

pub each_all {ℓ} : {A : Type ℓ} (p : A → Bool) (l : List A) → Every (λ x. p x ≡ true) l → all p l ≡ true
each_all p [] h = refl
each_all p (x ∷ xs) h = and_both (p x) (all p xs) h.0 (each_all p xs h.1)

pub each_get_or {ℓ} : {A : Type ℓ} (P : A → Type 0) (l : List A) (k : ℕ) (d : A) → Every P l → P d → P (get_or l k d)
each_get_or P [] k d p q = q
each_get_or P (x ∷ xs) zero d p q = p.0
each_get_or P (x ∷ xs) (suc k) d p q = each_get_or P xs k d p.1 q

each_tab {ℓ} : {A : Type ℓ} (P : A → Type 0) (f : ℕ → A) (k n : ℕ) → ((i : ℕ) → i < k + n → P (f i)) → Every P (tabulate f k n)
each_tab P f k zero h = tt
each_tab P f k (suc n) h = (h k (omega arith), each_tab P f (suc k) n (λ i l. h i (omega arith)))

pub tab_each {ℓ} : {A : Type ℓ} (P : A → Type 0) (f : ℕ → A) (k n i : ℕ) → Every P (tabulate f k n) → k ≤ i → i < k + n → P (f i)
tab_each P f k zero i p h l = absurd (omega arith)
tab_each P f k (suc n) i p h l =
    by_test (eqb k i)
    (λ e. rw (← (eqb-true k i e)) p.0)
    (λ e. tab_each P f (suc k) n i p.1 (let ne = eqb-false k i e in omega arith) (omega arith))

pub zero_at_lem : (xs : List ℕ) (k : ℕ) → all is_zero xs ≡ true → get_or xs k 0 ≡ 0
zero_at_lem xs k h = each_get_or (λ x. x ≡ 0) xs k 0 (each_map (λ x. is_zero x ≡ true) (λ x. x ≡ 0) (λ x q. eqb-true x 0 q) xs (all_each is_zero xs h)) refl

pub within_at : (ns : List ℤ) (ds : List ℕ) (k : ℕ) → length ns ≡ length ds → within_owed ns ds ≡ true →
    get_or ds k 0 ≤ owed_of (get_or ns k (pos 0))
within_at [] [] k e h = omega arith
within_at [] (d ∷ ds) k e h = absurd (omega arith)
within_at (n ∷ ns) [] k e h = absurd (omega arith)
within_at (n ∷ ns) (d ∷ ds) zero e h = leb-true d (owed_of n) (and_left (leb d (owed_of n)) (within_owed ns ds) h)
within_at (n ∷ ns) (d ∷ ds) (suc k) e h =
    within_at ns ds k (omega arith) (and_right (leb d (owed_of n)) (within_owed ns ds) h)

-- An entry

pub record SoundEntry (e : Entry) : Type 0 where
  pub issue : e.issue < 16
  pub from : e.from < 64
  pub to : e.to < 64
  pub apart : e.from ≡ e.to → ⊥
  pub some : 1 ≤ e.lots
  pub most : e.lots ≤ most_lots

pub entry_parts : (e : Entry) → entry_sound e ≡ true → SoundEntry e
entry_parts e h =
    let a = leb e.issue 15 in
    let b = leb e.from 63 in
    let c = leb e.to 63 in
    let n = not (eqb e.from e.to) in
    let l = between 1 most_lots e.lots in
    let h₁ = and_left (a && b && c && n) l h in
    let h₂ = and_left (a && b && c) n h₁ in
    let h₃ = and_left (a && b) c h₂ in
    let h₄ = and_right (a && b && c && n) l h in
    record {
      issue = omega (arith, leb-true e.issue 15 (and_left a b h₃));
      from = omega (arith, leb-true e.from 63 (and_right a b h₃));
      to = omega (arith, leb-true e.to 63 (and_right (a && b) c h₂));
      apart = eqb-false e.from e.to (not-true (eqb e.from e.to) (and_right (a && b && c) n h₁));
      some = leb-true 1 e.lots (and_left (leb 1 e.lots) (leb e.lots most_lots) h₄);
      most = leb-true e.lots most_lots (and_right (leb 1 e.lots) (leb e.lots most_lots) h₄);
    }

pub parts_entry : (e : Entry) → SoundEntry e → entry_sound e ≡ true
parts_entry e s =
    let a = leb e.issue 15 in
    let b = leb e.from 63 in
    let c = leb e.to 63 in
    let n = not (eqb e.from e.to) in
    and_both (a && b && c && n) (between 1 most_lots e.lots)
    (and_both (a && b && c) n
    (and_both (a && b) c
    (and_both a b (le-leb e.issue 15 (omega (arith, s.issue))) (le-leb e.from 63 (omega (arith, s.from))))
    (le-leb e.to 63 (omega (arith, s.to))))
    (ap not (ne_eqb e.from e.to s.apart)))
    (and_both (leb 1 e.lots) (leb e.lots most_lots) (le-leb 1 e.lots s.some) (le-leb e.lots most_lots s.most))

-- A ledger, by its columns alone: so it stays as it is where other fields of a book change
pub record SoundLedger (today n : ℕ) (is fs ts xs ds : List ℕ) : Type 0 where
  pub count : n ≤ most_entries
  pub each : Every SoundEntry (entries n is fs ts xs ds)
  pub days : days_sound 0 today (entries n is fs ts xs ds) ≡ true
  pub unused_issues : all is_zero (drop n is) ≡ true
  pub unused_froms : all is_zero (drop n fs) ≡ true
  pub unused_tos : all is_zero (drop n ts) ≡ true
  pub unused_lots : all is_zero (drop n xs) ≡ true
  pub unused_days : all is_zero (drop n ds) ≡ true

-- an issue's lifts, beside its units in their order and its delivered total
pub record SoundLifts (phase : Phase) (us : List AccountLots) (d : ℕ) (lifts : List ℕ) (i : ℕ) : Type 0 where
  pub few : lift_number lifts i ≤ most_lifts
  pub places : places_sound (length us) (covered us d) 0 (lifts_at lifts i) ≡ true
  pub taking : is_taking phase ≡ true → lift_number lifts i ≡ 0
  pub count : count_at lifts i ≤ d + lift_number lifts i

-- even numbers
abbrev pub Even : ℕ → Type 0
Even x = x % 2 ≡ 0

-- a marked issue's nets and delivered lots
pub record EvenCells (marks : List ℕ) (ns : List ℤ) (ds : List ℕ) (i : ℕ) : Type 0 where
  pub nets : is_marked marks i ≡ true → Every (λ n. Even (nat_abs n)) (row i ns)
  pub delivered : is_marked marks i ≡ true → Every Even (row i ds)

-- and an entry's lots, in a marked issue
abbrev pub EvenEntry : List ℕ → Entry → Type 0
EvenEntry marks e = is_marked marks e.issue ≡ true → Even e.lots

-- what a sound book has
pub record SoundBook (b : Book) : Type 0 where
  -- each net lies in −20,000,000..20,000,000
  pub size : Every (λ n. nat_abs n ≤ most_lots) b.nets
  -- each issue's nets sum to 0
  pub rows : (i : ℕ) → i < 16 → total due_of (row i b.nets) ≡ total owed_of (row i b.nets)
  -- delivered lots are at most what is owed
  pub owed : within_owed b.nets b.delivered ≡ true
  -- and are 0 throughout in Taking
  pub taking : is_taking b.state.phase ≡ true → all is_zero b.delivered ≡ true
  pub ledger : SoundLedger b.state.day b.state.entries b.issues b.froms b.tos b.lots b.days
  -- charges sum to 0, and each is bounded by the day
  pub balance : total due_of b.charges ≡ total owed_of b.charges
  pub bounded : Every (λ c. nat_abs c ≤ most_charge * b.state.day) b.charges
  -- each issue's lifts are sound
  pub lifts : (i : ℕ) → i < 16 → SoundLifts b.state.phase (order_of b i) (delivered_total b.delivered i) b.lifts i
  -- lots in a marked issue are even
  pub even : (i : ℕ) → i < 16 → EvenCells b.state.marks b.nets b.delivered i
  pub even_entries : Every (EvenEntry b.state.marks) (ledger_of b)

-- in balance: by the test, and as an equation of sums
pub balanced_parts : (ns : List ℤ) → balanced ns ≡ true → total due_of ns ≡ total owed_of ns
balanced_parts ns h = sym (total_map (λ x. x) due_of ns) ∙ eqb-true _ _ h ∙ total_map (λ x. x) owed_of ns

pub parts_balanced : (ns : List ℤ) → total due_of ns ≡ total owed_of ns → balanced ns ≡ true
parts_balanced ns h = eq-eqb _ _ (total_map (λ x. x) due_of ns ∙ h ∙ sym (total_map (λ x. x) owed_of ns))

if_taking : (c d : Bool) → cond c d true ≡ true → c ≡ true → d ≡ true
if_taking true d h k = h
if_taking false d h k = absurd (false≢true k)

taking_if : (c d : Bool) → (c ≡ true → d ≡ true) → cond c d true ≡ true
taking_if true d h = h refl
taking_if false d h = refl

-- lifts: by the test, and by their parts
pub lifts_parts : (phase : Phase) (us : ℕ → List AccountLots) (delivered lifts : List ℕ) (i : ℕ) → lifts_sound phase us delivered lifts i ≡ true →
    SoundLifts phase (us i) (delivered_total delivered i) lifts i
unfolding lifts_sound lift_conditions
lifts_parts phase us delivered lifts i h =
    let e : Every (λ c. c ≡ true) (lift_conditions phase (us i) (delivered_total delivered i) lifts i) = all_each (λ c. c) (lift_conditions phase (us i) (delivered_total delivered i) lifts i) h in
    record {
      few = leb-true _ _ e.0;
      places = e.1.0;
      taking = λ t. eqb-true _ 0 (if_taking (is_taking phase) (is_zero (lift_number lifts i)) e.1.1.0 t);
      count = leb-true _ _ e.1.1.1.0;
    }

pub parts_lifts : (phase : Phase) (us : ℕ → List AccountLots) (delivered lifts : List ℕ) (i : ℕ) →
    SoundLifts phase (us i) (delivered_total delivered i) lifts i → lifts_sound phase us delivered lifts i ≡ true
unfolding lifts_sound lift_conditions
parts_lifts phase us delivered lifts i s =
    each_all (λ c. c) (lift_conditions phase (us i) (delivered_total delivered i) lifts i) (
      le-leb _ _ s.few,
      (s.places, (taking_if (is_taking phase) (is_zero (lift_number lifts i)) (λ t. eq-eqb _ 0 (s.taking t)), (le-leb _ _ s.count, tt))),
    )

-- even lots: by the test, and by their parts
pub cells_parts : (marks : List ℕ) (ns : List ℤ) (ds : List ℕ) (i : ℕ) → cells_even marks ns ds i ≡ true → EvenCells marks ns ds i
unfolding cells_even
cells_parts marks ns ds i h =
    let c = all (λ n. is_even (nat_abs n)) (row i ns) in
    let d = all is_even (row i ds) in
    let both = if_taking (is_marked marks i) (c && d) h in
    record {
      nets = λ m. each_map (λ n. is_even (nat_abs n) ≡ true) (λ n. Even (nat_abs n)) (λ n q. eqb-true _ 0 q) (row i ns)
          (all_each (λ n. is_even (nat_abs n)) (row i ns) (and_left c d (both m)));
      delivered = λ m. each_map (λ x. is_even x ≡ true) Even (λ x q. eqb-true _ 0 q) (row i ds)
          (all_each is_even (row i ds) (and_right c d (both m)));
    }

pub parts_cells : (marks : List ℕ) (ns : List ℤ) (ds : List ℕ) (i : ℕ) → EvenCells marks ns ds i → cells_even marks ns ds i ≡ true
unfolding cells_even
parts_cells marks ns ds i s =
    let c = all (λ n. is_even (nat_abs n)) (row i ns) in
    let d = all is_even (row i ds) in
    taking_if (is_marked marks i) (c && d) (λ m.
    and_both c d
    (each_all (λ n. is_even (nat_abs n)) (row i ns)
    (each_map (λ n. Even (nat_abs n)) (λ n. is_even (nat_abs n) ≡ true) (λ n q. eq-eqb _ 0 q) (row i ns) (s.nets m)))
    (each_all is_even (row i ds) (each_map Even (λ x. is_even x ≡ true) (λ x q. eq-eqb _ 0 q) (row i ds) (s.delivered m))))

pub lots_parts : (marks : List ℕ) (i x : ℕ) → lots_even marks i x ≡ true → is_marked marks i ≡ true → Even x
lots_parts marks i x h m = eqb-true _ 0 (if_taking (is_marked marks i) (is_even x) h m)

pub even_parts : (marks : List ℕ) (e : Entry) → entry_even marks e ≡ true → EvenEntry marks e
even_parts marks e h = lots_parts marks e.issue e.lots h

pub parts_even : (marks : List ℕ) (e : Entry) → EvenEntry marks e → entry_even marks e ≡ true
parts_even marks e h = taking_if (is_marked marks e.issue) (is_even e.lots) (λ m. eq-eqb _ 0 (h m))

pub sound_parts : (b : Book) → sound b ≡ true → SoundBook b
unfolding sound conditions
sound_parts b h =
    let e : Every (λ c. c ≡ true) (conditions b) = all_each (λ c. c) (conditions b) h in
    let e₂ = e.1.1 in
    let e₅ = e₂.1.1.1 in
    let e₈ = e₅.1.1.1 in
    let e₁₁ = e₈.1.1.1 in
    let e₁₅ = e₁₁.1.1.1.1 in
    record {
      size = each_map (λ n. within_size most_lots n ≡ true) (λ n. nat_abs n ≤ most_lots) (λ n q. leb-true _ _ q) b.nets
          (all_each (within_size most_lots) b.nets e.0);
      rows = λ i l. balanced_parts (row i b.nets)
          (tab_each (λ j. balanced (row j b.nets) ≡ true) (λ j. j) 0 16 i
          (all_each (λ j. balanced (row j b.nets)) (tabulate (λ j. j) 0 16) e.1.0) (omega arith) (omega arith));
      owed = e₂.0;
      taking = if_taking (is_taking b.state.phase) (all is_zero b.delivered) e₂.1.0;
      ledger = record {
        count = leb-true _ _ e₂.1.1.0;
        each = each_map (λ d. entry_sound d ≡ true) SoundEntry entry_parts (ledger_of b)
            (all_each entry_sound (ledger_of b) e₅.0);
        days = e₅.1.0;
        unused_issues = e₅.1.1.0;
        unused_froms = e₈.0;
        unused_tos = e₈.1.0;
        unused_lots = e₈.1.1.0;
        unused_days = e₁₁.0;
      };
      balance = balanced_parts b.charges e₁₁.1.0;
      bounded = each_map (λ c. within_size (most_charge * b.state.day) c ≡ true) (λ c. nat_abs c ≤ most_charge * b.state.day)
          (λ c q. leb-true _ _ q) b.charges (all_each (within_size (most_charge * b.state.day)) b.charges e₁₁.1.1.0);
      lifts = λ i l. lifts_parts b.state.phase (order_of b) b.delivered b.lifts i
          (tab_each (λ j. lifts_sound b.state.phase (order_of b) b.delivered b.lifts j ≡ true) (λ j. j) 0 16 i
          (all_each (lifts_sound b.state.phase (order_of b) b.delivered b.lifts) (tabulate (λ j. j) 0 16) e₁₁.1.1.1.0) (omega arith) (omega arith));
      even = λ i l. cells_parts b.state.marks b.nets b.delivered i
          (tab_each (λ j. cells_even b.state.marks b.nets b.delivered j ≡ true) (λ j. j) 0 16 i
          (all_each (cells_even b.state.marks b.nets b.delivered) (tabulate (λ j. j) 0 16) e₁₅.0) (omega arith) (omega arith));
      even_entries = each_map (λ d. entry_even b.state.marks d ≡ true) (EvenEntry b.state.marks) (even_parts b.state.marks) (ledger_of b)
          (all_each (entry_even b.state.marks) (ledger_of b) e₁₅.1.0);
    }

pub parts_sound : (b : Book) → SoundBook b → sound b ≡ true
unfolding sound conditions
parts_sound b g =
    each_all (λ c. c) (conditions b) (
      each_all (within_size most_lots) b.nets
          (each_map _ (λ n. within_size most_lots n ≡ true) (λ n h. le-leb _ _ h) b.nets g.size),
      (
        each_all (λ i. balanced (row i b.nets)) (tabulate (λ i. i) 0 16)
            (each_tab (λ i. balanced (row i b.nets) ≡ true) (λ i. i) 0 16
            (λ i h. parts_balanced (row i b.nets) (g.rows i (omega arith)))),
        (
          g.owed,
          (
            taking_if (is_taking b.state.phase) (all is_zero b.delivered) g.taking,
            (
              le-leb _ _ g.ledger.count,
              (
                each_all entry_sound (ledger_of b)
                    (each_map SoundEntry (λ e. entry_sound e ≡ true) parts_entry (ledger_of b) g.ledger.each),
                (
                  g.ledger.days,
                  (
                    g.ledger.unused_issues,
                    (
                      g.ledger.unused_froms,
                      (
                        g.ledger.unused_tos,
                        (
                          g.ledger.unused_lots,
                          (
                            g.ledger.unused_days,
                            (
                              parts_balanced b.charges g.balance,
                              (
                                each_all (within_size (most_charge * b.state.day)) b.charges
                                    (each_map _ (λ c. within_size (most_charge * b.state.day) c ≡ true) (λ c h. le-leb _ _ h) b.charges g.bounded),
                                (
                                  each_all (lifts_sound b.state.phase (order_of b) b.delivered b.lifts) (tabulate (λ i. i) 0 16)
                                      (each_tab (λ i. lifts_sound b.state.phase (order_of b) b.delivered b.lifts i ≡ true) (λ i. i) 0 16
                                      (λ i h. parts_lifts b.state.phase (order_of b) b.delivered b.lifts i (g.lifts i (omega arith)))),
                                  (
                                    each_all (cells_even b.state.marks b.nets b.delivered) (tabulate (λ i. i) 0 16)
                                        (each_tab (λ i. cells_even b.state.marks b.nets b.delivered i ≡ true) (λ i. i) 0 16
                                        (λ i h. parts_cells b.state.marks b.nets b.delivered i (g.even i (omega arith)))),
                                    (
                                      each_all (entry_even b.state.marks) (ledger_of b)
                                          (each_map (EvenEntry b.state.marks) (λ e. entry_even b.state.marks e ≡ true) (parts_even b.state.marks) (ledger_of b) g.even_entries),
                                      tt,
                                    ),
                                  ),
                                ),
                              ),
                            ),
                          ),
                        ),
                      ),
                    ),
                  ),
                ),
              ),
            ),
          ),
        ),
      ),
    )

-- At one cell, one entry, one account

module _ (b : Book) (s : SoundBook b) where
  pub net_bounded : (k : ℕ) → nat_abs (get_or b.nets k (pos 0)) ≤ most_lots
  net_bounded k = each_get_or (λ n. nat_abs n ≤ most_lots) b.nets k (pos 0) s.size (omega arith)

  pub delivered_owed : (k : ℕ) → length b.nets ≡ length b.delivered →
      get_or b.delivered k 0 ≤ owed_of (get_or b.nets k (pos 0))
  delivered_owed k e = within_at b.nets b.delivered k e s.owed

  pub delivered_none : (k : ℕ) → is_taking b.state.phase ≡ true → get_or b.delivered k 0 ≡ 0
  delivered_none k t = zero_at_lem b.delivered k (s.taking t)

  pub charge_bounded : (a : ℕ) → nat_abs (get_or b.charges a (pos 0)) ≤ most_charge * b.state.day
  charge_bounded a = each_get_or (λ c. nat_abs c ≤ most_charge * b.state.day) b.charges a (pos 0) s.bounded (omega arith)

-- The places of lifts

pub record SoundPlace (number handed least : ℕ) (l : Lift) : Type 0 where
  pub rises : least ≤ l.new
  pub among : Among number l
  pub most : l.new ≤ handed

pub place_parts : (number handed least : ℕ) (l : Lift) (ls : List Lift) → places_sound number handed least (l ∷ ls) ≡ true →
    SoundPlace number handed least l × (places_sound number handed l.new ls ≡ true)
place_parts number handed least l ls h =
    let a = leb least l.new in
    let b = leb l.new l.old in
    let c = ltb l.old number in
    let d = leb l.new handed in
    let r = places_sound number handed l.new ls in
    let h₁ = and_left (a && b && c && d) r h in
    let h₂ = and_left (a && b && c) d h₁ in
    let h₃ = and_left (a && b) c h₂ in (
      record {
        rises = leb-true _ _ (and_left a b h₃);
        among = record { back = leb-true _ _ (and_right a b h₃); there = ltb-true _ _ (and_right (a && b) c h₂) };
        most = leb-true _ _ (and_right (a && b && c) d h₁);
      },
      and_right (a && b && c && d) r h,
    )

pub parts_place : (number handed least : ℕ) (l : Lift) (ls : List Lift) → SoundPlace number handed least l →
    places_sound number handed l.new ls ≡ true → places_sound number handed least (l ∷ ls) ≡ true
parts_place number handed least l ls s h =
    let a = leb least l.new in
    let b = leb l.new l.old in
    let c = ltb l.old number in
    let d = leb l.new handed in
    and_both (a && b && c && d) (places_sound number handed l.new ls)
    (and_both (a && b && c) d
    (and_both (a && b) c (and_both a b (le-leb _ _ s.rises) (le-leb _ _ s.among.back)) (lt-ltb _ _ s.among.there))
    (le-leb _ _ s.most))
    h

pub places_among : (number handed least : ℕ) (ls : List Lift) → places_sound number handed least ls ≡ true → Every (Among number) ls
places_among number handed least [] h = tt
places_among number handed least (l ∷ ls) h =
    let p = place_parts number handed least l ls h in
    (p.0.among, places_among number handed l.new ls p.1)

-- more units handed leave places sound
pub places_grow : (number handed handed' least : ℕ) (ls : List Lift) → handed ≤ handed' → places_sound number handed least ls ≡ true →
    places_sound number handed' least ls ≡ true
places_grow number handed handed' least [] g h = refl
places_grow number handed handed' least (l ∷ ls) g h =
    let p = place_parts number handed least l ls h in
    let q : l.new ≤ handed = p.0.most in
    parts_place number handed' least l ls (record { rises = p.0.rises; among = p.0.among; most = omega arith })
    (places_grow number handed handed' l.new ls g p.1)

-- and so does one lift more, to the place of the first unit not handed
pub places_last : (number least : ℕ) (ls : List Lift) (l : Lift) → places_sound number l.new least ls ≡ true → least ≤ l.new →
    Among number l → places_sound number l.new least (ls ++ (l ∷ [])) ≡ true
places_last number least [] l h r a = parts_place number l.new least l [] (record { rises = r; among = a; most = omega arith }) refl
places_last number least (m ∷ ls) l h r a =
    let p = place_parts number l.new least m ls h in
    parts_place number l.new least m (ls ++ (l ∷ [])) p.0 (places_last number m.new ls l p.1 p.0.most a)
