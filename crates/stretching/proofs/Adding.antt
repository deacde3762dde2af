-- A run more: last, or into its account's stretch; the index stays right.
use mathlib.Core.Path.{◌≡◌, refl, sym, ap, ◌∙◌}
use mathlib.Core.Bool.{true, false}
use mathlib.Core.List.{List, [], ◌∷◌, ◌++◌, map, map-append, append-nil}
use Prim.Native.Nat.{ℕ, zero, suc, ◌+◌, ◌-◌, ◌*◌, ◌/◌, ◌%◌, ◌≤◌, ◌<◌}
use native.Mathlib.Omega.{arith}
use native.Mathlib.Numerals.{add-one}
use lib.Dec.{leb, eqb, lit<}
use lib.ListN.{length, take, get_or, set, replicate, length-set, length-map, length-take, get_or-map}
use lib.Seq.{take-suc-set, take-set-le, take-set-lt, get_or-set_same, get_or-set_other, get_or-take, take-take, length-take-le}
use borrow.Author.Tests.{le-leb, lt-leb, leb-true, leb-false, eqb-true, eqb-false, eq-eqb, ne_eqb}
use Rattle.rules.specs.Measures.{Every, unit_lots, total}
use Rattle.rules.specs.Units.{AccountLots, account_lots, of_account}
use Rattle.rules.specs.Fails.{is_full_of, stretches}
use Rattle.laws.proofs.Basics.{by_test, and_left, and_both, each_append, put_pos, total_append}
use Rattle.laws.proofs.Fails.{additive_account}
use Rattle.laws.proofs.Stretches.{total_stretches}
use Rattle.laws.proofs.DealtStretches.{join_last, join_new, join_small, join_at, stretches_last, run_last, stretches_front}
use Rattle.runs.specs.Runs.{part_of, runs_in, units_of_run, Plain}
use Rattle.units.proofs.Begins.{run_account}
use Rattle.stretching.specs.Adding.{StretchesOf, NoneOf, FirstOf, Indexed, Fits, CanAdd, Added}

-- what the stores ask, and what they do
record CanJoin (out : List ℕ) (c : ℕ) (at : List ℕ) (word : ℕ) : Type 0 where
  pub room : c < length out
  pub index : Indexed out c at
  pub fits : (p : ℕ) → get_or at (word % 64) 0 ≡ suc p → get_or out p 0 + word < 4294967296

record JoinedLast (before after : List ℕ) (c : ℕ) (at : List ℕ) (word r : ℕ) : Type 0 where
  pub list : runs_in after r ≡ join_last unit_lots (part_of word) (runs_in before c)
  pub index : Indexed after r at

-- a word behind c others
last_in : (out : List ℕ) (c w : ℕ) → c < length out → runs_in (set out c w) (c + 1) ≡ runs_in out c ++ (part_of w ∷ [])
last_in out c w h = rw (add-one) (ap (map part_of) (take-suc-set out c w h) ∙ map-append part_of (take c out) (w ∷ []))

front_in : (out : List ℕ) (c w p : ℕ) → p ≤ c → runs_in (set out c w) p ≡ runs_in out p
front_in out c w p h = ap (map part_of) (take-set-le p out c w h)

-- who has a stretch keeps it
kept_first : (out : List ℕ) (c w a p : ℕ) → FirstOf a p out c → FirstOf a p (set out c w) (c + 1)
kept_first out c w a p f =
    let b = f.below in
    record {
      below = omega arith;
      before = rw (front_in out c w p (omega arith)) f.before;
      full = rw (get_or-set_other out c p w 0 (λ e. omega arith)) f.full;
    }

none_last : (out : List ℕ) (c w a : ℕ) → c < length out → NoneOf a (runs_in out c) → is_full_of unit_lots a (part_of w) ≡ false → NoneOf a (runs_in (set out c w) (c + 1))
none_last out c w a h ps e =
    rw (last_in out c w h) (each_append (λ v. is_full_of unit_lots a v ≡ false) (runs_in out c) (part_of w ∷ []) ps (e, tt))

not_small : (a w : ℕ) → w < 6400000 → is_full_of unit_lots a (part_of w) ≡ false
not_small a w h = by_test (eqb (w % 64) a) (λ e. simp (e, lt-leb 100000 (w / 64) (omega arith))) (λ e. simp e)

not_other : (a w : ℕ) → (w % 64 ≡ a → ⊥) → is_full_of unit_lots a (part_of w) ≡ false
not_other a w ne = rw (ne_eqb (w % 64) a ne)

-- a stretch with other lots, full as before
each_set : (P : AccountLots → Type 0) (xs : List ℕ) (i x q : ℕ) → Every P (runs_in xs q) → P (part_of x) → Every P (runs_in (set xs i x) q)
each_set P [] i x q ps t = ps
each_set P (y ∷ ys) zero x zero ps t = tt
each_set P (y ∷ ys) zero x (suc q) ps t = (t, ps.1)
each_set P (y ∷ ys) (suc i) x zero ps t = tt
each_set P (y ∷ ys) (suc i) x (suc q) ps t = (ps.0, each_set P ys i x q ps.1 t)

pub keep_index : (out : List ℕ) (c : ℕ) (at : List ℕ) → Indexed out c at → (b p v : ℕ) → b < 64 → get_or at b 0 ≡ suc p → p < length out →
    v % 64 ≡ b → 6400000 ≤ v → Indexed (set out p v) c at
keep_index out c at i b p v lb e there account full =
    let first = i.some b p lb e in
    let own : get_or out p 0 % 64 ≡ b = eqb-true (get_or out p 0 % 64) b (and_left (eqb (get_or out p 0 % 64) b) (leb unit_lots (get_or out p 0 / 64)) first.full) in
    record {
      accounts = i.accounts;
      none = λ a l z.
          each_set (λ u. is_full_of unit_lots a u ≡ false) out p v c (i.none a l z)
          (not_other a v (λ q. zero_not (sym z ∙ ap (λ i. get_or at i 0) (sym (sym account ∙ q)) ∙ e)));
      some = λ a q l f.
          by_test (eqb b a)
          (λ g.
          let r = eqb-true b a g in
          let t : q ≡ p = omega (arith, e, ap (λ i. get_or at i 0) r ∙ f) in
          rw t (record {
            below = first.below;
            before = rw (ap (map part_of) (take-set-le p out p v (omega arith))) (rw r at first.before);
            full = rw (get_or-set_same out p v 0 there)
                (and_both (eqb (v % 64) a) (leb unit_lots (v / 64)) (eq-eqb (v % 64) a (account ∙ r)) (le-leb 100000 (v / 64) (omega arith)));
          }))
          (λ g.
          let ne = eqb-false b a g in
          let o = i.some a q l f in
          let apart : q ≡ p → ⊥ = λ t.
          ne (sym own ∙ ap (λ i. get_or out i 0 % 64) (sym t) ∙ eqb-true (get_or out q 0 % 64) a (and_left (eqb (get_or out q 0 % 64) a) (leb unit_lots (get_or out q 0 / 64)) o.full)) in
          record {
            below = o.below;
            before = each_set (λ u. is_full_of unit_lots a u ≡ false) out p v q o.before (not_other a v (λ t. ne (sym account ∙ t)));
            full = rw (get_or-set_other out p q v 0 apart) o.full;
          });
    }
  where
    zero_not : 0 ≡ suc p → ⊥
    zero_not t = omega arith

module _ (out : List ℕ) (c : ℕ) (at : List ℕ) (w : ℕ) (can : CanJoin out c at w) where
  last_small : w < 6400000 → JoinedLast out (set out c w) c at w (c + 1)
  last_small h =
      record {
        list = last_in out c w can.room ∙ sym (join_small unit_lots (part_of w) (lt-leb 100000 (w / 64) (omega arith)) (runs_in out c));
        index = record {
          accounts = can.index.accounts;
          none = λ a l z. none_last out c w a can.room (can.index.none a l z) (not_small a w h);
          some = λ a p l e. kept_first out c w a p (can.index.some a p l e);
        };
      }

  last_new : 6400000 ≤ w → get_or at (w % 64) 0 ≡ 0 → JoinedLast out (set out c w) c (set at (w % 64) (c + 1)) w (c + 1)
  last_new h z =
      let b = w % 64 in
      let lb : b < length at = omega (arith, can.index.accounts) in
      record {
        list = last_in out c w can.room ∙ sym (join_new unit_lots (part_of w) (runs_in out c) (can.index.none b (omega arith) z));
        index = record {
          accounts = length-set at b (c + 1) ∙ can.index.accounts;
          none = λ a l q.
              by_test (eqb b a)
              (λ e. absurd (omega (arith, ap (λ i. get_or (set at b (c + 1)) i 0) (eqb-true b a e) ∙ q, get_or-set_same at b (c + 1) 0 lb)))
              (λ e.
              let ne = eqb-false b a e in
              none_last out c w a can.room (can.index.none a l (sym (get_or-set_other at b a (c + 1) 0 (λ r. ne (sym r))) ∙ q)) (not_other a w ne));
          some = λ a p l q.
              by_test (eqb b a)
              (λ e.
              let r = eqb-true b a e in
              let k : p ≡ c = omega (arith, ap (λ i. get_or (set at b (c + 1)) i 0) r ∙ q, get_or-set_same at b (c + 1) 0 lb) in
              rw k (record {
                below = omega arith;
                before = rw (front_in out c w c (omega arith)) (rw r at (can.index.none b (omega arith) z));
                full = rw (get_or-set_same out c w 0 can.room) (and_both (eqb b a) (leb unit_lots (w / 64)) e (le-leb 100000 (w / 64) (omega arith)));
              }))
              (λ e.
              let ne = eqb-false b a e in
              kept_first out c w a p (can.index.some a p l (sym (get_or-set_other at b a (c + 1) 0 (λ r. ne (sym r))) ∙ q)));
        };
      }

  -- into the stretch at place p
  module _ (p : ℕ) (h : 6400000 ≤ w) (e : get_or at (w % 64) 0 ≡ suc p) where
    abbrev k : ℕ
    k = get_or out p 0

    abbrev v : ℕ
    v = k + w / 64 * 64

    first : FirstOf (w % 64) p out c
    first = can.index.some (w % 64) p (omega arith) e

    own : k % 64 ≡ w % 64
    own = eqb-true (k % 64) (w % 64) (and_left (eqb (k % 64) (w % 64)) (leb unit_lots (k / 64)) first.full)

    account : v % 64 ≡ w % 64
    account = let q : v % 64 ≡ k % 64 = omega arith in q ∙ own

    lots : v / 64 ≡ k / 64 + w / 64
    lots = omega arith

    set_in : (xs : List ℕ) (i x : ℕ) → map part_of (set xs i x) ≡ set (map part_of xs) i (part_of x)
    set_in [] i x = refl
    set_in (y ∷ ys) zero x = refl
    set_in (y ∷ ys) (suc i) x = ap (λ l. part_of y ∷ l) (set_in ys i x)

    run_at : get_or (runs_in out c) p (part_of 0) ≡ part_of k
    run_at = get_or-map part_of (take c out) p 0 ∙ ap part_of (get_or-take c out p 0 first.below)

    into_own : JoinedLast out (set out p v) c at w c
    into_own =
        let below = first.below in
        let there : p < length out = omega (arith, can.room) in
        let long : length (runs_in out c) ≡ c = length-map (take c out) part_of ∙ length-take-le c out (omega (arith, can.room)) in
        record {
          list = ap (map part_of) (take-set-lt c out p v below) ∙ set_in (take c out) p v
              ∙ sym (join_at unit_lots (part_of w) (le-leb 100000 (w / 64) (omega arith)) p (part_of 0) (runs_in out c) (omega arith)
              (rw (front c p (omega arith)) first.before) (rw run_at first.full)
              ∙ ap (λ u. set (runs_in out c) p (account_lots u.account (u.lots + w / 64))) run_at
              ∙ ap (set (runs_in out c) p) (ap (λ n. account_lots n (k / 64 + w / 64)) (own ∙ sym account) ∙ ap (account_lots (v % 64)) (sym lots)));
          index = keep_index out c at can.index (w % 64) p v (omega arith) e there account (omega arith);
        }
      where
        front : (n q : ℕ) → q ≤ n → take q (runs_in out n) ≡ runs_in out q
        front n q g = taken q (take n out) ∙ ap (map part_of) (take-take q n out g)
          where
            taken : (q : ℕ) (xs : List ℕ) → take q (map part_of xs) ≡ map part_of (take q xs)
            taken zero xs = refl
            taken (suc q) [] = refl
            taken (suc q) (x ∷ xs) = ap (λ l. part_of x ∷ l) (taken q xs)

-- The units of a run, as one

pub run_stretches : (u : AccountLots) → Plain u → 1 ≤ u.lots → (us : List AccountLots) →
    stretches unit_lots (us ++ units_of_run u) ≡ join_last unit_lots u (stretches unit_lots us)
run_stretches u p h us =
    let a = u.account in
    let x = u.lots in
    by_test (leb unit_lots x)
    (λ e.
    let g : 100000 ≤ x = leb-true unit_lots x e in
    let r : x % 100000 ≡ 0 = p g in
    let q : x / 100000 ≡ suc (x / 100000 - 1) = omega arith in
    let y : suc (x / 100000 - 1) * 100000 ≡ x = omega arith in
    let k : units_of_run u ≡ replicate (suc (x / 100000 - 1)) (account_lots a 100000) =
    rw r (append-nil (replicate (x / 100000) (account_lots a 100000)) ∙ ap (λ n. replicate n (account_lots a 100000)) q) in
    ap (λ l. stretches unit_lots (us ++ l)) k
    ∙ run_last unit_lots a (lit< tt) (x / 100000 - 1) us
    ∙ ap (λ n. join_last unit_lots (account_lots a n) (stretches unit_lots us)) y)
    (λ e.
    let g = leb-false unit_lots x e in
    let q : x / 100000 ≡ 0 = omega arith in
    let r : x % 100000 ≡ x = omega arith in
    let k : units_of_run u ≡ u ∷ [] = rw (q, r) (put_pos a x [] h) in
    ap (λ l. stretches unit_lots (us ++ l)) k ∙ stretches_last unit_lots u us)

pub no_units : (w : ℕ) → w < 64 → units_of_run (part_of w) ≡ []
no_units w h = let z : w / 64 ≡ 0 = omega arith in rw z

-- Behind the stretches of some units

total_at : (f : AccountLots → ℕ) (us : List AccountLots) (p : ℕ) (d : AccountLots) → p < length us → f (get_or us p d) ≤ total f us
total_at f [] p d h = absurd (omega arith)
total_at f (u ∷ us) zero d h = omega arith
total_at f (u ∷ us) (suc p) d h = omega (arith, total_at f us p d (omega arith))

pub few_words : (out : List ℕ) (c : ℕ) (us : List AccountLots) → length out ≡ 144 → StretchesOf out c us → Fits us → c ≤ 128
few_words out c us w l f = omega (arith, f.few, ap length l, length-map (take c out) part_of, length-take c out)

pub fits_front : (us vs : List AccountLots) → Fits (us ++ vs) → Fits us
fits_front us vs h =
    record {
      few = omega (arith, h.few, stretches_front unit_lots us vs);
      small = λ a. omega (arith, h.small a, total_append (of_account a) us vs);
    }

module _ (out : List ℕ) (c : ℕ) (at : List ℕ) (w : ℕ) (can : CanAdd out c at w) where
  abbrev us : List AccountLots
  us = can.room.units

  abbrev a : ℕ
  a = w % 64

  few : c ≤ 128
  few = few_words out c us can.room.whole can.room.list (fits_front us (units_of_run (part_of w)) can.room.fits)

  own_lots : (p : ℕ) → FirstOf a p out c → get_or out p 0 / 64 + w / 64 ≤ 20800000
  own_lots p f =
      let k = get_or out p 0 in
      let b = f.below in
      let same : eqb (k % 64) a ≡ true = and_left (eqb (k % 64) a) (leb unit_lots (k / 64)) f.full in
      let long : length (runs_in out c) ≡ c = length-map (take c out) part_of ∙ length-take-le c out (omega (arith, few, can.room.whole)) in
      let e : get_or (runs_in out c) p (part_of 0) ≡ part_of k = get_or-map part_of (take c out) p 0 ∙ ap part_of (get_or-take c out p 0 b) in
      let g : k / 64 ≤ total (of_account a) (runs_in out c) = rw (e, same) at (total_at (of_account a) (runs_in out c) p (part_of 0) (omega arith)) in
      let v : total (of_account a) (units_of_run (part_of w)) ≡ w / 64 = run_account a (part_of w) ∙ rw (eq-eqb a a refl) in
      omega (
        arith,
        g,
        v,
        ap (total (of_account a)) can.room.list,
        total_stretches unit_lots (of_account a) (additive_account a) us,
        total_append (of_account a) us (units_of_run (part_of w)),
        can.room.fits.small a,
      )

  can_join : CanJoin out c at w
  can_join = record {
    room = omega (arith, few, can.room.whole);
    index = can.room.index;
    fits = λ p e. omega (arith, own_lots p (can.room.index.some a p (omega arith) e));
  }

  as_added : (after : List ℕ) (at' : List ℕ) (r : ℕ) → 64 ≤ w → JoinedLast out after c at' w r → Added out after c at' w r
  as_added after at' r h j = record {
    list = λ vs s. j.list ∙ ap (join_last unit_lots (part_of w)) s ∙ sym (run_stretches (part_of w) can.plain (omega arith) vs);
    index = j.index;
  }

  pub here : c < length out
  here = can_join.room

  pub added_none : w < 64 → Added out out c at w c
  added_none h = record {
    list = λ vs s. s ∙ ap (stretches unit_lots) (sym (ap (λ l. vs ++ l) (no_units w h) ∙ append-nil vs));
    index = can.room.index;
  }

  pub added_small : 64 ≤ w → w < 6400000 → Added out (set out c w) c at w (c + 1)
  added_small g h = as_added (set out c w) at (c + 1) g (last_small out c at w can_join h)

  pub added_new : 6400000 ≤ w → get_or at (w % 64) 0 ≡ 0 → Added out (set out c w) c (set at (w % 64) (c + 1)) w (c + 1)
  added_new h z = as_added (set out c w) (set at (w % 64) (c + 1)) (c + 1) (omega arith) (last_new out c at w can_join h z)

  module _ (p : ℕ) (h : 6400000 ≤ w) (e : get_or at (w % 64) 0 ≡ suc p) where
    pub own_there : p < length out
    own_there = omega (arith, (can.room.index.some a p (omega arith) e).below, here)

    pub own_fits : get_or out p 0 + w < 4294967296
    own_fits = can_join.fits p e

    pub added_own : Added out (set out p (get_or out p 0 + w / 64 * 64)) c at w c
    added_own = as_added (set out p (get_or out p 0 + w / 64 * 64)) at c (omega arith) (into_own out c at w can_join p h e)
