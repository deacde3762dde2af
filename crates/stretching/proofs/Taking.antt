-- Units taken off their stretches, and spans that are fed later.
use mathlib.Core.Path.{◌≡◌, refl, sym, ap, subst, ◌∙◌}
use mathlib.Core.Bool.{true, false}
use mathlib.Core.List.{List, [], ◌∷◌, ◌++◌, map, append_assoc}
use Prim.Native.Nat.{ℕ, zero, suc, ◌+◌, ◌-◌, ◌/◌, ◌%◌, ◌≤◌, ◌<◌}
use native.Mathlib.Omega.{arith}
use native.Mathlib.Numerals.{add-one}
use lib.Dec.{leb, ltb, eqb}
use native.Mathlib.Nat.{add-zero}
use lib.ListN.{length, take, drop, get_or, set, length-map, length-set, length-take, get_or-map, get_or-append, get_or-eq_default}
use lib.Seq.{take_all, get_or-take, get_or-drop, length-take-le, take-suc, take-suc-set, take-add, drop-cons, drop-drop}
use borrow.Author.Tests.{leb-true, leb-false, ltb-true, ltb-false, eqb-true}
use Rattle.rules.specs.Measures.{Every, unit_lots, total}
use Rattle.rules.specs.Units.{AccountLots, account_lots, of_account}
use Rattle.rules.specs.Fails.{is_full_of, stretches}
use Rattle.laws.proofs.Basics.{by_test, and_left, and_right, each_map, each_append}
use Rattle.laws.proofs.Fails.{additive_account}
use Rattle.laws.proofs.Stretches.{total_stretches}
use Rattle.runs.specs.Runs.{part_of, runs_in}
use Rattle.stretching.specs.Adding.{NoneOf, FirstOf, Indexed, Fits}
use Rattle.stretching.specs.Spans.{Parted, span_in, CanFeedSpan, FedSpan}
use Rattle.inturn.specs.declared.Deal.{Deal}
use Rattle.inturn.specs.InTurn.{full_unit, most_rounds, smalls_of, dealt_runs, dealt_from, Seated}
use Rattle.rules.specs.Dealt.{rounds}
use Rattle.stretching.specs.declared.Pending.{Pending}
use Rattle.stretching.specs.Gaps.{Has, more, less, mores, CanTake, Taken, CanTakeAll, TakenAll, Waiting, CanFeedPending, FedPending, CanGap, Gap}
use Rattle.stretching.proofs.Adding.{keep_index, few_words}
use Rattle.stretching.proofs.Spans.{runs_front}
use Rattle.stretching.proofs.Gaps.{has_more, has_mores, has_front, has_at, none_has, less_more, twice, mores_last, gap_more, behind_mores, length_mores, total_mores}

-- A unit less in a word

less_at : (a : ℕ) (out : List ℕ) (c p : ℕ) → p < c → c ≤ length out → NoneOf a (runs_in out p) → is_full_of unit_lots a (part_of (get_or out p 0)) ≡ true →
    runs_in (set out p (get_or out p 0 - 6400000)) c ≡ less unit_lots a (runs_in out c)
less_at a [] c p h l ns f = absurd (omega arith)
less_at a (w ∷ ws) zero p h l ns f = absurd (omega arith)
less_at a (w ∷ ws) (suc c) zero h l ns f =
    let g : 100000 ≤ w / 64 = leb-true 100000 (w / 64) (and_right (eqb (w % 64) a) (leb 100000 (w / 64)) f) in
    let p : (w - 6400000) % 64 ≡ w % 64 = omega arith in
    let q : (w - 6400000) / 64 ≡ w / 64 - 100000 = omega arith in
    simp f (ap (λ u. u ∷ runs_in ws c) (ap (λ n. account_lots n ((w - 6400000) / 64)) p ∙ ap (account_lots (w % 64)) q))
less_at a (w ∷ ws) (suc c) (suc p) h l ns f =
    simp ns.0 (ap (λ l. part_of w ∷ l) (less_at a ws c p (omega arith) (omega arith) ns.1 f))

module _ (out : List ℕ) (c : ℕ) (at : List ℕ) (a : ℕ) (can : CanTake out c at a) (p : ℕ) (e : get_or at a 0 ≡ suc p) where
  first : FirstOf a p out c
  first = can.index.some a p can.account e

  pub take_there : p < length out
  take_there = omega (arith, first.below, can.there)

  pub take_full : 12800000 ≤ get_or out p 0
  take_full = can.twice p e

  own : get_or out p 0 % 64 ≡ a
  own = eqb-true (get_or out p 0 % 64) a (and_left (eqb (get_or out p 0 % 64) a) (leb unit_lots (get_or out p 0 / 64)) first.full)

  pub taken : Taken out (set out p (get_or out p 0 - 6400000)) c at a
  taken =
      let k = get_or out p 0 in
      let f = take_full in
      let v : (k - 6400000) % 64 ≡ k % 64 = omega arith in
      record {
        list = less_at a out c p first.below can.there first.before first.full;
        index = keep_index out c at can.index a p (k - 6400000) can.account e take_there (v ∙ own) (omega arith);
      }

-- One account after the other

each_get : (P : ℕ → Type 0) (n : ℕ) (gs : List ℕ) (i : ℕ) → Every P (take n gs) → i < n → i < length gs → P (get_or gs i 0)
each_get P n [] i ps h l = absurd (omega arith)
each_get P zero (g ∷ gs) i ps h l = absurd (omega arith)
each_get P (suc n) (g ∷ gs) zero ps h l = ps.0
each_get P (suc n) (g ∷ gs) (suc i) ps h l = each_get P n gs i ps.1 (omega arith) (omega arith)

run_at : (out : List ℕ) (c p : ℕ) → p < c → get_or (runs_in out c) p (part_of 0) ≡ part_of (get_or out p 0)
run_at out c p h = get_or-map part_of (take c out) p 0 ∙ ap part_of (get_or-take c out p 0 h)

runs_number : (out : List ℕ) (c : ℕ) → c ≤ length out → length (runs_in out c) ≡ c
runs_number out c h = length-map (take c out) part_of ∙ length-take-le c out h

first_has : (out : List ℕ) (c a p : ℕ) → FirstOf a p out c → Has unit_lots a (runs_in out c)
first_has out c a p f =
    let k = leb-true 100000 (get_or out p 0 / 64) (and_right (eqb (get_or out p 0 % 64) a) (leb 100000 (get_or out p 0 / 64)) f.full) in
    let g : p < length out =
    by_test (ltb p (length out)) (λ e. ltb-true p (length out) e)
    (λ e. absurd (omega (arith, k, get_or-eq_default out 0 (ltb-false p (length out) e)))) in
    has_at a p (part_of 0) (runs_in out c) (omega (arith, length-map (take c out) part_of, length-take c out, f.below))
    (subst (λ v. is_full_of unit_lots a v ≡ true) (sym (run_at out c p f.below)) f.full)

pub record Taking (before out : List ℕ) (c : ℕ) (at gaps : List ℕ) (n j : ℕ) : Type 0 where
  pub few : j ≤ n
  pub whole : length out ≡ length before
  pub index : Indexed out c at
  pub list : (rest : List AccountLots) → runs_in before c ≡ mores unit_lots (take n gaps) rest →
      Every (λ a. (a < 64) × Has unit_lots a rest) (take n gaps) → runs_in out c ≡ mores unit_lots (take j gaps) rest

module _ (before : List ℕ) (c : ℕ) (at gaps : List ℕ) (n : ℕ) (can : CanTakeAll before c at gaps n) where
  pub taking_starts : Taking before before c at gaps n n
  taking_starts = record { few = omega arith; whole = refl; index = can.index; list = λ rest e o. e }

  pub taking_ends : (out : List ℕ) (j : ℕ) → j ≤ 0 → Taking before out c at gaps n j → TakenAll before out c at gaps n
  taking_ends out j h t =
      let z : j ≡ 0 = omega arith in
      record { list = λ rest e o. t.list rest e o ∙ ap (λ i. mores unit_lots (take i gaps) rest) z; index = t.index }

  module _ (out : List ℕ) (j i : ℕ) (q : j ≡ suc i) (t : Taking before out c at gaps n j) where
    abbrev a : ℕ
    a = get_or gaps i 0

    there : i < length gaps
    there = omega (arith, t.few, can.held)

    one : Every (λ a. (a < 64) × Has unit_lots a can.rest) (take n gaps) → (a < 64) × Has unit_lots a can.rest
    one o = each_get (λ a. (a < 64) × Has unit_lots a can.rest) n gaps i o (omega (arith, t.few)) there

    abbrev left : List AccountLots → List AccountLots
    left rest = mores unit_lots (take i gaps) rest

    seen : (rest : List AccountLots) → runs_in before c ≡ mores unit_lots (take n gaps) rest → Every (λ a. (a < 64) × Has unit_lots a rest) (take n gaps) →
        runs_in out c ≡ more unit_lots a (left rest)
    seen rest e o =
        t.list rest e o ∙ ap (λ i. mores unit_lots (take i gaps) rest) q ∙ ap (λ l. mores unit_lots l rest) (take-suc gaps i 0 there)
        ∙ mores_last unit_lots (take i gaps) a rest

    has : Has unit_lots a (left can.rest)
    has = has_mores unit_lots a (take i gaps) can.rest (one can.own).1

    now_seen : runs_in out c ≡ more unit_lots a (left can.rest)
    now_seen = seen can.rest can.list can.own

    pub can_take : CanTake out c at a
    can_take =
        let w : c ≤ length out = omega (arith, t.whole, can.there) in
        record {
          whole = t.whole ∙ can.whole;
          there = w;
          index = t.index;
          account = (one can.own).0;
          some = by_test (leb 1 (get_or at a 0)) (λ e. leb-true 1 (get_or at a 0) e)
              (λ e.
              absurd (none_has a (runs_in out c) (t.index.none a (one can.own).0 (omega (arith, leb-false 1 (get_or at a 0) e)))
              (subst (Has unit_lots a) (sym now_seen) (has_more unit_lots a a (left can.rest) has))));
          twice = λ p e.
              let f = t.index.some a p (one can.own).0 e in
              let b = f.below in
              let l = runs_number out c w in
              let u : get_or (more unit_lots a (left can.rest)) p (part_of 0) ≡ part_of (get_or out p 0) = ap (λ l. get_or l p (part_of 0)) (sym now_seen) ∙ run_at out c p b in
              omega (
                arith,
                ap (λ u. u.lots) u,
                twice unit_lots a p (part_of 0) (left can.rest) has (omega (arith, ap length now_seen, length_mores unit_lots (a ∷ []) (left can.rest)))
                    (subst (Every (λ v. is_full_of unit_lots a v ≡ false)) (runs_front out p c (omega arith) ∙ ap (take p) now_seen) f.before)
                    (subst (λ v. is_full_of unit_lots a v ≡ true) (sym u) f.full),
              );
        }

    pub taking_next : (out' : List ℕ) → length out' ≡ length out → Taken out out' c at a → Taking before out' c at gaps n i
    taking_next out' l k =
        record {
          few = omega (arith, t.few);
          whole = l ∙ t.whole;
          index = k.index;
          list = λ rest e o.
              k.list ∙ ap (less unit_lots a) (seen rest e o)
              ∙ less_more unit_lots a (left rest) (has_mores unit_lots a (take i gaps) rest (each_get (λ a. (a < 64) × Has unit_lots a rest) n gaps i o (omega (arith, t.few)) there).1);
        }

-- A span fed later

module _ (runs : List ℕ) (n m : ℕ) (out : List ℕ) (c : ℕ) (at gaps : List ℕ) (p : Pending) where
  abbrev span : List AccountLots
  span = span_in runs n m p.base p.len

  abbrev gs : List ℕ
  gs = take p.gaps gaps

  -- what is lent of the accounts is all of them
  lent : take (length gs) gs ≡ gs
  lent = take_all (length gs) gs (omega arith)

  own_all : (us : List AccountLots) → Waiting runs n m out c at gaps p us → Every (λ a. (a < 64) × Has unit_lots a (stretches unit_lots us)) gs
  own_all us w =
      each_map (λ a. (a < 64) × Has unit_lots a (stretches unit_lots w.fed)) (λ a. (a < 64) × Has unit_lots a (stretches unit_lots us))
      (λ a h. (h.0, subst (λ l. Has unit_lots a (stretches unit_lots l)) (sym w.parts) (has_front unit_lots a w.fed w.rest h.1))) gs w.own

  module _ (can : CanFeedPending runs n m out c at gaps p) where
    abbrev w : Waiting runs n m out c at gaps p can.units
    w = can.waits

    fits : Fits (w.fed ++ span)
    fits =
        record {
          few = omega (arith, ap length w.span, length_mores unit_lots gs (stretches unit_lots can.units), can.few);
          small = λ a.
              omega (
                arith,
                ap (total (of_account a)) w.span,
                total_stretches unit_lots (of_account a) (additive_account a) (w.fed ++ span),
                total_stretches unit_lots (of_account a) (additive_account a) can.units,
                total_mores a gs (stretches unit_lots can.units),
                length-take p.gaps gaps,
                w.few,
                can.small a,
              );
        }

    pub pending_span : CanFeedSpan runs n m p.base p.len out c at
    pending_span =
        record {
          parted = can.parted;
          there = w.there;
          fits = omega (arith, w.there, can.most);
          room = record { whole = w.whole; index = w.index; units = w.fed; list = w.list; fits = fits };
        }

    module _ (o₁ a₁ : List ℕ) (r : ℕ) (l : length o₁ ≡ length out) (j : FedSpan runs n m p.base p.len out o₁ c a₁ r) where
      pub pending_take : CanTakeAll o₁ r a₁ gs (length gs)
      pending_take =
          record {
            whole = l ∙ w.whole;
            there = omega (arith, few_words o₁ r (w.fed ++ span) (l ∙ w.whole) (j.list w.fed w.list) fits, l, w.whole);
            index = j.index;
            held = omega arith;
            rest = stretches unit_lots can.units;
            list = rw lent (j.list w.fed w.list ∙ w.span);
            own = rw lent (own_all can.units w);
          }

      pub pending_fed : (o₂ : List ℕ) → TakenAll o₁ o₂ r a₁ gs (length gs) → FedPending runs n m out o₂ c at a₁ gaps p r
      pending_fed o₂ k =
          record {
            list = λ us v. k.list (stretches unit_lots us) (rw lent (j.list v.fed v.list ∙ v.span)) (rw lent (own_all us v));
            index = k.index;
          }

-- A unit between two spans

module _ (runs : List ℕ) (n m e : ℕ) (parted : Parted runs n m) (h : e < length (dealt_runs runs n m)) (d : Deal)
    (list : drop e (dealt_runs runs n m) ≡ dealt_from runs n m d) (s : Seated runs m d) (o : 0 < d.wide) where
  abbrev z : AccountLots
  z = full_unit (part_of 0)

  abbrev F : List AccountLots
  F = map full_unit (runs_in runs d.wide)

  abbrev rest_of : List AccountLots
  rest_of = rounds unit_lots (suc d.round) most_rounds (runs_in runs d.wide) ++ smalls_of runs n m

  wide_there : d.wide ≤ length runs
  wide_there = omega (arith, s.few, parted.ready.falling.there)

  F-length : length F ≡ d.wide
  F-length = length-map (runs_in runs d.wide) full_unit ∙ runs_number runs d.wide wide_there

  head : get_or (dealt_runs runs n m) e z ≡ full_unit (part_of (get_or runs d.at 0))
  unfolding dealt_from
  head =
      let i = s.within o in
      let D = dealt_runs runs n m in
      ap (λ i. get_or D i z) (sym (add-zero e)) ∙ sym (get_or-drop e D 0 z) ∙ ap (λ l. get_or l 0 z) list
      ∙ get_or-drop d.at (F ++ rest_of) 0 z ∙ ap (λ i. get_or (F ++ rest_of) i z) (add-zero d.at)
      ∙ get_or-append F rest_of z d.at (omega (arith, F-length))
      ∙ get_or-map full_unit (runs_in runs d.wide) d.at (part_of 0)
      ∙ ap full_unit (run_at runs d.wide d.at i)

  pub unit_at : drop e (dealt_runs runs n m) ≡ account_lots (get_or runs d.at 0 % 64) unit_lots ∷ drop (suc e) (dealt_runs runs n m)
  unit_at = drop-cons (dealt_runs runs n m) e z h ∙ ap (λ u. u ∷ drop (suc e) (dealt_runs runs n m)) head

pub gap_is : (runs : List ℕ) (n m : ℕ) (at : List ℕ) (p : Pending) (base : ℕ) → CanGap runs n m at p base → 0 < base → base - 1 ≡ p.base + p.len → p.gaps < 8 →
    (d : Deal) → drop (base - 1) (dealt_runs runs n m) ≡ dealt_from runs n m d → Seated runs m d → 0 < d.wide →
    0 < get_or at (get_or runs d.at 0 % 64) 0 → Gap runs n m at p base (get_or runs d.at 0 % 64)
gap_is runs n m at p base can o e g d list s w k =
    let q : suc (base - 1) ≡ base = omega arith in
    record {
      next = omega arith;
      few = g;
      seen = k;
      unit = ap (λ i. drop i (dealt_runs runs n m)) (sym e)
          ∙ unit_at runs n m (base - 1) can.parted (omega (arith, can.there)) d list s w
          ∙ ap (λ i. account_lots (get_or runs d.at 0 % 64) unit_lots ∷ drop i (dealt_runs runs n m)) q;
    }

-- A span more

module _ (runs : List ℕ) (n m : ℕ) (out : List ℕ) (c : ℕ) (at gaps : List ℕ) (p : Pending) (base len : ℕ)
    (there : base + len ≤ length (dealt_runs runs n m)) where
  abbrev D : List AccountLots
  D = dealt_runs runs n m

  pub pass_fed : (o₁ a₁ : List ℕ) (r : ℕ) → length o₁ ≡ length out → FedPending runs n m out o₁ c at a₁ gaps p r →
      (us : List AccountLots) → Waiting runs n m out c at gaps p us →
      Waiting runs n m o₁ r a₁ gaps (record { base = base; len = len; gaps = 0 }) (us ++ span_in runs n m base len)
  pass_fed o₁ a₁ r l f us w =
      record {
        whole = l ∙ w.whole;
        index = f.index;
        held = w.held;
        few = omega arith;
        there = there;
        fed = us;
        rest = span_in runs n m base len;
        parts = refl;
        list = f.list us w;
        span = refl;
        own = tt;
      }

  module _ (a : ℕ) (la : a < 64) (g : Gap runs n m at p base a) (us : List AccountLots) (w : Waiting runs n m out c at gaps p us) where
    abbrev x : ℕ
    x = p.len + 1 + len

    abbrev P : List AccountLots
    P = span_in runs n m p.base p.len

    abbrev Q : List AccountLots
    Q = span_in runs n m base len

    longer : span_in runs n m p.base x ≡ P ++ (account_lots a unit_lots ∷ Q)
    unfolding span_in
    longer =
        let e : x ≡ p.len + suc len = omega arith in
        ap (λ i. take i (drop p.base D)) e ∙ take-add p.len (suc len) (drop p.base D)
        ∙ ap (λ l. take p.len (drop p.base D) ++ take (suc len) l) (drop-drop p.len p.base D ∙ g.unit)

    has_own : Has unit_lots a (stretches unit_lots w.fed)
    has_own = subst (Has unit_lots a) w.list (first_has out c a (get_or at a 0 - 1) (w.index.some a (get_or at a 0 - 1) la (omega (arith, g.seen))))

    pub pass_on : Waiting runs n m out c at (set gaps p.gaps a) (record { base = p.base; len = x; gaps = p.gaps + 1 }) (us ++ Q)
    pass_on =
        let gs = take p.gaps gaps in
        let l : take (p.gaps + 1) (set gaps p.gaps a) ≡ gs ++ (a ∷ []) = rw add-one (take-suc-set gaps p.gaps a (omega (arith, g.few, w.held))) in
        let e : stretches unit_lots (w.fed ++ span_in runs n m p.base x) ≡ mores unit_lots (gs ++ (a ∷ [])) (stretches unit_lots (us ++ Q)) =
        ap (λ l. stretches unit_lots (w.fed ++ l)) longer
        ∙ ap (stretches unit_lots) (sym (append_assoc w.fed P (account_lots a unit_lots ∷ Q)))
        ∙ gap_more unit_lots a w.fed P Q has_own
        ∙ ap (more unit_lots a)
        (behind_mores unit_lots gs (w.fed ++ P) us Q w.span
        (each_map (λ b. (b < 64) × Has unit_lots b (stretches unit_lots us)) (λ b. Has unit_lots b (stretches unit_lots us)) (λ b h. h.1) gs (own_all runs n m out c at gaps p us w)))
        ∙ sym (mores_last unit_lots gs a (stretches unit_lots (us ++ Q))) in
        record {
          whole = w.whole;
          index = w.index;
          held = length-set gaps p.gaps a ∙ w.held;
          few = omega (arith, g.few);
          there = omega (arith, g.next, there);
          fed = w.fed;
          rest = w.rest ++ Q;
          parts = ap (λ l. l ++ Q) w.parts ∙ append_assoc w.fed w.rest Q;
          list = w.list;
          span = e ∙ ap (λ l. mores unit_lots l (stretches unit_lots (us ++ Q))) (sym l);
          own = subst (Every (λ b. (b < 64) × Has unit_lots b (stretches unit_lots w.fed))) (sym l)
              (each_append (λ b. (b < 64) × Has unit_lots b (stretches unit_lots w.fed)) gs (a ∷ []) w.own ((la, has_own), tt));
        }
