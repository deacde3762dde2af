-- What waits, span by span; and the cursor in front of its stretches.
use mathlib.Core.Path.{◌≡◌, refl, sym, ap, subst, ◌∙◌}
use mathlib.Core.Bool.{true, false}
use mathlib.Core.List.{List, [], ◌∷◌, ◌++◌}
use Prim.Native.Nat.{ℕ, suc, ◌+◌, ◌-◌, ◌*◌, ◌/◌, ◌%◌, ◌≤◌, ◌<◌, min}
use native.Mathlib.Omega.{arith}
use lib.Dec.{leb}
use lib.ListN.{length, take, drop, get_or, length-map, length-take, length-drop, take-append-drop}
use lib.Seq.{take-add, take_all, drop-drop}
use lib.IntN.{ℤ}
use borrow.Author.Tests.{leb-true, leb-false}
use Rattle.rules.specs.Measures.{Every, unit_lots, most_lots, total}
use Rattle.rules.specs.Units.{AccountLots, account_lots, of_account}
use Rattle.rules.specs.Handover.{covered, stock, waiting, first_unit}
use Rattle.rules.specs.Lifts.{Lift}
use Rattle.rules.specs.Fails.{stretches, lacks, drop_lots}
use Rattle.rules.specs.Book.{dues_of, places_in, order_in}
use Rattle.laws.proofs.Basics.{by_test, total_split}
use Rattle.laws.proofs.Cells.{length_dues}
use Rattle.laws.proofs.Dealt.{same_covered, same_stock}
use Rattle.laws.proofs.DealtStretches.{stretches_front}
use Rattle.laws.proofs.Handover.{covered_le, stock_below, waits_short}
use Rattle.laws.proofs.Lifts.{length_lifted}
use Rattle.laws.proofs.Overlaps.{skip_skip0}
use Rattle.laws.proofs.Room.{part_stretches}
use Rattle.laws.proofs.SoundRows.{order_in_lem, order_lots}
use Rattle.handover.specs.declared.Handed.{Handed}
use Rattle.runs.specs.Runs.{part_of, runs_in, units_of_words, units_in, CanOrder, Prepared}
use Rattle.handover.specs.Walking.{HandedIs}
use Rattle.units.specs.Cursor.{position, Started}
use Rattle.runs.proofs.Loops.{runs_at_lem, dues_small}
use Rattle.units.proofs.Begins.{cursor_lacks, skip0_cons}
use Rattle.dealing.specs.declared.Ranks.{Ranks}
use Rattle.unlifting.specs.declared.Span.{Span}
use Rattle.inturn.specs.InTurn.{dealt_runs}
use Rattle.dealing.specs.Dealing.{lifted_runs, full_number, IsRanked}
use Rattle.unlifting.specs.Unlifting.{SpanIs}
use Rattle.unlifting.proofs.Places as places
use Rattle.dealing.proofs.Dealer.{words_of, words_fulls, words_plain, can_deal_out, order_short, ranked_lifted, ranked_length, ranked_number, ranked_smalls}
use Rattle.stretching.specs.declared.Pending.{Pending}
use Rattle.stretching.specs.declared.Passed.{Passed}
use Rattle.stretching.specs.Adding.{StretchesOf}
use Rattle.stretching.specs.Spans.{span_in, CanFeedWaiting, FedWaiting, HasStarted}
use Rattle.stretching.specs.Gaps.{Waiting, CanFeedPending, FedPending, CanPass, HasPassed}
use Rattle.stretching.proofs.Spans.{runs_front}

-- Span by span

-- what waits, up to unit p
pub record Waits (runs : List ℕ) (n m : ℕ) (words : List ℕ) (k count : ℕ) (out at gaps : List ℕ) (p c : ℕ) (q : Pending) : Type 0 where
  pub from : k ≤ p
  pub reached : p ≤ count
  pub done : Waiting runs n m out c at gaps q (take (p - k) (drop k (lifted_runs runs n m words)))

module _ (runs : List ℕ) (n m : ℕ) (words : List ℕ) (k count : ℕ) (out₀ at₀ : List ℕ) (can : CanFeedWaiting runs n m words k count out₀ at₀) where
  abbrev lifted_units : List AccountLots
  lifted_units = lifted_runs runs n m words

  abbrev ls : List Lift
  ls = places_in (get_or words 0 0) (drop 2 words)

  pub waits_starts : (gaps : List ℕ) → length gaps ≡ 8 → Waits runs n m words k count out₀ at₀ gaps k 0 (record { base = 0; len = 0; gaps = 0 })
  unfolding span_in
  waits_starts gaps l =
      let z : k - k ≡ 0 = omega arith in
      record {
        from = omega arith;
        reached = can.some;
        done = rw z (record {
          whole = can.whole;
          index = record { accounts = can.accounts; none = λ a l e. tt; some = λ a p l e. absurd (omega (arith, can.none a, e)) };
          held = l;
          few = omega arith;
          there = omega arith;
          fed = [];
          rest = [];
          parts = refl;
          list = refl;
          span = refl;
          own = tt;
        });
      }

  lifted_length : length lifted_units ≡ count
  unfolding lifted_runs
  lifted_length = length_lifted ls (dealt_runs runs n m) ∙ sym can.all

  part_few : (y : ℕ) → length (stretches unit_lots (take y (drop k lifted_units))) ≤ 128
  part_few y =
      omega (
        arith,
        stretches_front unit_lots (take y (drop k lifted_units)) (drop y (drop k lifted_units)),
        ap (λ l. length (stretches unit_lots l)) (take-append-drop y (drop k lifted_units)),
        can.few,
      )

  part_small : (y a : ℕ) → total (of_account a) (take y (drop k lifted_units)) ≤ most_lots
  part_small y a = omega (arith, total_split (of_account a) y (drop k lifted_units), can.small a)

  module _ (out at gaps : List ℕ) (p c : ℕ) (q : Pending) (w : Waits runs n m words k count out at gaps p c q) where
    pub can_feed : CanFeedPending runs n m out c at gaps q
    can_feed =
        record {
          parted = can.parted;
          most = omega (arith, can.all, can.most);
          units = take (p - k) (drop k lifted_units);
          waits = w.done;
          few = part_few (p - k);
          small = part_small (p - k);
        }

    pub waits_ends : count ≤ p → (out' at' : List ℕ) (r : ℕ) → length out' ≡ length out → FedPending runs n m out out' c at at' gaps q r → FedWaiting runs n m words k out' r
    waits_ends h out' at' r l f =
        let us = take (p - k) (drop k lifted_units) in
        let e : us ≡ drop k lifted_units = take_all (p - k) (drop k lifted_units) (omega (arith, length-drop k lifted_units, lifted_length, w.from)) in
        let s : StretchesOf out' r us = f.list us w.done in
        record {
          there = omega (arith, ap length s, length-map (take r out') part_of, length-take r out', part_few (p - k), l, w.done.whole);
          list = s ∙ ap (stretches unit_lots) e;
        }

    -- a span more
    module _ (h : p < count) (s : Span) (si : SpanIs words p s) (x : ℕ) (e : x ≡ min s.len (count - p)) where
      abbrev done : List AccountLots
      done = take (p - k) (drop k lifted_units)

      before : (s.base + x ≤ length (dealt_runs runs n m)) × (take x (drop p lifted_units) ≡ take x (drop s.base (dealt_runs runs n m)))
      unfolding lifted_runs
      before =
          let one = si.one in
          places.span_part ls (dealt_runs runs n m) p s.base s.len x can.places (omega arith) (omega arith) (omega (arith, can.all)) si.places

      span_is : span_in runs n m s.base x ≡ take x (drop p lifted_units)
      unfolding span_in
      span_is = sym before.1

      farther : done ++ span_in runs n m s.base x ≡ take (p + x - k) (drop k lifted_units)
      farther =
          let f = w.from in
          let t : p + x - k ≡ p - k + x = omega arith in
          let u : k + (p - k) ≡ p = omega arith in
          ap (λ l. done ++ l) (span_is ∙ ap (λ i. take x (drop i lifted_units)) (sym u) ∙ ap (take x) (sym (drop-drop (p - k) k lifted_units)))
          ∙ sym (take-add (p - k) x (drop k lifted_units)) ∙ ap (λ i. take i (drop k lifted_units)) (sym t)

      pub can_pass : CanPass runs n m out c at gaps q s.base x
      can_pass = record { ready = can_feed; there = before.0 }

      pub waits_next : (out' at' gaps' : List ℕ) (r : Passed) → HasPassed runs n m out out' c at at' gaps gaps' q s.base x r →
          Waits runs n m words k count out' at' gaps' (p + x) r.count r.pending
      waits_next out' at' gaps' r j =
          let f = w.from in
          record {
            from = omega arith;
            reached = omega arith;
            done = subst (Waiting runs n m out' r.count at' gaps' r.pending) farther (j done w.done);
          }

      pub step_on : 0 < x
      step_on = let one = si.one in omega arith

-- The cursor

none_stretches : (us : List AccountLots) → length (stretches unit_lots us) ≡ 0 → us ≡ []
none_stretches [] e = refl
none_stretches (u ∷ us) e =
    by_test (leb unit_lots u.lots) (λ t. absurd (omega (arith, simp t at e))) (λ t. absurd (omega (arith, simp t at e)))

head_stretch : (us : List AccountLots) → 0 < length us →
    ((first_unit (stretches unit_lots us)).account ≡ (first_unit us).account) × ((first_unit us).lots ≤ (first_unit (stretches unit_lots us)).lots)
head_stretch [] h = absurd (omega arith)
head_stretch (u ∷ us) h = by_test (leb unit_lots u.lots) (λ t. simp t (refl, omega arith)) (λ t. simp t (refl, omega arith))

module _ (us : List AccountLots) (d : ℕ) (out : List ℕ) (c st : ℕ) (there : c ≤ length out) (list : runs_in out c ≡ stretches unit_lots (waiting us d)) (left : st ≡ stock us d) where
  runs_none : c ≡ 0 → runs_in out c ≡ []
  runs_none z = rw z

  pub begins_none : c ≡ 0 → Started us out c d (position 0 0 0 st)
  unfolding lacks
  begins_none z =
      let w : waiting us d ≡ [] = none_stretches (waiting us d) (ap length (sym list ∙ runs_none z)) in
      record {
        lacking = cursor_lacks out c 0 0 0 st (lacks unit_lots us d) (rw (runs_none z, w));
        left = left;
        next = rw w;
        range = record { from = omega arith; to = omega arith; short = omega arith };
      }

  module _ (o : 0 < c) where
    abbrev key : ℕ
    key = get_or out 0 0

    abbrev rest : List AccountLots
    rest = drop 1 (runs_in out c)

    seen : runs_in out c ≡ part_of key ∷ rest
    seen = runs_at_lem out c 0 there o

    some : 0 < length (waiting us d)
    some =
        by_test (leb 1 (length (waiting us d))) (λ e. leb-true 1 (length (waiting us d)) e)
        (λ e. absurd (omega (arith, ap length (sym seen ∙ list ∙ ap (stretches unit_lots) (empty (waiting us d) e)))))
      where
        empty : (ws : List AccountLots) → leb 1 (length ws) ≡ false → ws ≡ []
        empty [] e = refl
        empty (w ∷ ws) e = absurd (omega (arith, leb-false 1 (suc (length ws)) e))

    heads : (key % 64 ≡ (first_unit (waiting us d)).account) × ((first_unit (waiting us d)).lots ≤ key / 64)
    heads =
        let h = head_stretch (waiting us d) some in
        let f = sym seen ∙ list in
        (ap (λ l. (first_unit l).account) f ∙ h.0, omega (arith, h.1, ap (λ l. (first_unit l).lots) f))

    below : st < key / 64
    below =
        omega (
          arith,
          heads.1,
          left,
          stock_below us d (waits_short us d (omega (arith, some, length-drop (covered us d) us))),
        )

    pub lack_fits : st ≤ key / 64
    lack_fits = omega (arith, below)

    pub begins_some : Started us out c d (position 1 (key % 64) (key / 64 - st) st)
    unfolding lacks
    begins_some =
        let z : st - key / 64 ≡ 0 = omega (arith, below) in
        let all : lacks unit_lots us d ≡ drop_lots 0 (account_lots (key % 64) (key / 64 - st) ∷ rest) =
        ap (λ x. drop_lots x (stretches unit_lots (waiting us d))) (sym left) ∙ ap (drop_lots st) (sym list ∙ seen)
        ∙ rw z (sym (skip0_cons (account_lots (key % 64) (key / 64 - st)) rest)) in
        record {
          lacking = cursor_lacks out c 1 (key % 64) (key / 64 - st) st (lacks unit_lots us d)
              (sym (ap (drop_lots 0) all ∙ skip_skip0 0 (account_lots (key % 64) (key / 64 - st) ∷ rest)));
          left = left;
          next = heads.0;
          range = record { from = omega arith; to = omega arith; short = omega arith };
        }

-- An issue

fulls_front : (us : List AccountLots) → Every (λ v. unit_lots ≤ v.lots) (take (full_number us) us)
fulls_front [] = tt
fulls_front (u ∷ us) =
    by_test (leb unit_lots u.lots) (λ e. simp e ((leb-true unit_lots u.lots e, fulls_front us))) (λ e. simp e tt)

module _ (nets : List ℤ) (lifts : List ℕ) (i : ℕ) (o : CanOrder nets lifts i) (keys : List ℕ) (p : Ranks) (r : IsRanked nets i keys p)
    (d : ℕ) (before : List ℕ) (b : ℕ) (q : Prepared nets lifts i before b) (h : Handed) (hi : HandedIs (units_of_words (take b before)) d h) where
  abbrev us : List AccountLots
  us = order_in true nets lifts i

  abbrev ws : List ℕ
  ws = take (i * 18 + 18 - i * 18) (drop (i * 18) lifts)

  covers : h.count ≡ covered us d
  unfolding units_in
  covers = hi.covers ∙ ap (λ vs. covered vs d) q.units ∙ sym (same_covered us (order_in false nets lifts i) (order_lots true nets lifts i) d)

  left : h.stock ≡ stock us d
  unfolding units_in
  left = hi.left ∙ ap (λ vs. stock vs d) q.units ∙ sym (same_stock us (order_in false nets lifts i) (order_lots true nets lifts i) d)

  few_part : (k : ℕ) → length (stretches unit_lots (drop k us)) ≤ 128
  few_part k =
      let t : take (length us) (drop k us) ≡ drop k us = take_all (length us) (drop k us) (omega (arith, length-drop k us)) in
      omega (
        arith,
        ap (λ l. length (stretches unit_lots l)) t,
        part_stretches (dues_of nets i) us (order_in_lem true nets lifts i) k (length us),
        length_dues nets i o.cells o.issue,
      )

  small_part_lem : (k c : ℕ) → total (of_account c) (drop k us) ≤ most_lots
  small_part_lem k c =
      omega (
        arith,
        total_split (of_account c) k us,
        (order_in_lem true nets lifts i).due c,
        dues_small nets i (dues_of nets i) refl o.size c,
      )

  pub can_wait : (count : ℕ) → count ≡ length (units_of_words (words_of keys p)) → (out at : List ℕ) → length out ≡ 144 → length at ≡ 64 →
      ((a : ℕ) → get_or at a 0 ≡ 0) → CanFeedWaiting (words_of keys p) (length (words_of keys p)) p.full ws h.count count out at
  can_wait count e out at lo la z =
      let w = can_deal_out keys p lifts i 0 [] (record { nets = nets; order = o; ranked = r; there = omega arith }) in
      record {
        parted = record {
          ready = w.ready;
          plain = words_plain nets i keys p r;
          full = rw (runs_front (words_of keys p) p.full (length (words_of keys p)) w.ready.fulls, words_fulls nets i keys p r) (fulls_front (runs_in (words_of keys p) (length (words_of keys p))));
          small = ranked_smalls nets lifts i o keys p r;
        };
        spans = w.words;
        places = w.places;
        all = omega (arith, e, ranked_number nets lifts i o keys p r, ranked_length nets lifts i o keys p r);
        some = omega (arith, covers, covered_le us d, e, ranked_number nets lifts i o keys p r);
        most = omega (arith, e, ranked_number nets lifts i o keys p r, order_short nets lifts i o);
        whole = lo;
        accounts = la;
        none = z;
        few = rw (ranked_lifted nets lifts i o keys p r) (few_part h.count);
        small = rw (ranked_lifted nets lifts i o keys p r) (small_part_lem h.count);
      }

  module _ (out : List ℕ) (c : ℕ) (f : FedWaiting (words_of keys p) (length (words_of keys p)) p.full ws h.count out c) where
    list : runs_in out c ≡ stretches unit_lots (waiting us d)
    list =
        f.list ∙ ap (λ vs. stretches unit_lots (drop h.count vs)) (ranked_lifted nets lifts i o keys p r)
        ∙ ap (λ k. stretches unit_lots (drop k us)) covers

    pub starts_none : c ≡ 0 → HasStarted nets lifts i d out (record { n = c; position = position 0 0 0 h.stock })
    starts_none z = record { there = f.there; started = begins_none us d out c h.stock f.there list left z }

    pub starts_fits : 0 < c → h.stock ≤ get_or out 0 0 / 64
    starts_fits g = lack_fits us d out c h.stock f.there list left g

    pub starts_some : 0 < c → HasStarted nets lifts i d out (record { n = c; position = position 1 (get_or out 0 0 % 64) (get_or out 0 0 / 64 - h.stock) h.stock })
    starts_some g = record { there = f.there; started = begins_some us d out c h.stock f.there list left g }
