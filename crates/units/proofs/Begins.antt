-- The cursor after a delivered total: what is lacking, the stock, and whose unit is next.
use mathlib.Core.Path.{◌≡◌, refl, sym, ap, subst, ◌∙◌}
use mathlib.Core.Bool.{cond, false, true}
use mathlib.Core.List.{List, [], ◌∷◌, ◌++◌, map, append-nil}
use Prim.Native.Nat.{ℕ, zero, suc, ◌+◌, ◌-◌, ◌*◌, ◌/◌, ◌%◌, ◌≤◌, ◌<◌}
use native.Mathlib.Omega.{arith}
use native.Mathlib.Nat.{sub-zero, zero-sub, suc-sub-suc}
use lib.Dec.{leb, eqb, lit<}
use lib.ListN.{length, take, drop, get_or, replicate, length-drop, get_or-append}
use lib.Seq.{drop-cons, length-take-le, take-nil, take_all, take_at, get_or-append-add, take-append-add, take-append_seam, drop-append-add}
use borrow.Author.Tests.{leb-true, leb-false, eq-eqb}
use Rattle.rules.specs.Measures.{total, unit_lots}
use Rattle.rules.specs.Units.{AccountLots, account_lots, prepend, by_account, of_account}
use Rattle.rules.specs.Handover.{covered, stock, waiting, first_unit}
use Rattle.rules.specs.Fails.{is_full_of, full_lots, without_fulls, join, stretches, drop_lots, overlaps, lacks}
use Rattle.laws.proofs.Basics.{by_test, Every, put_pos, total_append, total_split, total_replicate, total_put}
use Rattle.laws.proofs.Overlaps.{skip_skip0, skip_put, overlaps_skip0, overlaps_short0}
use Rattle.laws.proofs.Gather.{gathered, gather_stretches, run_join}
use Rattle.runs.specs.Runs.{part_of, runs_in, units_of_run, units_of_runs, units_of_words, units_in, Plain, Held}
use Rattle.gathering.specs.Gathering.{HandsOn, CanGather, spent, laid, fulls_of}
use Rattle.gathering.specs.declared.Waiting.{Waiting}
use Rattle.units.specs.Cursor.{overlaps_in, overlaps_from, position, Started}
use Rattle.units.specs.declared.Position.{Position}
use Rattle.runs.proofs.Units.{covered_run, first_run}
use Rattle.runs.proofs.Loops.{runs_at_lem, runs_end}
use Rattle.gathering.proofs.Gathers.{drop_map}

-- Runs of 0 lots

pub skip0_cons : (v : AccountLots) (vs : List AccountLots) → drop_lots 0 (v ∷ vs) ≡ prepend v.account v.lots (drop_lots 0 vs)
skip0_cons v vs = rw (sub-zero v.lots, zero-sub v.lots)

skip0_tail : (v : AccountLots) (us vs : List AccountLots) → drop_lots 0 us ≡ drop_lots 0 vs → drop_lots 0 (v ∷ us) ≡ drop_lots 0 (v ∷ vs)
skip0_tail v us vs e = skip0_cons v us ∙ ap (prepend v.account v.lots) e ∙ sym (skip0_cons v vs)

full_none : (a b : ℕ) → is_full_of unit_lots a (account_lots b 0) ≡ false
full_none a b = by_test (eqb b a) (λ e. simp e) (λ e. simp e)

full_skip0 : (a : ℕ) (vs : List AccountLots) → full_lots unit_lots a (drop_lots 0 vs) ≡ full_lots unit_lots a vs
full_skip0 a [] = refl
full_skip0 a (v ∷ vs) =
    ap (full_lots unit_lots a) (skip0_cons v vs)
    ∙ total_put (λ w. cond (is_full_of unit_lots a w) w.lots 0) v.account v.lots (drop_lots 0 vs) (rw (full_none a v.account))
    ∙ ap (λ n. cond (is_full_of unit_lots a v) v.lots 0 + n) (full_skip0 a vs)

without_put : (a b x : ℕ) (vs : List AccountLots) →
    without_fulls unit_lots a (prepend b x vs) ≡ cond (is_full_of unit_lots a (account_lots b x)) (without_fulls unit_lots a vs) (prepend b x (without_fulls unit_lots a vs))
without_put a b zero vs = rw (full_none a b)
without_put a b (suc n) vs = refl

without_skip0 : (a : ℕ) (vs : List AccountLots) → without_fulls unit_lots a (drop_lots 0 vs) ≡ drop_lots 0 (without_fulls unit_lots a vs)
without_skip0 a [] = refl
without_skip0 a (v ∷ vs) =
    ap (without_fulls unit_lots a) (skip0_cons v vs) ∙ without_put a v.account v.lots (drop_lots 0 vs)
    ∙ by_test (is_full_of unit_lots a v)
    (λ t. simp t (without_skip0 a vs))
    (λ t. simp t (ap (prepend v.account v.lots) (without_skip0 a vs) ∙ sym (skip0_cons v (without_fulls unit_lots a vs))))

-- laid and gathered are the same but for runs of 0 lots
laid_gathered : (s : ℕ → ℕ) (us : List AccountLots) → drop_lots 0 (laid s us) ≡ drop_lots 0 (gathered unit_lots s us)
laid_gathered s [] = refl
laid_gathered s (u ∷ us) =
    let a = u.account in
    by_test (leb unit_lots u.lots)
    (λ t. simp t (skip0_tail (account_lots a (s a)) (laid (spent s a) us) (gathered unit_lots (spent s a) us) (laid_gathered (spent s a) us)
    ∙ sym (skip_put a (s a) 0 (gathered unit_lots (spent s a) us))))
    (λ t. simp t (skip0_tail u (laid s us) (gathered unit_lots s us) (laid_gathered s us)))

-- runs have the stretches of their units, but for runs of 0 lots
small_join : (a x : ℕ) (us : List AccountLots) → leb unit_lots x ≡ false → stretches unit_lots (prepend a x [] ++ us) ≡ prepend a x (stretches unit_lots us)
small_join a zero us e = refl
small_join a (suc n) us e = rw e

plain_stretches : (vs : List AccountLots) → Every Plain vs → drop_lots 0 (stretches unit_lots vs) ≡ stretches unit_lots (units_of_runs vs)
plain_stretches [] ps = refl
plain_stretches (v ∷ vs) ps =
    let a = v.account in
    let x = v.lots in
    let S = stretches unit_lots vs in
    let W = units_of_runs vs in
    let ih = plain_stretches vs ps.1 in
    by_test (leb unit_lots x)
    (λ t.
    let g : 100000 ≤ x = leb-true unit_lots x t in
    let r : x % 100000 ≡ 0 = ps.0 g in
    let q : x / 100000 ≡ suc (x / 100000 - 1) = omega arith in
    let y : suc (x / 100000 - 1) * 100000 ≡ x = omega arith in
    let e : units_of_run v ++ W ≡ replicate (suc (x / 100000 - 1)) (account_lots a 100000) ++ W =
    rw r (ap (λ l. l ++ W) (append-nil (replicate (x / 100000) (account_lots a 100000))) ∙ ap (λ n. replicate n (account_lots a 100000) ++ W) q) in
    let F = full_lots unit_lots a S in
    let f : 0 < x + F = omega arith in
    let j₁ : join unit_lots v S ≡ account_lots a (x + F) ∷ without_fulls unit_lots a S = simp t in
    let j₂ : join unit_lots v (drop_lots 0 S) ≡ account_lots a (x + F) ∷ drop_lots 0 (without_fulls unit_lots a S) = simp t (rw (full_skip0 a S, without_skip0 a S)) in
    ap (drop_lots 0) j₁
    ∙ skip0_cons (account_lots a (x + F)) (without_fulls unit_lots a S) ∙ put_pos a (x + F) (drop_lots 0 (without_fulls unit_lots a S)) f
    ∙ sym (ap (stretches unit_lots) e ∙ run_join unit_lots (lit< tt) a (x / 100000 - 1) W
    ∙ ap (λ n. join unit_lots (account_lots a n) (stretches unit_lots W)) y ∙ ap (join unit_lots v) (sym ih) ∙ j₂))
    (λ t.
    let g = leb-false unit_lots x t in
    let q : x / 100000 ≡ 0 = omega arith in
    let r : x % 100000 ≡ x = omega arith in
    simp t (skip0_cons v S ∙ ap (prepend a x) ih ∙ sym (small_join a x W t) ∙ rw (q, r)))

pub gathered_stretches : (vs : List AccountLots) → Every Plain vs →
    drop_lots 0 (laid (λ a. full_lots unit_lots a vs) vs) ≡ stretches unit_lots (units_of_runs vs)
gathered_stretches vs ps =
    laid_gathered (λ a. full_lots unit_lots a vs) vs ∙ ap (drop_lots 0) (gather_stretches unit_lots (lit< tt) vs) ∙ plain_stretches vs ps

-- The cursor

pub cursor_lacks : (runs : List ℕ) (n j a x st : ℕ) (vs : List AccountLots) → drop_lots 0 (account_lots a x ∷ drop j (runs_in runs n)) ≡ drop_lots 0 vs →
    (missing : List ℕ) → overlaps_from runs n missing (position j a x st).cursor ≡ overlaps (by_account 0 missing) vs
unfolding overlaps_in
cursor_lacks runs n j a x st vs e missing =
    let us = account_lots a x ∷ drop j (runs_in runs n) in
    overlaps_short0 (by_account 0 missing) us 0
    ∙ sym (overlaps_skip0 (by_account 0 missing) us) ∙ ap (overlaps (by_account 0 missing)) e ∙ overlaps_skip0 (by_account 0 missing) vs

-- of the first n words, which are all: from a run on, the runs stand for the units that wait
pub record Hands (before after : List ℕ) (n d : ℕ) (r : Waiting) : Type 0 where
  pub few : r.run ≤ n
  pub waits : units_of_runs (drop r.run (runs_in after n)) ≡ waiting (units_in before n) d
  pub left : r.stock ≡ stock (units_in before n) d
  pub some : r.run < n → r.stock < get_or after r.run 0 / 64
  pub plain : Every Plain (drop r.run (runs_in after n))

pub all_handed : (before after : List ℕ) (n d : ℕ) (r : Waiting) → n ≡ length before → n ≡ length after → Every Plain (runs_in before (length before)) →
    HandsOn before after d r → Hands before after n d r
unfolding units_in
all_handed before after n d r e f p h =
    let b : take n before ≡ before = take_all n before (omega arith) in
    let a : drop r.run (runs_in after n) ≡ map part_of (drop r.run after) =
    drop_map r.run (take n after) ∙ ap (λ l. map part_of (drop r.run l)) (take_all n after (omega arith)) in
    record {
      few = omega (arith, h.within);
      waits = rw (a, b) h.waits;
      left = rw b h.left;
      some = λ g. h.some (omega arith);
      plain = rw a (h.plain (rw (take_all (length before) before (omega arith)) at p));
    }

-- all runs are handed
pub begins_none : (before after : List ℕ) (n d : ℕ) (s : Waiting) → n ≤ length after → Hands before after n d s → n ≤ s.run →
    Started (units_in before n) after n d (position s.run 0 0 s.stock)
unfolding lacks
begins_none before after n d s l h g =
    let z = runs_end after n s.run l g in
    let w : waiting (units_in before n) d ≡ [] = sym h.waits ∙ ap units_of_runs z in
    record {
      lacking = cursor_lacks after n s.run 0 0 s.stock (lacks unit_lots (units_in before n) d) (rw (z, w));
      left = h.left;
      next = rw w;
      range = record { from = omega arith; to = omega arith; short = omega arith };
    }

laid_head : (s : ℕ → ℕ) (v : AccountLots) (us : List AccountLots) → (leb unit_lots v.lots ≡ true → v.lots ≤ s v.account) →
    ((first_unit (laid s (v ∷ us))).account ≡ v.account) × (v.lots ≤ (first_unit (laid s (v ∷ us))).lots)
laid_head s v us h =
    by_test (leb unit_lots v.lots) (λ t. simp t (refl, h t)) (λ t. simp t (refl, omega arith))

full_head : (v : AccountLots) (us : List AccountLots) → leb unit_lots v.lots ≡ true → v.lots ≤ full_lots unit_lots v.account (v ∷ us)
full_head v us t = rw (t, eq-eqb v.account v.account refl) (omega arith)

-- from run j on they wait, and are gathered
module _ (before after : List ℕ) (n d j st : ℕ) (v : AccountLots) (us : List AccountLots) (waits : units_of_runs (v ∷ us) ≡ waiting (units_in before n) d)
    (left : st ≡ stock (units_in before n) d) (some : st < v.lots) (ps : Every Plain (v ∷ us)) (k : ℕ) (ks : List ℕ)
    (list : map part_of (k ∷ ks) ≡ laid (λ a. full_lots unit_lots a (v ∷ us)) (v ∷ us)) where
  heads : (k % 64 ≡ v.account) × (v.lots ≤ k / 64)
  heads =
      let h = laid_head (λ a. full_lots unit_lots a (v ∷ us)) v us (full_head v us) in
      (ap (λ l. (first_unit l).account) list ∙ h.0, omega (arith, h.1, ap (λ l. (first_unit l).lots) list))

  pub lack_fits : st ≤ k / 64
  lack_fits = omega (arith, heads.1)

  pub begins_some : drop (j + 1) (runs_in after n) ≡ map part_of ks → Started (units_in before n) after n d (position (j + 1) (k % 64) (k / 64 - st) st)
  unfolding lacks
  begins_some e =
      let m = map part_of ks in
      let z : st - k / 64 ≡ 0 = omega (arith, heads.1) in
      let rest : drop_lots st (map part_of (k ∷ ks)) ≡ drop_lots 0 (account_lots (k % 64) (k / 64 - st) ∷ m) =
      rw z (sym (skip0_cons (account_lots (k % 64) (k / 64 - st)) m)) in
      let all : lacks unit_lots (units_in before n) d ≡ drop_lots 0 (account_lots (k % 64) (k / 64 - st) ∷ m) =
      ap (λ x. drop_lots x (stretches unit_lots (waiting (units_in before n) d))) (sym left)
      ∙ ap (λ l. drop_lots st (stretches unit_lots l)) (sym waits)
      ∙ ap (drop_lots st) (sym (gathered_stretches (v ∷ us) ps)) ∙ skip_skip0 st (laid (λ a. full_lots unit_lots a (v ∷ us)) (v ∷ us))
      ∙ ap (drop_lots st) (sym list) ∙ rest in
      record {
        lacking = cursor_lacks after n (j + 1) (k % 64) (k / 64 - st) st (lacks unit_lots (units_in before n) d)
            (rw e (sym (ap (drop_lots 0) all ∙ skip_skip0 0 (account_lots (k % 64) (k / 64 - st) ∷ m))));
        left = left;
        next = heads.0 ∙ sym (ap (λ l. (first_unit l).account) (sym waits)
            ∙ ap (λ n. (first_unit (drop n (units_of_run v ++ units_of_runs us))).account) (sym (covered_run v (units_of_runs us) 0 (omega arith)))
            ∙ first_run v (units_of_runs us) 0 (omega arith));
        range = record { from = omega arith; to = omega arith; short = omega arith };
      }

-- the account_lots that was lent, and an account's full lots in it
drop_take : (j n : ℕ) (ws : List ℕ) → j ≤ n → take (n - j) (drop j ws) ≡ drop j (take n ws)
drop_take zero n ws h = ap (λ m. take m ws) (sub-zero n)
drop_take (suc j) zero ws h = absurd (omega arith)
drop_take (suc j) (suc n) [] h = take-nil (suc n - suc j)
drop_take (suc j) (suc n) (w ∷ ws) h = ap (λ m. take m (drop j ws)) (suc-sub-suc n j) ∙ drop_take j n ws (omega arith)

pub lent_runs : (runs : List ℕ) (n j : ℕ) → j ≤ n → map part_of (take (n - j) (drop j runs)) ≡ drop j (runs_in runs n)
lent_runs runs n j h = ap (map part_of) (drop_take j n runs h) ∙ sym (drop_map j (take n runs))

pub run_account : (a : ℕ) (u : AccountLots) → total (of_account a) (units_of_run u) ≡ of_account a u
run_account a u =
    let b = u.account in
    let e₁ = total_append (of_account a) (replicate (u.lots / 100000) (account_lots b 100000)) (prepend b (u.lots % 100000) []) in
    let e₂ = total_replicate (of_account a) (u.lots / 100000) (account_lots b 100000) in
    by_test (eqb b a)
    (λ e. let e₃ = total_put (of_account a) b (u.lots % 100000) [] (simp e) in
    simp e (omega (arith, e₁, simp e at e₂, simp e at e₃)))
    (λ e. let e₃ = total_put (of_account a) b (u.lots % 100000) [] (simp e) in
    simp e (omega (arith, e₁, simp e at e₂, simp e at e₃)))

full_total : (a : ℕ) (vs : List AccountLots) → full_lots unit_lots a vs ≤ total (of_account a) (units_of_runs vs)
full_total a [] = omega arith
full_total a (v ∷ vs) =
    omega (arith, one, full_total a vs, total_append (of_account a) (units_of_run v) (units_of_runs vs), run_account a v)
  where
    one : cond (is_full_of unit_lots a v) v.lots 0 ≤ of_account a v
    one = by_test (eqb v.account a)
        (λ e. by_test (leb unit_lots v.lots) (λ t. simp (e, t) (omega arith)) (λ t. simp (e, t) (omega arith)))
        (λ e. simp e (omega arith))

module _ (before runs : List ℕ) (n d : ℕ) (s : Waiting) (h : Hands before runs n d s) where
  pub can_gather : ((a : ℕ) → total (of_account a) (units_in before n) ≤ 20000000) → CanGather (take (n - s.run) (drop s.run runs))
  can_gather small =
      let e = lent_runs runs n s.run h.few in
      record {
        plain = rw e h.plain;
        small = λ a. omega (
          arith,
          ap (full_lots unit_lots a) e,
          full_total a (drop s.run (runs_in runs n)),
          ap (total (of_account a)) h.waits,
          total_split (of_account a) (covered (units_in before n) d) (units_in before n),
          small a,
        );
      }

  module _ (ys : List ℕ) (l : n ≤ length runs) (g : s.run < n) (m : length ys ≡ length (take (n - s.run) (drop s.run runs)))
      (e : map part_of ys ≡ laid (fulls_of (take (n - s.run) (drop s.run runs))) (map part_of (take (n - s.run) (drop s.run runs)))) where
    abbrev j : ℕ
    j = s.run

    abbrev v : AccountLots
    v = part_of (get_or runs j 0)

    abbrev us : List AccountLots
    us = drop (suc j) (runs_in runs n)

    abbrev tail : List ℕ
    tail = drop (n - j) (drop j runs)

    abbrev final : List ℕ
    final = take j runs ++ (ys ++ tail)

    front : length (take j runs) ≡ j
    front = length-take-le j runs (omega arith)

    many : length ys ≡ n - j
    many = m ∙ length-take-le (n - j) (drop j runs) (omega (arith, length-drop j runs))

    whole : ys ≡ get_or ys 0 0 ∷ drop 1 ys
    whole = drop-cons ys 0 0 (omega (arith, many))

    first : get_or final j 0 ≡ get_or ys 0 0
    first =
        let q : j ≡ length (take j runs) + 0 = omega (arith, front) in
        ap (λ i. get_or final i 0) q ∙ get_or-append-add (take j runs) (ys ++ tail) 0 0 ∙ get_or-append ys tail 0 0 (omega (arith, many))

    later : drop (j + 1) (runs_in final n) ≡ map part_of (drop 1 ys)
    later =
        let q : n ≡ length (take j runs) + length ys = omega (arith, front, many) in
        let r : j + 1 ≡ length (take j runs) + 1 = omega (arith, front) in
        drop_map (j + 1) (take n final)
        ∙ ap (map part_of) (ap (λ i. drop (j + 1) (take i final)) q
        ∙ ap (drop (j + 1)) (take-append-add (take j runs) (ys ++ tail) (length ys) ∙ ap (λ w. take j runs ++ w) (take-append_seam ys tail))
        ∙ ap (λ i. drop i (take j runs ++ ys)) r ∙ drop-append-add (take j runs) ys 1)

    seen : drop j (runs_in runs n) ≡ v ∷ us
    seen = runs_at_lem runs n j l g

    list : map part_of (get_or ys 0 0 ∷ drop 1 ys) ≡ laid (λ a. full_lots unit_lots a (v ∷ us)) (v ∷ us)
    list =
        ap (map part_of) (sym whole) ∙ e
        ∙ ap (λ (L : List AccountLots). laid (λ a. full_lots unit_lots a L) L) (lent_runs runs n j h.few ∙ seen)

    waits : units_of_runs (v ∷ us) ≡ waiting (units_in before n) d
    waits = ap units_of_runs (sym seen) ∙ h.waits

    pub fits_lent : s.stock ≤ get_or final j 0 / 64
    fits_lent =
        rw first (lack_fits before final n d j s.stock v us waits h.left (h.some g) (rw seen at h.plain) (get_or ys 0 0) (drop 1 ys) list)

    pub begins_lent : Started (units_in before n) final n d (position (j + 1) (get_or final j 0 % 64) (get_or final j 0 / 64 - s.stock) s.stock)
    begins_lent =
        ap_begun (sym first)
        (begins_some before final n d j s.stock v us waits h.left (h.some g) (rw seen at h.plain) (get_or ys 0 0) (drop 1 ys) list later)
      where
        ap_begun : {k k' : ℕ} → k ≡ k' → Started (units_in before n) final n d (position (j + 1) (k % 64) (k / 64 - s.stock) s.stock) →
            Started (units_in before n) final n d (position (j + 1) (k' % 64) (k' / 64 - s.stock) s.stock)
        ap_begun q b = subst (λ k. Started (units_in before n) final n d (position (j + 1) (k % 64) (k / 64 - s.stock) s.stock)) q b

-- The first n words lent as a list of their own

pub units_front : (runs : List ℕ) (n : ℕ) → units_in (take n runs) (length (take n runs)) ≡ units_in runs n
unfolding units_in
units_front runs n = ap units_of_words (take_all (length (take n runs)) (take n runs) (omega arith))

pub held_front : (runs : List ℕ) (n : ℕ) → Held runs n → Held (take n runs) (length (take n runs))
held_front runs n h =
    record {
      few = omega (arith, length-take-le n runs h.there, h.few);
      there = omega arith;
      plain = rw (take_all (length (take n runs)) (take n runs) (omega arith)) h.plain;
      small = λ a. rw (units_front runs n) (h.small a);
    }

-- and given back, in front of the others
pub started_front : (us : List AccountLots) (part rest : List ℕ) (n d : ℕ) (r : Position) → length part ≡ n → Started us part n d r →
    Started us (part ++ rest) n d r
started_front us part rest n d r l s =
    let e : take n (part ++ rest) ≡ take n part = take_at part rest n l ∙ sym (take_all n part (omega arith)) in
    record {
      lacking = λ missing. ap (λ ws. overlaps_in ws missing r.cursor) e ∙ s.lacking missing;
      left = s.left;
      next = s.next;
      range = s.range;
    }

pub started_as : (before after : List ℕ) (m n d : ℕ) (r : Position) → m ≡ n → Started (units_in before m) after m d r → Started (units_in before n) after n d r
started_as before after m n d r e s = subst (λ (k : ℕ). Started (units_in before k) after k d r) e s
