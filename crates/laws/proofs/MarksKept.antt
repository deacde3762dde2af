-- Each accepted call keeps the lots of a marked issue even.
use mathlib.Core.Path.{◌≡◌, refl, sym, ap, ◌∙◌}
use mathlib.Core.Bool.{Bool, true, not, false≢true}
use mathlib.Core.List.{List, [], ◌∷◌}
use Prim.Native.Nat.{ℕ, zero, suc, ◌+◌, ◌-◌, ◌*◌, ◌≤◌, ◌<◌, min}
use native.Mathlib.Omega.{arith}
use lib.Dec.{leb, eqb}
use lib.ListN.{length, get_or, set, drop, replicate}
use lib.Seq.{get_or-set_other}
use lib.IntN.{ℤ, pos, nat_abs, ◌+ℤ◌, ◌-ℤ◌}
use borrow.Author.Tests.{leb-true, eqb-true, eqb-false, not-true}
use Rattle.rules.specs.declared.Entry.{Entry}
use Rattle.rules.specs.Measures.{owed_of, unit_lots}
use Rattle.rules.specs.Ledger.{put_entry, is_from, is_to, count_of, met_by, meet, met, first_of, lower, smaller_lots, appended, stepped, has_both, paired, pairing}
use Rattle.rules.specs.Book.{row, cell, net_at, delivered_at, order_in, within_owed, is_marked}
use Rattle.rules.specs.Questions.{no_net, no_entry}
use Rattle.rules.specs.Calls.{traded_nets, raised_delivered, fail_entry, issue_entries, issue_fails, new_entries, marked_as}
use Rattle.laws.proofs.Basics.{by_test, either, and_left, and_right, Every, every_of, each_append, each_map, each_zip, each_take, each_drop, each_replicate}
use Rattle.laws.proofs.Cells.{row_same, row_other, get_or_row, length_row, each_set, within_row}
use Rattle.laws.proofs.Signed.{size_of_lem}
use Rattle.laws.proofs.Sound.{Even, EvenCells, EvenEntry, all_each, each_get_or}
use Rattle.laws.proofs.Lowering.{issue_from, issue_to}
use Rattle.laws.proofs.Fails.{each_of_map}
use Rattle.laws.proofs.Records.{each_joined}
use Rattle.laws.proofs.Even.{EvenNet, EvenFail, rise_even, fall_even, order_even, fails_even}

-- Trade and deliver

-- a trade's two stores, in the row of its issue
pub traded_row : (ns : List ℤ) (i f c x : ℕ) → f < 64 → c < 64 →
    row i (traded_nets ns i f c x) ≡ set (set (row i ns) f (get_or (row i ns) f (pos 0) -ℤ pos x)) c (get_or (row i ns) c (pos 0) +ℤ pos x)
traded_row ns i f c x hf hc =
    let nf = net_at ns i f -ℤ pos x in
    let nc = net_at ns i c +ℤ pos x in
    row_same (set ns (cell i f) nf) i c nc hc ∙ ap (λ z. set z c nc) (row_same ns i f nf hf)
    ∙ rw (get_or_row ns i f (pos 0) hf, get_or_row ns i c (pos 0) hc) refl

pub traded_other : (ns : List ℤ) (i f c x j : ℕ) → f < 64 → c < 64 → (j ≡ i → ⊥) → row j (traded_nets ns i f c x) ≡ row j ns
traded_other ns i f c x j hf hc ne =
    row_other (set ns (cell i f) (net_at ns i f -ℤ pos x)) i c j (net_at ns i c +ℤ pos x) hc ne
    ∙ row_other ns i f j (net_at ns i f -ℤ pos x) hf ne

pub even_traded : (marks : List ℕ) (ns : List ℤ) (ds : List ℕ) (i f c x : ℕ) → f < 64 → c < 64 → (is_marked marks i ≡ true → Even x) →
    (j : ℕ) → EvenCells marks ns ds j → EvenCells marks (traded_nets ns i f c x) ds j
even_traded marks ns ds i f c x hf hc hx j s =
    by_test (eqb j i)
    (λ p.
    let q = eqb-true j i p in
    let l = row i ns in
    record {
      nets = rw (q, traded_row ns i f c x hf hc) (λ m.
          let es : Every EvenNet l = rw q at (s.nets (rw q m)) in
          each_set EvenNet (set l f (get_or l f (pos 0) -ℤ pos x)) c (get_or l c (pos 0) +ℤ pos x)
          (each_set EvenNet l f (get_or l f (pos 0) -ℤ pos x) es (fall_even (get_or l f (pos 0)) x (each_get_or EvenNet l f (pos 0) es refl) (hx m)))
          (rise_even (get_or l c (pos 0)) x (each_get_or EvenNet l c (pos 0) es refl) (hx m)));
      delivered = s.delivered;
    })
    (λ p. record { nets = rw (traded_other ns i f c x j hf hc (eqb-false j i p)) s.nets; delivered = s.delivered })

pub even_delivered : (marks : List ℕ) (ns : List ℤ) (ds : List ℕ) (i a x : ℕ) → a < 64 → (is_marked marks i ≡ true → Even x) →
    (j : ℕ) → EvenCells marks ns ds j → EvenCells marks ns (raised_delivered ds i a x) j
even_delivered marks ns ds i a x ha hx j s =
    let v = delivered_at ds i a + x in
    by_test (eqb j i)
    (λ p.
    let q = eqb-true j i p in
    record {
      nets = s.nets;
      delivered = rw (q, row_same ds i a v ha) (λ m.
          let es : Every Even (row i ds) = rw q at (s.delivered (rw q m)) in
          each_set Even (row i ds) a v es
          (omega (arith, hx m, get_or_row ds i a 0 ha, each_get_or Even (row i ds) a 0 es refl)));
    })
    (λ p. record { nets = s.nets; delivered = rw (row_other ds i a j v ha (eqb-false j i p)) s.delivered })

-- a row of zeros
pub even_none : (marks : List ℕ) (m n i : ℕ) → EvenCells marks (replicate m (pos 0)) (replicate n 0) i
even_none marks m n i =
    record {
      nets = λ h. each_take EvenNet 64 (drop (i * 64) (replicate m (pos 0)))
          (each_drop EvenNet (i * 64) (replicate m (pos 0)) (each_replicate EvenNet m (pos 0) refl));
      delivered = λ h. each_take Even 64 (drop (i * 64) (replicate n 0))
          (each_drop Even (i * 64) (replicate n 0) (each_replicate Even n 0 refl));
    }

-- Entries that fall: those that pass a test are of one issue, and lots that they fall by are even if it is marked
module _ (marks : List ℕ) where
  put_even : (e : Entry) (n : ℕ) (es : List Entry) → (is_marked marks e.issue ≡ true → Even n) → Every (EvenEntry marks) es →
      Every (EvenEntry marks) (put_entry e n es)
  put_even e zero es h ps = ps
  put_even e (suc n) es h ps = (h, ps)

  module _ (p : Entry → Bool) (i : ℕ) (of : (e : Entry) → p e ≡ true → e.issue ≡ i) where
    met_by_even : (x : ℕ) (e : Entry) → (is_marked marks i ≡ true → Even x) → EvenEntry marks e →
        (j : ℕ) → (p e ≡ true → is_marked marks j ≡ true → is_marked marks i ≡ true) → is_marked marks j ≡ true → Even (met_by p x e)
    met_by_even x e hx he j same m =
        by_test (p e)
        (λ t. simp t (omega (arith, hx (same t m), he (rw (of e t) (same t m)))))
        (λ t. simp t refl)

    module _ (x : ℕ) (e : Entry) (hx : is_marked marks i ≡ true → Even x) (he : EvenEntry marks e) where
      met_here : is_marked marks e.issue ≡ true → Even (met_by p x e)
      met_here = met_by_even x e hx he e.issue (λ t m. rw (of e t) at m)

      met_left : is_marked marks i ≡ true → Even (x - met_by p x e)
      met_left m = omega (arith, hx m, met_by_even x e hx he i (λ t k. k) m)

    pub meet_even : (x : ℕ) (es : List Entry) → (is_marked marks i ≡ true → Even x) → Every (EvenEntry marks) es → Every (EvenEntry marks) (meet p x es)
    meet_even x [] hx ps = tt
    meet_even x (e ∷ es) hx ps =
        put_even e (e.lots - met_by p x e) (meet p (x - met_by p x e) es) (λ m. omega (arith, ps.0 m, met_here x e hx ps.0 m))
        (meet_even (x - met_by p x e) es (met_left x e hx ps.0) ps.1)

    pub met_even : (x : ℕ) (es : List Entry) → (is_marked marks i ≡ true → Even x) → Every (EvenEntry marks) es → Every (EvenEntry marks) (met p x es)
    met_even x [] hx ps = tt
    met_even x (e ∷ es) hx ps =
        put_even e (met_by p x e) (met p (x - met_by p x e) es) (met_here x e hx ps.0)
        (met_even (x - met_by p x e) es (met_left x e hx ps.0) ps.1)

    first_even : (es : List Entry) → Every (EvenEntry marks) es → is_marked marks i ≡ true → Even (first_of (λ e. e.lots) p es)
    first_even [] ps m = refl
    first_even (e ∷ es) ps m =
        by_test (p e) (λ t. simp t (ps.0 (rw (of e t) m))) (λ t. simp t (first_even es ps.1 m))

    lower_even : (x : ℕ) (es : List Entry) → (is_marked marks i ≡ true → Even x) → Every (EvenEntry marks) es → Every (EvenEntry marks) (lower p x es)
    lower_even x [] hx ps = tt
    lower_even x (e ∷ es) hx ps =
        by_test (p e)
        (λ t. simp t (put_even e (e.lots - x) es (λ m. omega (arith, ps.0 m, hx (rw (of e t) at m))) ps.1))
        (λ t. simp t (ps.0, lower_even x es hx ps.1))

  -- Pair-off

  stepped_even : (today i a : ℕ) (es : List Entry) → Every (EvenEntry marks) es → Every (EvenEntry marks) (stepped today i a es)
  stepped_even today i a es ps =
      let x = smaller_lots i a es in
      let P = first_of (λ e. e.from) (is_to i a) es in
      let Q = first_of (λ e. e.to) (is_from i a) es in
      let hx : is_marked marks i ≡ true → Even x =
      λ m. omega (arith, first_even (is_to i a) i (issue_to i a) es ps m, first_even (is_from i a) i (issue_from i a) es ps m) in
      each_append (EvenEntry marks) (lower (is_to i a) x (lower (is_from i a) x es)) (appended today i P Q x)
      (lower_even (is_to i a) i (issue_to i a) x (lower (is_from i a) x es) hx (lower_even (is_from i a) i (issue_from i a) x es hx ps))
      (either (Every (EvenEntry marks)) (eqb P Q) tt (hx, tt))

  paired_even : (n today i a : ℕ) (es : List Entry) → Every (EvenEntry marks) es → Every (EvenEntry marks) (paired n today i a es).ledger
  paired_even zero today i a es ps = ps
  paired_even (suc n) today i a es ps =
      by_test (has_both i a es)
      (λ e. rw e (paired_even n today i a (stepped today i a es) (stepped_even today i a es ps)))
      (λ e. rw e ps)

  pub pairing_even : (today i a : ℕ) (es : List Entry) → Every (EvenEntry marks) es → Every (EvenEntry marks) (pairing today i a es).ledger
  unfolding pairing
  pairing_even today i a es ps = paired_even (count_of (is_to i a) es + count_of (is_from i a) es) today i a es ps

  -- Cutoff

  issue_even : (new : Bool) (today : ℕ) (ns : List ℤ) (ds lifts : List ℕ) (i : ℕ) → EvenCells marks ns ds i →
      Every (EvenEntry marks) (issue_entries today (order_in new ns lifts) ns ds i)
  unfolding issue_fails
  issue_even new today ns ds lifts i s =
      by_test (is_marked marks i)
      (λ m.
      each_of_map (EvenEntry marks) (fail_entry today i) (issue_fails (order_in new ns lifts) ns ds i)
      (each_map EvenFail (λ f. EvenEntry marks (fail_entry today i f)) (λ f h k. h) (issue_fails (order_in new ns lifts) ns ds i)
      (fails_even unit_lots (order_in new ns lifts i) (row i ns) (row i ds) (order_even new ns lifts i (s.nets m)) (s.nets m) (s.delivered m))))
      (λ m.
      each_of_map (EvenEntry marks) (fail_entry today i) (issue_fails (order_in new ns lifts) ns ds i)
      (every_of _ (issue_fails (order_in new ns lifts) ns ds i) (λ f k. absurd (false≢true (sym m ∙ k)))))

  pub new_even : (new : Bool) (today : ℕ) (ns : List ℤ) (ds lifts : List ℕ) → ((i : ℕ) → i < 16 → EvenCells marks ns ds i) →
      Every (EvenEntry marks) (new_entries today (order_in new ns lifts) ns ds)
  new_even new today ns ds lifts s =
      each_joined (EvenEntry marks) (issue_entries today (order_in new ns lifts) ns ds) 0 16 (λ i h. issue_even new today ns ds lifts i (s i (omega arith)))

-- Mark: an issue with no net and no entry has no lots at all

none_delivered : (ns : List ℤ) (ds : List ℕ) → length ds ≤ length ns → Every (λ n. nat_abs n ≡ 0) ns → within_owed ns ds ≡ true → Every Even ds
none_delivered ns [] l z h = tt
none_delivered [] (d ∷ ds) l z h = absurd (omega arith)
none_delivered (n ∷ ns) (d ∷ ds) l z h = (
  omega (arith, z.0, size_of_lem n, leb-true d (owed_of n) (and_left (leb d (owed_of n)) (within_owed ns ds) h)),
  none_delivered ns ds (omega arith) z.1 (and_right (leb d (owed_of n)) (within_owed ns ds) h),
)

pub even_marked : (marks : List ℕ) (ns : List ℤ) (ds : List ℕ) (i m : ℕ) → i < 16 → length ns ≡ 1024 → length ds ≡ 1024 →
    within_owed ns ds ≡ true → no_net ns i ≡ true → (j : ℕ) → EvenCells marks ns ds j → EvenCells (marked_as marks i m) ns ds j
even_marked marks ns ds i m hi n d w h j s =
    by_test (eqb j i)
    (λ p.
    let z = each_map _ (λ x. nat_abs x ≡ 0) (λ x q. eqb-true (nat_abs x) 0 q) (row i ns) (all_each _ (row i ns) h) in
    rw (eqb-true j i p)
    (record {
      nets = λ k. each_map (λ x. nat_abs x ≡ 0) EvenNet (λ x q. omega (arith, q)) (row i ns) z;
      delivered = λ k. none_delivered (row i ns) (row i ds) (omega (arith, length_row ns i n hi, length_row ds i d hi)) z (within_row i ns ds w);
    }))
    (λ p.
    let e = get_or-set_other marks i j (min m 1) 0 (eqb-false j i p) in
    record { nets = rw e s.nets; delivered = rw e s.delivered })

pub entries_marked : (marks : List ℕ) (i m : ℕ) (es : List Entry) → no_entry es i ≡ true → Every (EvenEntry marks) es →
    Every (EvenEntry (marked_as marks i m)) es
entries_marked marks i m es h ps =
    each_zip (λ e. not (eqb e.issue i) ≡ true) (EvenEntry marks) (EvenEntry (marked_as marks i m))
    (λ e q p. rw (get_or-set_other marks i e.issue (min m 1) 0 (eqb-false e.issue i (not-true (eqb e.issue i) q))) p)
    es (all_each _ es h) ps
