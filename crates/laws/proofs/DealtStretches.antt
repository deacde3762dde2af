-- Whole rounds among other units: an account at a time they have the same stretches, since every account that gets a
-- full unit in them gets one in the first of them. So what waits at a cutoff need not be walked round by round.
use mathlib.Core.Path.{◌≡◌, refl, sym, ap, subst, ◌∙◌}
use mathlib.Core.Bool.{true, false, cond, ◌&&◌, false≢true}
use mathlib.Core.List.{List, [], ◌∷◌, ◌++◌, append-nil, append_assoc}
use Prim.Native.Nat.{ℕ, zero, suc, ◌+◌, ◌-◌, ◌*◌, ◌/◌, ◌≤◌, ◌<◌, min}
use native.Mathlib.Omega.{arith}
use native.Mathlib.Nat.{add-zero, one-mul, suc-mul}
use lib.Dec.{leb, ltb, eqb}
use lib.ListN.{length, get_or, set, take, replicate}
use borrow.Author.Tests.{le-leb, le-ltb, ltb-true, ltb-false, leb-true, eqb-true, eqb-false, eq-eqb, ne_eqb}
use Rattle.rules.specs.Measures.{total}
use Rattle.rules.specs.Units.{AccountLots, account_lots, prepend}
use Rattle.rules.specs.Fails.{is_full_of, full_lots, without_fulls, join, stretches}
use Rattle.rules.specs.Dealt.{round, rounds}
use Rattle.laws.proofs.Basics.{by_test, either, cond_true, and_left, and_right, and_both, Every, each_append, each_map, put_append, total_append, total_replicate}
use Rattle.laws.proofs.Gather.{spent, gathered, gather_stretches}
use Rattle.laws.proofs.Dealt.{in_rounds, total_rounds}

-- of n rounds from r on, each account's units together
abbrev pub together : ℕ → ℕ → ℕ → List AccountLots → List AccountLots
together size r n [] = []
together size r n (v ∷ vs) = replicate (min n (v.lots / size - r)) (account_lots v.account size) ++ together size r n vs

total_together : (size : ℕ) (f : AccountLots → ℕ) (r n : ℕ) (vs : List AccountLots) → total f (together size r n vs) ≡ total f (rounds size r n vs)
total_together size f r n vs = go vs ∙ sym (total_rounds size f r n vs)
  where
    go : (vs : List AccountLots) → total f (together size r n vs) ≡ total (in_rounds size f r n) vs
    go [] = refl
    go (v ∷ vs) =
        let q = min n (v.lots / size - r) in
        let u = account_lots v.account size in
        rw (total_append f (replicate q u) (together size r n vs), total_replicate f q u, go vs)

module _ (size : ℕ) where
  -- what is left of each account's full lots behind a list
  abbrev behind : (ℕ → ℕ) → List AccountLots → ℕ → ℕ
  behind s [] = s
  behind s (u ∷ us) = cond (leb size u.lots) (behind (spent s u.account) us) (behind s us)

  gathered_append : (s : ℕ → ℕ) (us vs : List AccountLots) → gathered size s (us ++ vs) ≡ gathered size s us ++ gathered size (behind s us) vs
  gathered_append s [] vs = refl
  gathered_append s (u ∷ us) vs =
      by_test (leb size u.lots)
      (λ e.
      simp e (ap (prepend u.account (s u.account)) (gathered_append (spent s u.account) us vs)
      ∙ put_append u.account (s u.account) (gathered size (spent s u.account) us) (gathered size (behind (spent s u.account) us) vs)))
      (λ e. simp e (ap (λ l. u ∷ l) (gathered_append s us vs)))

  gathered_same : (s t : ℕ → ℕ) (us : List AccountLots) → ((a : ℕ) → s a ≡ t a) → gathered size s us ≡ gathered size t us
  gathered_same s t [] e = refl
  gathered_same s t (u ∷ us) e =
      rw (e u.account, gathered_same s t us e, gathered_same (spent s u.account) (spent t u.account) us (λ a. ap (λ x. cond (eqb a u.account) 0 x) (e a)))

  behind_none : (s : ℕ → ℕ) (us : List AccountLots) (a : ℕ) → s a ≡ 0 → behind s us a ≡ 0
  behind_none s [] a z = z
  behind_none s (u ∷ us) a z =
      by_test (leb size u.lots)
      (λ e. simp e (behind_none (spent s u.account) us a (by_test (eqb a u.account) (λ f. simp f) (λ f. simp f z))))
      (λ e. simp e (behind_none s us a z))

  -- full units of accounts that have nothing left
  abbrev Gone : (ℕ → ℕ) → AccountLots → Type 0
  Gone s u = (u.lots ≡ size) × (s u.account ≡ 0)

  spent_gone : (s : ℕ → ℕ) (b : ℕ) → s b ≡ 0 → (a : ℕ) → spent s b a ≡ s a
  spent_gone s b z a = by_test (eqb a b) (λ e. simp e (sym (ap s (eqb_is a b e) ∙ z))) (λ e. simp e)
    where
      eqb_is : (a b : ℕ) → eqb a b ≡ true → a ≡ b
      eqb_is a b e = eqb-true a b e

  gone_gathered : (s : ℕ → ℕ) (us : List AccountLots) → Every (Gone s) us → gathered size s us ≡ []
  gone_gathered s [] ps = refl
  gone_gathered s (u ∷ us) ps =
      let e : leb size u.lots ≡ true = le-leb size u.lots (omega (arith, ps.0.0)) in
      rw (e, ps.0.1)
      (gathered_same (spent s u.account) s us (spent_gone s u.account ps.0.1) ∙ gone_gathered s us ps.1)

  gone_behind : (s : ℕ → ℕ) (us : List AccountLots) → Every (Gone s) us → (a : ℕ) → behind s us a ≡ s a
  gone_behind s [] ps a = refl
  gone_behind s (u ∷ us) ps a =
      let e : leb size u.lots ≡ true = le-leb size u.lots (omega (arith, ps.0.0)) in
      let k = spent_gone s u.account ps.0.1 in
      rw e (gone_behind (spent s u.account) us (each_map (Gone s) (Gone (spent s u.account)) (λ v p. (p.0, k v.account ∙ p.1)) us ps.1) a ∙ k a)

  -- a full unit in front takes what its account has left
  behind_full : (s : ℕ → ℕ) (b : ℕ) (us : List AccountLots) → behind s (account_lots b size ∷ us) ≡ behind (spent s b) us
  behind_full s b us = let full : leb size size ≡ true = le-leb size size (omega arith) in rw full refl

  -- who gets a unit in a round got one in each round before
  later : (r t : ℕ) → r ≤ t → (s : ℕ → ℕ) (vs : List AccountLots) → Every (Gone (behind s (round size r vs))) (round size t vs)
  later r t h s [] = tt
  later r t h s (v ∷ vs) =
      let b = v.account in
      let full : leb size size ≡ true = le-leb size size (omega arith) in
      by_test (ltb r (v.lots / size))
      (λ e.
      by_test (ltb t (v.lots / size))
      (λ f.
      simp (e, f, full)
      ((
        (refl, behind_none (spent s b) (round size r vs) b (simp (eq-eqb b b refl))),
        subst (λ g. Every (Gone g) (round size t vs)) (sym (behind_full s b (round size r vs))) (later r t h (spent s b) vs),
      )))
      (λ f. simp (e, f, full) (later r t h (spent s b) vs)))
      (λ e. simp (e, le-ltb t (v.lots / size) (omega (arith, ltb-false r (v.lots / size) e))) (later r t h s vs))

  later_rounds : (r t n : ℕ) → r ≤ t → (s : ℕ → ℕ) (vs : List AccountLots) → Every (Gone (behind s (round size r vs))) (rounds size t n vs)
  later_rounds r t zero h s vs = tt
  later_rounds r t (suc n) h s vs =
      each_append (Gone (behind s (round size r vs))) (round size t vs) (rounds size (suc t) n vs) (later r t h s vs) (later_rounds r (suc t) n (omega arith) s vs)

  gone_again : (s : ℕ → ℕ) (b q : ℕ) → Every (Gone (spent s b)) (replicate q (account_lots b size))
  gone_again s b zero = tt
  gone_again s b (suc q) = ((refl, rw (eq-eqb b b refl)), gone_again s b q)

  record Alike (s t : ℕ → ℕ) (us vs : List AccountLots) : Type 0 where
    pub parts : gathered size s us ≡ gathered size t vs
    pub left : (a : ℕ) → behind s us a ≡ behind t vs a

  behind_append : (s : ℕ → ℕ) (us vs : List AccountLots) (a : ℕ) → behind s (us ++ vs) a ≡ behind (behind s us) vs a
  behind_append s [] vs a = refl
  behind_append s (u ∷ us) vs a =
      by_test (leb size u.lots)
      (λ e. simp e (behind_append (spent s u.account) us vs a))
      (λ e. simp e (behind_append s us vs a))

  -- a round, and all units of the accounts that take part in it
  one_round : (r n : ℕ) (s t : ℕ → ℕ) (vs : List AccountLots) → ((a : ℕ) → s a ≡ t a) → Alike s t (round size r vs) (together size r (suc n) vs)
  one_round r n s t [] e = record { parts = refl; left = e }
  one_round r n s t (v ∷ vs) e =
      by_test (ltb r (v.lots / size))
      (λ f.
      let b = v.account in
      let u = account_lots b size in
      let q = min n (v.lots / size - suc r) in
      let ts = together size r (suc n) vs in
      let m : min (suc n) (v.lots / size - r) ≡ suc q = omega (arith, ltb-true r (v.lots / size) f) in
      let full : leb size size ≡ true = le-leb size size (omega arith) in
      let gone = gone_again t b q in
      let i = one_round r n (spent s b) (behind (spent t b) (replicate q u)) vs
      (λ a. ap (λ x. cond (eqb a b) 0 x) (e a) ∙ sym (gone_behind (spent t b) (replicate q u) gone a)) in
      simp f (rw m (record {
        parts = rw (full, e b)
            (ap (prepend b (t b))
            (i.parts
            ∙ sym (gathered_append (spent t b) (replicate q u) ts ∙ ap (λ l. l ++ gathered size (behind (spent t b) (replicate q u)) ts) (gone_gathered (spent t b) (replicate q u) gone))));
        left = λ a. rw full (i.left a ∙ sym (behind_append (spent t b) (replicate q u) ts a));
      })))
      (λ f.
      let m : min (suc n) (v.lots / size - r) ≡ 0 = omega (arith, ltb-false r (v.lots / size) f) in
      simp f (rw m (one_round r n s t vs e)))

  all_rounds : (r n : ℕ) (s t : ℕ → ℕ) (vs : List AccountLots) → ((a : ℕ) → s a ≡ t a) → Alike s t (rounds size r n vs) (together size r n vs)
  all_rounds r zero s t vs e = rw (none vs) (record { parts = refl; left = e })
    where
      none : (vs : List AccountLots) → together size r 0 vs ≡ []
      none [] = refl
      none (v ∷ vs) = let z : min 0 (v.lots / size - r) ≡ 0 = omega arith in rw z (none vs)
  all_rounds r (suc n) s t vs e =
      let o = one_round r n s t vs e in
      let us = round size r vs in
      let ws = rounds size (suc r) n vs in
      let g = later_rounds r (suc r) n (omega arith) s vs in
      record {
        parts = gathered_append s us ws ∙ ap (λ l. gathered size s us ++ l) (gone_gathered (behind s us) ws g) ∙ append-nil (gathered size s us) ∙ o.parts;
        left = λ a. behind_append s us ws a ∙ gone_behind (behind s us) ws g a ∙ o.left a;
      }

-- rounds among other units
pub rounds_together : (size : ℕ) → 0 < size → (r n : ℕ) (xs vs ys : List AccountLots) →
    stretches size (xs ++ (rounds size r n vs ++ ys)) ≡ stretches size (xs ++ (together size r n vs ++ ys))
rounds_together size h r n xs vs ys =
    let ds = rounds size r n vs in
    let bs = together size r n vs in
    sym (gather_stretches size h (xs ++ (ds ++ ys)))
    ∙ gathered_same size (λ a. full_lots size a (xs ++ (ds ++ ys))) (λ a. full_lots size a (xs ++ (bs ++ ys))) (xs ++ (ds ++ ys)) same
    ∙ among (λ a. full_lots size a (xs ++ (bs ++ ys)))
    ∙ gather_stretches size h (xs ++ (bs ++ ys))
  where
    same : (a : ℕ) → full_lots size a (xs ++ (rounds size r n vs ++ ys)) ≡ full_lots size a (xs ++ (together size r n vs ++ ys))
    same a =
        let f : AccountLots → ℕ = λ v. cond (is_full_of size a v) v.lots 0 in
        omega (
          arith,
          total_append f xs (rounds size r n vs ++ ys),
          total_append f (rounds size r n vs) ys,
          total_append f xs (together size r n vs ++ ys),
          total_append f (together size r n vs) ys,
          total_together size f r n vs,
        )

    among : (t : ℕ → ℕ) → gathered size t (xs ++ (rounds size r n vs ++ ys)) ≡ gathered size t (xs ++ (together size r n vs ++ ys))
    among t =
        let u = behind size t xs in
        let o = all_rounds size r n u u vs (λ a. refl) in
        gathered_append size t xs (rounds size r n vs ++ ys)
        ∙ ap (λ l. gathered size t xs ++ l)
        (gathered_append size u (rounds size r n vs) ys
        ∙ rw (o.parts, gathered_same size (behind size u (rounds size r n vs)) (behind size u (together size r n vs)) ys o.left)
        (sym (gathered_append size u (together size r n vs) ys)))
        ∙ sym (gathered_append size t xs (together size r n vs ++ ys))

-- Stretches one unit or run at a time: behind others a full one joins its account's stretch, if there is one, else it
-- stands last; a small one stands last
abbrev pub join_last : ℕ → AccountLots → List AccountLots → List AccountLots
join_last size u [] = u ∷ []
join_last size u (v ∷ vs) =
    cond (leb size u.lots && is_full_of size u.account v) (account_lots v.account (v.lots + u.lots) ∷ vs) (v ∷ join_last size u vs)

module _ (size : ℕ) (u : AccountLots) where
  -- it joins the stretch of its own account alone
  joins : (a : ℕ) (v : AccountLots) → is_full_of size a u ≡ false → leb size u.lots && is_full_of size u.account v ≡ true → v.account ≡ a → ⊥
  joins a v h e q =
      let f = and_left (leb size u.lots) (is_full_of size u.account v) e in
      let g = and_right (leb size u.lots) (is_full_of size u.account v) e in
      let p = eqb-true v.account u.account (and_left (eqb v.account u.account) (leb size v.lots) g) in
      false≢true (sym h ∙ and_both (eqb u.account a) (leb size u.lots) (eq-eqb u.account a (sym p ∙ q)) f)

  module _ (a : ℕ) (h : is_full_of size a u ≡ true) where
    own : u.account ≡ a
    own = eqb-true u.account a (and_left (eqb u.account a) (leb size u.lots) h)

    full : leb size u.lots ≡ true
    full = and_right (eqb u.account a) (leb size u.lots) h

    big : (x : ℕ) → leb size (x + u.lots) ≡ true
    big x = le-leb size (x + u.lots) (omega (arith, leb-true size u.lots full))

    full_same : (vs : List AccountLots) → full_lots size a (join_last size u vs) ≡ full_lots size a vs + u.lots
    full_same [] = rw h (omega arith)
    full_same (v ∷ vs) =
        by_test (eqb v.account u.account)
        (λ e.
        let same : eqb v.account a ≡ true = eq-eqb v.account a (eqb-true v.account u.account e ∙ own) in
        by_test (leb size v.lots)
        (λ g. simp (full, e, g, same, big v.lots) (omega arith))
        (λ g. simp (full, e, g, same) (omega (arith, full_same vs))))
        (λ e.
        let other : eqb v.account a ≡ false = ne_eqb v.account a (λ q. eqb-false v.account u.account e (q ∙ sym own)) in
        simp (full, e, other) (omega (arith, full_same vs)))

    without_same : (vs : List AccountLots) → without_fulls size a (join_last size u vs) ≡ without_fulls size a vs
    without_same [] = rw h
    without_same (v ∷ vs) =
        by_test (eqb v.account u.account)
        (λ e.
        let same : eqb v.account a ≡ true = eq-eqb v.account a (eqb-true v.account u.account e ∙ own) in
        by_test (leb size v.lots)
        (λ g. simp (full, e, g, same, big v.lots))
        (λ g. simp (full, e, g, same) (ap (λ l. v ∷ l) (without_same vs))))
        (λ e.
        let other : eqb v.account a ≡ false = ne_eqb v.account a (λ q. eqb-false v.account u.account e (q ∙ sym own)) in
        simp (full, e, other) (ap (λ l. v ∷ l) (without_same vs)))

  module _ (a : ℕ) (h : is_full_of size a u ≡ false) where
    full_other : (vs : List AccountLots) → full_lots size a (join_last size u vs) ≡ full_lots size a vs
    full_other [] = rw h
    full_other (v ∷ vs) =
        by_test (leb size u.lots && is_full_of size u.account v)
        (λ e. simp (e, ne_eqb v.account a (joins a v h e)))
        (λ e. simp e (ap (λ n. cond (is_full_of size a v) v.lots 0 + n) (full_other vs)))

    without_other : (vs : List AccountLots) → without_fulls size a (join_last size u vs) ≡ join_last size u (without_fulls size a vs)
    without_other [] = rw h
    without_other (v ∷ vs) =
        by_test (leb size u.lots && is_full_of size u.account v)
        (λ e. simp (e, ne_eqb v.account a (joins a v h e)))
        (λ e.
        by_test (is_full_of size a v)
        (λ g. simp (e, g) (without_other vs))
        (λ g. simp (e, g) (ap (λ l. v ∷ l) (without_other vs))))

  -- what is no stretch of its account stays
  stays : (v : AccountLots) (vs : List AccountLots) → (leb size u.lots && is_full_of size u.account v ≡ true → ⊥) → v ∷ join_last size u vs ≡ join_last size u (v ∷ vs)
  stays v vs n = by_test (leb size u.lots && is_full_of size u.account v) (λ e. absurd (n e)) (λ e. simp e)

  pub stretches_last : (us : List AccountLots) → stretches size (us ++ (u ∷ [])) ≡ join_last size u (stretches size us)
  stretches_last [] = by_test (leb size u.lots) (λ e. simp e (ap (λ n. account_lots u.account n ∷ []) (add-zero u.lots))) (λ e. simp e)
  stretches_last (w ∷ us) = ap (join size w) (stretches_last us) ∙ front (stretches size us)
    where
      alone : leb size w.lots ≡ false → (vs : List AccountLots) → join size w vs ≡ w ∷ vs
      alone f vs = rw f

      front : (vs : List AccountLots) → join size w (join_last size u vs) ≡ join_last size u (join size w vs)
      front vs =
          let a = w.account in
          let x = w.lots + full_lots size a vs in
          by_test (leb size w.lots)
          (λ f.
          by_test (is_full_of size a u)
          (λ h.
          let t : w.lots + (full_lots size a vs + u.lots) ≡ x + u.lots = omega arith in
          simp (f, full_same a h vs, without_same a h vs, full a h, eq-eqb a u.account (sym (own a h)), le-leb size x (omega (arith, leb-true size w.lots f)))
          (ap (λ n. account_lots a n ∷ without_fulls size a vs) t))
          (λ h.
          simp (f, full_other a h vs, without_other a h vs)
          (stays (account_lots a x) (without_fulls size a vs) (λ e. joins a (account_lots a x) h e refl))))
          (λ f.
          alone f (join_last size u vs)
          ∙ stays w vs (λ e.
          false≢true (sym f ∙ and_right (eqb a u.account) (leb size w.lots) (and_right (leb size u.lots) (is_full_of size u.account w) e)))
          ∙ ap (join_last size u) (sym (alone f vs)))

  -- the list that a store makes: where none is full of its account it stands last; at the first that is, its lots are added
  pub join_new : (vs : List AccountLots) → Every (λ v. is_full_of size u.account v ≡ false) vs → join_last size u vs ≡ vs ++ (u ∷ [])
  join_new [] ps = refl
  join_new (v ∷ vs) ps = sym (stays v vs (λ e. false≢true (sym ps.0 ∙ and_right (leb size u.lots) (is_full_of size u.account v) e))) ∙ ap (λ l. v ∷ l) (join_new vs ps.1)

  pub join_small : leb size u.lots ≡ false → (vs : List AccountLots) → join_last size u vs ≡ vs ++ (u ∷ [])
  join_small f [] = refl
  join_small f (v ∷ vs) = sym (stays v vs (λ e. false≢true (sym f ∙ and_left (leb size u.lots) (is_full_of size u.account v) e))) ∙ ap (λ l. v ∷ l) (join_small f vs)

  pub join_at : leb size u.lots ≡ true → (p : ℕ) (d : AccountLots) (vs : List AccountLots) → p < length vs →
      Every (λ v. is_full_of size u.account v ≡ false) (take p vs) → is_full_of size u.account (get_or vs p d) ≡ true →
      join_last size u vs ≡ set vs p (account_lots (get_or vs p d).account ((get_or vs p d).lots + u.lots))
  join_at f p d [] h ps e = absurd (omega arith)
  join_at f zero d (v ∷ vs) h ps e = cond_true (leb size u.lots && is_full_of size u.account v) _ _ (and_both (leb size u.lots) (is_full_of size u.account v) f e)
  join_at f (suc p) d (v ∷ vs) h ps e =
      sym (stays v vs (λ g. false≢true (sym ps.0 ∙ and_right (leb size u.lots) (is_full_of size u.account v) g)))
      ∙ ap (λ l. v ∷ l) (join_at f p d vs (omega arith) ps.1 e)

-- a run of full units behind others joins as one
module _ (size a : ℕ) where
  join_twice : (x y : ℕ) → size ≤ x → size ≤ y → (vs : List AccountLots) →
      join_last size (account_lots a x) (join_last size (account_lots a y) vs) ≡ join_last size (account_lots a (y + x)) vs
  join_twice x y h g [] = rw (le-leb size x h, eq-eqb a a refl, le-leb size y g)
  join_twice x y h g (v ∷ vs) =
      by_test (eqb v.account a)
      (λ e.
      by_test (leb size v.lots)
      (λ f.
      let p : v.lots + y + x ≡ v.lots + (y + x) = omega arith in
      simp (le-leb size x h, le-leb size y g, le-leb size (y + x) (omega arith), e, f, le-leb size (v.lots + y) (omega arith))
      (ap (λ n. account_lots v.account n ∷ vs) p))
      (λ f. simp (le-leb size x h, le-leb size y g, le-leb size (y + x) (omega arith), e, f) (ap (λ l. v ∷ l) (join_twice x y h g vs))))
      (λ e. simp (le-leb size x h, le-leb size y g, le-leb size (y + x) (omega arith), e) (ap (λ l. v ∷ l) (join_twice x y h g vs)))

  pub run_last : 0 < size → (q : ℕ) (us : List AccountLots) →
      stretches size (us ++ replicate (suc q) (account_lots a size)) ≡ join_last size (account_lots a (suc q * size)) (stretches size us)
  run_last o zero us = stretches_last size (account_lots a size) us ∙ ap (λ n. join_last size (account_lots a n) (stretches size us)) (sym (one-mul size))
  run_last o (suc q) us =
      let u = account_lots a size in
      let p : size + suc q * size ≡ suc (suc q) * size = omega (arith, suc-mul (suc q) size) in
      ap (stretches size) (sym (append_assoc us (u ∷ []) (replicate (suc q) u)))
      ∙ run_last o q (us ++ (u ∷ []))
      ∙ ap (join_last size (account_lots a (suc q * size))) (stretches_last size u us)
      ∙ join_twice (suc q * size) size (omega (arith, suc-mul q size)) (omega arith) (stretches size us)
      ∙ ap (λ n. join_last size (account_lots a n) (stretches size us)) p

-- Behind a list its stretches only grow in number

join_longer : (size : ℕ) (u : AccountLots) (vs : List AccountLots) → length vs ≤ length (join_last size u vs)
join_longer size u [] = omega arith
join_longer size u (v ∷ vs) =
    either (λ r. suc (length vs) ≤ length r) (leb size u.lots && is_full_of size u.account v)
    (omega arith) (omega (arith, join_longer size u vs))

pub stretches_front : (size : ℕ) (us vs : List AccountLots) → length (stretches size us) ≤ length (stretches size (us ++ vs))
stretches_front size us [] = rw append-nil (omega arith)
stretches_front size us (v ∷ vs) =
    omega (
      arith,
      join_longer size v (stretches size us),
      ap length (stretches_last size v us),
      stretches_front size (us ++ (v ∷ [])) vs,
      ap (λ l. length (stretches size l)) (append_assoc us (v ∷ []) vs),
    )
