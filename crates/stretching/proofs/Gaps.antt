-- A full unit of an account that has a stretch already only makes that stretch longer, wherever it stands: so it may be
-- fed with others and taken off again.
use mathlib.Core.Path.{◌≡◌, refl, sym, ap, subst, ◌∙◌}
use mathlib.Core.Bool.{true, false, ◌&&◌, false≢true}
use mathlib.Core.List.{List, [], ◌∷◌, ◌++◌, append-nil, append_assoc}
use Prim.Native.Nat.{ℕ, zero, suc, ◌+◌, ◌-◌, ◌*◌, ◌≤◌, ◌<◌}
use native.Mathlib.Omega.{arith}
use lib.Dec.{leb, eqb}
use lib.ListN.{length, take, get_or}
use borrow.Author.Tests.{le-leb, leb-true}
use Rattle.rules.specs.Measures.{Every, unit_lots, total}
use Rattle.rules.specs.Units.{AccountLots, account_lots, of_account}
use Rattle.rules.specs.Fails.{is_full_of, stretches}
use Rattle.laws.proofs.Basics.{by_test, and_left, and_right, and_both, each_map}
use Rattle.laws.proofs.DealtStretches.{join_last, stretches_last}
use Rattle.stretching.specs.Adding.{NoneOf}
use Rattle.stretching.specs.Gaps.{Has, more, less, mores}

module _ (size : ℕ) where
  -- full lots and others are full
  big : (x y : ℕ) → leb size x ≡ true → leb size (x + y) ≡ true
  big x y f = le-leb size (x + y) (omega (arith, leb-true size x f))

  other : (a : ℕ) (w : AccountLots) → eqb w.account a ≡ false → is_full_of size a w ≡ false
  other a w e = simp e

  small : (a : ℕ) (w : AccountLots) → leb size w.lots ≡ false → is_full_of size a w ≡ false
  small a w f = by_test (eqb w.account a) (λ e. simp (e, f)) (λ e. simp e)

  grown : (a x : ℕ) (w : AccountLots) → leb size w.lots ≡ true → is_full_of size a (account_lots w.account (w.lots + x)) ≡ false → is_full_of size a w ≡ false
  grown a x w f k =
      by_test (eqb w.account a)
      (λ e. absurd (false≢true (sym k ∙ and_both (eqb w.account a) (leb size (w.lots + x)) e (big w.lots x f))))
      (λ e. other a w e)

  -- One more, among others

  pub join_more : (a : ℕ) (vs : List AccountLots) → Has size a vs → join_last size (account_lots a size) vs ≡ more size a vs
  join_more a [] h = absurd h
  join_more a (v ∷ vs) h =
      let full : leb size size ≡ true = le-leb size size (omega arith) in
      by_test (is_full_of size a v)
      (λ e. simp (full, e))
      (λ e. simp (full, e) (ap (λ l. v ∷ l) (join_more a vs (h e))))

  commute : (a : ℕ) (v : AccountLots) (ws : List AccountLots) → Has size a ws → more size a (join_last size v ws) ≡ join_last size v (more size a ws)
  commute a v [] h = absurd h
  commute a v (w ∷ ws) h =
      by_test (leb size w.lots)
      (λ f.
      by_test (eqb w.account a)
      (λ e.
      by_test (leb size v.lots)
      (λ g.
      by_test (eqb w.account v.account)
      (λ k.
      let p : w.lots + v.lots + size ≡ w.lots + size + v.lots = omega arith in
      simp (f, e, g, k, big w.lots v.lots f, big w.lots size f) (ap (λ n. account_lots w.account n ∷ ws) p))
      (λ k. simp (f, e, g, k)))
      (λ g. simp (f, e, g)))
      (λ e.
      by_test (leb size v.lots)
      (λ g.
      by_test (eqb w.account v.account)
      (λ k. simp (f, e, g, k))
      (λ k. simp (f, e, g, k) (ap (λ l. w ∷ l) (commute a v ws (h (other a w e))))))
      (λ g. simp (f, e, g) (ap (λ l. w ∷ l) (commute a v ws (h (other a w e)))))))
      (λ f.
      let k = small a w f in
      let g : leb size v.lots && is_full_of size v.account w ≡ false = no (leb size v.lots) (small v.account w f) in
      simp (g, k) (ap (λ l. w ∷ l) (commute a v ws (h k))))
    where
      no : (b : _) {c : _} → c ≡ false → b && c ≡ false
      no true e = e
      no false e = refl

  has_join : (a : ℕ) (v : AccountLots) (ws : List AccountLots) → Has size a ws → Has size a (join_last size v ws)
  has_join a v [] h = absurd h
  has_join a v (w ∷ ws) h =
      by_test (leb size v.lots && is_full_of size v.account w)
      (λ e.
      let f = and_right (eqb w.account v.account) (leb size w.lots) (and_right (leb size v.lots) (is_full_of size v.account w) e) in
      simp e (λ k. h (grown a v.lots w f k)))
      (λ e. simp e (λ k. has_join a v ws (h k)))

  pub has_more : (a b : ℕ) (ws : List AccountLots) → Has size a ws → Has size a (more size b ws)
  has_more a b [] h = h
  has_more a b (w ∷ ws) h =
      by_test (is_full_of size b w)
      (λ e. simp e (λ k. h (grown a size w (and_right (eqb w.account b) (leb size w.lots) e) k)))
      (λ e. simp e (λ k. has_more a b ws (h k)))

  -- units one after the other
  abbrev joins : List AccountLots → List AccountLots → List AccountLots
  joins [] vs = vs
  joins (u ∷ us) vs = joins us (join_last size u vs)

  stretches_joins : (vs us : List AccountLots) → stretches size (us ++ vs) ≡ joins vs (stretches size us)
  stretches_joins [] us = ap (stretches size) (append-nil us)
  stretches_joins (v ∷ vs) us =
      ap (stretches size) (sym (append_assoc us (v ∷ []) vs)) ∙ stretches_joins vs (us ++ (v ∷ [])) ∙ ap (joins vs) (stretches_last size v us)

  has_joins : (a : ℕ) (vs ws : List AccountLots) → Has size a ws → Has size a (joins vs ws)
  has_joins a [] ws h = h
  has_joins a (v ∷ vs) ws h = has_joins a vs (join_last size v ws) (has_join a v ws h)

  pub has_front : (a : ℕ) (us vs : List AccountLots) → Has size a (stretches size us) → Has size a (stretches size (us ++ vs))
  has_front a us vs h = subst (Has size a) (sym (stretches_joins vs us)) (has_joins a vs (stretches size us) h)

  joins_more : (a : ℕ) (vs ws : List AccountLots) → Has size a ws → joins vs (more size a ws) ≡ more size a (joins vs ws)
  joins_more a [] ws h = refl
  joins_more a (v ∷ vs) ws h = ap (joins vs) (sym (commute a v ws h)) ∙ joins_more a vs (join_last size v ws) (has_join a v ws h)

  joins_mores : (gs : List ℕ) (vs ws : List AccountLots) → Every (λ a. Has size a ws) gs → joins vs (mores size gs ws) ≡ mores size gs (joins vs ws)
  joins_mores [] vs ws hs = refl
  joins_mores (a ∷ gs) vs ws hs =
      joins_mores gs vs (more size a ws) (each_map (λ b. Has size b ws) (λ b. Has size b (more size a ws)) (λ b h. has_more b a ws h) gs hs.1)
      ∙ ap (mores size gs) (joins_more a vs ws hs.0)

  pub mores_last : (gs : List ℕ) (a : ℕ) (vs : List AccountLots) → mores size (gs ++ (a ∷ [])) vs ≡ more size a (mores size gs vs)
  mores_last [] a vs = refl
  mores_last (g ∷ gs) a vs = mores_last gs a (more size g vs)

  -- a unit in the midst of others, of an account that has a stretch in front
  pub gap_more : (a : ℕ) (us vs ws : List AccountLots) → Has size a (stretches size us) →
      stretches size ((us ++ vs) ++ (account_lots a size ∷ ws)) ≡ more size a (stretches size ((us ++ vs) ++ ws))
  gap_more a us vs ws h =
      let S = stretches size (us ++ vs) in
      let k = has_front a us vs h in
      stretches_joins (account_lots a size ∷ ws) (us ++ vs) ∙ ap (joins ws) (join_more a S k) ∙ joins_more a ws S k
      ∙ ap (more size a) (sym (stretches_joins ws (us ++ vs)))

  -- others behind stretches with units more
  pub behind_mores : (gs : List ℕ) (xs us vs : List AccountLots) → stretches size xs ≡ mores size gs (stretches size us) →
      Every (λ a. Has size a (stretches size us)) gs → stretches size (xs ++ vs) ≡ mores size gs (stretches size (us ++ vs))
  behind_mores gs xs us vs e hs =
      stretches_joins vs xs ∙ ap (joins vs) e ∙ joins_mores gs vs (stretches size us) hs ∙ ap (mores size gs) (sym (stretches_joins vs us))

  pub has_mores : (a : ℕ) (gs : List ℕ) (ws : List AccountLots) → Has size a ws → Has size a (mores size gs ws)
  has_mores a [] ws h = h
  has_mores a (g ∷ gs) ws h = has_mores a gs (more size g ws) (has_more a g ws h)

  -- How many, and how much

  length_more : (a : ℕ) (vs : List AccountLots) → length (more size a vs) ≡ length vs
  length_more a [] = refl
  length_more a (v ∷ vs) = by_test (is_full_of size a v) (λ e. simp e) (λ e. simp e (ap suc (length_more a vs)))

  pub length_mores : (gs : List ℕ) (vs : List AccountLots) → length (mores size gs vs) ≡ length vs
  length_mores [] vs = refl
  length_mores (a ∷ gs) vs = length_mores gs (more size a vs) ∙ length_more a vs

  pub total_more : (b a : ℕ) (vs : List AccountLots) → total (of_account b) (more size a vs) ≤ total (of_account b) vs + size
  total_more b a [] = omega arith
  total_more b a (v ∷ vs) =
      by_test (is_full_of size a v)
      (λ e. by_test (eqb v.account b) (λ f. simp (e, f) (omega arith)) (λ f. simp (e, f) (omega arith)))
      (λ e. simp e (omega (arith, total_more b a vs)))

  -- One less

  pub less_more : (a : ℕ) (vs : List AccountLots) → Has size a vs → less size a (more size a vs) ≡ vs
  less_more a [] h = refl
  less_more a (v ∷ vs) h =
      by_test (is_full_of size a v)
      (λ e.
      let f = and_left (eqb v.account a) (leb size v.lots) e in
      let g = and_right (eqb v.account a) (leb size v.lots) e in
      let p : v.lots + size - size ≡ v.lots = omega arith in
      simp (e, and_both (eqb v.account a) (leb size (v.lots + size)) f (big v.lots size g)) (ap (λ n. account_lots v.account n ∷ vs) p))
      (λ e. simp e (ap (λ l. v ∷ l) (less_more a vs (h e))))

  -- the first that is full of an account has at least two
  pub twice : (a p : ℕ) (d : AccountLots) (vs : List AccountLots) → Has size a vs → p < length vs →
      Every (λ v. is_full_of size a v ≡ false) (take p (more size a vs)) → is_full_of size a (get_or (more size a vs) p d) ≡ true → size + size ≤ (get_or (more size a vs) p d).lots
  twice a p d [] h l ns f = absurd h
  twice a zero d (v ∷ vs) h l ns f =
      by_test (is_full_of size a v)
      (λ e. simp e (omega (arith, leb-true size v.lots (and_right (eqb v.account a) (leb size v.lots) e))))
      (λ e. absurd (false≢true (simp e at f)))
  twice a (suc p) d (v ∷ vs) h l ns f =
      by_test (is_full_of size a v)
      (λ e. absurd (false≢true (sym (grown a size v (and_right (eqb v.account a) (leb size v.lots) e) (simp e at ns).0) ∙ e)))
      (λ e. simp e (twice a p d vs (h e) (omega arith) (simp e at ns).1 (simp e at f)))

pub total_mores : (b : ℕ) (gs : List ℕ) (vs : List AccountLots) → total (of_account b) (mores unit_lots gs vs) ≤ total (of_account b) vs + length gs * 100000
total_mores b [] vs = omega arith
total_mores b (a ∷ gs) vs = omega (arith, total_mores b gs (more unit_lots a vs), total_more unit_lots b a vs)

-- where one is full of an account there is one; where there is one not none is
pub has_at : (a p : ℕ) (d : AccountLots) (vs : List AccountLots) → p < length vs → is_full_of unit_lots a (get_or vs p d) ≡ true → Has unit_lots a vs
has_at a p d [] h f = omega arith
has_at a zero d (v ∷ vs) h f = λ k. absurd (false≢true (sym k ∙ f))
has_at a (suc p) d (v ∷ vs) h f = λ k. has_at a p d vs (omega arith) f

pub none_has : (a : ℕ) (vs : List AccountLots) → NoneOf a vs → Has unit_lots a vs → ⊥
none_has a [] ns h = h
none_has a (v ∷ vs) ns h = none_has a vs ns.1 (h ns.0)
