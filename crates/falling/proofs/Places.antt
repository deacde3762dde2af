-- A ledger whose entries fall where they stand is read without those at 0: the first entry that passes there is
-- the first that is left, and that it falls is that its lots fall in their place.
use mathlib.Core.Path.{◌≡◌, refl, ap, ◌∙◌}
use mathlib.Core.Bool.{Bool, true, false, cond, false≢true}
use mathlib.Core.List.{List, [], ◌∷◌, ◌++◌}
use Prim.Native.Nat.{ℕ, zero, suc, ◌-◌, ◌≤◌, ◌<◌}
use native.Mathlib.Omega.{arith}
use lib.ListN.{length, get_or}
use borrow.Author.Tests.{eqb-true, eq-eqb}
use Rattle.rules.specs.declared.Entry.{Entry}
use Rattle.rules.specs.Ledger.{put_entry, count_of, first_of, lower}
use Rattle.rules.specs.Book.{is_zero}
use Rattle.laws.proofs.Basics.{by_test, either, Every}
use Rattle.laws.proofs.Meeting.{with_lots, Steady}
use Rattle.laws.proofs.Ledger.{no_entry}
use Rattle.ledger.specs.Columns.{without_zeros}
use Rattle.ledger.proofs.Lots.{lots_at}
use Rattle.ledger.proofs.Zeros.{put_zeros}
use Rattle.falling.specs.Places.{is_left, place_of}

-- The place of the first that passes

module _ (q : Entry → Bool) where
  pub place_most : (es : List Entry) → place_of q es ≤ length es
  place_most [] = omega arith
  place_most (e ∷ es) = either (λ k. k ≤ suc (length es)) (q e) (omega arith) (omega (arith, place_most es))

  -- it is not before k: it is k where the entry there passes, else behind k
  pub place_here : (k : ℕ) (es : List Entry) → k < length es → k ≤ place_of q es → q (get_or es k no_entry) ≡ true → k ≡ place_of q es
  place_here k [] h l e = absurd (omega arith)
  place_here zero (d ∷ es) h l e = rw e
  place_here (suc k) (d ∷ es) h l e =
      by_test (q d)
      (λ t. absurd (omega (arith, rw t at l)))
      (λ t. rw t (ap suc (place_here k es (omega arith) (omega (arith, rw t at l)) e)))

  pub place_past : (k : ℕ) (es : List Entry) → k < length es → k ≤ place_of q es → q (get_or es k no_entry) ≡ false → suc k ≤ place_of q es
  place_past k [] h l e = absurd (omega arith)
  place_past zero (d ∷ es) h l e = rw e (omega arith)
  place_past (suc k) (d ∷ es) h l e =
      by_test (q d)
      (λ t. absurd (omega (arith, rw t at l)))
      (λ t. rw t (omega (arith, place_past k es (omega arith) (omega (arith, rw t at l)) e)))

  pub place_passes : (es : List Entry) → place_of q es < length es → q (get_or es (place_of q es) no_entry) ≡ true
  place_passes [] h = absurd (omega arith)
  place_passes (e ∷ es) h = by_test (q e) (λ t. rw t t) (λ t. rw t (place_passes es (omega (arith, rw t at h))))

-- Lots changed where they stand

pub get_or_other : (k j x : ℕ) (es : List Entry) → (k ≡ j → ⊥) → get_or (lots_at k x es) j no_entry ≡ get_or es j no_entry
get_or_other k j x [] h = refl
get_or_other zero zero x (e ∷ es) h = absurd (h refl)
get_or_other zero (suc j) x (e ∷ es) h = refl
get_or_other (suc k) zero x (e ∷ es) h = refl
get_or_other (suc k) (suc j) x (e ∷ es) h = get_or_other k j x es (λ z. h (ap suc z))

pub each_lots : (P : Entry → Type 0) → ((e : Entry) (x : ℕ) → P e → P (with_lots e x)) → (k x : ℕ) (es : List Entry) →
    Every P es → Every P (lots_at k x es)
each_lots P w k x [] ps = tt
each_lots P w zero x (e ∷ es) ps = (w e x ps.0, ps.1)
each_lots P w (suc k) x (e ∷ es) ps = (ps.0, each_lots P w k x es ps.1)

put_append : (e : Entry) (x : ℕ) (us vs : List Entry) → put_entry e x (us ++ vs) ≡ put_entry e x us ++ vs
put_append e zero us vs = refl
put_append e (suc x) us vs = refl

module _ (p : Entry → Bool) where
  -- an entry that is left passes and has lots
  pub left_passes : (e : Entry) → is_left p e ≡ true → p e ≡ true
  left_passes e h = by_test (is_zero e.lots) (λ z. absurd (false≢true (rw z at h))) (λ z. rw z at h)

  -- one at 0 or one that does not pass is not left
  not_left : (e : Entry) → p e ≡ false → is_left p e ≡ false
  not_left e h = either (λ b. b ≡ false) (is_zero e.lots) refl h

  module _ (ys : List Entry) where
    pub first_left : (g : Entry → ℕ) (es : List Entry) → place_of (is_left p) es < length es →
        first_of g p (without_zeros es ++ ys) ≡ g (get_or es (place_of (is_left p) es) no_entry)
    first_left g [] h = absurd (omega arith)
    first_left g (e ∷ es) h =
        by_test (is_zero e.lots)
        (λ z. rw z (first_left g es (omega (arith, rw z at h))))
        (λ z.
        by_test (p e)
        (λ t. rw (z, t) refl)
        (λ t. rw (z, t) (first_left g es (omega (arith, rw (z, t) at h)))))

    pub count_left : (es : List Entry) → place_of (is_left p) es < length es → 0 < count_of p (without_zeros es ++ ys)
    count_left [] h = absurd (omega arith)
    count_left (e ∷ es) h =
        by_test (is_zero e.lots)
        (λ z. rw z (count_left es (omega (arith, rw z at h))))
        (λ z.
        by_test (p e)
        (λ t. rw (z, t) (omega arith))
        (λ t. rw (z, t) (omega (arith, count_left es (omega (arith, rw (z, t) at h))))))

    pub count_none : (es : List Entry) → length es ≤ place_of (is_left p) es → count_of p (without_zeros es ++ ys) ≡ count_of p ys
    count_none [] h = refl
    count_none (e ∷ es) h =
        by_test (is_zero e.lots)
        (λ z. rw z (count_none es (omega (arith, rw z at h))))
        (λ z.
        by_test (p e)
        (λ t. absurd (omega (arith, rw (z, t) at h)))
        (λ t. rw (z, t) (omega (arith, count_none es (omega (arith, rw (z, t) at h))))))

    pub lower_left : (m : ℕ) (es : List Entry) → place_of (is_left p) es < length es →
        let k = place_of (is_left p) es in
        lower p m (without_zeros es ++ ys) ≡ without_zeros (lots_at k ((get_or es k no_entry).lots - m) es) ++ ys
    lower_left m [] h = absurd (omega arith)
    lower_left m (e ∷ es) h =
        by_test (is_zero e.lots)
        (λ z. rw z (rw z (lower_left m es (omega (arith, rw z at h)))))
        (λ z.
        by_test (p e)
        (λ t.
        rw (z, t)
        (put_append e (e.lots - m) (without_zeros es) ys ∙ ap (λ l. l ++ ys) (put_zeros e (e.lots - m) (without_zeros es))))
        (λ t. rw (z, t) (rw z (ap (λ l. e ∷ l) (lower_left m es (omega (arith, rw (z, t) at h)))))))

  module _ (steady : Steady p) where
    -- an entry that does not pass falls
    pub place_other : (k x : ℕ) (es : List Entry) → p (get_or es k no_entry) ≡ false → place_of (is_left p) (lots_at k x es) ≡ place_of (is_left p) es
    place_other k x [] h = refl
    place_other zero x (e ∷ es) h = rw (not_left (with_lots e x) (steady e x ∙ h), not_left e h)
    place_other (suc k) x (e ∷ es) h = ap (λ n. cond (is_left p e) 0 (suc n)) (place_other k x es h)

    -- an entry falls: none before the place is left
    pub place_falls : (k x : ℕ) (es : List Entry) → x ≤ (get_or es k no_entry).lots → place_of (is_left p) es ≤ place_of (is_left p) (lots_at k x es)
    place_falls k x [] h = omega arith
    place_falls zero x (e ∷ es) h =
        by_test (is_left p e)
        (λ t. rw t (omega arith))
        (λ t. let f = still e x h t in rw (t, f) (omega arith))
      where
        still : (e : Entry) (x : ℕ) → x ≤ e.lots → is_left p e ≡ false → is_left p (with_lots e x) ≡ false
        still e x h t =
            by_test (is_zero e.lots)
            (λ z. let o : x ≡ 0 = omega (arith, eqb-true e.lots 0 z) in rw (eq-eqb x 0 o))
            (λ z. not_left (with_lots e x) (steady e x ∙ rw z at t))
    place_falls (suc k) x (e ∷ es) h =
        by_test (is_left p e) (λ t. rw t (omega arith)) (λ t. rw t (omega (arith, place_falls k x es h)))
