-- Stretches where full units of an account lie apart. Runs of several full units have the stretches of their units;
-- and one pass from the front makes them: at the first full run of an account all its full lots, at later ones none.
use mathlib.Core.Path.{◌≡◌, refl, sym, ap, ◌∙◌}
use mathlib.Core.Bool.{true, false, cond, ◌&&◌, false≢true}
use mathlib.Core.List.{List, [], ◌∷◌, ◌++◌}
use Prim.Native.Nat.{ℕ, zero, suc, ◌+◌, ◌*◌, ◌≤◌, ◌<◌}
use native.Mathlib.Omega.{arith}
use native.Mathlib.Nat.{add-zero, zero-add, one-mul, suc-mul}
use lib.Dec.{leb, eqb}
use lib.ListN.{replicate}
use borrow.Author.Tests.{leb-true, le-leb, eqb-true, eqb-false, eq-eqb, ne_eqb}
use Rattle.rules.specs.Units.{AccountLots, account_lots, prepend}
use Rattle.rules.specs.Fails.{is_full_of, full_lots, without_fulls, join, stretches}
use Rattle.laws.proofs.Basics.{by_test, and_both, put_pos}
use Rattle.laws.proofs.Stretches.{none_without, without_none, full_lots_none}

-- an account's full units in front of any list are one run in front of its stretches
pub run_join : (size : ℕ) → 0 < size → (a q : ℕ) (us : List AccountLots) →
    stretches size (replicate (suc q) (account_lots a size) ++ us) ≡ join size (account_lots a (suc q * size)) (stretches size us)
run_join size h a zero us = rw one-mul
run_join size h a (suc q) us =
    let vs = stretches size us in
    let x = suc q * size in
    let m : size ≤ x = omega (arith, suc-mul q size) in
    let p : suc (suc q) * size ≡ size + x = omega (arith, suc-mul (suc q) size) in
    let big : leb size (size + x) ≡ true = le-leb size (size + x) (omega arith) in
    let full : is_full_of size a (account_lots a (x + full_lots size a vs)) ≡ true =
    and_both (eqb a a) (leb size (x + full_lots size a vs)) (eq-eqb a a refl) (le-leb size (x + full_lots size a vs) (omega arith)) in
    let none = none_without size a vs in
    rw (run_join size h a q us, p)
    (simp (
      le-leb size x m,
      le-leb size size (omega arith),
      big,
      full,
      full_lots_none size a (without_fulls size a vs) none,
      without_none size a (without_fulls size a vs) none,
      add-zero,
    )
    (ap (λ n. account_lots a n ∷ without_fulls size a vs) (omega arith)))

-- One pass from the front

-- a number for each account, with account a's set to 0
abbrev pub spent : (ℕ → ℕ) → ℕ → ℕ → ℕ
spent s a b = cond (eqb b a) 0 (s b)

-- s has what is left of each account's full lots
abbrev pub gathered : ℕ → (ℕ → ℕ) → List AccountLots → List AccountLots
gathered size s [] = []
gathered size s (u ∷ us) =
    cond (leb size u.lots) (prepend u.account (s u.account) (gathered size (spent s u.account) us)) (u ∷ gathered size s us)

-- of a list, without the full ones of accounts that have nothing left
abbrev keep : ℕ → (ℕ → ℕ) → List AccountLots → List AccountLots
keep size s [] = []
keep size s (v ∷ vs) = cond (leb size v.lots && eqb (s v.account) 0) (keep size s vs) (v ∷ keep size s vs)

keep_spent : (size : ℕ) (s : ℕ → ℕ) (a : ℕ) (vs : List AccountLots) → keep size (spent s a) vs ≡ keep size s (without_fulls size a vs)
keep_spent size s a [] = refl
keep_spent size s a (v ∷ vs) =
    by_test (leb size v.lots)
    (λ f. by_test (eqb v.account a)
    (λ e. simp (f, e) (keep_spent size s a vs))
    (λ e. simp (f, e) (ap (λ l. cond (eqb (s v.account) 0) l (v ∷ l)) (keep_spent size s a vs))))
    (λ f. by_test (eqb v.account a)
    (λ e. simp (f, e) (ap (λ l. v ∷ l) (keep_spent size s a vs)))
    (λ e. simp (f, e) (ap (λ l. v ∷ l) (keep_spent size s a vs))))

-- s is at each account all full lots of the list, or nothing
abbrev Left : ℕ → (ℕ → ℕ) → List AccountLots → Type 0
Left size s us = (a : ℕ) → (eqb (s a) 0 ≡ false) → s a ≡ full_lots size a us

additive_full : (size a : ℕ) (us : List AccountLots) → full_lots size a (stretches size us) ≡ full_lots size a us
additive_full size a [] = refl
additive_full size a (u ∷ us) =
    let vs = stretches size us in
    by_test (leb size u.lots)
    (λ f. by_test (eqb u.account a)
    (λ e.
    let q = eqb-true u.account a e in
    let big = le-leb size (u.lots + full_lots size u.account vs) (omega (arith, leb-true size u.lots f)) in
    simp (f, e, big)
    (merged u.lots u.account vs q (additive_full size a us)))
    (λ e. simp (f, e, zero-add) (other vs u.account (eqb-false u.account a e) ∙ additive_full size a us)))
    (λ f. by_test (eqb u.account a)
    (λ e. simp (f, e, zero-add) (additive_full size a us))
    (λ e. simp (f, e, zero-add) (additive_full size a us)))
  where
    merged : (x b : ℕ) (vs : List AccountLots) → b ≡ a → full_lots size a vs ≡ full_lots size a us →
        (x + full_lots size b vs) + full_lots size a (without_fulls size b vs) ≡ x + full_lots size a us
    merged x b vs q ih = rw (q, full_lots_none size a (without_fulls size a vs) (none_without size a vs), ih, add-zero)

    other : (vs : List AccountLots) (b : ℕ) → (b ≡ a → ⊥) → full_lots size a (without_fulls size b vs) ≡ full_lots size a vs
    other [] b ne = refl
    other (v ∷ vs) b ne =
        by_test (eqb v.account b)
        (λ e.
        let n = ne_eqb v.account a (λ q. ne (sym (eqb-true v.account b e) ∙ q)) in
        by_test (leb size v.lots)
        (λ f. simp (e, f, n, zero-add) (other vs b ne))
        (λ f. simp (e, f, n, zero-add) (other vs b ne)))
        (λ e. simp e (ap (λ m. cond (is_full_of size a v) v.lots 0 + m) (other vs b ne)))

pub gather_keep : (size : ℕ) → 0 < size → (s : ℕ → ℕ) (us : List AccountLots) → Left size s us → gathered size s us ≡ keep size s (stretches size us)
gather_keep size h s [] l = refl
gather_keep size h s (u ∷ us) l =
    let a = u.account in
    let vs = stretches size us in
    by_test (leb size u.lots)
    (λ f.
    let big = le-leb size (u.lots + full_lots size a vs) (omega (arith, leb-true size u.lots f)) in
    let ih = gather_keep size h (spent s a) us (λ b ne. rest f b ne) in
    by_test (eqb (s a) 0)
    (λ z. simp (f, big, z) (rw (eqb-true (s a) 0 z) (ih ∙ keep_spent size s a vs)))
    (λ z.
    let e : s a ≡ u.lots + full_lots size a vs = l a z ∙ rw (f, eq-eqb a a refl) (ap (λ n. u.lots + n) (sym (additive_full size a us))) in
    simp (f, big, z)
    (rw e (put_pos a (u.lots + full_lots size a vs) (gathered size (spent s a) us) (omega (arith, leb-true size u.lots f))
    ∙ ap (λ r. account_lots a (u.lots + full_lots size a vs) ∷ r) (ih ∙ keep_spent size s a vs)))))
    (λ f. simp f (ap (λ r. u ∷ r) (gather_keep size h s us (λ b ne. l b ne ∙ small f b))))
  where
    small : leb size u.lots ≡ false → (b : ℕ) → full_lots size b (u ∷ us) ≡ full_lots size b us
    small f b = by_test (eqb u.account b) (λ e. simp (f, e, zero-add)) (λ e. simp (f, e, zero-add))

    rest : leb size u.lots ≡ true → (b : ℕ) → eqb (spent s u.account b) 0 ≡ false → spent s u.account b ≡ full_lots size b us
    rest f b ne =
        by_test (eqb b u.account)
        (λ e. absurd (false≢true (sym (simp e at ne))))
        (λ e.
        let n = ne_eqb u.account b (λ q. eqb-false b u.account e (sym q)) in
        simp e (l b (simp e at ne) ∙ simp (n, zero-add)))

-- what one pass gives from all full lots is the stretches
pub gather_stretches : (size : ℕ) → 0 < size → (us : List AccountLots) → gathered size (λ a. full_lots size a us) us ≡ stretches size us
gather_stretches size h us =
    gather_keep size h (λ a. full_lots size a us) us (λ a ne. refl) ∙ all_kept (stretches size us) (λ a. sym (additive_full size a us))
  where
    all_kept : (vs : List AccountLots) → ((a : ℕ) → full_lots size a us ≡ full_lots size a vs) → keep size (λ a. full_lots size a us) vs ≡ vs
    all_kept vs e = go vs (λ a. omega (arith, e a))
      where
        go : (ws : List AccountLots) → ((a : ℕ) → full_lots size a ws ≤ full_lots size a us) → keep size (λ a. full_lots size a us) ws ≡ ws
        go [] g = refl
        go (w ∷ ws) g =
            by_test (leb size w.lots)
            (λ f.
            let m : 0 < full_lots size w.account us = omega (arith, leb-true size w.lots f, simp (f, eq-eqb w.account w.account refl) at (g w.account)) in
            simp (f, ne_eqb (full_lots size w.account us) 0 (λ z. omega arith))
            (ap (λ r. w ∷ r) (go ws (λ a. omega (arith, g a)))))
            (λ f. simp f (ap (λ r. w ∷ r) (go ws (λ a. omega (arith, g a)))))
