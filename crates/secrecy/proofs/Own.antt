-- What a participant's own entries say: of a test that only own entries pass, the others tell nothing.
use mathlib.Core.Path.{◌≡◌, refl, sym, ap, ◌∙◌}
use mathlib.Core.Bool.{Bool, true, false, cond, ◌&&◌, false≢true}
use mathlib.Core.List.{List, [], ◌∷◌}
use Prim.Native.Nat.{ℕ, ◌+◌}
use native.Mathlib.Omega.{arith}
use lib.Dec.{eqb}
use borrow.Author.Tests.{eqb-true}
use Rattle.rules.specs.declared.Entry.{Entry}
use Rattle.rules.specs.Ledger.{is_from, is_to, lots_of}
use Rattle.laws.proofs.Basics.{by_test, and_right}
use Rattle.rules.specs.declared.Caller.{Caller}
use Rattle.rules.specs.Access.{owns, those, at_either}
use Rattle.secrecy.specs.Secrecy.{own_entry}

module _ (p r : Entry → Bool) (only : (e : Entry) → p e ≡ true → r e ≡ true) where
  none_else : (e : Entry) → r e ≡ false → p e ≡ false
  none_else e h = by_test (p e) (λ t. absurd (false≢true (sym h ∙ only e t))) (λ f. f)

  pub those_those : (es : List Entry) → those p (those r es) ≡ those p es
  those_those [] = refl
  those_those (e ∷ es) =
      by_test (r e)
      (λ t. simp t (by_test (p e) (λ q. simp q (ap (λ l. e ∷ l) (those_those es))) (λ q. simp q (those_those es))))
      (λ f. simp (f, none_else e f) (those_those es))

  pub lots_those : (es : List Entry) → lots_of p (those r es) ≡ lots_of p es
  lots_those [] = refl
  lots_those (e ∷ es) =
      by_test (r e)
      (λ t. simp t (ap (λ n. cond (p e) e.lots 0 + n) (lots_those es)))
      (λ f. simp (f, none_else e f) (omega (arith, lots_those es)))

module _ (w : Caller) (i a : ℕ) (own : owns w a ≡ true) where
  pub own_from : (e : Entry) → is_from i a e ≡ true → own_entry w e ≡ true
  own_from e h = let q = eqb-true e.from a (and_right (eqb e.issue i) (eqb e.from a) h) in rw (q, own)

  own_to : (e : Entry) → is_to i a e ≡ true → own_entry w e ≡ true
  own_to e h =
      let q = eqb-true e.to a (and_right (eqb e.issue i) (eqb e.to a) h) in
      by_test (owns w e.from) (λ t. simp t) (λ f. simp f (rw (q, own)))

  pub own_either : (e : Entry) → at_either i a e ≡ true → own_entry w e ≡ true
  own_either e h =
      by_test (is_from i a e) (λ t. own_from e t) (λ f. own_to e (simp f at h))
