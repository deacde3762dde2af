-- A book is in one phase only.
use mathlib.Core.Path.{◌≡◌, refl, sym}
use mathlib.Core.Bool.{true, false, false≢true}
use Rattle.rules.specs.declared.Phase.{Phase}
use Rattle.rules.specs.declared.Phase.TheVariants.{Taking, Settling, Cut}
use Rattle.rules.specs.Book.{is_taking, is_settling, is_cut}

pub settling_left : (p : Phase) → is_taking p ≡ false → is_cut p ≡ false → is_settling p ≡ true
settling_left Taking a b = absurd (false≢true (sym a))
settling_left Settling a b = refl
settling_left Cut a b = absurd (false≢true (sym b))

pub settling_not_taking : (p : Phase) → is_settling p ≡ true → is_taking p ≡ false
settling_not_taking Taking h = absurd (false≢true h)
settling_not_taking Settling h = refl
settling_not_taking Cut h = refl

pub settling_not_cut : (p : Phase) → is_settling p ≡ true → is_cut p ≡ false
settling_not_cut Taking h = refl
settling_not_cut Settling h = refl
settling_not_cut Cut h = absurd (false≢true h)

pub cut_not_taking : (p : Phase) → is_cut p ≡ true → is_taking p ≡ false
cut_not_taking Taking h = absurd (false≢true h)
cut_not_taking Settling h = refl
cut_not_taking Cut h = refl

pub cut_not_settling : (p : Phase) → is_cut p ≡ true → is_settling p ≡ false
cut_not_settling Taking h = refl
cut_not_settling Settling h = absurd (false≢true h)
cut_not_settling Cut h = refl
