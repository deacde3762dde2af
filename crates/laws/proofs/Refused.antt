-- Of refusals: a number is never 0, so an answer whose number is 0 is one that is done.
use mathlib.Core.Path.{◌≡◌, refl}
use Prim.Native.Nat.{ℕ, suc, ◌<◌}
use native.Mathlib.Omega.{arith}
use Rattle.std.specs.Prelude.{pred}
use Rattle.rules.specs.declared.Refusal.{Refusal}
use Rattle.rules.specs.declared.Refusal.TheVariants as refusal
use Rattle.rules.specs.Refusals.{number_of}

-- a refusal has a number of 1 or more
pub some_number : (r : Refusal) → number_of r ≡ suc (pred (number_of r))
some_number refusal.Output = refl
some_number refusal.Unsound = refl
some_number refusal.Phase = refl
some_number refusal.Issue = refl
some_number refusal.Account = refl
some_number refusal.SameAccount = refl
some_number refusal.Lots = refl
some_number refusal.Net = refl
some_number refusal.Owed = refl
some_number refusal.Entries = refl
some_number refusal.Terms = refl
some_number refusal.Day = refl
some_number refusal.Cut = refl
some_number refusal.Word = refl
some_number refusal.Field = refl
some_number refusal.Unit = refl
some_number refusal.Ticket = refl
some_number refusal.Lifts = refl
some_number refusal.OddLots = refl
some_number refusal.Used = refl
some_number refusal.Draw = refl
some_number refusal.Reports = refl
some_number refusal.Eligible = refl
some_number refusal.Amounts = refl
some_number refusal.Funds = refl
some_number refusal.Turn = refl
some_number refusal.Right = refl

pub above_0 : (r : Refusal) → 0 < number_of r
above_0 r = let o = some_number r in omega (o, arith)

-- what is said of every number of 1 or more is said of a refusal's
pub by_number : (P : ℕ → Type 0) (r : Refusal) → ((n : ℕ) → P (suc n)) → P (number_of r)
by_number P r e = rw (some_number r) (e (pred (number_of r)))
