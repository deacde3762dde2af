-- What question 11 answered 'yes' says of days and rate.
use mathlib.Core.Path.{◌≡◌}
use mathlib.Core.Bool.{true}
use Prim.Native.Nat.{ℕ}
use lib.Dec.{leb}
use borrow.Author.Tests.{leb-true}
use Rattle.rules.specs.Measures.{most_days, most_rate, between}
use Rattle.rules.specs.Questions.{term_right}
use Rattle.laws.proofs.Basics.{and_left, and_right}
use Rattle.measures.specs.Range.{Termed}

pub termed : (d r : ℕ) → term_right d r ≡ true → Termed d r
termed d r e =
    let days = and_left (between 1 most_days d) (leb r most_rate) e in
    record {
      days = leb-true d most_days (and_right (leb 1 d) (leb d most_days) days);
      rate = leb-true r most_rate (and_right (between 1 most_days d) (leb r most_rate) e);
    }
