-- An answer in plain numbers: the refusal's number is returned, the yen stand in the lent place.
use Rattle.std.specs.Prelude.{◌≡◌, ℕ}
use Rattle.rules.specs.Calls.{AmountAnswer}

pub record Plain (d : AmountAnswer) (number lent : ℕ) : Type 0 where
  pub refusal : number ≡ d.refusal
  pub yen : lent ≡ d.yen
