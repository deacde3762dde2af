-- The ranges in which value and charge are counted, and the largest results there.
use Rattle.std.specs.Prelude.{◌≡◌, ℕ, ◌+◌, ◌≤◌}
use Rattle.rules.specs.Measures.{most_lots, most_price, most_days, most_rate, value_of, charge_of}

-- x lots at price p and accrued amount a are within the limits
pub record Priced (x p a : ℕ) : Type 0 where
  pub lots : x ≤ most_lots
  pub price : p + a ≤ most_price

-- so are d days at rate r
pub record Termed (d r : ℕ) : Type 0 where
  pub days : d ≤ most_days
  pub rate : r ≤ most_rate

-- 20,000,000 lots at price 200,000, or at a price and an accrued amount that are together as much
abbrev pub most_value : ℕ
most_value = 2000000000000

-- that value over 12 days at rate 10,000
abbrev pub most_charge_once : ℕ
most_charge_once = 65753424657

-- y is the value of x lots at price p and accrued amount a
pub record ValueIs (x p a y : ℕ) : Type 0 where
  pub exact : y ≡ value_of x p a
  pub most : y ≤ most_value

-- y is the charge on x lots at price p and accrued amount a over d days at rate r
pub record ChargeIs (x p d r a y : ℕ) : Type 0 where
  pub exact : y ≡ charge_of x p d r a
  pub most : y ≤ most_charge_once
