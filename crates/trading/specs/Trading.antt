-- What a trade in place may count on.
use Rattle.std.specs.Prelude.{◌≡◌, List, ℕ, ◌≤◌, ◌<◌, length, get_or, ℤ, pos, nat_abs}
use Rattle.rules.specs.Measures.{most_lots}

-- a column of nets, each in −20,000,000..20,000,000
pub record SmallNets (nets : List ℤ) : Type 0 where
  pub cells : length nets ≡ 1024
  pub small : (k : ℕ) → nat_abs (get_or nets k (pos 0)) ≤ most_lots

-- and a trade whose questions are answered 'yes'
pub record Tradable (nets : List ℤ) (i f t x : ℕ) : Type 0 where
  pub column : SmallNets nets
  pub issue : i < 16
  pub from : f < 64
  pub to : t < 64
  pub differ : f ≡ t → ⊥
  pub lots : x ≤ most_lots
