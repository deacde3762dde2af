-- What a round delivered of an issue.
use Rattle.std.specs.Prelude.{ℕ, ◌<◌}

pub record CanLeap (size x : ℕ) : Type 0 where
  pub some : 0 < size
  pub each : 0 < x
  pub small : x < 2000000000
