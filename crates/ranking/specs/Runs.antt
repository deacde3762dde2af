-- Units of any size in runs.
use Rattle.std.specs.Prelude.{List, [], ◌∷◌, ◌++◌, ℕ, ◌/◌, ◌%◌, replicate}
use Rattle.rules.specs.Units.{AccountLots, account_lots, prepend}

-- the units that a run stands for: full ones, and a small one of the rest if that is not 0
abbrev pub units_of_run : ℕ → AccountLots → List AccountLots
units_of_run size u = replicate (u.lots / size) (account_lots u.account size) ++ prepend u.account (u.lots % size) []

abbrev pub units_of_runs : ℕ → List AccountLots → List AccountLots
units_of_runs size [] = []
units_of_runs size (u ∷ us) = units_of_run size u ++ units_of_runs size us
