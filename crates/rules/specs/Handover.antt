-- What a delivered total covers of a list of units, whatever their order.
use Rattle.std.specs.Prelude.{cond, List, [], ◌∷◌, ℕ, suc, ◌+◌, ◌-◌, leb, take, drop}
use Rattle.rules.specs.Units.{AccountLots, account_lots, prepend}

-- how many units are handed over whole, in order, while what is left of the total covers the next one
abbrev pub covered : List AccountLots → ℕ → ℕ
covered [] d = 0
covered (u ∷ us) d = cond (leb u.lots d) (suc (covered us (d - u.lots))) 0

-- the stock: what is then left of the total
abbrev pub stock : List AccountLots → ℕ → ℕ
stock [] d = d
stock (u ∷ us) d = cond (leb u.lots d) (stock us (d - u.lots)) d

-- the units handed, and those not yet handed
abbrev pub handed : List AccountLots → ℕ → List AccountLots
handed us d = take (covered us d) us

abbrev pub waiting : List AccountLots → ℕ → List AccountLots
waiting us d = drop (covered us d) us

-- the units that a total covers after the first h
abbrev pub handed_from : List AccountLots → ℕ → ℕ → List AccountLots
handed_from us h d = take (covered us d - h) (drop h us)

-- the units that x more lots hand over: those that the new total covers, after those handed already
unfoldable pub handovers : List AccountLots → ℕ → ℕ → List AccountLots
handovers us d x = handed_from us (covered us d) (d + x)

-- the first of a list of units, or no lots of account 0
abbrev pub first_unit : List AccountLots → AccountLots
first_unit [] = account_lots 0 0
first_unit (u ∷ us) = u

-- at the cutoff the remaining stock, if not 0, goes to the next unit (a partial fail)
unfoldable pub partials : List AccountLots → ℕ → List AccountLots
partials us d = prepend (first_unit (waiting us d)).account (stock us d) []
