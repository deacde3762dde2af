-- What units still lack at the cutoff, and the shortfalls laid against it.
use Rattle.std.specs.Prelude.{Bool, cond, ◌&&◌, List, [], ◌∷◌, ◌++◌, map, ℕ, ◌+◌, ◌-◌, min, leb, eqb}
use Rattle.rules.specs.Measures.{total, sum}
use Rattle.rules.specs.Units.{AccountLots, account_lots, prepend, by_account}
use Rattle.rules.specs.Handover.{stock, waiting}

-- full units of account a, one or several together
abbrev pub is_full_of : ℕ → ℕ → AccountLots → Bool
is_full_of size a v = eqb v.account a && leb size v.lots

abbrev pub full_lots : ℕ → ℕ → List AccountLots → ℕ
full_lots size a vs = total (λ v. cond (is_full_of size a v) v.lots 0) vs

abbrev pub without_fulls : ℕ → ℕ → List AccountLots → List AccountLots
without_fulls size a [] = []
without_fulls size a (v ∷ vs) = cond (is_full_of size a v) (without_fulls size a vs) (v ∷ without_fulls size a vs)

-- a unit in front of stretches: where it is full, its account's stretch of full units moves up and joins it
abbrev pub join : ℕ → AccountLots → List AccountLots → List AccountLots
join size u vs =
    cond (leb size u.lots)
    (account_lots u.account (u.lots + full_lots size u.account vs) ∷ without_fulls size u.account vs)
    (u ∷ vs)

-- an account's full units being one stretch, at the place of the first, and its small unit another
abbrev pub stretches : ℕ → List AccountLots → List AccountLots
stretches size [] = []
stretches size (u ∷ us) = join size u (stretches size us)

-- the first x lots of a list of parts, and what is left of it
abbrev pub take_lots : ℕ → List AccountLots → List AccountLots
take_lots x [] = []
take_lots x (v ∷ vs) = prepend v.account (min x v.lots) (take_lots (x - v.lots) vs)

abbrev pub drop_lots : ℕ → List AccountLots → List AccountLots
drop_lots x [] = []
drop_lots x (v ∷ vs) = prepend v.account (v.lots - x) (drop_lots (x - v.lots) vs)

-- what units lack in unit order: those not handed, less the stock that the first of them takes
unfoldable pub lacks : ℕ → List AccountLots → ℕ → List AccountLots
lacks size us d = drop_lots (stock us d) (stretches size (waiting us d))

-- what each account owes and has not delivered
abbrev pub undelivered : List ℕ → List ℕ → List ℕ
undelivered [] ds = []
undelivered (x ∷ xs) [] = []
undelivered (x ∷ xs) (d ∷ ds) = (x - d) ∷ undelivered xs ds

-- shortfalls of deliverers by ascending account
abbrev pub shortfalls : List ℕ → List ℕ → List AccountLots
shortfalls obligations delivered = by_account 0 (undelivered obligations delivered)

-- lots that one account fails to deliver to another
pub record Fail : Type 0 where
  pub from : ℕ
  pub to : ℕ
  pub lots : ℕ

abbrev pub fail_of : ℕ → AccountLots → Fail
fail_of a v = record { from = a; to = v.account; lots = v.lots }

-- shortfalls laid in turn against what is lacking: each overlap is one fail
abbrev pub overlaps : List AccountLots → List AccountLots → List Fail
overlaps [] vs = []
overlaps (s ∷ ss) vs = map (fail_of s.account) (take_lots s.lots vs) ++ overlaps ss (drop_lots s.lots vs)

-- an issue's fails, from its units, what each account owes, and what each delivered
unfoldable pub fails : ℕ → List AccountLots → List ℕ → List ℕ → List Fail
fails size us obligations delivered = overlaps (shortfalls obligations delivered) (lacks size us (sum delivered))
