-- The ledger as a list of fail entries: meeting, pairing off, charging.
use Rattle.std.specs.Prelude.{Bool, cond, ◌&&◌, List, [], ◌∷◌, ◌++◌, ℕ, zero, suc, ◌+◌, ◌-◌, min, eqb, ltb, get_or, set, ℤ, pos, ◌+ℤ◌, ◌-ℤ◌}
use Rattle.rules.specs.declared.Entry.{Entry}
use Rattle.rules.specs.Measures.{total, price_in, accrued_in, charge_of}

abbrev pub entry : ℕ → ℕ → ℕ → ℕ → ℕ → Entry
entry i f t x d = record { issue = i; from = f; to = t; lots = x; day = d }

-- an entry with other lots in front of a ledger; an entry at 0 is removed
abbrev pub put_entry : Entry → ℕ → List Entry → List Entry
put_entry e zero es = es
put_entry e (suc n) es = entry e.issue e.from e.to (suc n) e.day ∷ es

-- entries of that issue from that account, and to it
abbrev pub is_from : ℕ → ℕ → Entry → Bool
is_from i a e = eqb e.issue i && eqb e.from a

abbrev pub is_to : ℕ → ℕ → Entry → Bool
is_to i a e = eqb e.issue i && eqb e.to a

-- lots of the entries that pass a test, and how many pass
abbrev pub lots_of : (Entry → Bool) → List Entry → ℕ
lots_of p es = total (λ e. cond (p e) e.lots 0) es

abbrev pub count_of : (Entry → Bool) → List Entry → ℕ
count_of p es = total (λ e. cond (p e) 1 0) es

-- what of x lots meets entry e
abbrev pub met_by : (Entry → Bool) → ℕ → Entry → ℕ
met_by p x e = cond (p e) (min x e.lots) 0

-- resolve: entries that pass are met by x lots in ledger order; what is left of the ledger
abbrev pub meet : (Entry → Bool) → ℕ → List Entry → List Entry
meet p x [] = []
meet p x (e ∷ es) = put_entry e (e.lots - met_by p x e) (meet p (x - met_by p x e) es)

-- and what was met, entry by entry
abbrev pub met : (Entry → Bool) → ℕ → List Entry → List Entry
met p x [] = []
met p x (e ∷ es) = put_entry e (met_by p x e) (met p (x - met_by p x e) es)

-- a number of the first entry that passes, 0 where none does
abbrev pub first_of : (Entry → ℕ) → (Entry → Bool) → List Entry → ℕ
first_of g p [] = 0
first_of g p (e ∷ es) = cond (p e) (g e) (first_of g p es)

-- the first entry that passes falls by m; at 0 it goes
abbrev pub lower : (Entry → Bool) → ℕ → List Entry → List Entry
lower p m [] = []
lower p m (e ∷ es) = cond (p e) (put_entry e (e.lots - m) es) (e ∷ lower p m es)

-- pair-off takes the first entry to the account and the first from it: the smaller lots
abbrev pub smaller_lots : ℕ → ℕ → List Entry → ℕ
smaller_lots i a es = min (first_of (λ e. e.lots) (is_to i a) es) (first_of (λ e. e.lots) (is_from i a) es)

-- if P and Q differ an entry P to Q of m, today
abbrev pub appended : ℕ → ℕ → ℕ → ℕ → ℕ → List Entry
appended today i p q m = cond (eqb p q) [] (entry i p q m today ∷ [])

-- one step: both fall by the smaller lots m, entries at 0 go, the entry P to Q is appended
abbrev pub stepped : ℕ → ℕ → ℕ → List Entry → List Entry
stepped today i a es =
    let m = smaller_lots i a es in
    lower (is_to i a) m (lower (is_from i a) m es)
    ++ appended today i (first_of (λ e. e.from) (is_to i a) es) (first_of (λ e. e.to) (is_from i a) es) m

-- the steps made, the lots cancelled and the ledger left
pub record Pairing : Type 0 where
  pub steps : ℕ
  pub cancelled : ℕ
  pub ledger : List Entry

abbrev pub no_steps : List Entry → Pairing
no_steps es = record { steps = 0; cancelled = 0; ledger = es }

-- one step that cancels m lots, and those behind it
abbrev pub after_step : ℕ → Pairing → Pairing
after_step m r = record { steps = 1 + r.steps; cancelled = m + r.cancelled; ledger = r.ledger }

-- a entries in and b out, both above 0
abbrev pub both_above0 : ℕ → ℕ → Bool
both_above0 a b = ltb 0 a && ltb 0 b

-- has the account an entry to it and one from it in that issue?
abbrev pub has_both : ℕ → ℕ → List Entry → Bool
has_both i a es = both_above0 (count_of (is_to i a) es) (count_of (is_from i a) es)

-- while it has, a step; n steps are allowed
abbrev pub paired : ℕ → ℕ → ℕ → ℕ → List Entry → Pairing
paired zero today i a es = no_steps es
paired (suc n) today i a es =
    cond (has_both i a es)
    (after_step (smaller_lots i a es) (paired n today i a (stepped today i a es)))
    (no_steps es)

-- all steps: as many as there are entries in and out are enough
unfoldable pub pairing : ℕ → ℕ → ℕ → List Entry → Pairing
pairing today i a es = paired (count_of (is_to i a) es + count_of (is_from i a) es) today i a es

-- with a entries in and b out, both above 0, the steps are at most a + b − 1, otherwise 0
abbrev pub most_steps : ℕ → ℕ → ℕ
most_steps a b = cond (both_above0 a b) (a + b - 1) 0

-- roll: for each entry its charge is taken from 'from' and given to 'to'
abbrev pub charged : ℕ → ℕ → List ℕ → List Entry → List ℤ → List ℤ
charged days rate quotes [] cs = cs
charged days rate quotes (e ∷ es) cs =
    let y = charge_of e.lots (price_in quotes e.issue) days rate (accrued_in quotes e.issue) in
    let taken = set cs e.from (get_or cs e.from (pos 0) -ℤ pos y) in
    charged days rate quotes es (set taken e.to (get_or taken e.to (pos 0) +ℤ pos y))
