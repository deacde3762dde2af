-- Spans side by side but for a unit between them that was lifted away: fed as one, and the unit taken off again.
use Rattle.std.specs.Prelude.{◌≡◌, cond, false, List, [], ◌∷◌, ◌++◌, ℕ, suc, ◌+◌, ◌-◌, ◌≤◌, ◌<◌, length, take, drop, get_or, Option, Some, None}
use Rattle.rules.specs.Measures.{Every, unit_lots, most_lots, total}
use Rattle.rules.specs.Units.{AccountLots, account_lots, of_account}
use Rattle.rules.specs.Fails.{is_full_of, stretches}
use Rattle.runs.specs.Runs.{runs_in}
use Rattle.inturn.specs.InTurn.{dealt_runs}
use Rattle.stretching.specs.declared.Pending.{Pending}
use Rattle.stretching.specs.declared.Passed.{Passed}
use Rattle.stretching.specs.Adding.{StretchesOf, Indexed}
use Rattle.stretching.specs.Spans.{Parted, span_in}

-- some part is full of account a
abbrev pub Has : ℕ → ℕ → List AccountLots → Type 0
Has size a [] = ⊥
Has size a (v ∷ vs) = is_full_of size a v ≡ false → Has size a vs

-- the first that is has a full unit more, or less
abbrev pub more : ℕ → ℕ → List AccountLots → List AccountLots
more size a [] = []
more size a (v ∷ vs) = cond (is_full_of size a v) (account_lots v.account (v.lots + size) ∷ vs) (v ∷ more size a vs)

abbrev pub less : ℕ → ℕ → List AccountLots → List AccountLots
less size a [] = []
less size a (v ∷ vs) = cond (is_full_of size a v) (account_lots v.account (v.lots - size) ∷ vs) (v ∷ less size a vs)

-- a full unit more for each of some accounts
abbrev pub mores : ℕ → List ℕ → List AccountLots → List AccountLots
mores size [] vs = vs
mores size (a ∷ as') vs = mores size as' (more size a vs)

-- a stretch of at least two units, and one of them taken off
pub record CanTake (out : List ℕ) (c : ℕ) (at : List ℕ) (a : ℕ) : Type 0 where
  pub whole : length out ≡ 144
  pub there : c ≤ length out
  pub index : Indexed out c at
  pub account : a < 64
  pub some : 0 < get_or at a 0
  pub twice : (p : ℕ) → get_or at a 0 ≡ suc p → 12800000 ≤ get_or out p 0

pub record Taken (before after : List ℕ) (c : ℕ) (at : List ℕ) (a : ℕ) : Type 0 where
  pub list : runs_in after c ≡ less unit_lots a (runs_in before c)
  pub index : Indexed after c at

-- the same for each of n accounts
pub record CanTakeAll (out : List ℕ) (c : ℕ) (at gaps : List ℕ) (n : ℕ) : Type 0 where
  pub whole : length out ≡ 144
  pub there : c ≤ length out
  pub index : Indexed out c at
  pub held : n ≤ length gaps
  pub rest : List AccountLots
  pub list : runs_in out c ≡ mores unit_lots (take n gaps) rest
  pub own : Every (λ a. (a < 64) × Has unit_lots a rest) (take n gaps)

pub record TakenAll (before after : List ℕ) (c : ℕ) (at gaps : List ℕ) (n : ℕ) : Type 0 where
  pub list : (rest : List AccountLots) → runs_in before c ≡ mores unit_lots (take n gaps) rest →
      Every (λ a. (a < 64) × Has unit_lots a rest) (take n gaps) → runs_in after c ≡ rest
  pub index : Indexed after c at

-- a span that is still to be fed, and the accounts of the units in it that are to be taken off: then the stretches are
-- those of these units
pub record Waiting (runs : List ℕ) (n m : ℕ) (out : List ℕ) (c : ℕ) (at gaps : List ℕ) (p : Pending) (us : List AccountLots) : Type 0 where
  pub whole : length out ≡ 144
  pub index : Indexed out c at
  pub held : length gaps ≡ 8
  pub few : p.gaps ≤ 8
  pub there : p.base + p.len ≤ length (dealt_runs runs n m)
  pub fed : List AccountLots
  pub rest : List AccountLots
  pub parts : us ≡ fed ++ rest
  pub list : StretchesOf out c fed
  pub span : stretches unit_lots (fed ++ span_in runs n m p.base p.len) ≡ mores unit_lots (take p.gaps gaps) (stretches unit_lots us)
  pub own : Every (λ a. (a < 64) × Has unit_lots a (stretches unit_lots fed)) (take p.gaps gaps)

pub record CanFeedPending (runs : List ℕ) (n m : ℕ) (out : List ℕ) (c : ℕ) (at gaps : List ℕ) (p : Pending) : Type 0 where
  pub parted : Parted runs n m
  pub most : length (dealt_runs runs n m) < 4294967296
  pub units : List AccountLots
  pub waits : Waiting runs n m out c at gaps p units
  pub few : length (stretches unit_lots units) ≤ 128
  pub small : (a : ℕ) → total (of_account a) units ≤ most_lots

pub record FedPending (runs : List ℕ) (n m : ℕ) (before after : List ℕ) (c : ℕ) (at₀ at gaps : List ℕ) (p : Pending) (r : ℕ) : Type 0 where
  pub list : (us : List AccountLots) → Waiting runs n m before c at₀ gaps p us → StretchesOf after r us
  pub index : Indexed after r at

-- the account of the one full unit between a span and a place, if there is one, and if the account has a stretch
pub record CanGap (runs : List ℕ) (n m : ℕ) (at : List ℕ) (p : Pending) (base : ℕ) : Type 0 where
  pub parted : Parted runs n m
  pub accounts : length at ≡ 64
  pub fits : p.base + p.len < 4294967296
  pub there : base ≤ length (dealt_runs runs n m)

pub record Gap (runs : List ℕ) (n m : ℕ) (at : List ℕ) (p : Pending) (base a : ℕ) : Type 0 where
  pub next : base ≡ suc (p.base + p.len)
  pub few : p.gaps < 8
  pub seen : 0 < get_or at a 0
  pub unit : drop (p.base + p.len) (dealt_runs runs n m) ≡ account_lots a unit_lots ∷ drop base (dealt_runs runs n m)

abbrev pub GapIs : List ℕ → ℕ → ℕ → List ℕ → Pending → ℕ → Option ℕ → Type 0
GapIs runs n m at p base (Some a) = (a < 64) × Gap runs n m at p base a
GapIs runs n m at p base None = Unit {0}

-- a span more
pub record CanPass (runs : List ℕ) (n m : ℕ) (out : List ℕ) (c : ℕ) (at gaps : List ℕ) (p : Pending) (base len : ℕ) : Type 0 where
  pub ready : CanFeedPending runs n m out c at gaps p
  pub there : base + len ≤ length (dealt_runs runs n m)

abbrev pub HasPassed : List ℕ → ℕ → ℕ → List ℕ → List ℕ → ℕ → List ℕ → List ℕ → List ℕ → List ℕ → Pending → ℕ → ℕ → Passed → Type 0
HasPassed runs n m before after c at₀ at gaps₀ gaps p base len r =
    (us : List AccountLots) → Waiting runs n m before c at₀ gaps₀ p us →
    Waiting runs n m after r.count at gaps r.pending (us ++ span_in runs n m base len)
