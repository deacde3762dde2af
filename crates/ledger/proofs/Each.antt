-- What holds of one column, whichever it is, holds of all five.
use mathlib.Core.Path.{◌≡◌}
use mathlib.Core.List.{List}
use lib.ListN.{set}
use Prim.Native.Nat.{ℕ}
use Rattle.rules.specs.declared.Entry.{Entry}
use Rattle.rules.specs.Ledger.{entry}
use Rattle.ledger.specs.Columns.{EachColumn, EachPair, Stored}

module _ {P : (Entry → ℕ) → List ℕ → Type 0} {is fs ts xs ds : List ℕ} where
  pub each_column : {Q : (Entry → ℕ) → List ℕ → Type 0} → ((g : Entry → ℕ) (c : List ℕ) → P g c → Q g c) →
      EachColumn P is fs ts xs ds → EachColumn Q is fs ts xs ds
  each_column f e =
      record {
        issues = f _ is e.issues;
        froms = f _ fs e.froms;
        tos = f _ ts e.tos;
        lotss = f _ xs e.lotss;
        dayss = f _ ds e.dayss;
      }

-- of a column before, and of the pair, something of the column after
module _ {P : (Entry → ℕ) → List ℕ → Type 0} {R : (Entry → ℕ) → List ℕ → List ℕ → Type 0} {i₀ f₀ t₀ x₀ d₀ i f t x d : List ℕ} where
  pub each_pair : {Q : (Entry → ℕ) → List ℕ → Type 0} → ((g : Entry → ℕ) (c₀ c : List ℕ) → P g c₀ → R g c₀ c → Q g c) →
      EachColumn P i₀ f₀ t₀ x₀ d₀ → EachPair R i₀ f₀ t₀ x₀ d₀ i f t x d → EachColumn Q i f t x d
  each_pair h e s =
      record {
        issues = h _ i₀ i e.issues s.issues;
        froms = h _ f₀ f e.froms s.froms;
        tos = h _ t₀ t e.tos s.tos;
        lotss = h _ x₀ x e.lotss s.lotss;
        dayss = h _ d₀ d e.dayss s.dayss;
      }

-- of a column as it stands, something of it beside itself
module _ {P : (Entry → ℕ) → List ℕ → Type 0} {i f t x d : List ℕ} where
  pub each_stay : {Q : (Entry → ℕ) → List ℕ → List ℕ → Type 0} → ((g : Entry → ℕ) (c : List ℕ) → P g c → Q g c c) →
      EachColumn P i f t x d → EachPair Q i f t x d i f t x d
  each_stay h e =
      record {
        issues = h _ i e.issues;
        froms = h _ f e.froms;
        tos = h _ t e.tos;
        lotss = h _ x e.lotss;
        dayss = h _ d e.dayss;
      }

-- of two pairs one behind the other
module _
    {P R : (Entry → ℕ) → List ℕ → List ℕ → Type 0}
    {i₀ f₀ t₀ x₀ d₀ i₁ f₁ t₁ x₁ d₁ i f t x d : List ℕ} where
  pub each_then : {Q : (Entry → ℕ) → List ℕ → List ℕ → Type 0} →
      ((g : Entry → ℕ) (c₀ c₁ c : List ℕ) → P g c₀ c₁ → R g c₁ c → Q g c₀ c) →
      EachPair P i₀ f₀ t₀ x₀ d₀ i₁ f₁ t₁ x₁ d₁ → EachPair R i₁ f₁ t₁ x₁ d₁ i f t x d → EachPair Q i₀ f₀ t₀ x₀ d₀ i f t x d
  each_then h p r =
      record {
        issues = h _ i₀ i₁ i p.issues r.issues;
        froms = h _ f₀ f₁ f p.froms r.froms;
        tos = h _ t₀ t₁ t p.tos r.tos;
        lotss = h _ x₀ x₁ x p.lotss r.lotss;
        dayss = h _ d₀ d₁ d p.dayss r.dayss;
      }

-- an entry of zeros stored: 0 in each column
abbrev pub Zeroed : ℕ → List ℕ → List ℕ → List ℕ → List ℕ → List ℕ → List ℕ → List ℕ → List ℕ → List ℕ → List ℕ → Type 0
Zeroed at i₀ f₀ t₀ x₀ d₀ i f t x d = EachPair (λ g c₀ c. c ≡ set c₀ at 0) i₀ f₀ t₀ x₀ d₀ i f t x d

pub zeroed : (at : ℕ) (i₀ f₀ t₀ x₀ d₀ i f t x d : List ℕ) → Stored at (entry 0 0 0 0 0) i₀ f₀ t₀ x₀ d₀ i f t x d →
    Zeroed at i₀ f₀ t₀ x₀ d₀ i f t x d
zeroed at i₀ f₀ t₀ x₀ d₀ i f t x d s =
    record { issues = s.issues; froms = s.froms; tos = s.tos; lotss = s.lotss; dayss = s.dayss }

-- two things of each column
pub both : {P Q : (Entry → ℕ) → List ℕ → Type 0} {i f t x d : List ℕ} → EachColumn P i f t x d → EachColumn Q i f t x d →
    EachColumn (λ g c. P g c × Q g c) i f t x d
both p q =
    record {
      issues = (p.issues, q.issues);
      froms = (p.froms, q.froms);
      tos = (p.tos, q.tos);
      lotss = (p.lotss, q.lotss);
      dayss = (p.dayss, q.dayss);
    }

module _ {P : (Entry → ℕ) → List ℕ → List ℕ → Type 0} {i₀ f₀ t₀ x₀ d₀ i f t x d : List ℕ} where
  pub each_map : {Q : (Entry → ℕ) → List ℕ → List ℕ → Type 0} → ((g : Entry → ℕ) (c₀ c : List ℕ) → P g c₀ c → Q g c₀ c) →
      EachPair P i₀ f₀ t₀ x₀ d₀ i f t x d → EachPair Q i₀ f₀ t₀ x₀ d₀ i f t x d
  each_map h p =
      record {
        issues = h _ i₀ i p.issues;
        froms = h _ f₀ f p.froms;
        tos = h _ t₀ t p.tos;
        lotss = h _ x₀ x p.lotss;
        dayss = h _ d₀ d p.dayss;
      }

  -- of the columns after alone
  pub each_after : {Q : (Entry → ℕ) → List ℕ → Type 0} → ((g : Entry → ℕ) (c₀ c : List ℕ) → P g c₀ c → Q g c) →
      EachPair P i₀ f₀ t₀ x₀ d₀ i f t x d → EachColumn Q i f t x d
  each_after h p =
      record {
        issues = h _ i₀ i p.issues;
        froms = h _ f₀ f p.froms;
        tos = h _ t₀ t p.tos;
        lotss = h _ x₀ x p.lotss;
        dayss = h _ d₀ d p.dayss;
      }
