-- What is written is read back: each field of a head lies apart from the others.
use mathlib.Core.Path.{◌≡◌, refl}
use mathlib.Core.List.{List, [], ◌∷◌, ◌++◌}
use Prim.Native.Nat.{ℕ, ◌<◌, ◌^◌}
use native.Mathlib.Omega.{arith}
use lib.ListN.{length}
use Rattle.rules.specs.Records.{kind_bits, issue_bits, from_bits, to_bits, lots_bits, of_field, head_word, lots_word, Rec, words, record_in, records_in}
use Rattle.words.specs.Fits.{HeadFits}

module _ (k i f t : ℕ) (h : HeadFits k i f t) where
  pub kind_read : of_field kind_bits (head_word k i f t) ≡ k
  kind_read = omega arith

  pub issue_read : of_field issue_bits (head_word k i f t) ≡ i
  issue_read = omega arith

  pub from_read : of_field from_bits (head_word k i f t) ≡ f
  from_read = omega arith

  pub to_read : of_field to_bits (head_word k i f t) ≡ t
  to_read = omega arith

pub lots_read : (x : ℕ) → x < 2 ^ 28 → of_field lots_bits (lots_word x) ≡ x
lots_read x h = omega arith

pub lots_kind : (x : ℕ) → x < 2 ^ 28 → of_field kind_bits (lots_word x) ≡ 8
lots_kind x h = omega arith

-- a record whose fields fit
pub record Fitting (r : Rec) : Type 0 where
  pub head : HeadFits r.kind r.issue r.from r.to
  pub fits : r.lots < 2 ^ 28

-- the two words of a record give the record
pub record_read : (r : Rec) → Fitting r →
    record_in (head_word r.kind r.issue r.from r.to) (lots_word r.lots) ≡ r
record_read r g =
    rw (
      kind_read r.kind r.issue r.from r.to g.head,
      issue_read r.kind r.issue r.from r.to g.head,
      from_read r.kind r.issue r.from r.to g.head,
      to_read r.kind r.issue r.from r.to g.head,
      lots_read r.lots g.fits,
    )

abbrev pub AllFitting : List Rec → Type 0
AllFitting [] = Unit {0}
AllFitting (r ∷ rs) = Fitting r × AllFitting rs

-- the words of records, whatever stands after them, give the records
pub records_read : (rs : List Rec) (ws : List ℕ) → AllFitting rs → records_in (length rs) (words rs ++ ws) ≡ rs
records_read [] ws g = refl
records_read (r ∷ rs) ws g = rw (record_read r g.0, records_read rs ws g.1)
