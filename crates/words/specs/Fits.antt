-- The fields of words by name; what fits those of a head, and of a record in the lent output.
use Rattle.std.specs.Prelude.{ℕ, ◌≤◌, ◌<◌, ◌^◌, List, length}
use Rattle.rules.specs.Records.{Field as Bits, kind_bits, issue_bits, from_bits, to_bits, lots_bits, days_bits, rate_bits, quote_bits, mark_bits, day_bits}
use Rattle.words.specs.declared.Field.{Field}
use Rattle.words.specs.declared.Field.TheVariants as field

-- the bits of each field, as the rules have them
abbrev pub bits_of : Field → Bits
bits_of field.Kind = kind_bits
bits_of field.Issue = issue_bits
bits_of field.From = from_bits
bits_of field.To = to_bits
bits_of field.Lots = lots_bits
bits_of field.Days = days_bits
bits_of field.Rate = rate_bits
bits_of field.Quote = quote_bits
bits_of field.Mark = mark_bits
bits_of field.Day = day_bits

-- above how many bits it lies, and how many it has
abbrev pub place_of : Field → ℕ × ℕ
place_of f = ((bits_of f).shift, (bits_of f).width)

pub record HeadFits (kind i f t : ℕ) : Type 0 where
  pub kinds : kind < 2 ^ 4
  pub issues : i < 2 ^ 4
  pub froms : f < 2 ^ 6
  pub tos : t < 2 ^ 6

-- the fields fit, and there is room for a record in this part of the output
pub record PartFits (part : List ℕ) (kind i f t x : ℕ) : Type 0 where
  pub room : 2 ≤ length part
  pub head : HeadFits kind i f t
  pub lots : x < 2 ^ 28
