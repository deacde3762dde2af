-- Records and words: 32-bit words, each field's place said once.
use Rattle.std.specs.Prelude.{List, [], ◌∷◌, ◌++◌, ℕ, zero, suc, ◌+◌, ◌*◌, ◌/◌, ◌%◌, ◌^◌, length, drop}
use Rattle.rules.specs.declared.Entry.{Entry}
use Rattle.rules.specs.Units.{AccountLots}

-- bits of a word: `width` of them, above the lowest `shift`
pub record Field : Type 0 where
  pub shift : ℕ
  pub width : ℕ

abbrev pub bits : ℕ → ℕ → Field
bits s w = record { shift = s; width = w }

-- bits 31..28 are the kind
abbrev pub kind_bits : Field
kind_bits = bits 28 4

-- heads carry issue in 27..24, from (or the only account) in 23..18, to in 17..12
abbrev pub issue_bits : Field
issue_bits = bits 24 4

abbrev pub from_bits : Field
from_bits = bits 18 6

abbrev pub to_bits : Field
to_bits = bits 12 6

-- a kind 8 word has lots in 27..0
abbrev pub lots_bits : Field
lots_bits = bits 0 28

-- a roll's head has days in 27..24, rate in 23..10
abbrev pub days_bits : Field
days_bits = bits 24 4

abbrev pub rate_bits : Field
rate_bits = bits 10 14

-- a mark's head has the mark in bit 0
abbrev pub mark_bits : Field
mark_bits = bits 0 1

abbrev pub day_bits : Field
day_bits = bits 0 16

-- a kind 9 word has a price or an accrued amount in 17..0
abbrev pub quote_bits : Field
quote_bits = bits 0 18

-- a number put into a field, and what a field of a word holds
abbrev pub in_field : Field → ℕ → ℕ
in_field f x = x * 2 ^ f.shift

abbrev pub of_field : Field → ℕ → ℕ
of_field f w = w / 2 ^ f.shift % 2 ^ f.width

-- unused bits are 0
abbrev pub head_word : ℕ → ℕ → ℕ → ℕ → ℕ
head_word kind i f t = in_field kind_bits kind + in_field issue_bits i + in_field from_bits f + in_field to_bits t

abbrev pub lots_word : ℕ → ℕ
lots_word x = in_field kind_bits 8 + in_field lots_bits x

-- a record of the lent output: its head, followed by a kind 8 word
pub record Rec : Type 0 where
  pub kind : ℕ
  pub issue : ℕ
  pub from : ℕ
  pub to : ℕ
  pub lots : ℕ

-- 10 handover from the house (to; from is unused)
abbrev pub handover : ℕ → AccountLots → Rec
handover i u = record { kind = 10; issue = i; from = 0; to = u.account; lots = u.lots }

-- 11 handover in a resolve (from, to), 12 fail (from, to)
abbrev pub record_of : ℕ → Entry → Rec
record_of kind e = record { kind = kind; issue = e.issue; from = e.from; to = e.to; lots = e.lots }

-- the words of records
abbrev pub words : List Rec → List ℕ
words [] = []
words (r ∷ rs) = head_word r.kind r.issue r.from r.to ∷ lots_word r.lots ∷ words rs

-- words after the last record keep their content
abbrev pub over : List ℕ → List ℕ → List ℕ
over ws out = ws ++ drop (length ws) out

-- the first n records of an output, from its words alone
abbrev pub record_in : ℕ → ℕ → Rec
record_in h x =
    record {
      kind = of_field kind_bits h;
      issue = of_field issue_bits h;
      from = of_field from_bits h;
      to = of_field to_bits h;
      lots = of_field lots_bits x;
    }

abbrev pub records_in : ℕ → List ℕ → List Rec
records_in zero ws = []
records_in (suc n) [] = []
records_in (suc n) (h ∷ []) = []
records_in (suc n) (h ∷ x ∷ ws) = record_in h x ∷ records_in n ws
