-- An instruction of two words, found at the front of some.
use Rattle.std.specs.Prelude.{◌≡◌, List, ℕ, ◌%◌, ◌≤◌, length, get_or, Option, IfSome, Ok}
use Rattle.rules.specs.declared.Instruction.TheVariants as instruction
use Rattle.rules.specs.Tape.{kind_of, read_of}
use Rattle.tape.specs.declared.Delivery.{Delivery}
use Rattle.tape.specs.declared.Trade.{Trade}

-- the head and the lots of two words that are found: of this kind, with no bit set that is unused
pub record TwoWords (ws : List ℕ) (k unused w x : ℕ) : Type 0 where
  pub two : 2 ≤ length ws
  pub head : w ≡ get_or ws 0 0
  pub lots : x ≡ get_or ws 1 0
  pub kind : kind_of w ≡ k
  pub clear : w % unused ≡ 0
  pub after : kind_of x ≡ 8

abbrev pub HeadAndLots : List ℕ → ℕ → ℕ → Option (ℕ × ℕ) → Type 0
HeadAndLots ws kind unused r = IfSome r (λ p. TwoWords ws kind unused p.0 p.1)

-- a trade or a delivery that is found is the instruction that the words begin with, and has two of them
abbrev pub FoundTrade : List ℕ → Option Trade → Type 0
FoundTrade ws r = IfSome r (λ t. read_of ws ≡ Ok (instruction.Trade t.issue t.from t.to t.lots, 2))

abbrev pub FoundDelivery : List ℕ → Option Delivery → Type 0
FoundDelivery ws r = IfSome r (λ d. read_of ws ≡ Ok (instruction.Deliver d.issue d.account d.lots, 2))
