-- The trade reports of an issue: their columns, what is set off, which of them take part.
use Rattle.std.specs.Prelude.{Bool, cond, ◌&&◌, List, ℕ, ltb, eqb, length, get_or, ℤ, pos}
use Rattle.rules.specs.Measures.{total, due_of, owed_of}
use Rattle.rules.specs.Book.{tabulate}

-- at most 256 reports; sub-accounts 0 to 31
abbrev pub most_reports : ℕ
most_reports = 256

abbrev pub last_sub : ℕ
last_sub = 31

-- one issue's trade reports of the day, each with a place in every column: sub-account, counterparty, signed lots (above 0
-- a receipt, below 0 a delivery), earlier fail (0: none) or not
pub record Reports : Type 0 where
  pub subs : List ℕ
  pub parties : List ℕ
  pub lots : List ℤ
  pub earlier : List ℕ

abbrev pub reports : List ℕ → List ℕ → List ℤ → List ℕ → Reports
reports subs parties lots earlier = record { subs = subs; parties = parties; lots = lots; earlier = earlier }

-- how many there are; question 21 asks whether every column has so many places
abbrev pub number_of : Reports → ℕ
number_of rs = length rs.subs

-- the numbers of so many reports, from 0
unfoldable pub numbers : ℕ → List ℕ
numbers n = tabulate (λ k. k) 0 n

abbrev pub sub_at : Reports → ℕ → ℕ
sub_at rs k = get_or rs.subs k 0

abbrev pub party_at : Reports → ℕ → ℕ
party_at rs k = get_or rs.parties k 0

-- the lots that report k receives, and those that it delivers
abbrev pub received_by : Reports → ℕ → ℕ
received_by rs k = due_of (get_or rs.lots k (pos 0))

abbrev pub delivered_by : Reports → ℕ → ℕ
delivered_by rs k = owed_of (get_or rs.lots k (pos 0))

-- drop those with an earlier fail
abbrev pub kept : Reports → ℕ → Bool
kept rs k = eqb (get_or rs.earlier k 0) 0

-- and set off receipts against deliveries for each sub-account
abbrev pub is_of : Reports → ℕ → ℕ → Bool
is_of rs s k = kept rs k && eqb (sub_at rs k) s

abbrev pub receipt_of : Reports → ℕ → ℕ → ℕ
receipt_of rs s k = cond (is_of rs s k) (received_by rs k) 0

abbrev pub delivery_of : Reports → ℕ → ℕ → ℕ
delivery_of rs s k = cond (is_of rs s k) (delivered_by rs k) 0

unfoldable pub receipts : Reports → ℕ → ℕ
receipts rs s = total (receipt_of rs s) (numbers (number_of rs))

unfoldable pub deliveries : Reports → ℕ → ℕ
deliveries rs s = total (delivery_of rs s) (numbers (number_of rs))

abbrev pub net_receiver : Reports → ℕ → Bool
net_receiver rs s = ltb (deliveries rs s) (receipts rs s)

-- only reports with lots above 0, of sub-accounts that are net receivers, take part
unfoldable pub eligible : Reports → ℕ → Bool
eligible rs k = kept rs k && ltb 0 (received_by rs k) && net_receiver rs (sub_at rs k)

-- the lots that a report can take: its own size where it takes part, 0 where not
unfoldable pub size_of : Reports → ℕ → ℕ
size_of rs k = cond (eligible rs k) (received_by rs k) 0

-- the eligible lots
unfoldable pub eligible_lots : Reports → ℕ
eligible_lots rs = total (size_of rs) (numbers (number_of rs))

-- a report faces the failing account where that is its counterparty
abbrev pub faces : Reports → ℕ → ℕ → Bool
faces rs failing k = eqb (party_at rs k) failing
