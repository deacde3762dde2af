-- Why a call is refused, and the number that the paper gives each question.
use Rattle.std.specs.Prelude.{ℕ, Result, Ok, Err}
use Rattle.rules.specs.declared.Refusal.{Refusal}
use Rattle.rules.specs.declared.Refusal.TheVariants as refusal

abbrev pub number_of : Refusal → ℕ
number_of refusal.Output = 1
number_of refusal.Unsound = 2
number_of refusal.Phase = 3
number_of refusal.Issue = 4
number_of refusal.Account = 5
number_of refusal.SameAccount = 6
number_of refusal.Lots = 7
number_of refusal.Net = 8
number_of refusal.Owed = 9
number_of refusal.Entries = 10
number_of refusal.Terms = 11
number_of refusal.Day = 12
number_of refusal.Cut = 13
number_of refusal.Word = 14
number_of refusal.Field = 15
number_of refusal.Unit = 16
number_of refusal.Ticket = 17
number_of refusal.Lifts = 18
number_of refusal.OddLots = 19
number_of refusal.Used = 20
number_of refusal.Draw = 21
number_of refusal.Reports = 22
number_of refusal.Eligible = 23
number_of refusal.Amounts = 24
number_of refusal.Funds = 25
number_of refusal.Turn = 26
number_of refusal.Right = 27

-- an answer of the code with the paper's number in place of the refusal
abbrev pub numbered : {A : Type 0} → Result A Refusal → Result A ℕ
numbered (Ok a) = Ok a
numbered (Err r) = Err (number_of r)

-- the number in an answer of the code, 0 where it is done
abbrev pub number_in : {A : Type 0} → Result A Refusal → ℕ
number_in (Ok a) = 0
number_in (Err r) = number_of r
