-- The shares by participant number, the questions 24 and 25, the answers of the three calls.
use Rattle.std.specs.Prelude.{Bool, cond, ◌&&◌, List, [], ◌∷◌, ℕ, zero, suc, leb, eqb, length, replicate}
use Rattle.rules.specs.Measures.{sum}
use Rattle.rules.specs.Book.{all, tabulate}
use Rattle.rules.specs.Records.{over}
use Rattle.rules.specs.Questions.{Question, ask, first_no}
use Rattle.contributions.specs.Bases.{bases_of}
use Rattle.contributions.specs.Order.{order_of}
use Rattle.contributions.specs.Rounds.{allotted, in_order}

-- at most 64 participants, and the places of a lent output
abbrev pub most_participants : ℕ
most_participants = 64

-- an average, the factor in tenths and the funds are at most 1,000,000
abbrev pub most_amount : ℕ
most_amount = 1000000

-- the share of participant k, among shares in an order of participants
abbrev pub share_in : List ℕ → List ℕ → ℕ → ℕ
share_in [] ss k = 0
share_in (j ∷ js) [] k = 0
share_in (j ∷ js) (s ∷ ss) k = cond (eqb j k) s (share_in js ss k)

-- each share at the place of its participant's number, from 0
unfoldable pub numbered : List ℕ → List ℕ → List ℕ
numbered order ss = tabulate (share_in order ss) 0 (length order)

-- the shares in the order of participants, and by participant number
abbrev pub shares_in_order : List ℕ → List ℕ → ℕ → List ℕ
shares_in_order averages bases funds = allotted (in_order bases (order_of averages)) funds

unfoldable pub shares_of : List ℕ → List ℕ → ℕ → List ℕ
shares_of averages bases funds = numbered (order_of averages) (shares_in_order averages bases funds)

-- 24. Are there at most 64 participants, and are averages, factor and funds at most 1,000,000?
abbrev pub participants_right : List ℕ → Bool
participants_right averages = leb (length averages) most_participants && all (λ a. leb a most_amount) averages

abbrev pub ask_factor : List ℕ → ℕ → Question
ask_factor averages tenths = ask 24 (participants_right averages && leb tenths most_amount)

-- where the columns differ in length there is no such number of participants
abbrev pub ask_given : List ℕ → List ℕ → ℕ → Question
ask_given averages bases funds =
    ask 24 (participants_right averages && eqb (length bases) (length averages) && leb funds most_amount)

abbrev pub ask_whole : List ℕ → ℕ → ℕ → Question
ask_whole averages tenths funds = ask 24 (participants_right averages && leb tenths most_amount && leb funds most_amount)

-- 25. Are the funds at most all bases together?
abbrev pub ask_covered : List ℕ → ℕ → Question
ask_covered bases funds = ask 25 (leb funds (sum bases))

-- what is answered: the refusal's number and the whole lent output
pub record FundsAnswer : Type 0 where
  pub refusal : ℕ
  pub out : List ℕ

abbrev pub answered : ℕ → List ℕ → FundsAnswer
answered refusal out = record { refusal = refusal; out = out }

-- amounts by participant number, 0 at the places beyond the participants; a refusal changes nothing
unfoldable pub cleared : List ℕ
cleared = replicate most_participants 0

abbrev pub funds_answer : ℕ → List ℕ → List ℕ → FundsAnswer
funds_answer zero amounts out = answered 0 (over amounts cleared)
funds_answer (suc r) amounts out = answered (suc r) out

-- the bases; the shares from given bases; the shares from the bases of the averages
unfoldable pub bases : List ℕ → ℕ → List ℕ → FundsAnswer
bases averages tenths out = funds_answer (first_no (ask_factor averages tenths ∷ [])) (bases_of averages tenths) out

unfoldable pub shares : List ℕ → List ℕ → ℕ → List ℕ → FundsAnswer
shares averages given funds out =
    funds_answer (first_no (ask_given averages given funds ∷ ask_covered given funds ∷ [])) (shares_of averages given funds) out

unfoldable pub funds : List ℕ → ℕ → ℕ → List ℕ → FundsAnswer
funds averages tenths amount out =
    funds_answer (first_no (ask_whole averages tenths amount ∷ ask_covered (bases_of averages tenths) amount ∷ []))
    (shares_of averages (bases_of averages tenths) amount) out
