-- The questions, and what is answered.
use Rattle.std.specs.Prelude.{◌&&◌, List, [], ◌∷◌, ◌++◌, ℕ, zero, suc, leb, eqb, length, drop, replicate, ℤ}
use Rattle.rules.specs.Questions.{Question, ask, first_no}
use Rattle.rules.specs.Calls.{joined}
use Rattle.markets.specs.Markets.{most_accounts, most_net, markets}
use Rattle.markets.specs.Counts.{count_places, counts_of}

-- 1. Has the lent output at least 19,755 places?
abbrev pub most_places : ℕ
most_places = 19755

abbrev pub ask_places : List ℤ → Question
ask_places out = ask 1 (leb most_places (length out))

-- 7. Are n and m at most 5 and 4, and has the list of delivered lots n of them?
abbrev pub ask_small : ℕ → ℕ → Question
ask_small n m = ask 7 (leb n most_accounts && leb m most_net)

abbrev pub ask_delivered : ℕ → List ℕ → Question
ask_delivered n delivered = ask 7 (eqb (length delivered) n)

-- the number of markets, and the markets one after the other; places after the last keep their content
pub record ListAnswer : Type 0 where
  pub refusal : ℕ
  pub count : ℕ
  pub out : List ℤ

abbrev pub listed : ℕ → ℕ → List ℤ → ListAnswer
listed refusal count out = record { refusal = refusal; count = count; out = out }

abbrev pub placed : List ℤ → List ℤ → List ℤ
placed ns out = ns ++ drop (length ns) out

abbrev pub list_answer : ℕ → List (List ℤ) → List ℤ → ListAnswer
list_answer zero vs out = listed 0 (length vs) (placed (joined vs) out)
list_answer (suc r) vs out = listed (suc r) 0 out

unfoldable pub all_markets : ℕ → ℕ → List ℤ → ListAnswer
all_markets n m out = list_answer (first_no (ask_places out ∷ ask_small n m ∷ [])) (markets n m) out

-- the five counts, 0 on a refusal
pub record CountsAnswer : Type 0 where
  pub refusal : ℕ
  pub counts : List ℕ

abbrev pub counted : ℕ → List ℕ → CountsAnswer
counted refusal counts = record { refusal = refusal; counts = counts }

abbrev pub no_counts : List ℕ
no_counts = replicate count_places 0

abbrev pub counts_answer : ℕ → List ℕ → CountsAnswer
counts_answer zero cs = counted 0 cs
counts_answer (suc r) cs = counted (suc r) no_counts

unfoldable pub market_fails : ℕ → ℕ → List ℕ → CountsAnswer
market_fails n m delivered = counts_answer (first_no (ask_small n m ∷ ask_delivered n delivered ∷ [])) (counts_of n m delivered)
