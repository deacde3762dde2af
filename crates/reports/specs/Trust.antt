-- The shares of a fail inside a trust account: the questions, the two groups, the answer.
use Rattle.std.specs.Prelude.{Bool, cond, not, ◌&&◌, List, [], ◌∷◌, ◌++◌, ℕ, zero, suc, leb, ltb, eqb, length, replicate, ℤ}
use Rattle.rules.specs.Measures.{last_account, most_lots, total}
use Rattle.rules.specs.Book.{all, within_size}
use Rattle.rules.specs.Records.{over}
use Rattle.rules.specs.Questions.{Question, ask, first_no, ask_output, ask_account, ask_lots}
use Rattle.reports.specs.Reports.{most_reports, last_sub, Reports, number_of, numbers, eligible, size_of, eligible_lots, faces}
use Rattle.reports.specs.Allotting.{those, Allotment, allotment, allot}

-- 5. Is each counterparty at most 63?
abbrev pub ask_parties : List ℕ → Question
ask_parties parties = ask 5 (all (λ a. leb a last_account) parties)

-- 7. Are each report's lots within ±20,000,000?
abbrev pub ask_report_lots : List ℤ → Question
ask_report_lots lots = ask 7 (all (within_size most_lots) lots)

-- every column has a place for each report
abbrev pub columns_right : Reports → Bool
columns_right rs =
    eqb (length rs.parties) (number_of rs) && eqb (length rs.lots) (number_of rs) && eqb (length rs.earlier) (number_of rs)

-- 1 for the number k, 0 for any other; and how often k is in a list
abbrev pub same : ℕ → ℕ → ℕ
same k j = cond (eqb j k) 1 0

unfoldable pub times : ℕ → List ℕ → ℕ
times k ks = total (same k) ks

abbrev pub once_in : List ℕ → ℕ → Bool
once_in ks k = eqb (times k ks) 1

-- 21. Is the list each report number just once?
unfoldable pub draw_right : ℕ → List ℕ → Bool
draw_right n draw = all (λ k. ltb k n) draw && all (once_in draw) (numbers n)

-- where columns differ in length there is no such number of reports
abbrev pub drawn_right : Reports → List ℕ → Bool
drawn_right rs draw = columns_right rs && draw_right (number_of rs) draw

abbrev pub ask_draw : Reports → List ℕ → Question
ask_draw rs draw = ask 21 (drawn_right rs draw)

-- 22. Are there at most 256 reports, and is each sub-account number at most 31?
abbrev pub few_right : List ℕ → Bool
few_right subs = leb (length subs) most_reports && all (λ s. leb s last_sub) subs

abbrev pub ask_reports : Reports → Question
ask_reports rs = ask 22 (few_right rs.subs)

-- 23. Is the fail at most the eligible lots?
abbrev pub ask_eligible : Reports → ℕ → Question
ask_eligible rs fail = ask 23 (leb fail (eligible_lots rs))

-- the output has at least 256 places; the failing account and counterparties come under question 5, the fail and each
-- report's lots under 7; then 21 and 22
abbrev pub report_asks : Reports → List ℕ → ℕ → ℕ → List ℕ → List Question
report_asks rs draw fail failing out =
    ask_output most_reports out ∷ ask_account failing ∷ ask_parties rs.parties ∷ ask_lots fail ∷ ask_report_lots rs.lots
    ∷ ask_draw rs draw ∷ ask_reports rs ∷ []

-- and 23
abbrev pub trust_asks : Reports → List ℕ → ℕ → ℕ → List ℕ → List Question
trust_asks rs draw fail failing out = report_asks rs draw fail failing out ++ (ask_eligible rs fail ∷ [])

-- the eligible reports facing the failing account, and the others, in the drawn order
unfoldable pub facing : Reports → ℕ → List ℕ → List ℕ
facing rs failing draw = those (λ k. eligible rs k && faces rs failing k) draw

unfoldable pub others : Reports → ℕ → List ℕ → List ℕ
others rs failing draw = those (λ k. eligible rs k && not (faces rs failing k)) draw

-- 0 where it takes none
abbrev pub no_shares : Reports → ℕ → Allotment
no_shares rs fail = allotment fail (replicate (number_of rs) 0)

-- first reports facing the failing account, then the others
unfoldable pub shares_of : Reports → List ℕ → ℕ → ℕ → List ℕ
shares_of rs draw fail failing =
    (allot (size_of rs) (others rs failing draw) (allot (size_of rs) (facing rs failing draw) (no_shares rs fail))).shares

-- what is answered: the refusal's number and the whole output
pub record TrustAnswer : Type 0 where
  pub refusal : ℕ
  pub out : List ℕ

abbrev pub answered : ℕ → List ℕ → TrustAnswer
answered refusal out = record { refusal = refusal; out = out }

-- places beyond the reports keep their content; a refusal changes nothing
abbrev pub trust_answer : ℕ → List ℕ → List ℕ → TrustAnswer
trust_answer zero shares out = answered 0 (over shares out)
trust_answer (suc r) shares out = answered (suc r) out

unfoldable pub trust : Reports → List ℕ → ℕ → ℕ → List ℕ → TrustAnswer
trust rs draw fail failing out =
    trust_answer (first_no (trust_asks rs draw fail failing out)) (shares_of rs draw fail failing) out
