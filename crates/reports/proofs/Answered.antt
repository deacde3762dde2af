-- What the answer's words have. Where the fail is allotted, the first n words of the output, n the number of reports, are the
-- shares: they sum to the fail, none passes its report's lots, those facing the failing account come first; the words from
-- n on are as lent. Where it is refused, all are.
use mathlib.Core.Path.{◌≡◌, refl, sym, ap, ◌∙◌}
use mathlib.Core.Bool.{true, false, cond}
use mathlib.Core.List.{List, ◌++◌}
use Prim.Native.Nat.{ℕ, zero, suc, ◌≤◌, ◌<◌, min}
use native.Mathlib.Omega.{arith}
use lib.Dec.{leb}
use lib.ListN.{length, get_or, take, drop, length-append, length-drop, get_or-append}
use lib.Seq.{take_at, drop_at}
use borrow.Author.Tests.{leb-true}
use Rattle.rules.specs.Measures.{total, sum}
use Rattle.rules.specs.Book.{all}
use Rattle.rules.specs.Records.{over}
use Rattle.rules.specs.Questions.{first_no}
use Rattle.laws.proofs.Basics.{and_left}
use Rattle.laws.proofs.Answers.{all_yes}
use Rattle.reports.specs.Reports.{most_reports, last_sub, Reports, number_of, numbers, received_by, eligible, size_of, faces}
use Rattle.reports.specs.Trust.{trust_asks, shares_of, trust_answer, trust}
use Rattle.reports.proofs.Draws.{total_numbers}
use Rattle.reports.proofs.Shares.{Allots, allots, shares_length, at_most_lots, none_ineligible, shares_sum, facing_first, facing_total}

-- an answer by its number
number_of_lem : (r : ℕ) (shares out : List ℕ) → (trust_answer r shares out).refusal ≡ r
number_of_lem zero shares out = refl
number_of_lem (suc r) shares out = refl

out_done : (r : ℕ) (shares out : List ℕ) → r ≡ 0 → (trust_answer r shares out).out ≡ over shares out
out_done r shares out e = rw e

out_refused : (r : ℕ) (shares out : List ℕ) → (r ≡ 0 → ⊥) → (trust_answer r shares out).out ≡ out
out_refused zero shares out h = absurd (h refl)
out_refused (suc r) shares out h = refl

module _ (rs : Reports) (draw : List ℕ) (fail failing : ℕ) (out : List ℕ) where
  -- a refusal leaves every word as it was lent
  pub refused_as_lent : ((trust rs draw fail failing out).refusal ≡ 0 → ⊥) → (trust rs draw fail failing out).out ≡ out
  unfolding trust
  refused_as_lent h =
      let r = first_no (trust_asks rs draw fail failing out) in
      let s = shares_of rs draw fail failing in
      out_refused r s out (λ e. h (number_of_lem r s out ∙ e))

  -- the questions of one that is allotted are answered with yes
  yes : (trust rs draw fail failing out).refusal ≡ 0 → first_no (trust_asks rs draw fail failing out) ≡ 0
  unfolding trust
  yes d = sym (number_of_lem (first_no (trust_asks rs draw fail failing out)) (shares_of rs draw fail failing) out) ∙ d

  module _ (done : (trust rs draw fail failing out).refusal ≡ 0) where
    allotted : Allots rs draw fail
    allotted = allots rs draw fail failing out (yes done)

    -- there is a word for each report
    room : number_of rs ≤ length out
    room =
        let y = all_yes (trust_asks rs draw fail failing out) (omega arith) (yes done) in
        omega (
          arith,
          leb-true most_reports (length out) y.0,
          leb-true (number_of rs) most_reports
              (and_left (leb (number_of rs) most_reports) (all (λ s. leb s last_sub) rs.subs) y.1.1.1.1.1.1.0),
        )

    words : (trust rs draw fail failing out).out ≡ shares_of rs draw fail failing ++ drop (number_of rs) out
    unfolding trust
    words =
        let s = shares_of rs draw fail failing in
        out_done (first_no (trust_asks rs draw fail failing out)) s out (yes done)
        ∙ ap (λ n. s ++ drop n out) (shares_length rs draw fail failing)

    -- the first are the shares, as many as there are reports
    pub words_shares : take (number_of rs) (trust rs draw fail failing out).out ≡ shares_of rs draw fail failing
    words_shares =
        ap (take (number_of rs)) words
        ∙ take_at (shares_of rs draw fail failing) (drop (number_of rs) out) (number_of rs) (shares_length rs draw fail failing)

    -- those after them are as lent
    pub words_beyond : drop (number_of rs) (trust rs draw fail failing out).out ≡ drop (number_of rs) out
    words_beyond =
        ap (drop (number_of rs)) words
        ∙ drop_at (shares_of rs draw fail failing) (drop (number_of rs) out) (number_of rs) (shares_length rs draw fail failing)

    -- and there are no more and no fewer
    pub words_length : length (trust rs draw fail failing out).out ≡ length out
    words_length =
        ap length words
        ∙ omega (
          arith,
          length-append (shares_of rs draw fail failing) (drop (number_of rs) out),
          length-drop (number_of rs) out,
          shares_length rs draw fail failing,
          room,
        )

    word_at : (k : ℕ) → k < number_of rs → get_or (trust rs draw fail failing out).out k 0 ≡ get_or (shares_of rs draw fail failing) k 0
    word_at k h =
        ap (λ l. get_or l k 0) words
        ∙ get_or-append (shares_of rs draw fail failing) (drop (number_of rs) out) 0 k (omega (arith, shares_length rs draw fail failing))

    -- the shares sum to the fail
    pub words_sum : sum (take (number_of rs) (trust rs draw fail failing out).out) ≡ fail
    words_sum = ap sum words_shares ∙ shares_sum rs draw fail failing allotted

    -- each is at most its report's lots
    pub word_at_most_lots : (k : ℕ) → k < number_of rs → get_or (trust rs draw fail failing out).out k 0 ≤ received_by rs k
    word_at_most_lots k h = omega (arith, word_at k h, at_most_lots rs draw fail failing k)

    -- and 0 for a report that is not eligible
    pub word_none_ineligible : (k : ℕ) → k < number_of rs → eligible rs k ≡ false → get_or (trust rs draw fail failing out).out k 0 ≡ 0
    word_none_ineligible k h e = word_at k h ∙ none_ineligible rs draw fail failing k e

    -- no report that does not face the failing account has a share while an eligible one that faces it has lots left
    pub word_facing_first : (j k : ℕ) → j < number_of rs → k < number_of rs →
        eligible rs j ≡ true → faces rs failing j ≡ true → faces rs failing k ≡ false →
        0 < get_or (trust rs draw fail failing out).out k 0 → get_or (trust rs draw fail failing out).out j 0 ≡ received_by rs j
    word_facing_first j k l m e f g h =
        word_at j l ∙ facing_first rs draw fail failing allotted j k l e f g (omega (arith, word_at k m, h))

    -- those facing it have together as much of the fail as they can take, whatever the draw
    pub words_facing_total :
        total (λ k. cond (faces rs failing k) (get_or (trust rs draw fail failing out).out k 0) 0) (numbers (number_of rs))
        ≡ min fail (total (λ k. cond (faces rs failing k) (size_of rs k) 0) (numbers (number_of rs)))
    words_facing_total =
        total_numbers (λ k. cond (faces rs failing k) (get_or (trust rs draw fail failing out).out k 0) 0)
        (λ k. cond (faces rs failing k) (get_or (shares_of rs draw fail failing) k 0) 0) (number_of rs)
        (λ k h. ap (λ x. cond (faces rs failing k) x 0) (word_at k h))
        ∙ facing_total rs draw fail failing allotted
