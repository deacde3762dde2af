-- Of an answer that is no refusal: what stands in the output sums to the funds.
use mathlib.Core.Path.{◌≡◌, refl, ◌∙◌}
use mathlib.Core.Bool.{Bool, true, false, ◌&&◌}
use mathlib.Core.List.{List, [], ◌∷◌}
use Prim.Native.Nat.{ℕ, zero, suc}
use native.Mathlib.Omega.{arith}
use lib.Dec.{leb, eqb}
use lib.ListN.{length, drop, replicate}
use borrow.Author.Tests.{leb-true, eqb-true}
use Rattle.rules.specs.Measures.{sum}
use Rattle.rules.specs.Records.{over}
use Rattle.rules.specs.Questions.{ask, first_no}
use Rattle.laws.proofs.Basics.{and_left, and_right, total_append}
use Rattle.contributions.specs.Bases.{bases_of}
use Rattle.contributions.specs.Funds.{most_amount, participants_right, shares_of, cleared, funds_answer, shares, funds}
use Rattle.apportioning.proofs.Rounds.{none_sum}
use Rattle.apportioning.proofs.Turns.{length_bases}
use Rattle.apportioning.proofs.Shares.{shares_sum}

-- no refusal: both questions are answered yes
both : (a b : Bool) (amounts out : List ℕ) → (funds_answer (first_no (ask 24 a ∷ ask 25 b ∷ [])) amounts out).refusal ≡ 0 →
    (a ≡ true) × (b ≡ true)
both true true amounts out h = (refl, refl)
both true false amounts out h = absurd (omega arith)
both false b amounts out h = absurd (omega arith)

rest_none : (n m : ℕ) → sum (drop n (replicate m 0)) ≡ 0
rest_none zero m = none_sum m
rest_none (suc n) zero = refl
rest_none (suc n) (suc m) = rest_none n m

over_sum : (amounts : List ℕ) (m : ℕ) → sum (over amounts (replicate m 0)) ≡ sum amounts
over_sum amounts m =
    omega (arith, total_append (λ x. x) amounts (drop (length amounts) (replicate m 0)), rest_none (length amounts) m)

answer_sum : (a b : Bool) (amounts out : List ℕ) → a ≡ true → b ≡ true →
    sum (funds_answer (first_no (ask 24 a ∷ ask 25 b ∷ [])) amounts out).out ≡ sum amounts
unfolding cleared
answer_sum a b amounts out e f = rw (e, f) (over_sum amounts 64)

pub accepted_shares_sum : (averages given : List ℕ) (amount : ℕ) (out : List ℕ) → (shares averages given amount out).refusal ≡ 0 →
    sum (shares averages given amount out).out ≡ amount
unfolding shares
accepted_shares_sum averages given amount out h =
    let p = participants_right averages in
    let l = eqb (length given) (length averages) in
    let a = p && l && leb amount most_amount in
    let b = leb amount (sum given) in
    let y = both a b (shares_of averages given amount) out h in
    answer_sum a b (shares_of averages given amount) out y.0 y.1
    ∙ shares_sum averages given amount (eqb-true _ _ (and_right p l (and_left (p && l) (leb amount most_amount) y.0))) (leb-true _ _ y.1)

pub accepted_funds_sum : (averages : List ℕ) (tenths amount : ℕ) (out : List ℕ) → (funds averages tenths amount out).refusal ≡ 0 →
    sum (funds averages tenths amount out).out ≡ amount
unfolding funds
accepted_funds_sum averages tenths amount out h =
    let given = bases_of averages tenths in
    let a = participants_right averages && leb tenths most_amount && leb amount most_amount in
    let b = leb amount (sum given) in
    let y = both a b (shares_of averages given amount) out h in
    answer_sum a b (shares_of averages given amount) out y.0 y.1
    ∙ shares_sum averages given amount (length_bases averages tenths) (leb-true _ _ y.1)
