-- The theorems of the shares, by participant number: they sum to the funds, none exceeds its base, two below their base
-- differ by at most 50, those earlier in the order come first, and the share at a number is that participant's.
use mathlib.Core.Path.{◌≡◌, refl, ap, ◌∙◌}
use mathlib.Core.List.{List, [], ◌∷◌}
use Prim.Native.Nat.{ℕ, zero, suc, ◌+◌, ◌≤◌, ◌<◌}
use native.Mathlib.Omega.{arith}
use native.Mathlib.Nat.{zero-add}
use lib.Dec.{eqb}
use lib.ListN.{length, get_or, length-map}
use borrow.Author.Tests.{eqb-true, eq-eqb}
use Rattle.rules.specs.Measures.{total, sum, Every}
use Rattle.rules.specs.Units.{AccountLots, account_lots, of_account}
use Rattle.rules.specs.Book.{tabulate}
use Rattle.laws.proofs.Basics.{by_test, each_at, length_tab, get_or_tab}
use Rattle.laws.proofs.Orders.{by_accounts}
use Rattle.contributions.specs.Bases.{piece}
use Rattle.contributions.specs.Order.{amount_of, order_of}
use Rattle.contributions.specs.Rounds.{in_order}
use Rattle.contributions.specs.Funds.{share_in, numbered, shares_in_order, shares_of}
use Rattle.apportioning.proofs.Lists.{base_at}
use Rattle.apportioning.proofs.Order.{length_order, order_below, bases_in_order, times, order_once}
use Rattle.apportioning.proofs.Rounds.{length_allotted, Within, Ended, Done, allotted_done, ahead_at}

-- One number's share among those of an order

-- where no number stands twice it is the sum of the shares at that number
zipped : List ℕ → List ℕ → List AccountLots
zipped [] ss = []
zipped (j ∷ js) [] = []
zipped (j ∷ js) (s ∷ ss) = account_lots j s ∷ zipped js ss

abbrev sum_at : List ℕ → List ℕ → ℕ → ℕ
sum_at js ss k = total (of_account k) (zipped js ss)

sum_none : (js ss : List ℕ) (k : ℕ) → times k js ≡ 0 → sum_at js ss k ≡ 0
unfolding zipped
sum_none [] ss k h = refl
sum_none (j ∷ js) [] k h = refl
sum_none (j ∷ js) (s ∷ ss) k h =
    by_test (eqb j k)
    (λ e. let q = simp e at h in absurd (omega arith))
    (λ e. let q = simp e at h in simp e (omega (arith, sum_none js ss k (omega arith))))

share_sum : (js ss : List ℕ) (k : ℕ) → times k js ≤ 1 → share_in js ss k ≡ sum_at js ss k
unfolding zipped
share_sum [] ss k h = refl
share_sum (j ∷ js) [] k h = refl
share_sum (j ∷ js) (s ∷ ss) k h =
    by_test (eqb j k)
    (λ e. let q = simp e at h in simp e (omega (arith, sum_none js ss k (omega arith))))
    (λ e. let q = simp e at h in simp e (omega (arith, share_sum js ss k (omega arith))))

zipped_sum : (js ss : List ℕ) → length ss ≡ length js → total (λ u. u.lots) (zipped js ss) ≡ sum ss
unfolding zipped
zipped_sum [] [] h = refl
zipped_sum [] (s ∷ ss) h = absurd (omega arith)
zipped_sum (j ∷ js) [] h = refl
zipped_sum (j ∷ js) (s ∷ ss) h = omega (arith, zipped_sum js ss (omega arith))

zipped_below : (n : ℕ) (js ss : List ℕ) → Every (λ j. j < n) js → Every (λ u. u.account < n) (zipped js ss)
unfolding zipped
zipped_below n [] ss h = tt
zipped_below n (j ∷ js) [] h = tt
zipped_below n (j ∷ js) (s ∷ ss) h = (h.0, zipped_below n js ss h.1)

tab_same : (f g : ℕ → ℕ) (k n : ℕ) → ((j : ℕ) → k ≤ j → j < k + n → f j ≡ g j) → sum (tabulate f k n) ≡ sum (tabulate g k n)
tab_same f g k zero h = refl
tab_same f g k (suc n) h =
    omega (arith, h k (omega arith) (omega arith), tab_same f g (suc k) n (λ j p q. h j (omega arith) (omega arith)))

-- a number that stands at a place stands there once at least
times_at : (js : List ℕ) (i : ℕ) → i < length js → 1 ≤ times (get_or js i 0) js
times_at [] i h = absurd (omega arith)
times_at (j ∷ js) zero h = rw (eq-eqb j j refl) (omega arith)
times_at (j ∷ js) (suc i) h = omega (arith, times_at js i (omega arith))

share_place : (js ss : List ℕ) (i : ℕ) → i < length js → i < length ss → times (get_or js i 0) js ≤ 1 →
    share_in js ss (get_or js i 0) ≡ get_or ss i 0
share_place [] ss i h l o = absurd (omega arith)
share_place (j ∷ js) [] i h l o = absurd (omega arith)
share_place (j ∷ js) (s ∷ ss) zero h l o = rw (eq-eqb j j refl)
share_place (j ∷ js) (s ∷ ss) (suc i) h l o =
    by_test (eqb j (get_or js i 0))
    (λ e. let q = simp e at o in absurd (omega (arith, times_at js i (omega arith))))
    (λ e. let q = simp e at o in simp e (share_place js ss i (omega arith) (omega arith) (omega arith)))

-- a number that stands in the order: its share lies within the level of its base
share_within : (m : ℕ) (bases js ss : List ℕ) (k : ℕ) → Ended m (in_order bases js) ss → length ss ≡ length js → 1 ≤ times k js →
    Within m (amount_of bases k) (share_in js ss k)
share_within m bases [] ss k v l h = absurd (omega arith)
share_within m bases (j ∷ js) [] k v l h = absurd (omega arith)
share_within m bases (j ∷ js) (s ∷ ss) k v l h =
    by_test (eqb j k)
    (λ e. let q = eqb-true j k e in simp e (rw q at v.0))
    (λ e. let q = simp e at h in simp e (share_within m bases js ss k v.2 (omega arith) (omega arith)))

-- The shares

module _ (averages bases : List ℕ) (funds : ℕ) (columns : length bases ≡ length averages) (covered : funds ≤ sum bases) where
  done : Done funds (in_order bases (order_of averages)) (shares_in_order averages bases funds)
  done = allotted_done (in_order bases (order_of averages)) funds (omega (arith, bases_in_order averages bases columns))

  turns : length (shares_in_order averages bases funds) ≡ length (order_of averages)
  turns = length_allotted (in_order bases (order_of averages)) funds ∙ length-map (order_of averages) (amount_of bases)

  -- the share answered at a number
  at_number : (k : ℕ) → k < length averages →
      get_or (shares_of averages bases funds) k 0 ≡ share_in (order_of averages) (shares_in_order averages bases funds) k
  unfolding shares_of numbered
  at_number k h =
      get_or_tab (share_in (order_of averages) (shares_in_order averages bases funds)) 0 (length (order_of averages)) k 0
      (omega (arith, length_order averages))
      ∙ ap (share_in (order_of averages) (shares_in_order averages bases funds)) (zero-add k)

  -- there is one for each participant
  pub shares_length : length (shares_of averages bases funds) ≡ length averages
  unfolding shares_of numbered
  shares_length =
      length_tab (share_in (order_of averages) (shares_in_order averages bases funds)) 0 (length (order_of averages)) ∙ length_order averages

  -- the shares sum to the funds
  pub shares_sum : sum (shares_of averages bases funds) ≡ funds
  unfolding shares_of numbered
  shares_sum =
      let js = order_of averages in
      let ss = shares_in_order averages bases funds in
      tab_same (share_in js ss) (sum_at js ss) 0 (length js)
      (λ k p q. share_sum js ss k (omega (arith, order_once averages k (omega (arith, length_order averages)))))
      ∙ by_accounts (λ u. u.lots) (length js) (zipped js ss)
      (zipped_below (length js) js ss (rw (length_order averages) (order_below averages)))
      ∙ zipped_sum js ss turns ∙ done.whole

  -- the share answered at the number of the participant at a place of the order is the one that it got there
  pub share_of_participant : (i : ℕ) → i < length averages →
      get_or (shares_of averages bases funds) (get_or (order_of averages) i 0) 0 ≡ get_or (shares_in_order averages bases funds) i 0
  share_of_participant i h =
      let l = length_order averages in
      let n = get_or (order_of averages) i 0 in
      let b : n < length averages = each_at (λ j. j < length averages) (order_of averages) 0 i (order_below averages) (omega arith) in
      at_number n b
      ∙ share_place (order_of averages) (shares_in_order averages bases funds) i (omega arith) (omega (arith, turns))
      (omega (arith, order_once averages n b))

  within : (k : ℕ) → k < length averages → Within done.level (amount_of bases k) (get_or (shares_of averages bases funds) k 0)
  within k h =
      rw (at_number k h)
      (share_within done.level bases (order_of averages) (shares_in_order averages bases funds) k done.ended turns
      (omega (arith, order_once averages k h)))

  -- none exceeds its base
  pub at_most_base : (k : ℕ) → k < length averages → get_or (shares_of averages bases funds) k 0 ≤ amount_of bases k
  at_most_base k h = omega (arith, (within k h).most)

  -- two below their base differ by at most 50
  pub differ_by_piece : (j k : ℕ) → j < length averages → k < length averages →
      get_or (shares_of averages bases funds) j 0 < amount_of bases j → get_or (shares_of averages bases funds) k 0 < amount_of bases k →
      get_or (shares_of averages bases funds) j 0 ≤ get_or (shares_of averages bases funds) k 0 + piece
  differ_by_piece j k h l p q = omega (arith, (within j h).most, (within k l).least)

  -- one below its base has no less than any behind it in the order
  pub earlier_first : (i h : ℕ) → i < h → h < length averages →
      get_or (shares_of averages bases funds) (get_or (order_of averages) i 0) 0 < amount_of bases (get_or (order_of averages) i 0) →
      get_or (shares_of averages bases funds) (get_or (order_of averages) h 0) 0 ≤ get_or (shares_of averages bases funds) (get_or (order_of averages) i 0) 0
  earlier_first i h l m p =
      let n = length_order averages in
      let a = share_of_participant i (omega arith) in
      let b = base_at bases (order_of averages) i (omega arith) in
      rw (a, share_of_participant h m)
      (ahead_at done.level (in_order bases (order_of averages)) (shares_in_order averages bases funds) i h done.ended l
      (omega (arith, length-map (order_of averages) (amount_of bases))) (omega (arith, turns)) (omega arith))
