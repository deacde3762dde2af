-- After a cutoff, whatever is resolved later, the lots lacking over all units of an account are the fails that this
-- cutoff made to it.
use mathlib.Core.Path.{◌≡◌, refl, sym, ap, ◌∙◌}
use mathlib.Core.Bool.{true, false, cond}
use mathlib.Core.List.{List, [], ◌∷◌, ◌++◌}
use Prim.Native.Nat.{ℕ, suc, ◌+◌, ◌-◌, ◌≤◌, ◌<◌}
use native.Mathlib.Omega.{arith}
use native.Mathlib.Nat.{sub-zero}
use lib.Dec.{leb, ltb, eqb, leb-suc-suc, eqb-suc-suc}
use lib.ListN.{length}
use borrow.Author.Tests.{leb-true, leb-false, le-leb, ltb-false, lt-ltb, le-ltb, ne_eqb}
use Rattle.rules.specs.declared.Book.{Book}
use Rattle.rules.specs.Measures.{total, unit_lots}
use Rattle.rules.specs.Units.{AccountLots, account_lots, sum_lots, of_account}
use Rattle.rules.specs.Handover.{covered, handed, partials}
use Rattle.rules.specs.Ledger.{is_to, lots_of}
use Rattle.rules.specs.Book.{is_cut, row, delivered_total, order_of, dealt_today, ledger_of, sound}
use Rattle.rules.specs.Calls.{Cutoff, effect, called, issue_fails, new_entries}
use Rattle.rules.specs.Tally.{CallList}
use Rattle.laws.proofs.Basics.{by_test, either, total_append}
use Rattle.laws.proofs.Answers.{by_answer}
use Rattle.laws.proofs.Overlaps.{additive_zero}
use Rattle.laws.proofs.Fails.{additive_account}
use Rattle.laws.proofs.Handover.{total_partials}
use Rattle.laws.proofs.Cutoff.{fails_to_lem}
use Rattle.laws.proofs.SoundRows.{order_in_lem, sound_row}
use Rattle.laws.proofs.Issue.{delivered_units}
use Rattle.laws.proofs.Ledger.{ledger_written}
use Rattle.laws.proofs.Sound.{SoundBook, sound_parts, parts_sound}
use Rattle.laws.proofs.Called.{Sizes, stands}
use Rattle.tally.proofs.Cutting.{new_to}
use Rattle.told.specs.Status.{StatusAnswer, fails_wholly, after_cutoff, status}
use Rattle.reasons.specs.Lists.{after, no_roll_since, lacking_of, lacking_over, lacking}
use Rattle.reasons.proofs.Phases.{cut_not_taking}
use Rattle.reasons.proofs.Staying.{stays_all}

-- Units of which d lots are delivered

lacking_same : (a : ℕ) (s t : ℕ → StatusAnswer) (us : List AccountLots) → ((k : ℕ) → k < length us → s k ≡ t k) → lacking_over a s us ≡ lacking_over a t us
lacking_same a s t [] e = refl
lacking_same a s t (u ∷ us) e =
    rw (e 0 (omega arith), lacking_same a (λ k. s (suc k)) (λ k. t (suc k)) us (λ k h. e (suc k) (omega arith)))

-- what is told of the units behind one that is handed, and behind one that is not
module _ (u : AccountLots) (us : List AccountLots) (d k : ℕ) where
  pub behind_handed : leb u.lots d ≡ true → after_cutoff (u ∷ us) d (suc k) ≡ after_cutoff us (d - u.lots) k
  unfolding after_cutoff
  behind_handed e =
      simp (e, leb-suc-suc (suc k) (covered us (d - u.lots)), eqb-suc-suc k (covered us (d - u.lots)))

  pub behind_waiting : leb u.lots d ≡ false → after_cutoff (u ∷ us) d (suc k) ≡ fails_wholly
  unfolding after_cutoff
  behind_waiting e = simp (e, le-ltb (suc k) 0 (omega arith), ne_eqb (suc k) 0 (omega arith))

-- of the first one, where it is handed, nothing
pub first_none : (u : AccountLots) (us : List AccountLots) (d : ℕ) → leb u.lots d ≡ true → lacking_of u (after_cutoff (u ∷ us) d 0) ≡ 0
unfolding after_cutoff
first_none u us d e = simp (e, lt-ltb 0 (suc (covered us (d - u.lots))) (omega arith))

-- of the first one that waits, what the stock leaves of it
pub first_lacks : (u : AccountLots) (us : List AccountLots) (d : ℕ) → leb u.lots d ≡ false → lacking_of u (after_cutoff (u ∷ us) d 0) ≡ u.lots - d
unfolding after_cutoff
first_lacks u us d e =
    simp e
    (by_test (ltb 0 d)
    (λ p. simp p)
    (λ p. let z : d ≡ 0 = omega (arith, ltb-false 0 d p) in simp p (rw z (sym (sub-zero u.lots)))))

all_wholly : (a : ℕ) (us : List AccountLots) → lacking_over a (λ k. fails_wholly) us ≡ total (of_account a) us
all_wholly a [] = refl
all_wholly a (u ∷ us) = ap (λ x. of_account a u + x) (all_wholly a us)

-- the stock's part, behind one that is handed, and of the first one that waits
module _ (a : ℕ) (u : AccountLots) (us : List AccountLots) (d : ℕ) where
  abbrev none : (b : ℕ) → of_account a (account_lots b 0) ≡ 0
  none = additive_zero (of_account a) (additive_account a)

  part_behind : leb u.lots d ≡ true → total (of_account a) (partials (u ∷ us) d) ≡ total (of_account a) (partials us (d - u.lots))
  part_behind e =
      total_partials (of_account a) (u ∷ us) d none ∙ simp e (sym (total_partials (of_account a) us (d - u.lots) none))

  part_first : leb u.lots d ≡ false → total (of_account a) (partials (u ∷ us) d) ≡ of_account a (account_lots u.account d)
  part_first e = total_partials (of_account a) (u ∷ us) d none ∙ simp e

  handed_none : leb u.lots d ≡ true → cond (eqb u.account a) (lacking_of u (after_cutoff (u ∷ us) d 0)) 0 ≡ 0
  handed_none e = simp (first_none u us d e) (either (λ (x : ℕ). x ≡ 0) (eqb u.account a) refl refl)

-- handed, the stock's part and what is told to be lacking are the units
pub lacking_rest : (a : ℕ) (us : List AccountLots) (d : ℕ) → d ≤ sum_lots us →
    total (of_account a) (handed us d) + total (of_account a) (partials us d) + lacking_over a (after_cutoff us d) us ≡ total (of_account a) us
lacking_rest a [] d h =
    let z : d ≡ 0 = omega arith in
    omega (
      arith,
      total_partials (of_account a) [] d (additive_zero (of_account a) (additive_account a)),
      ap (λ x. of_account a (account_lots 0 x)) z,
      additive_zero (of_account a) (additive_account a) 0,
    )
lacking_rest a (u ∷ us) d h =
    by_test (leb u.lots d)
    (λ e.
    let l = leb-true u.lots d e in
    let front : total (of_account a) (handed (u ∷ us) d) ≡ of_account a u + total (of_account a) (handed us (d - u.lots)) = simp e in
    omega (
      arith,
      front,
      part_behind a u us d e,
      handed_none a u us d e,
      lacking_same a (λ k. after_cutoff (u ∷ us) d (suc k)) (after_cutoff us (d - u.lots)) us (λ k q. behind_handed u us d k e),
      lacking_rest a us (d - u.lots) (omega arith),
    ))
    (λ e.
    let l : d + (u.lots - d) ≡ u.lots = omega (arith, leb-false u.lots d e) in
    let front : total (of_account a) (handed (u ∷ us) d) ≡ 0 = simp e in
    omega (
      arith,
      front,
      part_first a u us d e,
      ap (λ x. cond (eqb u.account a) x 0) (first_lacks u us d e),
      lacking_same a (λ k. after_cutoff (u ∷ us) d (suc k)) (λ k. fails_wholly) us (λ k q. behind_waiting u us d k e),
      all_wholly a us,
      additive_account a u.account d (u.lots - d),
      ap (λ x. of_account a (account_lots u.account x)) l,
    ))

-- A book in Cut

-- what is told of a unit of a sound book in Cut
pub in_cut : (b : Book) (i k : ℕ) → sound b ≡ true → is_cut b.state.phase ≡ true → i ≤ 15 → k < length (order_of b i) →
    status b i k ≡ after_cutoff (order_of b i) (delivered_total b.delivered i) k
unfolding status
in_cut b i k g p h t =
    simp (g, cut_not_taking b.state.phase p, p, le-leb i 15 h, lt-ltb k (length (order_of b i)) t)

-- so the units' lacks are those of the orders and totals at the cutoff
pub lacking_in_cut : (b : Book) (i a : ℕ) → sound b ≡ true → is_cut b.state.phase ≡ true → i ≤ 15 →
    lacking b i a ≡ lacking_over a (after_cutoff (order_of b i) (delivered_total b.delivered i)) (order_of b i)
unfolding lacking
lacking_in_cut b i a g p h =
    lacking_same a (status b i) (after_cutoff (order_of b i) (delivered_total b.delivered i)) (order_of b i) (λ k t. in_cut b i k g p h t)

-- The cutoff

-- one that is accepted
abbrev Cuts : Book → Book → Type 0
Cuts b b' = (sound b ≡ true) × (b' ≡ (effect b Cutoff).book)

cuts : (b : Book) (out : List ℕ) → (called b Cutoff out).refusal ≡ 0 → Cuts b (called b Cutoff out).book
cuts b out =
    by_answer (λ r. r.refusal ≡ 0 → Cuts b r.book) b Cutoff out (λ y h. (y.1.0, refl)) (λ r h. absurd (omega arith))

-- what it fails to an account is what the account's units lack
fails_lack : (b : Book) → Sizes b → SoundBook b → (i a : ℕ) → i < 16 →
    lacking_over a (after_cutoff (order_of b i) (delivered_total b.delivered i)) (order_of b i)
    ≡ lots_of (is_to i a) (new_entries b.state.day (order_of b) b.nets b.delivered)
unfolding issue_fails
fails_lack b z g i a h =
    let us = order_of b i in
    let d = delivered_total b.delivered i in
    omega (
      arith,
      lacking_rest a us d (delivered_units b g z.nets z.delivered i h),
      fails_to_lem (row i b.nets) (row i b.delivered) us (order_in_lem (dealt_today b) b.nets b.lifts i) (sound_row b g z.nets z.delivered i h) unit_lots a,
      (order_in_lem (dealt_today b) b.nets b.lifts i).due a,
      new_to b i a h,
    )

-- after a cutoff and any calls of which no roll is accepted: the lots lacking over all units of an account are the fails made to it
module _ (b : Book) (z : Sizes b) (out : List ℕ) (h : (called b Cutoff out).refusal ≡ 0) (i a : ℕ) (hi : i < 16) where
  abbrev cut : Book
  cut = (called b Cutoff out).book

  pub cutoff_lacks : (cs : CallList) → no_roll_since cut cs ≡ true →
      lacking (after cut cs) i a ≡ lots_of (is_to i a) (new_entries b.state.day (order_of b) b.nets b.delivered)
  cutoff_lacks cs r =
      let c = cuts b out h in
      let g = sound_parts b c.0 in
      let p : is_cut cut.state.phase ≡ true = ap (λ x. is_cut x.state.phase) c.1 in
      let q = stays_all cs cut (stands b Cutoff out (record { sizes = z; parts = g })) p r in
      let e : order_of (after cut cs) i ≡ order_of b i = q.0.order i ∙ ap (λ x. order_of x i) c.1 in
      let f : delivered_total (after cut cs).delivered i ≡ delivered_total b.delivered i = q.0.total i ∙ ap (λ x. delivered_total x.delivered i) c.1 in
      lacking_in_cut (after cut cs) i a (parts_sound (after cut cs) q.1.parts) (ap is_cut q.0.phase ∙ p) (omega arith)
      ∙ rw (e, f) (fails_lack b z g i a hi)

  -- by so many lots the fails to the account rose in the ledger
  pub cutoff_raised : (cs : CallList) → no_roll_since cut cs ≡ true →
      lots_of (is_to i a) (ledger_of cut) ≡ lots_of (is_to i a) (ledger_of b) + lacking (after cut cs) i a
  cutoff_raised cs r =
      let new = new_entries b.state.day (order_of b) b.nets b.delivered in
      omega (
        arith,
        ap (λ x. lots_of (is_to i a) (ledger_of x)) (cuts b out h).1,
        ap (lots_of (is_to i a)) (ledger_written b (ledger_of b ++ new)),
        total_append (λ e. cond (is_to i a e) e.lots 0) (ledger_of b) new,
        cutoff_lacks cs r,
      )
