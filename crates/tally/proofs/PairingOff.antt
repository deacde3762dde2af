-- Pair-off keeps the balance of every account, for P = Q and P ≠ Q: a step takes m lots from what the
-- account owes and from what is owed to it, and P owes to Q what it owed to the account. Where P is Q
-- nothing is owed any more, and both of its sides fall by m.
use mathlib.Core.Path.{◌≡◌, refl, sym, ap, ◌∙◌}
use mathlib.Core.Bool.{Bool, true, false, cond, ◌&&◌}
use mathlib.Core.List.{List, [], ◌∷◌}
use Prim.Native.Nat.{ℕ, zero, suc, ◌+◌, ◌≤◌, ◌<◌}
use native.Mathlib.Omega.{arith}
use native.Mathlib.Nat.{add-zero}
use lib.Dec.{eqb}
use borrow.Author.Tests.{eqb-true}
use Rattle.rules.specs.declared.Entry.{Entry}
use Rattle.rules.specs.Measures.{total}
use Rattle.rules.specs.Ledger.{is_from, is_to, lots_of, count_of, first_of, lower, smaller_lots, appended, stepped, has_both, paired, pairing}
use Rattle.rules.specs.Book.{ledger_of}
use Rattle.rules.specs.Calls.{PairOff, called}
use Rattle.rules.specs.Tally.{Tallied}
use Rattle.laws.proofs.Basics.{by_test, either, total_append, Every, each_map}
use Rattle.laws.proofs.Sound.{SoundEntry, sound_parts}
use Rattle.laws.proofs.Ledger.{ledger_written}
use Rattle.laws.proofs.Meeting.{with_lots, lots_add}
use Rattle.laws.proofs.Lowering.{first_lots, first_stays, lowered, Apart, from_not_to, issue_from, issue_to, account_from, account_to}
use Rattle.laws.proofs.Pairing.{in_and_out, both_yes, stepped_apart}
use Rattle.laws.proofs.Answers.{by_answer}
use Rattle.tally.proofs.Invariant.{Inv, Keeps}

-- A number of the first entry that goes by its issue and one other number

first_map : (h : ℕ → ℕ → ℕ) (g : Entry → ℕ) (i : ℕ) (p : Entry → Bool) → ((e : Entry) → p e ≡ true → e.issue ≡ i) → (es : List Entry) →
    0 < count_of p es → first_of (λ e. h e.issue (g e)) p es ≡ h i (first_of g p es)
first_map h g i p r [] c = absurd (omega arith)
first_map h g i p r (e ∷ es) c =
    by_test (p e)
    (λ t. simp t (ap (λ n. h n (g e)) (r e t)))
    (λ t. simp t (first_map h g i p r es (omega (arith, simp t at c))))

first_own : (g : Entry → ℕ) (a : ℕ) (p : Entry → Bool) → ((e : Entry) → p e ≡ true → g e ≡ a) → (es : List Entry) →
    0 < count_of p es → first_of g p es ≡ a
first_own g a p r [] c = absurd (omega arith)
first_own g a p r (e ∷ es) c =
    by_test (p e) (λ t. simp t (r e t)) (λ t. simp t (first_own g a p r es (omega (arith, simp t at c))))

-- lots m of an entry in issue i with account q, if asked for issue j and account c
abbrev weigh : ℕ → ℕ → ℕ → ℕ → ℕ → ℕ
weigh m j c i q = cond (eqb i j && eqb q c) m 0

weigh_zero : (j c i q : ℕ) → weigh 0 j c i q ≡ 0
weigh_zero j c i q = either (λ n. n ≡ 0) (eqb i j && eqb q c) refl refl

appended_from : (today i p q m j c : ℕ) → lots_of (is_from j c) (appended today i p q m) ≡ weigh (cond (eqb p q) 0 m) j c i p
appended_from today i p q m j c = by_test (eqb p q) (λ e. simp e (sym (weigh_zero j c i p))) (λ e. simp e (add-zero _))

appended_to : (today i p q m j c : ℕ) → lots_of (is_to j c) (appended today i p q m) ≡ weigh (cond (eqb p q) 0 m) j c i q
appended_to today i p q m j c = by_test (eqb p q) (λ e. simp e (sym (weigh_zero j c i q))) (λ e. simp e (add-zero _))

-- P and Q differ, or are one
p_and_q : (m j c i p q : ℕ) →
    weigh (cond (eqb p q) 0 m) j c i p + weigh m j c i q ≡ weigh m j c i p + weigh (cond (eqb p q) 0 m) j c i q
p_and_q m j c i p q =
    by_test (eqb p q)
    (λ e. simp e (omega (arith, weigh_zero j c i p, weigh_zero j c i q, ap (weigh m j c i) (eqb-true p q e))))
    (λ e. simp e)

-- equations of plain numbers: F is what an account owes, T what is owed to it
balanced_step : (F F₁ F₂ F' T T₁ T₂ T' wa wP wQ tP tQ : ℕ) → F' ≡ F₂ + tP → F₂ + wP ≡ F₁ → F₁ + wa ≡ F →
    T' ≡ T₂ + tQ → T₂ + wa ≡ T₁ → T₁ + wQ ≡ T → tP + wQ ≡ wP + tQ → F' + T ≡ F + T'
balanced_step F F₁ F₂ F' T T₁ T₂ T' wa wP wQ tP tQ a b c d e f g = omega arith

chain : (F F₁ F₂ T T₁ T₂ : ℕ) → F₁ + T ≡ F + T₁ → F₂ + T₁ ≡ F₁ + T₂ → F₂ + T ≡ F + T₂
chain F F₁ F₂ T T₁ T₂ h k = omega arith

shift : (A C F F' T T' : ℕ) → A + F ≡ C + T → F' + T ≡ F + T' → A + F' ≡ C + T'
shift A C F F' T T' h k = omega arith

module _ (today i a : ℕ) (es : List Entry) (ps : Every Apart es) (both : has_both i a es ≡ true) (j c : ℕ) where
  abbrev m : ℕ
  m = smaller_lots i a es

  abbrev P : ℕ
  P = first_of (λ e. e.from) (is_to i a) es

  abbrev Q : ℕ
  Q = first_of (λ e. e.to) (is_from i a) es

  abbrev es₁ : List Entry
  es₁ = lower (is_from i a) m es

  abbrev f_f : Entry → ℕ
  f_f e = cond (is_from j c e) e.lots 0

  abbrev f_t : Entry → ℕ
  f_t e = cond (is_to j c e) e.lots 0

  -- a step takes as much from what an account owes as from what is owed to it
  step_balance : lots_of (is_from j c) (stepped today i a es) + lots_of (is_to j c) es ≡ lots_of (is_from j c) es + lots_of (is_to j c) (stepped today i a es)
  step_balance =
      let h = both_yes (count_of (is_to i a) es) (count_of (is_from i a) es) both in
      let aF = lots_add (is_from j c) (λ e n. refl) in
      let aT = lots_add (is_to j c) (λ e n. refl) in
      let apart = each_map Apart (λ e. is_from i a e ≡ true → is_to i a e ≡ false) (from_not_to i a) es ps in
      let st : (g : Entry → ℕ) → first_of g (is_to i a) es₁ ≡ first_of g (is_to i a) es =
      λ g. first_stays g (is_to i a) (is_from i a) (λ e n. refl) m es apart in
      let k₁ : m ≤ first_lots (is_from i a) es = omega arith in
      let k₂ : m ≤ first_lots (is_to i a) es₁ = omega (arith, st (λ e. e.lots)) in
      let F₁ = lowered f_f aF (is_from i a) m es k₁ in
      let T₁ = lowered f_t aT (is_from i a) m es k₁ in
      let F₂ = lowered f_f aF (is_to i a) m es₁ k₂ in
      let T₂ = lowered f_t aT (is_to i a) m es₁ k₂ in
      let F₃ = total_append f_f (lower (is_to i a) m es₁) (appended today i P Q m) in
      let T₃ = total_append f_t (lower (is_to i a) m es₁) (appended today i P Q m) in
      let w = weigh m j c in
      let wFF = first_map w (λ e. e.from) i (is_from i a) (issue_from i a) es h.1 ∙ ap (w i) (first_own (λ e. e.from) a (is_from i a) (account_from i a) es h.1) in
      let wTF = first_map w (λ e. e.to) i (is_from i a) (issue_from i a) es h.1 in
      let wFT = st (λ e. f_f (with_lots e m)) ∙ first_map w (λ e. e.from) i (is_to i a) (issue_to i a) es h.0 in
      let wTT = st (λ e. f_t (with_lots e m)) ∙ first_map w (λ e. e.to) i (is_to i a) (issue_to i a) es h.0 ∙ ap (w i) (first_own (λ e. e.to) a (is_to i a) (account_to i a) es h.0) in
      let tF = appended_from today i P Q m j c in
      let tT = appended_to today i P Q m j c in
      balanced_step _ _ _ _ _ _ _ _ _ _ _ _ _
      (F₃ ∙ ap (λ n. total f_f (lower (is_to i a) m es₁) + n) tF)
      (ap (λ n. total f_f (lower (is_to i a) m es₁) + n) (sym wFT) ∙ F₂)
      (ap (λ n. total f_f es₁ + n) (sym wFF) ∙ F₁)
      (T₃ ∙ ap (λ n. total f_t (lower (is_to i a) m es₁) + n) tT)
      (ap (λ n. total f_t (lower (is_to i a) m es₁) + n) (sym wTT) ∙ T₂)
      (ap (λ n. total f_t es₁ + n) (sym wTF) ∙ T₁)
      (p_and_q m j c i P Q)

paired_balance : (n today i a : ℕ) (es : List Entry) → Every Apart es → (j c : ℕ) →
    lots_of (is_from j c) (paired n today i a es).ledger + lots_of (is_to j c) es
    ≡ lots_of (is_from j c) es + lots_of (is_to j c) (paired n today i a es).ledger
paired_balance zero today i a es ps j c = refl
paired_balance (suc n) today i a es ps j c =
    by_test (has_both i a es)
    (λ e.
    let ih = paired_balance n today i a (stepped today i a es) (stepped_apart today i a es ps) j c in
    rw e (chain _ _ _ _ _ _ (step_balance today i a es ps e j c) ih))
    (λ e. rw e)

-- what each account owes less what is owed to it is as it was
pub pairing_balance : (today i a : ℕ) (es : List Entry) → Every SoundEntry es → (j c : ℕ) →
    lots_of (is_from j c) (pairing today i a es).ledger + lots_of (is_to j c) es
    ≡ lots_of (is_from j c) es + lots_of (is_to j c) (pairing today i a es).ledger
unfolding pairing
pairing_balance today i a es ss j c =
    paired_balance (in_and_out i a es) today i a es (each_map SoundEntry Apart (λ e s. s.apart) es ss) j c

pub keeps_pair_off : (s : Tallied) → Inv s → (i a : ℕ) (out : List ℕ) → Keeps (PairOff i a) s (called s.book (PairOff i a) out)
keeps_pair_off s v i a out =
    let b = s.book in
    let p = pairing b.state.day i a (ledger_of b) in
    by_answer (Keeps (PairOff i a) s) b (PairOff i a) out
    (λ y. record {
      size_nets = v.size_nets;
      size_delivered = v.size_delivered;
      size_lifts = v.size_lifts;
      size_charges = v.size_charges;
      nets = v.nets;
      given = v.given;
      handed = v.handed;
      phase = v.phase;
      rows = v.rows;
      lifts = v.lifts;
      day = v.day;
      turn = v.turn;
      balance = λ j c hj hc.
          rw (ledger_written b p.ledger)
          (shift _ _ _ _ _ _ (v.balance j c hj hc)
          (pairing_balance b.state.day i a (ledger_of b) (sound_parts b y.0).ledger.each j c));
      charges = v.charges;
    })
    (λ r. v)
