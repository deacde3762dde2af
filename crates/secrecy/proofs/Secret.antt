-- Two sound books alike to a caller give it equal answers to the same request.
use mathlib.Core.Path.{◌≡◌, refl, sym, ap, ◌∙◌}
use mathlib.Core.Bool.{true, false, cond, not, ◌&&◌}
use mathlib.Core.List.{List, [], ◌∷◌, ◌++◌}
use Prim.Native.Nat.{ℕ, zero, suc, ◌+◌, ◌<◌}
use native.Mathlib.Omega.{arith}
use lib.Dec.{leb, ltb}
use lib.ListN.{length, drop}
use borrow.Author.Tests.{leb-true}
use Rattle.rules.specs.declared.Book.{Book}
use Rattle.rules.specs.declared.Caller.{Caller}
use Rattle.rules.specs.Measures.{output_words, owed_of}
use Rattle.rules.specs.Ledger.{is_from, lots_of}
use Rattle.rules.specs.Book.{is_taking, is_settling, is_cut, is_even, in_force, delivered_total, order_of, ledger_of, sound}
use Rattle.rules.specs.Questions.{Question, ask, first_no, ask_sound, ask_issue, ask_account, ask_accounts, ask_lots}
use Rattle.rules.specs.Calls.{Call, Trade, Close, Deliver, Ask, Commit, Cutoff, Resolve, PairOff, Roll, Mark, Turn, lends, asks, effect, ticket_answer, ticket_of, unit_answer}
use Rattle.rules.specs.Access.{is_operator, owns, own_call, with_right, asks_by, called_by, asked_by, unit_by, LookAnswer, first_seen, look_answer, look_asks, seen_at, at_either, entries_at, those, may_read, look}
use Rattle.laws.proofs.Basics.{by_test}
use Rattle.laws.proofs.Answers.{all_yes}
use Rattle.laws.proofs.Rights.{passes, early_of, late_of, same_refusal, refused_by_lem, same_number, answer_number, by_refusal}
use Rattle.told.specs.Status.{ask_not_taking, status_asks, status_answer, reason}
use Rattle.desks.specs.Desk.{plan, simulated}
use Rattle.desks.specs.Simulation.{ask_settlements, simulation_asks, tried_answer, outcome}
use Rattle.secrecy.specs.Requests.{status_by, simulation_by, number, ticket, a_unit, a_status, a_trial, an_account}
use Rattle.secrecy.specs.Secrecy.{own_entry, Alike, same_call, same_ask, same_unit, same_status, same_simulation, same_read, Secret}
use Rattle.secrecy.proofs.Own.{those_those, lots_those, own_from, own_either}

module _ (w : Caller) (b b' : Book) (s : sound b ≡ true) (s' : sound b' ≡ true) (l : Alike w b b') where
  both : sound b ≡ sound b'
  both = s ∙ sym s'

  -- The questions before 27 read the phase and the numbers of the call alone

  early : (c : Call) (lent out : List ℕ) → (lends c ≡ true → length lent ≡ length out) → early_of (asks b c lent) ≡ early_of (asks b' c out)
  early (Trade i f t x) lent out h = λ j. ask 2 (both j) ∷ ask 3 (is_taking (l.phase j)) ∷ ask_issue i ∷ ask_accounts f t ∷ []
  early Close lent out h = λ j. ask 2 (both j) ∷ ask 3 (is_taking (l.phase j)) ∷ []
  early (Deliver i a x) lent out h =
      λ j. ask 1 (leb output_words (h refl j)) ∷ ask 2 (both j) ∷ ask 3 (is_settling (l.phase j)) ∷ ask_issue i ∷ ask_account a ∷ []
  early (Ask i k) lent out h = λ j. ask 2 (both j) ∷ ask 3 (is_settling (l.phase j)) ∷ ask_issue i ∷ []
  early (Commit t) lent out h =
      λ j. ask 1 (leb output_words (h refl j)) ∷ ask 2 (both j) ∷ ask 3 (is_settling (l.phase j)) ∷ ask_issue t.issue ∷ []
  early Cutoff lent out h = λ j. ask 1 (leb output_words (h refl j)) ∷ ask 2 (both j) ∷ ask 3 (is_settling (l.phase j)) ∷ []
  early (Resolve i a x) lent out h =
      λ j. ask 1 (leb output_words (h refl j)) ∷ ask 2 (both j) ∷ ask_issue i ∷ ask_account a ∷ []
  early (PairOff i a) lent out h = λ j. ask 2 (both j) ∷ ask_issue i ∷ ask_account a ∷ []
  early (Roll days rate quotes) lent out h = λ j. ask 2 (both j) ∷ ask 3 (is_cut (l.phase j)) ∷ []
  early (Mark i m) lent out h = λ j. ask 2 (both j) ∷ ask_issue i ∷ []
  early (Turn d) lent out h = λ j. ask 2 (both j) ∷ ask 26 (ltb (l.day j) d && not (in_force (l.turn j) (l.day j))) ∷ []

  -- Those after it, of a participant's deliver and resolve, its own lots and entries

  module _ (i a x : ℕ) (own : owns w a ≡ true) (hi : leb i 15 ≡ true) (ha : leb a 63 ≡ true) where
    i<16 : i < 16
    i<16 = omega (arith, leb-true i 15 hi)

    a<64 : a < 64
    a<64 = omega (arith, leb-true a 63 ha)

    late_deliver : (lent out : List ℕ) → late_of (asks b (Deliver i a x) lent) ≡ late_of (asks b' (Deliver i a x) out)
    late_deliver lent out =
        λ j. ask_lots x
        ∷ ask 19 (cond (l.marks i i<16 j) (is_even x) true)
        ∷ ask 9 (leb (l.delivered i a i<16 a<64 own j + x) (owed_of (l.nets i a i<16 a<64 own j)))
        ∷ []

    own_lots : lots_of (is_from i a) (ledger_of b) ≡ lots_of (is_from i a) (ledger_of b')
    own_lots =
        sym (lots_those (is_from i a) (own_entry w) (own_from w i a own) (ledger_of b))
        ∙ ap (lots_of (is_from i a)) l.entries
        ∙ lots_those (is_from i a) (own_entry w) (own_from w i a own) (ledger_of b')

    late_resolve : (lent out : List ℕ) → late_of (asks b (Resolve i a x) lent) ≡ late_of (asks b' (Resolve i a x) out)
    late_resolve lent out =
        λ j. ask_lots x ∷ ask 19 (cond (l.marks i i<16 j) (is_even x) true) ∷ ask 9 (leb x (own_lots j)) ∷ []

    own_entries : entries_at (ledger_of b) i a ≡ entries_at (ledger_of b') i a
    own_entries =
        sym (those_those (at_either i a) (own_entry w) (own_either w i a own) (ledger_of b))
        ∙ ap (those (at_either i a)) l.entries
        ∙ those_those (at_either i a) (own_entry w) (own_either w i a own) (ledger_of b')

    own_view : (k : ℕ) → seen_at b i a k ≡ seen_at b' i a k
    own_view k = λ j. first_seen (l.nets i a i<16 a<64 own j) (l.charges a a<64 own j) (drop k (own_entries j))

  -- The number of a call

  refused : (c : Call) (lent out : List ℕ) → (lends c ≡ true → length lent ≡ length out) →
      first_no (with_right false (asks b c lent)) ≡ first_no (with_right false (asks b' c out))
  refused c lent out h = same_refusal (asks b c lent) (asks b' c out) (early c lent out h)

  pub numbers : (c : Call) (lent out : List ℕ) → (lends c ≡ true → length lent ≡ length out) →
      first_no (with_right (own_call w c) (asks b c lent)) ≡ first_no (with_right (own_call w c) (asks b' c out))
  numbers (Trade i f t x) lent out h = refused (Trade i f t x) lent out h
  numbers Close lent out h = refused Close lent out h
  numbers (Deliver i a x) lent out h =
      by_test (owns w a)
      (λ own.
      rw own
      (passes (asks b (Deliver i a x) lent)
      ∙ same_number (asks b (Deliver i a x) lent) (asks b' (Deliver i a x) out) (early (Deliver i a x) lent out h)
      (λ z. let y = all_yes (early_of (asks b (Deliver i a x) lent)) (omega arith) z in late_deliver i a x own y.1.1.1.0 y.1.1.1.1.0 lent out)
      ∙ sym (passes (asks b' (Deliver i a x) out))))
      (λ other. rw other (refused (Deliver i a x) lent out h))
  numbers (Ask i k) lent out h = refused (Ask i k) lent out h
  numbers (Commit t) lent out h = refused (Commit t) lent out h
  numbers Cutoff lent out h = refused Cutoff lent out h
  numbers (Resolve i a x) lent out h =
      by_test (owns w a)
      (λ own.
      rw own
      (passes (asks b (Resolve i a x) lent)
      ∙ same_number (asks b (Resolve i a x) lent) (asks b' (Resolve i a x) out) (early (Resolve i a x) lent out h)
      (λ z. let y = all_yes (early_of (asks b (Resolve i a x) lent)) (omega arith) z in late_resolve i a x own y.1.1.0 y.1.1.1.0 lent out)
      ∙ sym (passes (asks b' (Resolve i a x) out))))
      (λ other. rw other (refused (Resolve i a x) lent out h))
  numbers (PairOff i a) lent out h = refused (PairOff i a) lent out h
  numbers (Roll days rate quotes) lent out h = refused (Roll days rate quotes) lent out h
  numbers (Mark i m) lent out h = refused (Mark i m) lent out h
  numbers (Turn d) lent out h = refused (Turn d) lent out h

  module _ (isNot : is_operator w ≡ false) where
    pub same_call_lem : (c : Call) (lent out : List ℕ) → (lends c ≡ true → length lent ≡ length out) →
        (called_by w b c lent).refusal ≡ (called_by w b' c out).refusal
    unfolding called_by
    same_call_lem c lent out h =
        answer_number (first_no (asks_by w b c lent)) b lent (effect b c)
        ∙ (rw isNot (numbers c lent out h))
        ∙ sym (answer_number (first_no (asks_by w b' c out)) b' out (effect b' c))

    -- Questions that are the operator's alone

    pub same_ask_lem : (i k : ℕ) → asked_by w b i k ≡ asked_by w b' i k
    unfolding asked_by
    same_ask_lem i k =
        rw isNot
        (by_refusal ticket_answer (λ n t t'. refl) _ _ (ticket_of b.state.day (order_of b) b.lifts i k) (ticket_of b'.state.day (order_of b') b'.lifts i k)
        (refused_by_lem (asks b (Ask i k) []) (omega arith)) (refused (Ask i k) [] [] (λ e. refl)))

    pub same_unit_lem : (i k : ℕ) → unit_by w b i k ≡ unit_by w b' i k
    unfolding unit_by
    same_unit_lem i k =
        let qs = ask_sound b ∷ ask_issue i ∷ [] in
        rw isNot
        (by_refusal unit_answer (λ n t t'. refl) _ _ (drop k (order_of b i)) (drop k (order_of b' i)) (refused_by_lem qs (omega arith))
        (same_refusal qs (ask_sound b' ∷ ask_issue i ∷ []) (λ j. ask 2 (both j) ∷ ask_issue i ∷ [])))

    pub same_status_lem : (i k : ℕ) → status_by w b i k ≡ status_by w b' i k
    unfolding status_by
    same_status_lem i k =
        let qs = ask_sound b ∷ status_asks b.state.phase (order_of b) i k in
        let qs' = ask_sound b' ∷ status_asks b'.state.phase (order_of b') i k in
        rw isNot
        (by_refusal status_answer (λ n t t'. refl) _ _ (reason b.state.phase (order_of b i) (delivered_total b.delivered i) k)
        (reason b'.state.phase (order_of b' i) (delivered_total b'.delivered i) k) (refused_by_lem qs (omega arith))
        (same_refusal qs qs' (λ j. ask 2 (both j) ∷ ask_not_taking (l.phase j) ∷ ask_issue i ∷ [])))

    pub same_simulation_lem : (settles inventories : List ℕ) (size : ℕ) → simulation_by w b settles inventories size ≡ simulation_by w b' settles inventories size
    unfolding simulation_by
    same_simulation_lem settles inventories size =
        let qs = simulation_asks (sound b) settles inventories size in
        let qs' = simulation_asks (sound b') settles inventories size in
        rw isNot
        (by_refusal tried_answer (λ n t t'. refl) _ _ (outcome (plan b.nets settles size) (simulated (plan b.nets settles size) inventories))
        (outcome (plan b'.nets settles size) (simulated (plan b'.nets settles size) inventories)) (refused_by_lem qs (omega arith))
        (same_refusal qs qs' (λ j. ask 2 (both j) ∷ ask_settlements settles ∷ [])))

    -- Reading

    pub same_look : (i a k : ℕ) → look w b i a k ≡ look w b' i a k
    unfolding look
    same_look i a k =
        let qs = look_asks b i a in
        let qs' = look_asks b' i a in
        let v = seen_at b i a k in
        let v' = seen_at b' i a k in
        rw isNot
        (by_test (owns w a)
        (λ own.
        rw (own, passes qs, passes qs')
        (may (first_no qs) (first_no qs') v v' (λ j. first_no (ask 2 (both j) ∷ ask_issue i ∷ ask_account a ∷ []))
        (λ z. let y = all_yes qs (omega arith) z in own_view i a 0 own y.1.0 y.1.1.0 k)))
        (λ other.
        rw other
        (by_refusal look_answer (λ n t t'. refl) _ _ v v' (refused_by_lem qs (omega arith))
        (same_refusal qs qs' (λ j. ask 2 (both j) ∷ ask_issue i ∷ ask_account a ∷ [])))))
      where
        may : (n n' : ℕ) (v v' : LookAnswer) → n ≡ n' → (n ≡ 0 → v ≡ v') → look_answer n v ≡ look_answer n' v'
        may zero n' v v' e h = h refl ∙ ap (λ m. look_answer m v') e
        may (suc n) n' v v' e h = ap (λ m. look_answer m v') e

-- to every request
pub secret : Secret
secret w isNot b b' s s' l _ _ (same_call c lent out h) = rw isNot (ap number (same_call_lem w b b' s s' l isNot c lent out h))
secret w isNot b b' s s' l _ _ (same_ask i k) = ap ticket (same_ask_lem w b b' s s' l isNot i k)
secret w isNot b b' s s' l _ _ (same_unit i k) = ap a_unit (same_unit_lem w b b' s s' l isNot i k)
secret w isNot b b' s s' l _ _ (same_status i k) = ap a_status (same_status_lem w b b' s s' l isNot i k)
secret w isNot b b' s s' l _ _ (same_simulation settles inventories size) =
    ap a_trial (same_simulation_lem w b b' s s' l isNot settles inventories size)
secret w isNot b b' s s' l _ _ (same_read i a k) = ap an_account (same_look w b b' s s' l isNot i a k)
