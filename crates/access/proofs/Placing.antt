-- Seeking an account's k-th entry: what the loop has passed, and what it finds.
use mathlib.Core.Path.{◌≡◌, refl, sym, ap, ◌∙◌}
use mathlib.Core.Bool.{Bool, true, false}
use mathlib.Core.List.{List, [], ◌∷◌}
use Prim.Native.Nat.{ℕ, suc, ◌+◌, ◌-◌, ◌≤◌, ◌<◌}
use native.Mathlib.Omega.{arith}
use lib.IntN.{ℤ}
use lib.ListN.{get_or, drop}
use lib.Seq.{drop-nil}
use borrow.Author.Tests.{le-leb, lt-leb}
use Rattle.rules.specs.Ledger.{entry}
use Rattle.rules.specs.Book.{entries, net_at}
use Rattle.ledger.proofs.Left.{left_next}
use Rattle.rules.specs.declared.Caller.{Caller}
use Rattle.rules.specs.Questions.{ask, first_no, ask_issue, ask_account}
use Rattle.rules.specs.Access.{with_right, entries_at, charge_at, LookAnswer, seen, none_seen, look_refused, first_seen, look_answer, may_read}
use Rattle.columns.specs.declared.SharedLedger.{SharedLedger}
use Rattle.access.specs.Places.{either_end, entries_from, Placed, seen_of, look_of}

-- the entries after the first k are those from place n on after the first `left`
pub record Seeking (count : ℕ) (is fs ts : List ℕ) (i a k n left : ℕ) : Type 0 where
  pub most : n ≤ count
  pub rest : (xs ds : List ℕ) →
      drop k (entries_at (entries count is fs ts xs ds) i a) ≡ drop left (entries_at (entries_from n count is fs ts xs ds) i a)

module _ (count : ℕ) (is fs ts : List ℕ) (i a k : ℕ) where
  pub seek_starts : Seeking count is fs ts i a k 0 k
  seek_starts = record { most = omega arith; rest = λ xs ds. let e : count - 0 ≡ count = omega arith in rw e refl }

  module _ (n left : ℕ) (s : Seeking count is fs ts i a k n left) where
    abbrev test : Bool
    test = either_end (get_or is n 0) (get_or fs n 0) (get_or ts n 0) i a

    pub seek_found : n < count → test ≡ true → left ≡ 0 → Placed count is fs ts i a k n
    seek_found h t z = record { most = s.most; rest = λ xs ds. s.rest xs ds ∙ ap (λ m. drop m (entries_at (entries_from n count is fs ts xs ds) i a)) z; there = λ q. t }

    pub seek_passed : n < count → test ≡ true → (left ≡ 0 → ⊥) → Seeking count is fs ts i a k (n + 1) (left - 1)
    seek_passed h t z =
        let e : left ≡ suc (left - 1) = omega arith in
        record {
          most = omega arith;
          rest = λ xs ds.
              s.rest xs ds
              ∙ ap (λ l. drop left (entries_at l i a)) (left_next n count is fs ts xs ds h)
              ∙ ap (λ m. drop m (entries_at (entry (get_or is n 0) (get_or fs n 0) (get_or ts n 0) (get_or xs n 0) (get_or ds n 0) ∷ entries_from (n + 1) count is fs ts xs ds) i a)) e
              ∙ (simp t);
        }

    pub seek_skipped : n < count → test ≡ false → Seeking count is fs ts i a k (n + 1) left
    seek_skipped h t =
        record {
          most = omega arith;
          rest = λ xs ds. s.rest xs ds ∙ ap (λ l. drop left (entries_at l i a)) (left_next n count is fs ts xs ds h) ∙ (simp t);
        }

    pub seek_ends : count ≤ n → Placed count is fs ts i a k count
    seek_ends h =
        let e : n ≡ count = omega (arith, s.most) in
        let z : count - count ≡ 0 = omega arith in
        record {
          most = omega arith;
          rest = λ xs ds. s.rest xs ds ∙ rw (e, z) (drop-nil left);
          there = λ q. absurd (omega arith);
        }

-- What is seen

module _ (count : ℕ) (nets charges : List ℤ) (l : SharedLedger) (i a k r : ℕ) (p : Placed count l.issues.now l.froms.now l.tos.now i a k r) where
  abbrev is : List ℕ
  is = l.issues.now

  abbrev fs : List ℕ
  fs = l.froms.now

  abbrev ts : List ℕ
  ts = l.tos.now

  abbrev xs : List ℕ
  xs = l.lots.now

  abbrev ds : List ℕ
  ds = l.days.now

  pub see_none : count ≤ r → none_seen (net_at nets i a) (charge_at charges a) ≡ seen_of count nets charges l i a k
  unfolding seen_of
  see_none h =
      let z : count - r ≡ 0 = omega arith in
      let e : drop k (entries_at (entries count is fs ts xs ds) i a) ≡ [] = p.rest xs ds ∙ rw z refl in
      sym (ap (first_seen (net_at nets i a) (charge_at charges a)) e)

  pub see_one : r < count →
      seen (net_at nets i a) (charge_at charges a) (entry (get_or is r 0) (get_or fs r 0) (get_or ts r 0) (get_or xs r 0) (get_or ds r 0))
      ≡ seen_of count nets charges l i a k
  unfolding seen_of
  see_one h =
      let e : drop k (entries_at (entries count is fs ts xs ds) i a)
      ≡ entry (get_or is r 0) (get_or fs r 0) (get_or ts r 0) (get_or xs r 0) (get_or ds r 0) ∷ entries_at (entries_from (r + 1) count is fs ts xs ds) i a =
      p.rest xs ds ∙ ap (λ es. entries_at es i a) (left_next r count is fs ts xs ds h) ∙ (simp (p.there h)) in
      sym (ap (first_seen (net_at nets i a) (charge_at charges a)) e)

-- Reading, by its questions

module _ (w : Caller) (n : ℕ) (nets charges : List ℤ) (l : SharedLedger) (i a k : ℕ) where
  abbrev answer : LookAnswer
  answer = look_of w n nets charges l i a k

  pub look_4 : 15 < i → look_refused 4 ≡ answer
  unfolding look_of
  look_4 h = rw (lt-leb i 15 h) refl

  module _ (hi : i ≤ 15) where
    pub look_5 : 63 < a → look_refused 5 ≡ answer
    unfolding look_of
    look_5 h = rw (le-leb i 15 hi, lt-leb a 63 h) refl

    module _ (ha : a ≤ 63) where
      -- by the answer to 27
      right_is : (right : Bool) → may_read w a ≡ right →
          look_answer (first_no (ask 27 right ∷ [])) (seen_of n nets charges l i a k) ≡ answer
      unfolding look_of
      right_is right r =
          sym
          (ap (λ (x : Bool). look_answer (first_no (with_right x (ask_issue i ∷ ask_account a ∷ []))) (seen_of n nets charges l i a k)) r
          ∙ rw (le-leb i 15 hi, le-leb a 63 ha) refl)

      pub look_27 : may_read w a ≡ false → look_refused 27 ≡ answer
      look_27 r = right_is false r

      pub look_seen : may_read w a ≡ true → seen_of n nets charges l i a k ≡ answer
      look_seen r = right_is true r
