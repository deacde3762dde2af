-- What a participant does itself leaves alike books alike to it; so however often it asks, it is told the same.
use mathlib.Core.Path.{◌≡◌, refl, sym, ap, ◌∙◌}
use mathlib.Core.Bool.{Bool, true, false, cond, false≢true}
use mathlib.Core.List.{List, [], ◌∷◌}
use Prim.Native.Nat.{ℕ, zero, suc, ◌+◌, ◌-◌, ◌<◌}
use native.Mathlib.Omega.{arith}
use native.Mathlib.Nat.{sub-zero}
use lib.Dec.{leb}
use lib.ListN.{length}
use borrow.Author.Tests.{leb-true}
use Rattle.rules.specs.declared.Book.{Book}
use Rattle.rules.specs.declared.Caller.{Caller}
use Rattle.rules.specs.declared.Entry.{Entry}
use Rattle.rules.specs.Ledger.{put_entry, is_from, met_by, meet}
use Rattle.rules.specs.Book.{ledger_of, sound}
use Rattle.rules.specs.Questions.{first_no}
use Rattle.rules.specs.Calls.{Call, Trade, Close, Deliver, Ask, Commit, Cutoff, Resolve, PairOff, Roll, Mark, Turn, answer, lends, asks, effect}
use Rattle.rules.specs.Access.{is_operator, owns, own_call, has_right, with_right, asks_by, called_by, those}
use Rattle.laws.proofs.Basics.{by_test}
use Rattle.laws.proofs.Answers.{all_yes, numbered}
use Rattle.laws.proofs.Cells.{here, cell_set}
use Rattle.laws.proofs.Ledger.{ledger_written}
use Rattle.laws.proofs.Sound.{parts_sound}
use Rattle.laws.proofs.Called.{Sizes, Standing, stands}
use Rattle.laws.proofs.Rights.{passes, with_right_lem, without_right, refused_by_lem, refused_book}
use Rattle.secrecy.specs.Requests.{Request, after_request}
use Rattle.secrecy.specs.Secrecy.{own_entry, Alike, SameRequest, same_call, same_ask, same_unit, same_status, same_simulation, same_read, replies, SameRequests, none, more}
use Rattle.secrecy.proofs.Own.{own_from}
use Rattle.secrecy.proofs.Secret.{numbers, secret}

-- Own entries after a resolve

those_put : (w : Caller) (e : Entry) (n : ℕ) (es : List Entry) →
    those (own_entry w) (put_entry e n es) ≡ cond (own_entry w e) (put_entry e n (those (own_entry w) es)) (those (own_entry w) es)
those_put w e zero es = by_test (own_entry w e) (λ t. simp t) (λ f. simp f)
those_put w e (suc n) es = refl

those_meet : (w : Caller) (p : Entry → Bool) → ((e : Entry) → p e ≡ true → own_entry w e ≡ true) → (x : ℕ) (es : List Entry) →
    those (own_entry w) (meet p x es) ≡ meet p x (those (own_entry w) es)
those_meet w p only x [] = refl
those_meet w p only x (e ∷ es) =
    those_put w e (e.lots - met_by p x e) (meet p (x - met_by p x e) es)
    ∙ by_test (own_entry w e)
    (λ t. simp t (ap (put_entry e (e.lots - met_by p x e)) (those_meet w p only (x - met_by p x e) es)))
    (λ f.
    let n : p e ≡ false = by_test (p e) (λ q. absurd (false≢true (sym f ∙ only e q))) (λ q. q) in
    simp (f, n, sub-zero) (those_meet w p only x es))

module _ (w : Caller) (b b' : Book) (z : Sizes b) (z' : Sizes b') (l : Alike w b b') where
  -- its own deliver and resolve
  module _ (i a x : ℕ) (own : owns w a ≡ true) (hi : i < 16) (ha : a < 64) where
    delivers : Alike w (effect b (Deliver i a x)).book (effect b' (Deliver i a x)).book
    delivers = record {
      phase = l.phase;
      day = l.day;
      turn = l.turn;
      marks = l.marks;
      nets = l.nets;
      delivered = λ j c hj hc o.
          cell_set b.delivered i a j c _ 0 (let n = z.delivered in omega arith) ha hc
          ∙ (λ k. cond (here i a j c) (l.delivered i a hi ha own k + x) (l.delivered j c hj hc o k))
          ∙ sym (cell_set b'.delivered i a j c _ 0 (let n = z'.delivered in omega arith) ha hc);
      charges = l.charges;
      entries = l.entries;
    }

    resolves : Alike w (effect b (Resolve i a x)).book (effect b' (Resolve i a x)).book
    resolves = record {
      phase = l.phase;
      day = l.day;
      turn = l.turn;
      marks = l.marks;
      nets = l.nets;
      delivered = l.delivered;
      charges = l.charges;
      entries =
          ap (those (own_entry w)) (ledger_written b (meet (is_from i a) x (ledger_of b)))
          ∙ those_meet w (is_from i a) (own_from w i a own) x (ledger_of b)
          ∙ ap (meet (is_from i a) x) l.entries
          ∙ sym (those_meet w (is_from i a) (own_from w i a own) x (ledger_of b'))
          ∙ ap (those (own_entry w)) (sym (ledger_written b' (meet (is_from i a) x (ledger_of b'))));
    }

  no_right : (c : Call) (out : List ℕ) {C : Type 0} → first_no (with_right false (asks b c out)) ≡ 0 → C
  no_right c out h = absurd (let n = refused_by_lem (asks b c out) (numbered b c out) in omega arith)

  done : (c : Call) (out : List ℕ) → first_no (with_right (own_call w c) (asks b c out)) ≡ 0 → Alike w (effect b c).book (effect b' c).book
  done (Trade i f t x) out h = no_right (Trade i f t x) out h
  done Close out h = no_right Close out h
  done (Deliver i a x) out h =
      by_test (owns w a)
      (λ own.
      let y = all_yes (asks b (Deliver i a x) out) (omega arith) (sym (passes (asks b (Deliver i a x) out)) ∙ (rw own at h)) in
      delivers i a x own (omega (arith, leb-true i 15 y.1.1.1.0)) (omega (arith, leb-true a 63 y.1.1.1.1.0)))
      (λ other. no_right (Deliver i a x) out (rw other at h))
  done (Ask i k) out h = no_right (Ask i k) out h
  done (Commit t) out h = no_right (Commit t) out h
  done Cutoff out h = no_right Cutoff out h
  done (Resolve i a x) out h =
      by_test (owns w a)
      (λ own.
      let y = all_yes (asks b (Resolve i a x) out) (omega arith) (sym (passes (asks b (Resolve i a x) out)) ∙ (rw own at h)) in
      resolves i a x own (omega (arith, leb-true i 15 y.1.1.0)) (omega (arith, leb-true a 63 y.1.1.1.0)))
      (λ other. no_right (Resolve i a x) out (rw other at h))
  done (PairOff i a) out h = no_right (PairOff i a) out h
  done (Roll days rate quotes) out h = no_right (Roll days rate quotes) out h
  done (Mark i m) out h = no_right (Mark i m) out h
  done (Turn d) out h = no_right (Turn d) out h

  by_number : (c : Call) (lent out : List ℕ) (n n' : ℕ) → n ≡ n' → (n ≡ 0 → Alike w (effect b c).book (effect b' c).book) →
      Alike w (answer n b lent (effect b c)).book (answer n' b' out (effect b' c)).book
  by_number c lent out zero zero e h = h refl
  by_number c lent out zero (suc n') e h = absurd (omega arith)
  by_number c lent out (suc n) zero e h = absurd (omega arith)
  by_number c lent out (suc n) (suc n') e h = l

  module _ (isNot : is_operator w ≡ false) (s : sound b ≡ true) (s' : sound b' ≡ true) where
    pub kept : (c : Call) (lent out : List ℕ) → (lends c ≡ true → length lent ≡ length out) → Alike w (called_by w b c lent).book (called_by w b' c out).book
    unfolding called_by
    kept c lent out h =
        by_number c lent out (first_no (asks_by w b c lent)) (first_no (asks_by w b' c out))
        (rw isNot (numbers w b b' s s' l c lent out h)) (λ n. done c lent (rw isNot at n))

    pub kept_alike : (q q' : Request) → SameRequest q q' → Alike w (after_request w b q) (after_request w b' q')
    kept_alike _ _ (same_call c lent out h) = kept c lent out h
    kept_alike _ _ (same_ask i k) = l
    kept_alike _ _ (same_unit i k) = l
    kept_alike _ _ (same_status i k) = l
    kept_alike _ _ (same_simulation settles inventories size) = l
    kept_alike _ _ (same_read i a k) = l

-- a call with its caller keeps a sound book sound
pub stands_by : (w : Caller) (b : Book) (c : Call) (out : List ℕ) → Standing b → Standing (called_by w b c out).book
unfolding called_by
stands_by w b c out g =
    by_test (has_right w c)
    (λ r. rw (with_right_lem w b c out r) (stands b c out g))
    (λ r. rw (refused_book (first_no (asks_by w b c out)) b out (effect b c) (without_right w b c out r)) g)

stands_after : (w : Caller) (b : Book) (q q' : Request) → SameRequest q q' → Standing b → Standing (after_request w b q) × Standing (after_request w b q')
stands_after w b _ _ (same_call c lent out h) g = (stands_by w b c lent g, stands_by w b c out g)
stands_after w b _ _ (same_ask i k) g = (g, g)
stands_after w b _ _ (same_unit i k) g = (g, g)
stands_after w b _ _ (same_status i k) g = (g, g)
stands_after w b _ _ (same_simulation settles inventories size) g = (g, g)
stands_after w b _ _ (same_read i a k) g = (g, g)

-- however often it asks
pub secret_all : (w : Caller) → is_operator w ≡ false → (b b' : Book) → Standing b → Standing b' → Alike w b b' →
    (qs qs' : List Request) → SameRequests qs qs' → replies w b qs ≡ replies w b' qs'
secret_all w isNot b b' g g' l _ _ none = refl
secret_all w isNot b b' g g' l _ _ (more {qs} {qs'} q q' r rs) =
    let s = parts_sound b g.parts in
    let s' = parts_sound b' g'.parts in
    let first = secret w isNot b b' s s' l q q' r in
    let others =
    secret_all w isNot (after_request w b q) (after_request w b' q') (stands_after w b q q' r g).0 (stands_after w b' q q' r g').1
    (kept_alike w b b' g.sizes g'.sizes l isNot s s' q q' r) qs qs' rs in
    λ j. first j ∷ others j
