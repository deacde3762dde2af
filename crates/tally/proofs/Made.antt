-- Demand 3 of lists of calls made through code: what answers as the definitions do, or refuses and leaves the book as it was,
-- leads to the states of a list of calls.
use mathlib.Core.Path.{◌≡◌, refl, sym, ap, ◌∙◌}
use mathlib.Core.Bool.{false}
use mathlib.Core.List.{List, [], ◌∷◌, ◌++◌}
use Prim.Native.Nat.{ℕ, zero, suc, ◌<◌}
use native.Mathlib.Omega.{arith}
use Rattle.rules.specs.declared.Book.{Book}
use Rattle.rules.specs.Calls.{Call, Answer, called}
use Rattle.rules.specs.Tally.{Tallied, CallList, Demand3, accepted, fed, settling_with, written, answered, after, after_all, start}
use Rattle.tally.proofs.Demand.{demand3}
use Rattle.tally.proofs.Reached.{Reached, reached}

-- the states that calls made through code lead to, from the fresh book and the fresh tally: `Gives b c out r` says that it
-- gave r for the call c on the book b, beside the output out
pub data Made (Gives : Book → Call → List ℕ → Answer → Type 0) : Tallied → Type 0 where
  none : Made Gives start
  more : {s : Tallied} → Made Gives s → (c : Call) (out : List ℕ) (r : Answer) → Gives s.book c out r → Made Gives (answered c r s)

-- what it gave is the call's answer, or a refusal of any number that leaves the book
pub data Step (b : Book) (c : Call) (out : List ℕ) (r : Answer) : Type 0 where
  as_called : r ≡ called b c out → Step b c out r
  leaves : 0 < r.refusal → r.book ≡ b → Step b c out r

after_last : (s : Tallied) (cs : CallList) (c : Call) (out : List ℕ) → after_all s (cs ++ ((c, out) ∷ [])) ≡ after (after_all s cs) c out
after_last s [] c out = refl
after_last s (d ∷ cs) c out = after_last (after s d.0 d.1) cs c out

not_accepted : (n : ℕ) → 0 < n → accepted n ≡ false
not_accepted zero h = absurd (omega arith)
not_accepted (suc n) h = refl

-- such a refusal leaves the state
left : (s : Tallied) (c : Call) (r : Answer) → 0 < r.refusal → r.book ≡ s.book → answered c r s ≡ s
left s c r h e =
    let n = not_accepted r.refusal h in
    λ j. record {
      book = e j;
      tally = ap (λ a. fed c a (written c r) s.tally) n j;
      settling = ap (λ a. settling_with c a s.settling) n j;
    }

-- each is the state of a list of calls
pub record OfList (s : Tallied) : Type 0 where
  pub calls : CallList
  pub same : s ≡ after_all start calls

next : (s : Tallied) (c : Call) (out : List ℕ) (r : Answer) → OfList s → Step s.book c out r → OfList (answered c r s)
next s c out r o (as_called e) =
    record {
      calls = o.calls ++ ((c, out) ∷ []);
      same = ap (λ a. answered c a s) e ∙ ap (λ t. after t c out) o.same ∙ sym (after_last start o.calls c out);
    }
next s c out r o (leaves h e) = record { calls = o.calls; same = left s c r h e ∙ o.same }

module _ (Gives : Book → Call → List ℕ → Answer → Type 0)
    (step : (b : Book) (c : Call) (out : List ℕ) (r : Answer) → Gives b c out r → Step b c out r) where
  pub made_of_list : {s : Tallied} → Made Gives s → OfList s
  made_of_list none = record { calls = []; same = refl }
  made_of_list (more {s} m c out r g) = next s c out r (made_of_list m) (step s.book c out r g)

  -- so demand 3 holds of it
  pub demand3_of : {s : Tallied} → Made Gives s → Demand3 s
  demand3_of m = let o = made_of_list m in rw o.same (demand3 o.calls)

  -- and its book is sound, in columns of a book's lengths
  pub made_reached : {s : Tallied} → Made Gives s → Reached s.book
  made_reached m = let o = made_of_list m in rw o.same (reached o.calls)
