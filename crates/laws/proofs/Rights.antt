-- Question 27 among the others: with the right a call is answered as it is without a caller, and without it by the questions
-- before 27 alone.
use mathlib.Core.Path.{◌≡◌, refl, sym, ap, ◌∙◌}
use mathlib.Core.Bool.{Bool, true, false, cond}
use mathlib.Core.List.{List, [], ◌∷◌, ◌++◌}
use Prim.Native.Nat.{ℕ, zero, suc, ◌<◌}
use native.Mathlib.Omega.{arith}
use lib.ListN.{drop}
use Rattle.rules.specs.declared.Book.{Book}
use Rattle.rules.specs.declared.Caller.{Caller}
use Rattle.rules.specs.Book.{order_of}
use Rattle.rules.specs.Questions.{Question, ask, first_no, ask_sound, ask_issue}
use Rattle.rules.specs.Calls.{Call, Ask, Effect, answer, asks, effect, called, asked, ticket_answer, ticket_of, unit, unit_answer}
use Rattle.rules.specs.Access.{is_operator, has_right, is_early, with_right, asks_by, called_by, asked_by, unit_by}
use Rattle.laws.proofs.Basics.{by_test}
use Rattle.laws.proofs.Answers.{Numbered, no_first, numbered}

-- With the right

pub passes : (qs : List Question) → first_no (with_right true qs) ≡ first_no qs
passes [] = refl
passes (ask n true ∷ qs) = by_test (is_early n) (λ e. simp e (passes qs)) (λ e. simp e)
passes (ask n false ∷ qs) = by_test (is_early n) (λ e. simp e) (λ e. simp e)

pub passes_if : (right : Bool) (qs : List Question) → right ≡ true → first_no (with_right right qs) ≡ first_no qs
passes_if right qs h = rw h (passes qs)

-- the answer is the call's own
pub with_right_lem : (w : Caller) (b : Book) (c : Call) (out : List ℕ) → has_right w c ≡ true → called_by w b c out ≡ called b c out
unfolding called_by called
with_right_lem w b c out h = ap (λ n. answer n b out (effect b c)) (passes_if (has_right w c) (asks b c out) h)

module _ (w : Caller) (h : is_operator w ≡ true) where
  -- so every call of the operator's is
  pub operator_called : (b : Book) (c : Call) (out : List ℕ) → called_by w b c out ≡ called b c out
  operator_called b c out = with_right_lem w b c out (simp h)

  pub operator_asked : (b : Book) (i k : ℕ) → asked_by w b i k ≡ asked b i k
  unfolding asked_by asked
  operator_asked b i k =
      ap (λ n. ticket_answer n (ticket_of b.state.day (order_of b) b.lifts i k)) (passes_if (is_operator w) (asks b (Ask i k) []) h)

  pub operator_unit : (b : Book) (i k : ℕ) → unit_by w b i k ≡ unit b i k
  unfolding unit_by unit
  operator_unit b i k = ap (λ n. unit_answer n (drop k (order_of b i))) (passes_if (is_operator w) (ask_sound b ∷ ask_issue i ∷ []) h)

-- Without it

-- the questions before 27, and those after it
abbrev pub early_of : List Question → List Question
early_of [] = []
early_of (ask n c ∷ qs) = cond (is_early n) (ask n c ∷ early_of qs) []

abbrev pub late_of : List Question → List Question
late_of [] = []
late_of (ask n c ∷ qs) = cond (is_early n) (late_of qs) (ask n c ∷ qs)

pub stops_there : (qs : List Question) → first_no (with_right false qs) ≡ first_no (early_of qs ++ (ask 27 false ∷ []))
stops_there [] = refl
stops_there (ask n true ∷ qs) = by_test (is_early n) (λ e. simp e (stops_there qs)) (λ e. simp e)
stops_there (ask n false ∷ qs) = by_test (is_early n) (λ e. simp e) (λ e. simp e)

-- by a number
pub refused_by_lem : (qs : List Question) → Numbered qs → 0 < first_no (with_right false qs)
refused_by_lem [] h = omega arith
refused_by_lem (ask n true ∷ qs) h = by_test (is_early n) (λ e. simp e (refused_by_lem qs h.1)) (λ e. simp e (omega arith))
refused_by_lem (ask n false ∷ qs) h = by_test (is_early n) (λ e. simp e h.0) (λ e. simp e (omega arith))

pub without_right : (w : Caller) (b : Book) (c : Call) (out : List ℕ) → has_right w c ≡ false → 0 < first_no (asks_by w b c out)
without_right w b c out r = rw r (refused_by_lem (asks b c out) (numbered b c out))

-- so where those are the same the number is
pub same_refusal : (qs qs' : List Question) → early_of qs ≡ early_of qs' → first_no (with_right false qs) ≡ first_no (with_right false qs')
same_refusal qs qs' e = stops_there qs ∙ ap (λ l. first_no (l ++ (ask 27 false ∷ []))) e ∙ sym (stops_there qs')

-- The two parts

parted : (qs : List Question) → early_of qs ++ late_of qs ≡ qs
parted [] = refl
parted (ask n c ∷ qs) = by_test (is_early n) (λ e. simp e (ap (λ l. ask n c ∷ l) (parted qs))) (λ e. simp e)

same_parts : (ps qs qs' : List Question) (n : ℕ) → first_no ps ≡ n → (n ≡ 0 → qs ≡ qs') → first_no (ps ++ qs) ≡ first_no (ps ++ qs')
same_parts ps qs qs' zero h e = ap (λ l. first_no (ps ++ l)) (e refl)
same_parts ps qs qs' (suc n) h e = no_first ps qs n h ∙ sym (no_first ps qs' n h)

-- the others count only where none of the first is answered 'no'
pub same_number : (qs qs' : List Question) → early_of qs ≡ early_of qs' → (first_no (early_of qs) ≡ 0 → late_of qs ≡ late_of qs') → first_no qs ≡ first_no qs'
same_number qs qs' e l =
    ap first_no (sym (parted qs))
    ∙ same_parts (early_of qs) (late_of qs) (late_of qs') (first_no (early_of qs)) refl l
    ∙ ap (λ ps. first_no (ps ++ late_of qs')) e
    ∙ ap first_no (parted qs')

-- Answers by their number

pub answer_number : (n : ℕ) (b : Book) (out : List ℕ) (e : Effect) → (answer n b out e).refusal ≡ n
answer_number zero b out e = refl
answer_number (suc n) b out e = refl

-- a refusal leaves the book
pub refused_book : (n : ℕ) (b : Book) (out : List ℕ) (e : Effect) → 0 < n → (answer n b out e).book ≡ b
refused_book zero b out e h = absurd (omega arith)
refused_book (suc n) b out e h = refl

-- an answer that a refusal's number says alone
pub by_refusal : {A B : Type 0} (f : ℕ → A → B) → ((n : ℕ) (t t' : A) → f (suc n) t ≡ f (suc n) t') →
    (n n' : ℕ) (t t' : A) → 0 < n → n ≡ n' → f n t ≡ f n' t'
by_refusal f same zero n' t t' z e = absurd (omega arith)
by_refusal f same (suc n) n' t t' z e = same n t t' ∙ ap (λ m. f m t') e
