-- One way to reason about every call: either all questions were answered 'yes' and it does what it does, or it was
-- refused and nothing changed.
use mathlib.Core.Path.{◌≡◌, refl, sym, ap, ◌∙◌}
use mathlib.Core.Bool.{Bool, true, false, cond, false≢true}
use mathlib.Core.List.{List, [], ◌∷◌, ◌++◌}
use Prim.Native.Nat.{ℕ, zero, suc, ◌≤◌, ◌<◌}
use native.Mathlib.Omega.{arith}
use lib.Dec.{leb}
use lib.ListN.{length, get_or, take}
use borrow.Author.Tests.{le-leb, lt-leb}
use Rattle.rules.specs.declared.Book.{Book}
use Rattle.rules.specs.Measures.{output_words}
use Rattle.rules.specs.Book.{sound}
use Rattle.rules.specs.Questions.{Question, ask, first_no, ask_output, ask_sound}
use Rattle.rules.specs.Calls.{Call, Trade, Close, Deliver, Ask, Commit, Cutoff, Resolve, PairOff, Roll, Mark, Turn, Answer, Effect, answer, lends, HasRoom, own_asks, asks, effect, called}

-- The first 'no' of a list

-- no question is answered 'no': the first is answered 'yes', and so are the others
pub record Yes (b : Bool) (qs : List Question) : Type 0 where
  pub first : b ≡ true
  pub others : first_no qs ≡ 0

pub yes : (n : ℕ) (b : Bool) (qs : List Question) → first_no (ask (suc n) b ∷ qs) ≡ 0 → Yes b qs
yes n true qs h = record { first = refl; others = h }
yes n false qs h = absurd (omega arith)

-- the first question answered
pub said_yes : (n : ℕ) (b : Bool) (qs : List Question) → b ≡ true → first_no (ask n b ∷ qs) ≡ first_no qs
said_yes n true qs e = refl
said_yes n false qs e = absurd (let o : ◌≡◌ {A = ℕ} 0 1 = cc in omega arith)

pub said_no : (n : ℕ) (b : Bool) (qs : List Question) → b ≡ false → first_no (ask n b ∷ qs) ≡ n
said_no n true qs e = absurd (let o : ◌≡◌ {A = ℕ} 0 1 = cc in omega arith)
said_no n false qs e = refl

-- every question answered 'yes'
abbrev pub AllYes : List Question → Type 0
AllYes [] = Unit {0}
AllYes (ask n c ∷ qs) = (c ≡ true) × AllYes qs

-- every question has a number
abbrev pub Numbered : List Question → Type 0
Numbered [] = Unit {0}
Numbered (ask n c ∷ qs) = (0 < n) × Numbered qs

-- a question's number, and that it is answered 'no'
abbrev number_of : Question → ℕ
number_of (ask n c) = n

abbrev is_no : Question → Type 0
is_no (ask n c) = c ≡ false

-- questions put in turn: the k-th is the first 'no' where those before it are answered 'yes'
pub stops : (k : ℕ) (qs : List Question) → AllYes (take k qs) → is_no (get_or qs k (ask 0 true)) → number_of (get_or qs k (ask 0 true)) ≡ first_no qs
stops zero [] y h = absurd (false≢true (sym h))
stops zero (ask n c ∷ qs) y h = sym (said_no n c qs h)
stops (suc k) [] y h = absurd (false≢true (sym h))
stops (suc k) (ask m d ∷ qs) y h = stops k qs y.1 h ∙ sym (said_yes m d qs y.0)

-- there is none where all are, and all are where there is none
pub no_no : (qs : List Question) → AllYes qs → 0 ≡ first_no qs
no_no [] y = refl
no_no (ask m d ∷ qs) y = no_no qs y.1 ∙ sym (said_yes m d qs y.0)

pub all_yes : (qs : List Question) → Numbered qs → first_no qs ≡ 0 → AllYes qs
all_yes [] ks h = tt
all_yes (ask m true ∷ qs) ks h = (refl, all_yes qs ks.1 h)
all_yes (ask m false ∷ qs) ks h = absurd (omega arith)

-- a 'no' among the first questions is the first 'no' of all
pub no_first : (ps qs : List Question) (n : ℕ) → first_no ps ≡ suc n → first_no (ps ++ qs) ≡ suc n
no_first [] qs n h = absurd (omega arith)
no_first (ask m true ∷ ps) qs n h = no_first ps qs n h
no_first (ask m false ∷ ps) qs n h = h

-- Either way

either_way : (P : Answer → Type 0) (qs : List Question) (b : Book) (out : List ℕ) (e : Effect) → Numbered qs →
    (AllYes qs → P (answer 0 b out e)) → ((r : ℕ) → P (answer (suc r) b out e)) → P (answer (first_no qs) b out e)
either_way P [] b out e ks y n = y tt
either_way P (ask k true ∷ qs) b out e ks y n = either_way P qs b out e ks.1 (λ ys. y (refl, ys)) n
either_way P (ask zero false ∷ qs) b out e ks y n = absurd (omega arith)
either_way P (ask (suc k) false ∷ qs) b out e ks y n = n k

pub numbered : (b : Book) (c : Call) (out : List ℕ) → Numbered (asks b c out)
numbered b (Trade i f t x) out = omega arith
numbered b Close out = omega arith
numbered b (Deliver i a x) out = omega arith
numbered b (Ask i k) out = omega arith
numbered b (Commit t) out = omega arith
numbered b Cutoff out = omega arith
numbered b (Resolve i a x) out = omega arith
numbered b (PairOff i a) out = omega arith
numbered b (Roll days rate quotes) out = omega arith
numbered b (Mark i m) out = omega arith
numbered b (Turn d) out = omega arith

-- a property of a call's answer: of what it does where all is answered 'yes', and of every refusal
pub by_answer : (P : Answer → Type 0) (b : Book) (c : Call) (out : List ℕ) → (AllYes (asks b c out) → P (answer 0 b out (effect b c))) →
    ((r : ℕ) → P (answer (suc r) b out (effect b c))) → P (called b c out)
unfolding called
by_answer P b c out y n = either_way P (asks b c out) b out (effect b c) (numbered b c out) y n

-- By its number

-- question 1, asked or not
abbrev pub asked_of : Bool → List ℕ → List Question
asked_of l out = cond l (ask_output output_words out ∷ []) []

-- an output that is long enough has room for any call
room_if : (l : Bool) (out : List ℕ) → output_words ≤ length out → first_no (asked_of l out) ≡ 0
room_if true out h = said_yes 1 (leb output_words (length out)) [] (le-leb output_words (length out) h)
room_if false out h = refl

pub has_room : (c : Call) (out : List ℕ) → output_words ≤ length out → HasRoom c out
has_room c out h = room_if (lends c) out h

-- where it is answered 'yes' the others are asked
pub room : (l : Bool) (out : List ℕ) (qs : List Question) → first_no (asked_of l out) ≡ 0 → first_no (asked_of l out ++ qs) ≡ first_no qs
room true out qs h = said_yes 1 (leb output_words (length out)) qs (yes 0 (leb output_words (length out)) [] h).first
room false out qs h = refl

-- a sound book and enough room leave the call's own questions
pub own_first : (b : Book) (c : Call) (out : List ℕ) → HasRoom c out → sound b ≡ true → first_no (asks b c out) ≡ first_no (own_asks b c)
own_first b c out h s = room (lends c) out (ask_sound b ∷ own_asks b c) h ∙ said_yes 2 (sound b) (own_asks b c) s

pub unsound_first : (b : Book) (c : Call) (out : List ℕ) → HasRoom c out → sound b ≡ false → first_no (asks b c out) ≡ 2
unsound_first b c out h s = room (lends c) out (ask_sound b ∷ own_asks b c) h ∙ said_no 2 (sound b) (own_asks b c) s

pub short_first : (b : Book) (qs : List Question) (out : List ℕ) → length out < output_words →
    first_no (ask 1 (leb output_words (length out)) ∷ qs) ≡ 1
short_first b qs out h = said_no 1 (leb output_words (length out)) qs (lt-leb output_words (length out) h)

-- a call that is refused, by its number, and one that is not
pub refused_as : (b : Book) (c : Call) (out : List ℕ) (n : ℕ) → first_no (asks b c out) ≡ suc n → called b c out ≡ answer (suc n) b out (effect b c)
unfolding called
refused_as b c out n h = ap (λ k. answer k b out (effect b c)) h

pub accepted_as : (b : Book) (c : Call) (out : List ℕ) → first_no (asks b c out) ≡ 0 → called b c out ≡ answer 0 b out (effect b c)
unfolding called
accepted_as b c out h = ap (λ k. answer k b out (effect b c)) h
