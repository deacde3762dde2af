-- The table of kinds: what holds of each of its lines holds of every kind; and what a word taken as a head, or as a word
-- after one, says of its line.
use mathlib.Core.Path.{◌≡◌, sym, subst}
use mathlib.Core.Bool.{true, false≢true}
use mathlib.Core.List.{List, [], ◌∷◌}
use Prim.Native.Nat.{ℕ, ◌+◌}
use native.Mathlib.Omega.{arith}
use borrow.Author.Tests.{eqb-true}
use lib.Dec.{eqb}
use Rattle.rules.specs.declared.Instruction.{Instruction}
use Rattle.std.specs.Prelude.{Some}
use Rattle.rules.specs.declared.Word.TheVariants.{Head}
use Rattle.rules.specs.Records.{Field, of_field}
use Rattle.rules.specs.Tape.{kind_of, Kind, head, after, none, Line, kind, kinds, kind_in, kind_at, clear, as_kind, is_after}
use Rattle.laws.proofs.Basics.{by_test}

abbrev Each : (ℕ → Kind → Type 0) → List Line → Type 0
Each P [] = Unit {0}
Each P (kind n K ∷ ls) = P n K × Each P ls

each : (P : ℕ → Kind → Type 0) (ls : List Line) → Each P ls → ((k : ℕ) → P k none) → (k : ℕ) → P k (kind_in ls k)
each P [] h d k = d k
each P (kind n K ∷ ls) h d k =
    by_test (eqb k n) (λ t. rw t (subst (λ (j : ℕ). P j K) (sym (eqb-true k n t)) h.0)) (λ t. rw t (each P ls h.1 d k))

pub by_kind : (P : ℕ → Kind → Type 0) → ((k : ℕ) → P k none) → ((k : ℕ) (u : Field) → P k (after u)) →
    P 1 (kind_at 1) → P 2 (kind_at 2) → P 3 (kind_at 3) → P 4 (kind_at 4) → P 5 (kind_at 5) → P 6 (kind_at 6) → P 7 (kind_at 7) → P 13 (kind_at 13) → P 14 (kind_at 14) →
    (k : ℕ) → P k (kind_at k)
by_kind P n f h1 h2 h3 h4 h5 h6 h7 h13 h14 k =
    each P kinds (h1, (h2, (h3, (h4, (h5, (h6, (h7, (f 8 _, (f 9 _, (h13, (h14, tt))))))))))) n k

-- the line of a word that is taken as a head
pub record HeadIs (K : Kind) (w x : ℕ) (y : Instruction) (k n : ℕ) : Type 0 where
  pub unused : Field
  pub follow : ℕ
  pub instruction : ℕ → ℕ → Instruction
  pub line : K ≡ head unused follow k instruction
  pub clears : of_field unused w ≡ 0
  pub is : y ≡ instruction w x
  pub count : n ≡ 1 + follow

pub head_is : (K : Kind) (w x : ℕ) (y : Instruction) (k n : ℕ) → as_kind K w x ≡ Some (Head y k n) → HeadIs K w x y k n
head_is (head u m j f) w x y k n e =
    by_test (clear u w)
    (λ t.
    let h = simp t at e in
    record {
      unused = u;
      follow = m;
      instruction = f;
      line = cc;
      clears = eqb-true (of_field u w) 0 t;
      is = cc;
      count = cc;
    })
    (λ t. let h = simp t at e in let z : ◌≡◌ {A = ℕ} 0 1 = cc in absurd (omega arith))
head_is (after u) w x y k n e =
    by_test (clear u w)
    (λ t. let h = simp t at e in let z : ◌≡◌ {A = ℕ} 0 1 = cc in absurd (omega arith))
    (λ t. let h = simp t at e in let z : ◌≡◌ {A = ℕ} 0 1 = cc in absurd (omega arith))
head_is none w x y k n e = let z : ◌≡◌ {A = ℕ} 0 1 = cc in absurd (omega arith)

-- the bits that a line says are unused
abbrev pub Clears : Kind → ℕ → Type 0
Clears (head u m k f) w = of_field u w ≡ 0
Clears (after u) w = of_field u w ≡ 0
Clears none w = Unit {0}

-- a word that is taken as one of kind k after a head
pub after_is : (K : Kind) (w x k : ℕ) → is_after k (as_kind K w x) ≡ true → (kind_of w ≡ k) × Clears K w
after_is (head u m j f) w x k e =
    by_test (clear u w) (λ t. absurd (false≢true (simp t at e))) (λ t. absurd (false≢true (simp t at e)))
after_is (after u) w x k e =
    by_test (clear u w)
    (λ t. (eqb-true (kind_of w) k (simp t at e), eqb-true (of_field u w) 0 t))
    (λ t. absurd (false≢true (simp t at e)))
after_is none w x k e = absurd (false≢true e)
