-- What is read as an instruction is a head with all its words: nothing was wrong of them, so none was missing.
use mathlib.Core.Path.{◌≡◌, refl, ap}
use mathlib.Core.List.{List, [], ◌∷◌}
use Prim.Native.Nat.{ℕ, zero, suc, ◌-◌, ◌≤◌}
use native.Mathlib.Omega.{arith}
use lib.ListN.{length, get_or}
use Rattle.rules.specs.declared.Instruction.{Instruction}
use Rattle.std.specs.Prelude.{Option, Some, None, Ok}
use Rattle.rules.specs.declared.Word.{Word}
use Rattle.rules.specs.declared.Word.TheVariants.{Head, After}
use Rattle.rules.specs.Records.{lots_bits, of_field}
use Rattle.rules.specs.Tape.{kind_of, kind_at, word_as, is_after, words_wrong, read_as, read_from, read_of}
use Rattle.laws.proofs.Basics.{by_test}
use Rattle.rereading.proofs.Table.{HeadIs, head_is}

-- words that are asked and not wrong are there
right_length : (k n : ℕ) (ws : List ℕ) → 0 ≡ words_wrong k n ws → n ≤ length ws
right_length k zero ws e = omega arith
right_length k (suc n) [] e = absurd (omega arith)
right_length k (suc n) (w ∷ ws) e =
    by_test (is_after k (word_as w 0))
    (λ t. let h = right_length k n ws (simp t at e) in omega arith)
    (λ t. let z : ◌≡◌ {A = ℕ} 0 14 = simp t at e in absurd (omega arith))

-- what is read: the instruction of the head's line, with its words
pub record ReadIs (w : ℕ) (rest : List ℕ) (x : Instruction) (n : ℕ) : Type 0 where
  pub follows : ℕ
  pub first : HeadIs (kind_at (kind_of w)) w (of_field lots_bits (get_or rest 0 0)) x follows n
  pub right : 0 ≡ words_wrong follows first.follow rest

not_wrong : (r : ℕ) (y x : Instruction) (m n : ℕ) → read_as r y m ≡ Ok (x, n) → (0 ≡ r) × (y ≡ x) × (m ≡ n)
not_wrong zero y x m n e =
    let p : ◌≡◌ {A = Instruction × ℕ} (y, m) (x, n) = cc in
    (refl, ap (λ (q : Instruction × ℕ). q.0) p, ap (λ (q : Instruction × ℕ). q.1) p)
not_wrong (suc r) y x m n e = let z : ◌≡◌ {A = ℕ} 0 1 = cc in absurd (omega arith)

from_head : (f : Option Word) (w : ℕ) (rest : List ℕ) (x : Instruction) (n : ℕ) → word_as w (of_field lots_bits (get_or rest 0 0)) ≡ f →
    read_from f rest ≡ Ok (x, n) → ReadIs w rest x n
from_head (Some (Head y k m)) w rest x n h e =
    let r = not_wrong (words_wrong k (m - 1) rest) y x m n e in
    let g = head_is (kind_at (kind_of w)) w (of_field lots_bits (get_or rest 0 0)) x k n (rw (r.1, r.2) at h) in
    let c : m - 1 ≡ g.follow = omega (arith, g.count, r.2) in
    record { follows = k; first = g; right = rw c at r.0 }
from_head (Some (After k)) w rest x n h e = let z : ◌≡◌ {A = ℕ} 0 1 = cc in absurd (omega arith)
from_head None w rest x n h e = let z : ◌≡◌ {A = ℕ} 0 1 = cc in absurd (omega arith)

pub read_is : (w : ℕ) (rest : List ℕ) (x : Instruction) (n : ℕ) → read_of (w ∷ rest) ≡ Ok (x, n) → ReadIs w rest x n
unfolding read_of
read_is w rest x n e = from_head _ w rest x n refl e

-- an instruction has a word at least, and at most the words there are
pub read_sized : (ws : List ℕ) (x : Instruction) (n : ℕ) → read_of ws ≡ Ok (x, n) → (1 ≤ n) × (n ≤ length ws)
unfolding read_of
read_sized [] x n e = let z : ◌≡◌ {A = ℕ} 0 1 = cc in absurd (omega arith)
read_sized (w ∷ rest) x n e =
    let r = read_is w rest x n e in
    let c = r.first.count in
    let l = right_length r.follows r.first.follow rest r.right in
    (omega arith, omega arith)
