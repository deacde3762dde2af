-- The lots that a report can take, by the tests of its column and of its sub-account.
use mathlib.Core.Path.{◌≡◌, refl, ◌∙◌}
use mathlib.Core.Bool.{Bool, true, false, cond, ◌&&◌}
use mathlib.Core.List.{List}
use Prim.Native.Nat.{ℕ, ◌+◌, ◌<◌}
use native.Mathlib.Omega.{arith}
use lib.Dec.{ltb, eqb}
use lib.ListN.{length, get_or, set}
use lib.Seq.{get_or-set_same, get_or-set_other}
use borrow.Author.Tests.{ltb-false, eqb-true, eqb-false}
use Rattle.laws.proofs.Basics.{by_test}
use Rattle.laws.proofs.Scans.{and_false}
use Rattle.reports.specs.Reports.{Reports, sub_at, received_by, kept, net_receiver, eligible, size_of}

sized : (a b n : Bool) (r : ℕ) → (b ≡ false → r ≡ 0) → a ≡ true → n ≡ true → r ≡ cond (a && b && n) r 0
sized true true true r z h k = refl
sized true false true r z h k = z refl
sized true b false r z h k = absurd (let o : ◌≡◌ {A = ℕ} 0 1 = cc in omega arith)
sized false b n r z h k = absurd (let o : ◌≡◌ {A = ℕ} 0 1 = cc in omega arith)

pub size_own : (rs : Reports) (k : ℕ) → kept rs k ≡ true → net_receiver rs (sub_at rs k) ≡ true → received_by rs k ≡ size_of rs k
unfolding size_of eligible
size_own rs k h n =
    sized (kept rs k) (ltb 0 (received_by rs k)) (net_receiver rs (sub_at rs k)) (received_by rs k)
    (λ e. omega (arith, ltb-false 0 (received_by rs k) e)) h n

pub size_earlier : (rs : Reports) (k : ℕ) → kept rs k ≡ false → 0 ≡ size_of rs k
unfolding size_of eligible
size_earlier rs k h = simp h

pub size_no_receiver : (rs : Reports) (k : ℕ) → net_receiver rs (sub_at rs k) ≡ false → 0 ≡ size_of rs k
unfolding size_of eligible
size_no_receiver rs k h = simp (h, and_false)

-- a list that is filled from the front
pub fills : (f : ℕ → ℕ) (l : List ℕ) (i v : ℕ) → i < length l → v ≡ f i → ((j : ℕ) → j < i → get_or l j 0 ≡ f j) →
    (j : ℕ) → j < i + 1 → get_or (set l i v) j 0 ≡ f j
fills f l i v h e g j k =
    by_test (eqb j i)
    (λ s. let q : j ≡ i = eqb-true j i s in rw q (get_or-set_same l i v 0 h ∙ e))
    (λ d. get_or-set_other l i j v 0 (eqb-false j i d) ∙ g j (omega (arith, eqb-false j i d)))
