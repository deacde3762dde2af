-- Columns filled from the front.
use mathlib.Core.Path.{◌≡◌, refl, sym, ap, ◌∙◌}
use mathlib.Core.List.{List, [], ◌∷◌}
use Prim.Native.Nat.{ℕ, suc, ◌+◌, ◌-◌, ◌*◌, ◌/◌, ◌≤◌, ◌<◌, min}
use native.Mathlib.Omega.{arith}
use native.Mathlib.Nat.{mul-zero, div-mul-le_self, mul-le-mul_right}
use lib.Dec.{eqb}
use lib.ListN.{length, get_or, set}
use lib.Seq.{get_or-set_same, get_or-set_other, ext_get_or}
use borrow.Author.Tests.{eqb-true, eqb-false}
use Rattle.rules.specs.Fails.{undelivered}
use Rattle.laws.proofs.Basics.{by_test}
use Rattle.laws.proofs.Fails.{get_or_shorts}
use Rattle.simulation.specs.Repeated.{plus_times}
use Rattle.simulation.proofs.Leaps.{length_plus, get_or_plus}

pub filled : (l : List ℕ) (c v : ℕ) (f : ℕ → ℕ) → c < length l → ((b : ℕ) → b < c → get_or l b 0 ≡ f b) → v ≡ f c →
    (b : ℕ) → b < c + 1 → get_or (set l c v) b 0 ≡ f b
filled l c v f k h e b lt =
    by_test (eqb b c)
    (λ t. let q = eqb-true b c t in ap (λ n. get_or (set l c v) n 0) q ∙ get_or-set_same l c v 0 k ∙ e ∙ sym (ap f q))
    (λ t. let ne = eqb-false b c t in get_or-set_other l c b v 0 ne ∙ h b (omega (arith, ne)))

pub behind : (l : List ℕ) (c v : ℕ) (g : ℕ → ℕ) → ((b : ℕ) → c ≤ b → get_or l b 0 ≡ g b) → (b : ℕ) → c + 1 ≤ b → get_or (set l c v) b 0 ≡ g b
behind l c v g h b le = get_or-set_other l c b v 0 (λ e. absurd (omega arith)) ∙ h b (omega arith)

pub length_less : (us bs : List ℕ) → length us ≡ length bs → length (undelivered us bs) ≡ length bs
length_less [] [] h = refl
length_less [] (b ∷ bs) h = absurd (omega arith)
length_less (a ∷ us) [] h = absurd (omega arith)
length_less (a ∷ us) (b ∷ bs) h = ap suc (length_less us bs (omega arith))

pub changed : (xs us bs : List ℕ) (c : ℕ) → length us ≡ length bs → length xs ≡ length bs → length bs ≤ c →
    ((b : ℕ) → b < c → get_or xs b 0 ≡ get_or us b 0 - get_or bs b 0) → xs ≡ undelivered us bs
changed xs us bs c la lx le h =
    ext_get_or 0 xs (undelivered us bs) (lx ∙ sym (length_less us bs la))
    (λ b k. h b (omega (arith, lx)) ∙ sym (get_or_shorts us bs b la))

pub advanced : (k : ℕ) (xs ds es : List ℕ) (c : ℕ) → length es ≡ length ds → length ds ≤ c →
    ((b : ℕ) → b < c → get_or es b 0 ≡ get_or ds b 0 + k * get_or xs b 0) → es ≡ plus_times k xs ds
advanced k xs ds es c l le h =
    ext_get_or 0 es (plus_times k xs ds) (l ∙ sym (length_plus k xs ds))
    (λ b q. h b (omega (arith, l)) ∙ sym (get_or_plus k xs ds b (omega (arith, l))))

pub room_fewer : (k r x o : ℕ) → r ≤ k → k * x ≤ o → r * x ≤ o
room_fewer k r x o le h = omega (arith, mul-le-mul_right x le, h)
