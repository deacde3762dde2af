-- The same delivery is that delivery; so a rearrangement of deliveries has every sum and every property of each.
use mathlib.Core.Path.{◌≡◌, refl}
use mathlib.Core.Bool.{true, ◌&&◌, false≢true}
use mathlib.Core.List.{List, [], ◌∷◌}
use Prim.Native.Nat.{ℕ}
use lib.Dec.{eqb}
use borrow.Author.Tests.{eqb-true, eq-eqb}
use Rattle.rules.specs.Measures.{total, Rearranged}
use Rattle.laws.proofs.Basics.{and_left, and_right, and_both, Every}
use Rattle.laws.proofs.Rearrangements.{total_rearranged, each_rearranged, none_left}
use Rattle.reordering.specs.Reordering.{Delivery, same_words, same}

same_words_is : (ws vs : List ℕ) → same_words ws vs ≡ true → ws ≡ vs
same_words_is [] [] h = refl
same_words_is [] (v ∷ vs) h = absurd (false≢true h)
same_words_is (w ∷ ws) [] h = absurd (false≢true h)
same_words_is (w ∷ ws) (v ∷ vs) h =
    let p = eqb-true w v (and_left (eqb w v) (same_words ws vs) h) in
    let q = same_words_is ws vs (and_right (eqb w v) (same_words ws vs) h) in
    λ j. p j ∷ q j

same_words_self : (ws : List ℕ) → same_words ws ws ≡ true
same_words_self [] = refl
same_words_self (w ∷ ws) = and_both (eqb w w) (same_words ws ws) (eq-eqb w w refl) (same_words_self ws)

pub same_is : (c d : Delivery) → same c d ≡ true → c ≡ d
same_is c d h =
    let h₁ = eqb c.issue d.issue in
    let h₂ = eqb c.account d.account in
    let h₃ = eqb c.lots d.lots in
    let h₄ = same_words c.out d.out in
    let l₃ = and_left (h₁ && h₂ && h₃) h₄ h in
    let l₂ = and_left (h₁ && h₂) h₃ l₃ in
    let p = eqb-true c.issue d.issue (and_left h₁ h₂ l₂) in
    let q = eqb-true c.account d.account (and_right h₁ h₂ l₂) in
    let r = eqb-true c.lots d.lots (and_right (h₁ && h₂) h₃ l₃) in
    let s = same_words_is c.out d.out (and_right (h₁ && h₂ && h₃) h₄ h) in
    λ j. record { issue = p j; account = q j; lots = r j; out = s j }

pub same_self : (d : Delivery) → same d d ≡ true
same_self d =
    let h₁ = eqb d.issue d.issue in
    let h₂ = eqb d.account d.account in
    let h₃ = eqb d.lots d.lots in
    let e₁ : h₁ ≡ true = eq-eqb d.issue d.issue refl in
    let e₂ : h₂ ≡ true = eq-eqb d.account d.account refl in
    let e₃ : h₃ ≡ true = eq-eqb d.lots d.lots refl in
    and_both (h₁ && h₂ && h₃) (same_words d.out d.out) (and_both (h₁ && h₂) h₃ (and_both h₁ h₂ e₁ e₂) e₃)
    (same_words_self d.out)

pub sum_same : (f : Delivery → ℕ) (cs ds : List Delivery) → Rearranged same cs ds → total f cs ≡ total f ds
sum_same f cs ds r = total_rearranged same same_is same_self f cs ds r

pub each_same : (P : Delivery → Type 0) (cs ds : List Delivery) → Rearranged same cs ds → Every P cs → Every P ds
each_same P cs ds r ps = each_rearranged same same_is same_self P cs ds r ps

pub none_same : (ds : List Delivery) → Rearranged same [] ds → [] ≡ ds
none_same ds r = none_left same same_is same_self ds r
