-- An issue's words of lifts, at their places in the column; one lift more put into them is the definition's.
use mathlib.Core.Path.{◌≡◌, ap, ◌∙◌}
use mathlib.Core.List.{List}
use Prim.Native.Nat.{ℕ, ◌+◌, ◌*◌}
use native.Mathlib.Omega.{arith}
use native.Mathlib.Nat.{add-zero}
use lib.Dec.{lit<}
use lib.ListN.{get_or, set, drop}
use lib.Seq.{get_or-take, get_or-drop}
use Rattle.rules.specs.Lifts.{lift_of}
use Rattle.rules.specs.Book.{lift_number, count_at}
use Rattle.rules.specs.Calls.{with_lift}

pub number_at : (lifts : List ℕ) (i : ℕ) → lift_number lifts i ≡ get_or lifts (i * 18) 0
number_at lifts i =
    get_or-take 18 (drop (i * 18) lifts) 0 0 (lit< tt) ∙ get_or-drop (i * 18) lifts 0 0 ∙ ap (λ k. get_or lifts k 0) (add-zero (i * 18))

pub count_at_lem : (lifts : List ℕ) (i : ℕ) → count_at lifts i ≡ get_or lifts (i * 18 + 1) 0
count_at_lem lifts i = get_or-take 18 (drop (i * 18) lifts) 1 0 (lit< tt) ∙ get_or-drop (i * 18) lifts 1 0

pub put_lift : (lifts : List ℕ) (i old new : ℕ) →
    let n = get_or lifts (i * 18) 0 in
    let at = i * 18 + 2 * n + 2 in
    set (set (set (set lifts (i * 18 + 1) (get_or lifts (i * 18 + 1) 0 + 1)) (i * 18) (n + 1)) at old) (at + 1) new
    ≡ with_lift lifts i (lift_of old new)
put_lift lifts i old new =
    let n = get_or lifts (i * 18) 0 in
    let e₀ : i * 18 + 0 ≡ i * 18 = omega arith in
    let e₂ : i * 18 + (2 * n + 2) ≡ i * 18 + 2 * n + 2 = omega arith in
    let e₃ : i * 18 + (2 * n + 3) ≡ i * 18 + 2 * n + 2 + 1 = omega arith in
    rw (number_at lifts i, count_at_lem lifts i, e₀, e₂, e₃)
