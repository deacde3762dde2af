-- A unit taken out of a run, and units prepend into one: a run of the rest, and a run split in two, stand for what is left.
use mathlib.Core.Path.{◌≡◌, refl, sym, ap, ◌∙◌}
use mathlib.Core.List.{List, [], ◌∷◌, ◌++◌, append_assoc, append-nil}
use Prim.Native.Nat.{ℕ, zero, suc, ◌+◌, ◌-◌, ◌*◌, ◌/◌, ◌%◌, ◌≤◌, ◌<◌}
use native.Mathlib.Omega.{arith}
use lib.ListN.{take, drop, replicate}
use Rattle.rules.specs.Units.{AccountLots, account_lots, prepend}
use Rattle.laws.proofs.Basics.{put_pos}

-- as in units/specs/Runs
abbrev pub run_units : AccountLots → List AccountLots
run_units u = replicate (u.lots / 100000) (account_lots u.account 100000) ++ prepend u.account (u.lots % 100000) []

module _ (f : AccountLots) where
  take_fulls : (k m : ℕ) (ws : List AccountLots) → take k (replicate (k + m) f ++ ws) ≡ replicate k f
  take_fulls zero m ws = refl
  take_fulls (suc k) m ws =
      let e : suc k + m ≡ suc (k + m) = omega arith in
      rw e (ap (λ l. f ∷ l) (take_fulls k m ws))

  drop_fulls : (k m : ℕ) (ws : List AccountLots) → drop k (replicate (k + m) f ++ ws) ≡ replicate m f ++ ws
  drop_fulls zero m ws = let e : 0 + m ≡ m = omega arith in rw e
  drop_fulls (suc k) m ws = let e : suc k + m ≡ suc (k + m) = omega arith in rw e (drop_fulls k m ws)

  fulls_add : (k m : ℕ) → replicate (k + m) f ≡ replicate k f ++ replicate m f
  fulls_add zero m = let e : 0 + m ≡ m = omega arith in rw e
  fulls_add (suc k) m = let e : suc k + m ≡ suc (k + m) = omega arith in rw e (ap (λ l. f ∷ l) (fulls_add k m))

-- a run split at unit k
pub run_split : (a x k : ℕ) → k * 100000 ≤ x →
    (run_units (account_lots a (k * 100000)) ≡ take k (run_units (account_lots a x))) × (run_units (account_lots a (x - k * 100000)) ≡ drop k (run_units (account_lots a x)))
run_split a x k h =
    let f = account_lots a 100000 in
    let m = x / 100000 - k in
    let r = prepend a (x % 100000) [] in
    let q : x / 100000 ≡ k + m = omega arith in
    let e₁ : k * 100000 / 100000 ≡ k = omega arith in
    let e₂ : k * 100000 % 100000 ≡ 0 = omega arith in
    let e₃ : (x - k * 100000) / 100000 ≡ m = omega arith in
    let e₄ : (x - k * 100000) % 100000 ≡ x % 100000 = omega arith in (
      rw (e₁, e₂) (append-nil (replicate k f) ∙ sym (take_fulls f k m r) ∙ ap (λ n. take k (replicate n f ++ r)) (sym q)),
      rw (e₃, e₄) (sym (drop_fulls f k m r) ∙ ap (λ n. drop k (replicate n f ++ r)) (sym q)),
    )

-- unit k taken out: a full one
pub run_less : (a x k : ℕ) → k * 100000 + 100000 ≤ x →
    run_units (account_lots a (x - 100000)) ≡ take k (run_units (account_lots a x)) ++ drop (suc k) (run_units (account_lots a x))
run_less a x k h =
    let f = account_lots a 100000 in
    let m = x / 100000 - suc k in
    let r = prepend a (x % 100000) [] in
    let q₁ : x / 100000 ≡ k + suc m = omega arith in
    let q₂ : x / 100000 ≡ suc k + m = omega arith in
    let e₃ : (x - 100000) / 100000 ≡ k + m = omega arith in
    let e₄ : (x - 100000) % 100000 ≡ x % 100000 = omega arith in
    rw (e₃, e₄)
    (ap (λ l. l ++ r) (fulls_add f k m) ∙ append_assoc (replicate k f) (replicate m f) r
    ∙ ap (λ l. l ++ (replicate m f ++ r)) (sym (take_fulls f k (suc m) r) ∙ ap (λ n. take k (replicate n f ++ r)) (sym q₁))
    ∙ ap (λ l. take k (run_units (account_lots a x)) ++ l) (sym (drop_fulls f (suc k) m r) ∙ ap (λ n. drop (suc k) (replicate n f ++ r)) (sym q₂)))

-- or the small one
pub run_less_small : (a x k : ℕ) → k * 100000 < x → x < k * 100000 + 100000 →
    run_units (account_lots a (k * 100000)) ≡ take k (run_units (account_lots a x)) ++ drop (suc k) (run_units (account_lots a x))
run_less_small a x k h g =
    let f = account_lots a 100000 in
    let q : x / 100000 ≡ k = omega arith in
    let s : x % 100000 ≡ x - k * 100000 = omega arith in
    let e : run_units (account_lots a x) ≡ replicate (k + 0) f ++ (account_lots a (x - k * 100000) ∷ []) =
    (let z : k + 0 ≡ k = omega arith in rw (q, s, z, put_pos a (x - k * 100000) [] (omega arith))) in
    (run_split a x k (omega arith)).0 ∙ sym (append-nil (take k (run_units (account_lots a x))))
    ∙ ap (λ l. take k (run_units (account_lots a x)) ++ l) (sym (ap (drop (suc k)) e ∙ none k))
  where
    none : (k : ℕ) → drop (suc k) (replicate (k + 0) (account_lots a 100000) ++ (account_lots a (x - k * 100000) ∷ [])) ≡ []
    none k = go k (account_lots a (x - k * 100000))
      where
        go : (k : ℕ) (u : AccountLots) → drop (suc k) (replicate (k + 0) (account_lots a 100000) ++ (u ∷ [])) ≡ []
        go zero u = refl
        go (suc k) u = let e : suc k + 0 ≡ suc (k + 0) = omega arith in rw e (go k u)
