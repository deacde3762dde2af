-- One column whose places s to before e move up to place w: so far the first k of them.
use mathlib.Core.Path.{◌≡◌, refl, sym, ap, ◌∙◌}
use mathlib.Core.List.{List, [], ◌∷◌, ◌++◌, append_assoc, append-nil}
use Prim.Native.Nat.{ℕ, suc, ◌+◌, ◌-◌, ◌≤◌, ◌<◌}
use native.Mathlib.Numerals.{add-one}
use native.Mathlib.Omega.{arith}
use lib.ListN.{length, get_or, set, take, drop, length-set, length-drop}
use lib.Seq.{drop-drop, get_or-drop, take-suc, take-suc-set, drop-set-lt}
use Rattle.removing.specs.Moves.{CanMove, Moved}

pub record Moving {X : Type 0} (w s e : ℕ) (c₀ : List X) (k : ℕ) (c : List X) : Type 0 where
  pub whole : length c ≡ length c₀
  pub up : w ≤ s
  pub most : s + k ≤ e
  pub inside : e ≤ length c₀
  pub front : take (w + k) c ≡ take w c₀ ++ take k (drop s c₀)
  pub back : drop (s + k) c ≡ drop (s + k) c₀

pub moving_starts : {X : Type 0} (w s e : ℕ) (c : List X) → CanMove w s e c → Moving w s e c 0 c
moving_starts w s e c h =
    record { whole = refl; up = h.up; most = omega (arith, h.part); inside = h.inside; front = let z : w + 0 ≡ w = omega arith in rw z (sym (append-nil (take w c))); back = refl }

-- what stands at a place from which on nothing has changed
pub same_at : {X : Type 0} (d : X) (k : ℕ) (c c₀ : List X) → drop k c ≡ drop k c₀ → (j : ℕ) → k ≤ j → get_or c j d ≡ get_or c₀ j d
same_at d k c c₀ e j h =
    let z : k + (j - k) ≡ j = omega arith in
    ap (λ n. get_or c n d) (sym z)
    ∙ sym (get_or-drop k c (j - k) d)
    ∙ ap (λ l. get_or l (j - k) d) e
    ∙ get_or-drop k c₀ (j - k) d
    ∙ ap (λ n. get_or c₀ n d) z

pub same_behind : {X : Type 0} (k : ℕ) (c c₀ : List X) → drop k c ≡ drop k c₀ → (j : ℕ) → k ≤ j → drop j c ≡ drop j c₀
same_behind k c c₀ e j h =
    let z : k + (j - k) ≡ j = omega arith in
    ap (λ n. drop n c) (sym z)
    ∙ sym (drop-drop (j - k) k c)
    ∙ ap (drop (j - k)) e
    ∙ drop-drop (j - k) k c₀
    ∙ ap (λ n. drop n c₀) z

module _ {X : Type 0} {w s e : ℕ} {c₀ : List X} {k : ℕ} {c : List X} (m : Moving w s e c₀ k c) where
  pub moving_more : (v : X) → v ≡ get_or c (s + k) v → k < e - s → Moving w s e c₀ (k + 1) (set c (w + k) v)
  moving_more v q h =
      let u : get_or (drop s c₀) k v ≡ v =
      get_or-drop s c₀ k v ∙ sym (q ∙ same_at v (s + k) c c₀ m.back (s + k) (omega arith)) in
      let l : w + k < length c = omega (arith, m.whole, m.up, m.inside) in
      let a : w + (k + 1) ≡ suc (w + k) = omega arith in
      record {
        whole = length-set c (w + k) v ∙ m.whole;
        up = m.up;
        most = omega arith;
        inside = m.inside;
        front =
            rw (a, take-suc-set c (w + k) v l, m.front, add-one k)
            (append_assoc (take w c₀) (take k (drop s c₀)) (v ∷ [])
            ∙ ap (λ x. take w c₀ ++ (take k (drop s c₀) ++ (x ∷ []))) (sym u)
            ∙ ap (λ l. take w c₀ ++ l) (sym (take-suc (drop s c₀) k v (omega (arith, length-drop s c₀, m.inside)))));
        back =
            drop-set-lt (s + (k + 1)) c (w + k) v (omega (arith, m.up))
            ∙ same_behind (s + k) c c₀ m.back (s + (k + 1)) (omega arith);
      }

  pub moving_ends : e - s ≤ k → Moved w s e c₀ c
  moving_ends h =
      let z : k ≡ e - s = omega (arith, m.most) in
      let y : s + k ≡ e = omega (arith, m.most) in
      record { whole = m.whole; front = rw z at m.front; back = rw y at m.back }
