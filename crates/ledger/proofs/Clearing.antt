-- Places made 0: a column with zeros from one place to before another, where those behind are 0.
use mathlib.Core.Path.{◌≡◌, ap, ◌∙◌}
use mathlib.Core.List.{List, ◌++◌}
use Prim.Native.Nat.{ℕ, ◌+◌, ◌-◌, ◌≤◌}
use native.Mathlib.Omega.{arith}
use lib.ListN.{length, take, drop, replicate, length-take, length-drop}
use borrow.Rule.Slice.PartMut.{mid_of, post_of, Post-is}
use Rattle.std.proofs.lemmas.List.{replicate-append-replicate}
use Rattle.rules.specs.Measures.{most_entries}

pub cleared : (w n : ℕ) (c m : List ℕ) → w ≤ n → n ≤ most_entries → length c ≡ most_entries →
    drop n c ≡ replicate (most_entries - n) 0 → m ≡ replicate (length (mid_of w (n - w) c)) 0 →
    take w c ++ (m ++ post_of w (n - w) c) ≡ take w c ++ replicate (most_entries - w) 0
cleared w n c m h k l z e =
    let a : length (mid_of w (n - w) c) ≡ n - w = omega (arith, length-take (n - w) (drop w c), length-drop w c) in
    let b : (n - w) + (most_entries - n) ≡ most_entries - w = omega arith in
    ap (λ t. take w c ++ t)
    (rw (e, a, Post-is w n c h, z) (replicate-append-replicate (n - w) (most_entries - n) 0 ∙ ap (λ k. replicate k 0) b))
