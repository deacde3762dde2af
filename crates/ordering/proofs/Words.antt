-- The words of full units, lent as a list of their own.
use mathlib.Core.Path.{◌≡◌, refl, ap, ◌∙◌}
use mathlib.Core.List.{List, [], ◌∷◌, ◌++◌, map}
use Prim.Native.Nat.{ℕ, ◌-◌, ◌*◌, ◌/◌, ◌%◌, ◌≤◌}
use lib.ListN.{length, take, drop, length-map}
use lib.Seq.{length-take-le, take_at}
use Rattle.runs.specs.Runs.{part_of, full_of}
use Rattle.runs.proofs.Loops.{full_key, full_keys}

abbrev pub full_word : ℕ → ℕ
full_word k = k - k / 64 % 100000 * 64

full_words : (ks : List ℕ) → map part_of (map full_word ks) ≡ map (λ k. full_of (part_of k)) ks
full_words [] = refl
full_words (k ∷ ks) = ap (λ u. u ∷ map part_of (map full_word ks)) (full_key k) ∙ ap (λ l. full_of (part_of k) ∷ l) (full_words ks)

-- the first n words are full, the others as they were
pub full_front : (ranked fulls : List ℕ) (n : ℕ) → n ≤ length ranked → fulls ≡ map full_word (take n ranked) →
    map part_of (take n (fulls ++ drop n ranked)) ≡ map full_of (map part_of (take n ranked))
full_front ranked fulls n h f =
    let long : length fulls ≡ n = ap length f ∙ length-map (take n ranked) full_word ∙ length-take-le n ranked h in
    ap (map part_of) (take_at fulls (drop n ranked) n long ∙ f) ∙ full_words (take n ranked) ∙ full_keys (take n ranked)
