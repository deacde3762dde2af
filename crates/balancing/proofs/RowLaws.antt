-- The scan of nets and delivered lots: bounds, the balance of each issue, what is delivered.
use mathlib.Core.Path.{◌≡◌, refl, ap, sym, ◌∙◌}
use mathlib.Core.Bool.{Bool, true, false, ◌&&◌}
use mathlib.Core.List.{List, [], ◌∷◌, map}
use Prim.Native.Nat.{ℕ, zero, suc, ◌+◌, ◌*◌, ◌≤◌, ◌<◌}
use native.Mathlib.Omega.{arith}
use lib.Dec.{leb}
use lib.ListN.{length, take, drop}
use lib.Seq.{drop-drop}
use lib.IntN.{ℤ, nat_abs}
use Rattle.rules.specs.Measures.{most_lots, sum, due_of, owed_of}
use Rattle.rules.specs.Book.{all, row, balanced, within_size, within_owed}
use Rattle.laws.proofs.Basics.{each_take, each_drop}
use Rattle.laws.proofs.Sound.{all_each, each_all}
use Rattle.laws.proofs.Cells.{length_row}
use Rattle.laws.proofs.Scans.{and_assoc, rest_of_issues}
use Rattle.balancing.specs.Scan.{all_balanced, nets_sound, RowWithin}

-- What is delivered, issue by issue

within_none : (ns : List ℤ) → within_owed ns [] ≡ true
within_none [] = refl
within_none (n ∷ ns) = refl

within_split : (n : ℕ) (ns : List ℤ) (ds : List ℕ) →
    within_owed ns ds ≡ within_owed (take n ns) (take n ds) && within_owed (drop n ns) (drop n ds)
within_split zero ns ds = refl
within_split (suc n) [] ds = refl
within_split (suc n) (x ∷ ns) [] = sym (within_none (drop n ns))
within_split (suc n) (x ∷ ns) (d ∷ ds) =
    ap (λ t. leb d (owed_of x) && t) (within_split n ns ds)
    ∙ sym (and_assoc (leb d (owed_of x)) (within_owed (take n ns) (take n ds)) (within_owed (drop n ns) (drop n ds)))

next_row {ℓ} : {A : Type ℓ} (i : ℕ) (xs : List A) → drop 64 (drop (i * 64) xs) ≡ drop ((i + 1) * 64) xs
next_row i xs = let e : i * 64 + 64 ≡ (i + 1) * 64 = omega arith in drop-drop 64 (i * 64) xs ∙ ap (λ m. drop m xs) e

pub owed_row : (ns : List ℤ) (ds : List ℕ) (i : ℕ) (g r whole : Bool) → r ≡ within_owed (row i ns) (row i ds) →
    g && within_owed (drop (i * 64) ns) (drop (i * 64) ds) ≡ whole →
    (g && r) && within_owed (drop ((i + 1) * 64) ns) (drop ((i + 1) * 64) ds) ≡ whole
owed_row ns ds i g r whole er e =
    rw (er, ← next_row i ns, ← next_row i ds)
    (and_assoc g (within_owed (row i ns) (row i ds)) _
    ∙ ap (λ t. g && t) (sym (within_split 64 (drop (i * 64) ns) (drop (i * 64) ds))) ∙ e)

-- The signed sum of an issue's nets, or of the charges

-- the sum of the numbers before a, each no larger than `largest`, with those from a on, is in balance as all are
pub record Summed (largest : ℕ) (ns : List ℤ) (a : ℕ) (z : ℤ) : Type 0 where
  pub most : a ≤ 64
  pub size : nat_abs z ≤ largest * a
  pub parts : due_of z + sum (map due_of (drop a ns)) + sum (map owed_of ns) ≡ owed_of z + sum (map owed_of (drop a ns)) + sum (map due_of ns)

-- The issues

pub row_within : (ns : List ℤ) (i : ℕ) → length ns ≡ 1024 → all (within_size most_lots) ns ≡ true → i < 16 → RowWithin (row i ns)
row_within ns i n h k =
    let P : ℤ → Type 0 = λ m. within_size most_lots m ≡ true in
    record {
      accounts = length_row ns i n k;
      size = each_all (within_size most_lots) (row i ns) (each_take P 64 (drop (i * 64) ns) (each_drop P (i * 64) ns (all_each (within_size most_lots) ns h)));
    }

pub balance_start : (ns : List ℤ) → rest_of_issues (λ i. balanced (row i ns)) 0 ≡ all_balanced ns
unfolding all_balanced
balance_start ns = refl

-- All of them

pub nets_out : (ns : List ℤ) (ds : List ℕ) → all (within_size most_lots) ns ≡ false → false ≡ nets_sound ns ds
unfolding nets_sound
nets_out ns ds e = rw e refl

pub nets_in : (ns : List ℤ) (ds : List ℕ) (b o : Bool) → all (within_size most_lots) ns ≡ true → b ≡ all_balanced ns → o ≡ within_owed ns ds →
    b && o ≡ nets_sound ns ds
unfolding nets_sound all_balanced
nets_in ns ds b o e eb eo = rw (eb, eo, e) refl
