-- The questions before a body is read.
use mathlib.Core.Path.{◌≡◌, refl, ap}
use mathlib.Core.Bool.{Bool, true, false, ◌&&◌}
use mathlib.Core.List.{List}
use Prim.Native.Nat.{ℕ, ◌+◌, ◌*◌, ◌<◌, ◌/◌, ◌%◌}
use native.Mathlib.Omega.{arith}
use borrow.Author.Tests.{eq-eqb, ne_eqb, eqb-true}
use lib.Dec.{eqb}
use lib.ListN.{length, get_or, drop}
use Rattle.rules.specs.Book.{all}
use Rattle.rules.specs.Questions.{first_no}
use Rattle.laws.proofs.Basics.{and_both}
use Rattle.laws.proofs.Answers.{stops, no_no}
use Rattle.checksums.specs.Sums.{word_size, below, weighted}
use Rattle.checksums.proofs.Bounds.{all_words}
use Rattle.snapshots.specs.declared.Fault.{Fault}
use Rattle.snapshots.specs.declared.Fault.TheVariants as fault
use Rattle.snapshots.specs.Faults.{fault_number}
use Rattle.snapshots.specs.Snapshot.{version, snapshot_words, seal_questions}

-- a fault has a number of 1 or more
pub some_fault : (f : Fault) → fault_number f ≡ 0 → ⊥
some_fault fault.Length z = absurd (omega (arith, z))
some_fault fault.Version z = absurd (omega (arith, z))
some_fault fault.Checksum z = absurd (omega (arith, z))
some_fault fault.Field z = absurd (omega (arith, z))
some_fault fault.Unsound z = absurd (omega (arith, z))

both_false : (a b : Bool) → (a ≡ true → b ≡ true → ⊥) → a && b ≡ false
both_false false b h = refl
both_false true false h = refl
both_false true true h = absurd (h refl refl)

module _ (ws : List ℕ) where
  pub not_long : (length ws ≡ snapshot_words → ⊥) → 1 ≡ first_no (seal_questions ws)
  unfolding seal_questions
  not_long h =
      stops 0 (seal_questions ws) tt
      (ap (λ t. t && all (below word_size) ws) (ne_eqb (length ws) snapshot_words h))

  module _ (n : length ws ≡ snapshot_words) (g : (k : ℕ) → get_or ws k 0 < word_size) where
    long : eqb (length ws) snapshot_words && all (below word_size) ws ≡ true
    long =
        and_both (eqb (length ws) snapshot_words) (all (below word_size) ws) (eq-eqb (length ws) snapshot_words n)
        (all_words ws g)

    pub not_version : (get_or ws 0 0 ≡ version → ⊥) → 2 ≡ first_no (seal_questions ws)
    unfolding seal_questions
    not_version h = stops 1 (seal_questions ws) (long, tt) (ne_eqb (get_or ws 0 0) version h)

    module _ (v : get_or ws 0 0 ≡ version) where
      pub not_sealed : (get_or ws 1 0 + word_size * get_or ws 2 0 ≡ weighted (drop 3 ws) → ⊥) → 3 ≡ first_no (seal_questions ws)
      unfolding seal_questions
      not_sealed h =
          let t = weighted (drop 3 ws) in
          stops 2 (seal_questions ws) (long, (eq-eqb (get_or ws 0 0) version v, tt))
          (both_false (eqb (get_or ws 1 0) (t % word_size)) (eqb (get_or ws 2 0) (t / word_size))
          (λ a b. h (omega (arith, eqb-true (get_or ws 1 0) (t % word_size) a, eqb-true (get_or ws 2 0) (t / word_size) b))))

      pub is_sealed : get_or ws 1 0 + word_size * get_or ws 2 0 ≡ weighted (drop 3 ws) → 0 ≡ first_no (seal_questions ws)
      unfolding seal_questions
      is_sealed h =
          let t = weighted (drop 3 ws) in
          no_no (seal_questions ws) (
            long,
            (
              eq-eqb (get_or ws 0 0) version v,
              (
                and_both (eqb (get_or ws 1 0) (t % word_size)) (eqb (get_or ws 2 0) (t / word_size))
                    (eq-eqb (get_or ws 1 0) (t % word_size) (omega (arith, h, g 1)))
                    (eq-eqb (get_or ws 2 0) (t / word_size) (omega (arith, h, g 1))),
                tt,
              ),
            ),
          )
