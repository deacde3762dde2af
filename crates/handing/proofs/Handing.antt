-- Units handed over one by one. What a loop keeps is said of what is left: all records from the start are the records
-- that are left from here.
use mathlib.Core.Path.{◌≡◌, refl, sym, ap, ◌∙◌}
use mathlib.Core.List.{List, [], ◌∷◌}
use Prim.Native.Nat.{ℕ, suc, ◌+◌, ◌-◌, ◌*◌, ◌≤◌, ◌<◌}
use native.Mathlib.Omega.{arith}
use lib.ListN.{length, take, length-map}
use lib.Seq.{sets, length-sets, length-take-le}
use Rattle.rules.specs.Units.{AccountLots, account_lots}
use Rattle.rules.specs.Records.{handover, words, over}
use Rattle.laws.proofs.Records.{length_words}
use Rattle.words.proofs.Stores.{sets_front}
use Rattle.handing.specs.Handing.{hand_records}

-- with `us` to come, `left` of them are still to be handed over, behind m records
pub record Handing (i m left : ℕ) (us : List AccountLots) (all o out : List ℕ) : Type 0 where
  pub there : left ≤ length us
  pub same : length out ≡ length o
  pub output : over all o ≡ sets out (2 * m) (words (hand_records i left us))

pub handing_starts : (i count : ℕ) (us : List AccountLots) (o : List ℕ) → count ≤ length us → 2 * count ≤ length o →
    Handing i 0 count us (words (hand_records i count us)) o o
handing_starts i count us o h room =
    let ws = words (hand_records i count us) in
    let l : length ws ≤ length o =
    omega (arith, length_words (hand_records i count us), length-map (take count us) (handover i), length-take-le count us h) in
    record { there = h; same = refl; output = sym (sets_front ws o l) }

module _ (i m left : ℕ) (us : List AccountLots) (all o out : List ℕ) (h : Handing i m left us all o out) where
  pub handing_more : (a x : ℕ) (vs : List AccountLots) (new : List ℕ) → 0 < left → us ≡ account_lots a x ∷ vs →
      new ≡ sets out (2 * m) (words (handover i (account_lots a x) ∷ [])) → Handing i (m + 1) (left - 1) vs all o new
  handing_more a x vs new some e n =
      let rest = words (hand_records i (left - 1) vs) in
      let f : left ≡ suc (left - 1) = omega arith in
      let g : 2 * (m + 1) ≡ suc (suc (2 * m)) = omega arith in
      record {
        there = omega (arith, h.there, ap length e);
        same = ap length n ∙ length-sets out (2 * m) (words (handover i (account_lots a x) ∷ [])) ∙ h.same;
        output = h.output ∙ ap (λ k. sets out (2 * m) (words (hand_records i k us))) f
            ∙ ap (λ l. sets out (2 * m) (words (hand_records i (suc (left - 1)) l))) e
            ∙ sym (ap (λ k. sets new k rest) g ∙ ap (λ l. sets l (suc (suc (2 * m))) rest) n);
      }

  pub handing_ends : left ≡ 0 → out ≡ over all o
  handing_ends e = sym (rw e at h.output)
