-- What waits of an issue's units after more lots, and where nothing is kept yet.
use mathlib.Core.Path.{◌≡◌, sym, ap, ◌∙◌}
use mathlib.Core.List.{List, ◌++◌}
use Prim.Native.Nat.{ℕ, ◌+◌, ◌-◌, ◌≤◌}
use native.Mathlib.Omega.{arith}
use lib.ListN.{length, take, drop, length-append}
use lib.Seq.{take-append_seam, drop-append-add, drop-drop, length-take-le}
use Rattle.std.proofs.lemmas.Slice.{take-put_mid}
use Rattle.std.proofs.lemmas.List.{drop-take}
use borrow.Rule.Slice.PartMut.{put_mid, same_len_mid, mid_len}
use Rattle.rules.specs.Units.{AccountLots}
use Rattle.laws.proofs.Handover.{covered_more, stock_more}
use Rattle.waiting.specs.declared.Kept.{Kept}
use Rattle.gathering.specs.declared.Waiting.{Waiting}
use Rattle.gathering.specs.Gathering.{HandsOn}
use Rattle.waiting.specs.Waiting.{Ready, Keeps}
use Rattle.rules.specs.Handover.{covered, stock, waiting}
use Rattle.runs.specs.Runs.{units_of_words}

-- What waits after more lots

waits_more : (us : List AccountLots) (d x : ℕ) → waiting us (d + x) ≡ waiting (waiting us d) (stock us d + x)
waits_more us d x =
    ap (λ n. drop n us) (covered_more us d x) ∙ sym (drop-drop (covered (waiting us d) (stock us d + x)) (covered us d) us)

-- the runs behind those that were handed, in their places
kept_runs : (runs new : List ℕ) (first number r : ℕ) → first ≤ number → number ≤ length runs → length new ≡ number - first →
    drop (first + r) (take number (put_mid first (number - first) runs new)) ≡ drop r new
kept_runs runs new first number r h k e =
    let l = length-take-le first runs (omega arith) in
    ap (drop (first + r)) (take-put_mid first (number - first) runs new number (omega arith) (omega arith))
    ∙ ap (λ n. drop (n + r) (take first runs ++ new)) (sym l) ∙ drop-append-add (take first runs) new r

mid_take : (runs : List ℕ) (first number : ℕ) → first ≤ number → take (number - first) (drop first runs) ≡ drop first (take number runs)
mid_take runs first number h =
    let e : first + (number - first) ≡ number = omega arith in
    sym (drop-take first (number - first) runs) ∙ ap (λ n. drop first (take n runs)) e

-- the part of the runs that waits
pub waits_in : (us : List AccountLots) (d : ℕ) (k : Kept) → Keeps us d k →
    units_of_words (take (k.number - k.first) (drop k.first k.runs)) ≡ waiting us d
waits_in us d k keeps = ap units_of_words (mid_take k.runs k.first k.number keeps.ready.first) ∙ keeps.waits

module _ (k : Kept) (p : Waiting) (new : List ℕ) (x : ℕ) (ready : Ready k) (same : length new ≡ k.number - k.first)
    (on : HandsOn (take (k.number - k.first) (drop k.first k.runs)) new (k.stock + x) p)
    (us : List AccountLots) (d : ℕ) (keeps : Keeps us d k) where
  these : units_of_words (take (k.number - k.first) (drop k.first k.runs)) ≡ waiting us d
  these = waits_in us d k keeps

  pub keeps_more : Keeps us (d + x) (record { runs = put_mid k.first (k.number - k.first) k.runs new; number = k.number; first = k.first + p.run; stock = p.stock })
  keeps_more =
      record {
        ready = record { few = ready.few; there = omega (arith, same_len_mid k.first (k.number - k.first) k.runs new (same ∙ sym (mid_len k.first k.number k.runs ready.there)), ready.there); first = omega (arith, on.within, ready.first) };
        left = on.left ∙ rw (these, keeps.left) (sym (stock_more us d x));
        waits = ap units_of_words (kept_runs k.runs new k.first k.number p.run ready.first ready.there same) ∙ on.waits
            ∙ rw (these, keeps.left) (sym (waits_more us d x));
      }

  pub counts_more : p.count ≡ covered us (d + x) - covered us d
  counts_more =
      omega (arith, on.covers, ap (λ l. covered l (k.stock + x)) these, ap (λ s. covered (waiting us d) (s + x)) keeps.left, covered_more us d x)

-- What is kept first

pub kept_first : (us : List AccountLots) (runs new : List ℕ) (n d : ℕ) (p : Waiting) → units_of_words (take n runs) ≡ us → n ≤ 144 → n ≤ length runs →
    length new ≡ n → HandsOn (take n runs) new d p →
    Keeps us d (record { runs = new ++ drop n runs; number = n; first = p.run; stock = p.stock })
kept_first us runs new n d p e few there same on =
    let t : take n (new ++ drop n runs) ≡ new = ap (λ m. take m (new ++ drop n runs)) (sym same) ∙ take-append_seam new (drop n runs) in
    record {
      ready = record {
        few = few;
        there = omega (arith, same, length-append new (drop n runs));
        first = omega (arith, on.within, same);
      };
      left = on.left ∙ ap (λ l. stock l d) e;
      waits = ap (λ l. units_of_words (drop p.run l)) t ∙ on.waits ∙ ap (λ l. waiting l d) e;
    }
