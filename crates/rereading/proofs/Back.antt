-- Read is written: a right head has its kind, its fields and nothing below them, so that it is the sum of its fields;
-- likewise the words after it.
use mathlib.Core.Path.{◌≡◌, refl, ap, sym, ◌∙◌}
use mathlib.Core.List.{List, [], ◌∷◌, map}
use Prim.Native.Nat.{ℕ, zero, suc, ◌+◌, ◌*◌, ◌/◌, ◌%◌, ◌^◌, ◌<◌}
use native.Mathlib.Omega.{arith}
use lib.ListN.{get_or, take}
use Rattle.rules.specs.declared.Instruction.{Instruction}
use Rattle.std.specs.Prelude.{Ok}
use Rattle.rules.specs.Measures.{quote_count}
use Rattle.rules.specs.Records.{bits, issue_bits, from_bits, to_bits, lots_bits, days_bits, rate_bits, mark_bits, day_bits, quote_bits, of_field, head_word, lots_word}
use Rattle.rules.specs.Tape.{kind_of, Kind, head, after, none, kind_at, is_after, word_as, words_wrong, read_of, quotes_of, roll_word, mark_word, turn_word, quote_word, words_of}
use Rattle.laws.proofs.Basics.{by_test}
use Rattle.rereading.proofs.Table.{by_kind, Clears, after_is}
use Rattle.rereading.proofs.Sized.{read_is}

-- each is a word
abbrev pub Words : List ℕ → Type 0
Words ws = (i : ℕ) → get_or ws i 0 < 2 ^ 32

-- a number taken apart field by field is the sum of its fields
sum_of : (w q r s k i f t : ℕ) → w ≡ q * 4096 → q ≡ r * 64 + t → r ≡ s * 64 + f → s ≡ k * 16 + i →
    w ≡ k * 268435456 + i * 16777216 + f * 262144 + t * 4096
sum_of w q r s k i f t a b c d = omega arith

roll_sum : (w q s k d r : ℕ) → w ≡ q * 1024 → q ≡ s * 16384 + r → s ≡ k * 16 + d → k ≡ 7 →
    w ≡ 1879048192 + d * 16777216 + r * 1024
roll_sum w q s k d r a b c e = omega arith

-- a word of kind k is the sum of its fields
module _ (w k : ℕ) (word : w < 2 ^ 32) (kind : kind_of w ≡ k) where
  above_from : w / 262144 ≡ w / 16777216 * 64 + w / 262144 % 64
  above_from = omega arith

  above_issue : w / 16777216 ≡ k * 16 + w / 16777216 % 16
  above_issue = omega arith

  full : of_field (bits 0 12) w ≡ 0 → w ≡ head_word k (of_field issue_bits w) (of_field from_bits w) (of_field to_bits w)
  full z =
      let above-to : w / 4096 ≡ w / 262144 * 64 + w / 4096 % 64 = omega arith in
      sum_of w (w / 4096) (w / 262144) (w / 16777216) k (of_field issue_bits w) (of_field from_bits w) (of_field to_bits w)
      (omega arith) above-to above_from above_issue

  short : of_field (bits 0 18) w ≡ 0 → w ≡ head_word k (of_field issue_bits w) (of_field from_bits w) 0
  short z =
      sum_of w (w / 262144 * 64) (w / 262144) (w / 16777216) k (of_field issue_bits w) (of_field from_bits w) 0
      (omega arith) (omega arith) above_from above_issue

  bare : of_field (bits 0 28) w ≡ 0 → w ≡ head_word k 0 0 0
  bare z = omega arith

  terms : k ≡ 7 → of_field (bits 0 10) w ≡ 0 → w ≡ roll_word (of_field days_bits w) (of_field rate_bits w)
  terms e z =
      let above-rate : w / 1024 ≡ w / 16777216 * 16384 + w / 1024 % 16384 = omega arith in
      roll_sum w (w / 1024) (w / 16777216) k (of_field days_bits w) (of_field rate_bits w) (omega arith) above-rate above_issue e

  mark_back : k ≡ 13 → of_field (bits 1 23) w ≡ 0 → w ≡ mark_word (of_field issue_bits w) (of_field mark_bits w)
  mark_back e z =
      let s : w ≡ w / 16777216 * 16777216 + w / 2 % 8388608 * 2 + w % 2 = omega arith in
      omega (arith, above_issue)

  turn_back : k ≡ 14 → of_field (bits 16 12) w ≡ 0 → w ≡ turn_word (of_field day_bits w)
  turn_back e z =
      let s : w ≡ k * 268435456 + w / 65536 % 4096 * 65536 + w % 65536 = omega arith in
      omega arith

  lots_back : k ≡ 8 → w ≡ lots_word (of_field lots_bits w)
  lots_back e = omega arith

  quote_back : k ≡ 9 → of_field (bits 18 10) w ≡ 0 → w ≡ quote_word (of_field quote_bits w)
  quote_back e z =
      let s : w ≡ k * 268435456 + w / 262144 % 1024 * 262144 + w % 262144 = omega arith in
      omega arith

-- a first word that is right leaves the words after it
first_right : (k n w : ℕ) (ws : List ℕ) → 0 ≡ words_wrong k (suc n) (w ∷ ws) →
    (kind_of w ≡ k) × Clears (kind_at k) w × (0 ≡ words_wrong k n ws)
first_right k n w ws e =
    by_test (is_after k (word_as w 0))
    (λ t.
    let a = after_is (kind_at (kind_of w)) w 0 k t in
    (a.0, rw a.0 at a.1, simp t at e))
    (λ t. let z : ◌≡◌ {A = ℕ} 0 14 = simp t at e in absurd (omega arith))

joined : {w h : ℕ} {xs ys : List ℕ} → w ≡ h → xs ≡ ys → w ∷ xs ≡ h ∷ ys
joined {w} {h} {xs} {ys} p q = rw (p, q)

-- the words after a head
lots_after : (ws : List ℕ) → Words ws → 0 ≡ words_wrong 8 1 ws → take 1 ws ≡ lots_word (of_field lots_bits (get_or ws 0 0)) ∷ []
lots_after [] b e = absurd (omega arith)
lots_after (w ∷ ws) b e = joined (lots_back w 8 (b 0) (first_right 8 0 w ws e).0 refl) refl

quotes_after : (n : ℕ) (ws : List ℕ) → Words ws → 0 ≡ words_wrong 9 n ws →
    take n ws ≡ map quote_word (map (of_field quote_bits) (take n ws))
quotes_after zero ws b e = refl
quotes_after (suc n) [] b e = refl
quotes_after (suc n) (w ∷ ws) b e =
    let r = first_right 9 n w ws e in
    joined (quote_back w 9 (b 0) r.0 refl r.1) (quotes_after n ws (λ i. b (suc i)) r.2)

-- each head by its line
module _ (w : ℕ) (rest : List ℕ) (b : Words (w ∷ rest)) where
  abbrev Back : ℕ → Kind → Type 0
  Back k (head u n j f) =
      kind_of w ≡ k → of_field u w ≡ 0 → 0 ≡ words_wrong j n rest →
      take (1 + n) (w ∷ rest) ≡ words_of (f w (of_field lots_bits (get_or rest 0 0))) (quotes_of (w ∷ rest))
  Back k (after u) = Unit {0}
  Back k none = Unit {0}

  roll_back : Back 7 (kind_at 7)
  unfolding quotes_of
  roll_back e z r = joined (terms w 7 (b 0) e refl z) (quotes_after quote_count rest (λ i. b (suc i)) r)

  lots : 0 ≡ words_wrong 8 1 rest → take 1 rest ≡ lots_word (of_field lots_bits (get_or rest 0 0)) ∷ []
  lots r = lots_after rest (λ i. b (suc i)) r

  back : (k : ℕ) → Back k (kind_at k)
  back k =
      by_kind Back (λ k. tt) (λ k u. tt)
      (λ e z r. joined (full w 1 (b 0) e z) (lots r))
      (λ e z r. joined (short w 2 (b 0) e z) (lots r))
      (λ e z r. joined (short w 3 (b 0) e z) (lots r))
      (λ e z r. joined (short w 4 (b 0) e z) refl)
      (λ e z r. joined (bare w 5 (b 0) e z) refl)
      (λ e z r. joined (bare w 6 (b 0) e z) refl) roll_back
      (λ e z r. joined (mark_back w 13 (b 0) e refl z) refl)
      (λ e z r. joined (turn_back w 14 (b 0) e refl z) refl) k

-- the words that are read as an instruction are exactly those written for it
pub read_is_written : (ws : List ℕ) (x : Instruction) (n : ℕ) → Words ws → read_of ws ≡ Ok (x, n) →
    take n ws ≡ words_of x (quotes_of ws)
unfolding read_of
read_is_written [] x n b e = let z : ◌≡◌ {A = ℕ} 0 1 = cc in absurd (omega arith)
read_is_written (w ∷ rest) x n b e =
    let r = read_is w rest x n e in
    let f = r.first in
    let l = rw f.line at (back w rest b (kind_of w)) in
    ap (λ (m : ℕ). take m (w ∷ rest)) f.count ∙ l refl f.clears r.right
    ∙ sym (ap (λ (y : Instruction). words_of y (quotes_of (w ∷ rest))) f.is)
