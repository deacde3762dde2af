-- Words stored one after the other: zeros, a call's words, number and checksum make a record over the output.
use mathlib.Core.Path.{◌≡◌, refl, sym, ap, ◌∙◌}
use mathlib.Core.List.{List, [], ◌∷◌, ◌++◌, append_assoc}
use Prim.Native.Nat.{ℕ, suc, ◌+◌, ◌-◌, ◌≤◌, ◌<◌, ◌/◌, ◌%◌}
use native.Mathlib.Numerals.{add-one}
use native.Mathlib.Omega.{arith}
use lib.ListN.{length, get_or, set, take, drop, replicate, length-append, length-replicate}
use lib.Seq.{sets, sets-eq, drop-cons, take_at, drop-set-lt, set_at, length-take-le, append_snoc}
use Rattle.rules.specs.Measures.{tape_words}
use Rattle.rules.specs.Records.{over}
use Rattle.checksums.specs.Sums.{word_size, weighted}
use Rattle.journals.specs.Record.{record_words, summed_words, padded, closed}
use Rattle.journals.proofs.Parts.{length_padded, length_closed}

-- one zero stored, of those up to place n
pub zero_more : (out : List ℕ) (at n : ℕ) → at < n →
    sets (set out at 0) (at + 1) (replicate (n - (at + 1)) 0) ≡ sets out at (replicate (n - at) 0)
zero_more out at n h =
    let e : n - at ≡ suc (n - (at + 1)) = omega arith in
    rw (e, add-one at)

pub zeros_end : (out : List ℕ) (at n : ℕ) → n ≤ at → out ≡ sets out at (replicate (n - at) 0)
zeros_end out at n h = let e : n - at ≡ 0 = omega arith in rw e

-- Number and zeros around a call's words

module _ (n count w : ℕ) (out : List ℕ) (h : count ≤ tape_words) (r : record_words ≤ suc (length out)) where
  abbrev call : List ℕ
  call = take count out

  there : length call ≡ count
  there = length-take-le count out (omega arith)

  abbrev body : List ℕ
  body = n ∷ padded call

  pub body_length : length body ≡ summed_words
  body_length = ap suc (length_padded call (omega (arith, there)))

  front_laid : set (sets (w ∷ out) (count + 1) (replicate (summed_words - (count + 1)) 0)) 0 n ≡ body ++ drop tape_words out
  unfolding padded
  front_laid =
      let k = tape_words - length call in
      let e : summed_words - (count + 1) ≡ k = omega (arith, there) in
      let z = length-replicate {A = ℕ} k 0 in
      let g : count + 1 + length {A = ℕ} (replicate k 0) ≡ summed_words = omega (arith, z, there) in
      ap (λ m. set (sets (w ∷ out) (count + 1) (replicate m 0)) 0 n) e
      ∙ ap (λ l. set l 0 n) (sets-eq (replicate k 0) (w ∷ out) (count + 1) (omega (arith, g)))
      ∙ ap (λ m. set (take (count + 1) (w ∷ out) ++ replicate k 0 ++ drop m (w ∷ out)) 0 n) g
      ∙ ap (λ m. set (take m (w ∷ out) ++ replicate k 0 ++ drop summed_words (w ∷ out)) 0 n) (add-one count)

-- two words stored behind n
two_stored : (n a b x y : ℕ) (body rest : List ℕ) → length body ≡ n →
    set (set (body ++ a ∷ b ∷ rest) n x) (suc n) y ≡ body ++ x ∷ y ∷ rest
two_stored n a b x y body rest e =
    let k : length (body ++ (x ∷ [])) ≡ suc n = length-append body (x ∷ []) ∙ omega (arith, e) in
    ap (λ l. set l (suc n) y) (set_at body a (b ∷ rest) x n e)
    ∙ ap (λ l. set l (suc n) y) (sym (append_snoc body x (b ∷ rest)))
    ∙ set_at (body ++ (x ∷ [])) b rest y (suc n) k ∙ append_snoc body x (y ∷ rest)

-- the checksum behind them
pub laid : (n count s : ℕ) (out mid : List ℕ) → count ≤ tape_words → record_words ≤ length out →
    mid ≡ sets out (count + 1) (replicate (summed_words - (count + 1)) 0) → s ≡ weighted (take summed_words (set mid 0 n)) →
    set (set (set mid 0 n) summed_words (s % word_size)) (suc summed_words) (s / word_size)
    ≡ over (closed (n ∷ padded (take count (drop 1 out)))) out
unfolding closed
laid n count s [] mid h r e f = absurd (omega arith)
laid n count s (w ∷ out) mid h r e f =
    let b = body n count w out h r in
    let k = body_length n count w out h r in
    let o : set mid 0 n ≡ b ++ drop tape_words out = ap (λ l. set l 0 n) e ∙ front_laid n count w out h r in
    let t : s ≡ weighted b = f ∙ ap (λ l. weighted (take summed_words l)) o ∙ ap weighted (take_at b (drop tape_words out) summed_words k) in
    let d : drop tape_words out ≡ get_or out 33 0 ∷ get_or out 34 0 ∷ drop 35 out =
    drop-cons out 33 0 (omega arith) ∙ ap (λ l. get_or out 33 0 ∷ l) (drop-cons out 34 0 (omega arith)) in
    ap (λ l. set (set l summed_words (s % word_size)) (suc summed_words) (s / word_size)) (o ∙ ap (λ l. b ++ l) d)
    ∙ two_stored summed_words (get_or out 33 0) (get_or out 34 0) (s % word_size) (s / word_size) b (drop 35 out) k
    ∙ ap (λ m. b ++ m % word_size ∷ m / word_size ∷ drop 35 out) t
    ∙ sym (append_assoc b (weighted b % word_size ∷ weighted b / word_size ∷ []) (drop 35 out))
    ∙ ap (λ m. closed b ++ drop m (w ∷ out)) (sym (length_closed summed_words b k))

-- A call's words stored behind the place of the number

drop_sets : (k : ℕ) (l : List ℕ) (i : ℕ) (vs : List ℕ) → i + length vs ≤ k → drop k (sets l i vs) ≡ drop k l
drop_sets k l i [] h = refl
drop_sets k l i (v ∷ vs) h = drop_sets k (set l i v) (suc i) vs (omega arith) ∙ drop-set-lt k l i v (omega arith)

call_stored : (ws out : List ℕ) → 1 + length ws ≤ length out → take (length ws) (drop 1 (sets out 1 ws)) ≡ ws
call_stored ws [] h = absurd (omega arith)
call_stored ws (w ∷ out) h =
    ap (λ l. take (length ws) (drop 1 l)) (sets-eq ws (w ∷ out) 1 h)
    ∙ take_at ws (drop (1 + length ws) (w ∷ out)) (length ws) refl

pub over_stored : (n : ℕ) (ws out lent : List ℕ) → length ws ≤ tape_words → record_words ≤ length out →
    lent ≡ over (closed (n ∷ padded (take (length ws) (drop 1 (sets out 1 ws))))) (sets out 1 ws) →
    lent ≡ over (closed (n ∷ padded ws)) out
over_stored n ws out lent h r e =
    let b = n ∷ padded ws in
    let k = length_closed summed_words b (ap suc (length_padded ws h)) in
    e
    ∙ ap (λ l. over (closed (n ∷ padded l)) (sets out 1 ws)) (call_stored ws out (omega arith))
    ∙ ap (λ l. closed b ++ l) (drop_sets (length (closed b)) out 1 ws (omega (arith, k)))
