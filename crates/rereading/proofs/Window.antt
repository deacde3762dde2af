-- The reader looks at thirty-three words at most: of a longer tape it reads what it reads of its first words.
use mathlib.Core.Path.{◌≡◌, refl, ap, sym, ◌∙◌}
use mathlib.Core.Bool.{cond}
use mathlib.Core.List.{List, [], ◌∷◌, ◌++◌, map}
use Prim.Native.Nat.{ℕ, zero, suc, ◌+◌, ◌-◌, ◌≤◌}
use native.Mathlib.Omega.{arith}
use lib.ListN.{length, take}
use lib.Seq.{get_or-take, take-take, take-append-le}
use Rattle.std.specs.Prelude.{Option}
use Rattle.rules.specs.declared.Word.{Word}
use Rattle.rules.specs.Measures.{quote_count, tape_words}
use Rattle.rules.specs.Records.{quote_bits, of_field}
use Rattle.rules.specs.Tape.{kind_of, Kind, head, after, none, kind_at, clear, as_kind, word_as, is_after, words_wrong, read_as, read_from, read_of, quotes_of}
use Rattle.laws.proofs.Basics.{either}
use Rattle.rereading.proofs.Table.{by_kind}

-- words beyond those that are asked do not count
wrong_take : (k n m : ℕ) (ws : List ℕ) → n ≤ m → words_wrong k n (take m ws) ≡ words_wrong k n ws
wrong_take k zero m ws h = refl
wrong_take k (suc n) zero ws h = absurd (omega arith)
wrong_take k (suc n) (suc m) [] h = refl
wrong_take k (suc n) (suc m) (w ∷ ws) h = ap (λ (r : ℕ). cond (is_after k (word_as w 0)) r 14) (wrong_take k n m ws (omega arith))

-- and at most 32 follow a head
abbrev Few : Kind → Type 0
Few (head u n k f) = n ≤ quote_count
Few (after u) = Unit {0}
Few none = Unit {0}

few : (k : ℕ) → Few (kind_at k)
few k =
    by_kind (λ k K. Few K) (λ k. tt) (λ k u. tt) (omega arith) (omega arith) (omega arith) (omega arith) (omega arith) (omega arith) (omega arith) (omega arith) (omega arith) k

module _ (m : ℕ) (enough : quote_count ≤ m) (ws : List ℕ) where
  from_take : (K : Kind) (w x : ℕ) → Few K → read_from (as_kind K w x) (take m ws) ≡ read_from (as_kind K w x) ws
  from_take (head u n k f) w x h =
      either (λ (g : Option Word). read_from g (take m ws) ≡ read_from g ws) (clear u w)
      (ap (λ (r : ℕ). read_as r (f w x) (1 + n)) (wrong_take k (1 + n - 1) m ws (omega arith))) refl
  from_take (after u) w x h = either (λ (g : Option Word). read_from g (take m ws) ≡ read_from g ws) (clear u w) refl refl
  from_take none w x h = refl

pub read_window : (n : ℕ) (ws : List ℕ) → tape_words ≤ n → read_of (take n ws) ≡ read_of ws
unfolding read_of
read_window zero ws h = absurd (omega arith)
read_window (suc n) [] h = refl
read_window (suc n) (w ∷ ws) h =
    rw (get_or-take n ws 0 0 (omega arith)) (from_take n (omega arith) ws (kind_at (kind_of w)) w _ (few (kind_of w)))

pub quotes_window : (n : ℕ) (ws : List ℕ) → tape_words ≤ n → quotes_of (take n ws) ≡ quotes_of ws
unfolding quotes_of
quotes_window zero ws h = absurd (omega arith)
quotes_window (suc n) [] h = refl
quotes_window (suc n) (w ∷ ws) h = ap (map (of_field quote_bits)) (take-take quote_count n ws (omega arith))

-- so words behind thirty-three that are there change nothing
module _ (ws more : List ℕ) (enough : tape_words ≤ length ws) where
  first_words : take tape_words (ws ++ more) ≡ take tape_words ws
  first_words = take-append-le tape_words ws more enough

  pub read_append : read_of (ws ++ more) ≡ read_of ws
  read_append =
      sym (read_window tape_words (ws ++ more) (omega arith)) ∙ ap read_of first_words ∙ read_window tape_words ws (omega arith)

  pub quotes_append : quotes_of (ws ++ more) ≡ quotes_of ws
  quotes_append =
      sym (quotes_window tape_words (ws ++ more) (omega arith)) ∙ ap quotes_of first_words
      ∙ quotes_window tape_words ws (omega arith)
