-- The words of an instruction are asked one by one: what the question does to the words from `at` on.
use mathlib.Core.Path.{◌≡◌}
use mathlib.Core.Bool.{cond}
use mathlib.Core.List.{List}
use Prim.Native.Nat.{ℕ, suc, ◌+◌, ◌-◌, ◌≤◌, ◌<◌}
use native.Mathlib.Numerals.{add-one}
use native.Mathlib.Omega.{arith}
use lib.ListN.{length, get_or, drop, drop_of_length-le}
use lib.Seq.{drop-cons}
use Rattle.rules.specs.Tape.{word_as, is_after, words_wrong}

-- the words of kind k from `at` on, of n in all
module _ (k n at : ℕ) (ws : List ℕ) (more : at < n) where
  one_more : n - at ≡ suc (n - suc at)
  one_more = omega arith

  pub missing : length ws ≤ at → 13 ≡ words_wrong k (n - at) (drop at ws)
  missing h = rw (one_more, drop_of_length-le ws h)

  pub one_word : at < length ws →
      words_wrong k (n - at) (drop at ws)
      ≡ cond (is_after k (word_as (get_or ws at 0) 0)) (words_wrong k (n - (at + 1)) (drop (at + 1) ws)) 14
  one_word h = rw (one_more, drop-cons ws at 0 h, add-one at)
