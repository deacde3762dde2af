-- What the writer answers where the fields fit: its words stand over the output.
use mathlib.Core.Path.{◌≡◌, ◌∙◌}
use mathlib.Core.Bool.{Bool, true}
use mathlib.Core.List.{List}
use Prim.Native.Nat.{ℕ, ◌≤◌}
use native.Mathlib.Omega.{arith}
use lib.ListN.{length}
use lib.Seq.{sets}
use Rattle.std.specs.Prelude.{Ok}
use Rattle.words.proofs.Stores.{sets_front}
use Rattle.writing.specs.Answers.{written, fitted}

module _ (fit : Bool) (ws out : List ℕ) where
  pub all_written : (n : ℕ) (lent : List ℕ) → fit ≡ true → length ws ≡ n → n ≤ length out → lent ≡ sets out 0 ws →
      written (Ok n) lent ≡ fitted fit ws out
  all_written n lent e c h f = rw (e, f ∙ sets_front ws out (omega arith), c)
