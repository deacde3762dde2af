-- The questions of a mark, and what it means that none is answered 'no'.
use mathlib.Core.Path.{◌≡◌}
use mathlib.Core.Bool.{true, false, ◌&&◌}
use mathlib.Core.List.{List}
use Prim.Native.Nat.{ℕ, ◌≤◌, ◌<◌}
use native.Mathlib.Omega.{arith}
use lib.IntN.{ℤ}
use borrow.Author.Tests.{leb-true, le-leb}
use Rattle.rules.specs.declared.Entry.{Entry}
use Rattle.rules.specs.Questions.{first_no, no_net, no_entry}
use Rattle.rules.specs.Calls.{mark_asks}
use Rattle.laws.proofs.Answers.{stops, no_no, all_yes}

module _ (nets : List ℤ) (es : List Entry) (i : ℕ) where
  pub no20 : i ≤ 15 → no_net nets i && no_entry es i ≡ false → 20 ≡ first_no (mark_asks nets es i)
  no20 y h = stops 1 (mark_asks nets es i) (le-leb i 15 y, tt) h

  pub none : i ≤ 15 → no_net nets i && no_entry es i ≡ true → 0 ≡ first_no (mark_asks nets es i)
  none y h = no_no (mark_asks nets es i) (le-leb i 15 y, (h, tt))

  -- the issue is one of the book
  pub markable : first_no (mark_asks nets es i) ≡ 0 → i < 16
  markable h = omega (arith, leb-true i 15 (all_yes (mark_asks nets es i) (omega arith) h).0)
