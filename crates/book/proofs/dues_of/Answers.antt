-- The first i dues are written: the dues of the first i nets.
use mathlib.Core.Path.{◌≡◌, ap, ◌∙◌}
use Prim.Native.Nat.{◌≤◌}
use native.Mathlib.Omega.{arith}
use borrow.Author.Rules.{rules}
use lib.ListN.{length, get_or, length-set}
use Rattle.rules.specs.Measures.{due_of}
use lib.Seq.{take_all}
use lib.IntN.{pos}
use mir.Syntax.{w32}
use mir.ValLaws.{to_z-of_z}
use Rattle.book.proofs.RowLaws.{fill_more}
use Rattle.book.proofs.dues_of.Goals as goal

pub loop-i-preserved : goal.loop-i-preserved
loop-i-preserved c =
    let a = c.args in
    let l = c.loop-i in
    let n = get_or a.net.now l.i (pos 0) in
    let d : c.due.result ≡ due_of n = c.due.ensures ∙ ap due_of (to_z-of_z w32 n (search rules)) in
    (simp length-set l.invariant.0, rw d (fill_more due_of (pos 0) a.net.now l.dues l.i (search rules) (omega (arith, c.requires, l.invariant.0)) l.invariant.1))

pub returns : goal.returns
returns c =
    let a = c.args in
    let l = c.loop-i in
    let e : length l.dues ≤ l.i = omega arith in
    let f : length a.net.now ≤ l.i = omega arith in
    rw (take_all l.i l.dues e, take_all l.i a.net.now f) at l.invariant.1
