-- Writing all shortfalls from the start is the same as writing from here those that are left.
use mathlib.Core.Path.{◌≡◌, sym, ap, ◌∙◌}
use mathlib.Core.List.{map}
use Prim.Native.Nat.{◌-◌}
use native.Mathlib.Omega.{arith}
use borrow.Author.Rules.{rules}
use lib.ListN.{length, get_or, length-set}
use Rattle.rules.specs.Measures.{owed_of}
use Rattle.rules.specs.Fails.{undelivered}
use Rattle.book.proofs.RowLaws.{shorts_more, shorts_end, sets_all, shorts_length}
use lib.IntN.{pos}
use lib.ListN.{length-map}
use mir.Syntax.{w32}
use mir.ValLaws.{to_z-of_z}
use Rattle.book.proofs.missing_of.Goals as goal

pub overflow_sub-short : goal.overflow_sub-short
overflow_sub-short c =
    let l = c.loop-i in
    let n = get_or c.args.net.now l.i (pos 0) in
    let e : c.owed.result ≡ owed_of n = c.owed.ensures ∙ ap owed_of (to_z-of_z w32 n (search rules)) in
    omega (arith, e, c.requires.most l.i)

pub loop-i-preserved : goal.loop-i-preserved
loop-i-preserved c =
    let a = c.args in
    let l = c.loop-i in
    let n = get_or a.net.now l.i (pos 0) in
    let e : c.owed.result ≡ owed_of n = c.owed.ensures ∙ ap owed_of (to_z-of_z w32 n (search rules)) in (
      simp length-set l.invariant.0,
      shorts_more a.net.now a.delivered.now l.i _ l.short _ (search rules) (omega (arith, c.requires.both))
          (ap (λ z. z - get_or a.delivered.now l.i 0) e) l.invariant.1,
    )

pub returns : goal.returns
returns c =
    let a = c.args in
    let l = c.loop-i in
    let ns = a.net.now in
    let ds = a.delivered.now in
    let m = length-map ns owed_of in
    let k = shorts_length (map owed_of ns) ds (omega (arith, m, c.requires.both)) in
    let n : length (undelivered (map owed_of ns) ds) ≡ length a.short.now = omega (arith, m, k, c.requires.room) in
    sym (shorts_end ns ds l.i _ l.short (omega arith) l.invariant.1) ∙ sets_all (undelivered (map owed_of ns) ds) a.short.now n
