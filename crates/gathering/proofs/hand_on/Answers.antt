-- Either the total ends in this run, of which what is not handed stays, or it covers the run and the walk goes on behind it.
use mathlib.Core.Path.{refl, sym, ◌∙◌}
use Prim.Native.Nat.{◌-◌, ◌*◌, ◌/◌}
use native.Mathlib.Omega.{arith}
use lib.ListN.{get_or, length-set}
use borrow.Author.Rules.{rules}
use lib.Seq.{get_or-set_same}
use Rattle.std.proofs.lemmas.List.{set-get_or}
use Rattle.runs.proofs.Words.{covered_past_word, stock_past_word, covered_in_word, stock_in_word}
use Rattle.gathering.proofs.Gathers.{waits_past_word, rest_of_word, plain_rest}
use Rattle.gathering.proofs.hand_on.Goals as goal

pub returns-then-left-lots : goal.returns-then-left-lots
returns-then-left-lots c =
    let l = c.loop-j in
    let runs = l.runs in
    let i = l.invariant in
    rw (← i.0)
    (record {
      within = omega (arith, length-set runs l.j (get_or runs l.j 0 - l.left / 100000 * 6400000));
      covers = omega (arith, i.2, covered_in_word runs l.j (search rules) l.left (omega arith));
      left = sym (i.3 ∙ stock_in_word runs l.j (search rules) l.left (omega arith));
      waits = rest_of_word runs l.j (search rules) _ l.left (omega arith) refl ∙ sym i.4;
      some = λ _. rw (get_or-set_same runs l.j (get_or runs l.j 0 - l.left / 100000 * 6400000) 0 (search rules)) (omega arith);
      plain = plain_rest runs l.j (search rules) _ l.left (omega arith) refl;
    })

pub loop-j-preserved : goal.loop-j-preserved
loop-j-preserved c =
    let l = c.loop-j in
    let i = l.invariant in
    rw (set-get_or l.runs l.j 0) (
      i.0,
      omega (arith, i.1),
      omega (arith, i.2, covered_past_word l.runs l.j (search rules) l.left (omega arith)),
      i.3 ∙ stock_past_word l.runs l.j (search rules) l.left (omega arith),
      i.4 ∙ waits_past_word l.runs l.j (search rules) l.left (omega arith),
    )
