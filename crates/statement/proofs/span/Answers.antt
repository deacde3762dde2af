-- A turn more, or the span ends.
use Rattle.std.proofs.Common.{rules, ◌≡◌, ℕ, ◌+◌, ◌-◌, ◌≤◌, ◌<◌, List, length, drop, refl, sym, ap, ◌∙◌, arith}
use Rattle.std.specs.Prelude.{Ok}
use lib.ListN.{length-drop}
use Rattle.rules.specs.declared.Instruction.{Instruction}
use Rattle.rules.specs.Tape.{read_of}
use Rattle.rereading.proofs.Sized.{read_sized}
use Rattle.tape.proofs.Rest.{rest_part}
use Rattle.statement.proofs.Counted.{starts, one_more, read_few, again_at, ends_refused, ends_out}
use Rattle.columns.proofs.Same.{same_then}
use Rattle.statement.proofs.span.Goals as goal

-- the words from a place on begin with an instruction, and have it whole
sized : (ws : List ℕ) (at : ℕ) (x : Instruction) (n : ℕ) → at ≤ length ws → read_of (drop at ws) ≡ Ok (x, n) →
    (at + n ≤ length ws) × (n ≤ 33)
sized ws at x n h e =
    let z = read_sized (drop at ws) x n e in
    (omega (arith, z.1, length-drop at ws), read_few (drop at ws) x n e)

pub loop-turn-init : goal.loop-turn-init
loop-turn-init c =
    let a = c.args in (c.requires.0, omega arith, omega arith, starts a.issue a.account _ a.words.now, refl, search rules)

pub returns-in_default : goal.returns-in_default
returns-in_default c =
    let a = c.args in
    let l = c.loop-turn in
    let left = 4096 - l._turn in
    let some : 0 < left = omega arith in
    ends_refused a.issue a.account _ a.words.now l.c _ _ left l.invariant.3 _ (ap read_of (sym (rest_part a.words.now l.at)) ∙ sym c.in_default.ensures)

pub turn-t-requires : goal.turn-t-requires
turn-t-requires c =
    let a = c.args in
    let l = c.loop-turn in
    let left = 4096 - l._turn in
    let some : 0 < left = omega arith in
    (record { count = c.in-Ok.n; read = sym c.in-Ok.ensures }, l.invariant.0, c.requires.1, one_more left l.c some l.invariant.3.room)

pub overflow_add-at : goal.overflow_add-at
overflow_add-at c =
    let a = c.args in
    let l = c.loop-turn in
    let left = 4096 - l._turn in
    let some : 0 < left = omega arith in
    let begins = ap read_of (sym (rest_part a.words.now l.at)) ∙ sym c.in-Ok.ensures in
    let few = sized a.words.now l.at c.in-Ok.x c.in-Ok.n l.invariant.1 begins in
    record { fits = omega (arith, few.1, l.invariant.2) }

pub loop-turn-preserved : goal.loop-turn-preserved
loop-turn-preserved c =
    let a = c.args in
    let l = c.loop-turn in
    let left = 4096 - l._turn in
    let some : 0 < left = omega arith in
    let begins = ap read_of (sym (rest_part a.words.now l.at)) ∙ sym c.in-Ok.ensures in
    let few = sized a.words.now l.at c.in-Ok.x c.in-Ok.n l.invariant.1 begins in
    let e = rw (rest_part a.words.now l.at) at c.turn-t.ensures.done in
    let one : 4096 - (l._turn + 1) ≡ left - 1 = omega arith in (
      record { lengths = e.lengths; sound = e.sound; room = search rules },
      few.0,
      omega (arith, few.1, l.invariant.2),
      rw one (again_at a.issue a.account _ a.words.now l.c _ l.at left some l.invariant.3
          c.in-Ok.x c.in-Ok.n begins c.turn-t.result.statement _ e.counted e.grown e.book),
      search rules,
      same_then l.invariant.5 c.turn-t.ensures.same,
    )

pub returns : goal.returns
returns c =
    let a = c.args in
    let l = c.loop-turn in
    ends_out a.issue a.account _ a.words.now l.c _ _ (4096 - l._turn) (omega arith) l.invariant.3
