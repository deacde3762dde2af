use Rattle.std.proofs.Common.{rules}
use Rattle.ledger.proofs.Same.{same_then}
use Rattle.stepping.proofs.Turns.{turns_start, seek_to, seek_from, ends_in, ends_out, both_there, turn_room, turn_less, turns_more}
use Rattle.stepping.proofs.make_steps.Goals as goal

pub loop-next_t-init : goal.loop-next_t-init
loop-next_t-init c =
    record { done = turns_start _ _ _ _ _ _ _ _ _ _ _ _ _ _ c.requires.0 c.requires.1; same = search rules }

pub next_to-requires : goal.next_to-requires
next_to-requires c = seek_to c.loop-next_t.invariant.done

pub returns-in_default-clause-done : goal.returns-in_default-clause-done
returns-in_default-clause-done c = ends_in c.loop-next_t.invariant.done c.in_default.ensures

pub next_from-requires : goal.next_from-requires
next_from-requires c = seek_from c.loop-next_t.invariant.done

pub returns-in_default-next_from-clause-done : goal.returns-in_default-next_from-clause-done
returns-in_default-next_from-clause-done c = ends_out c.loop-next_t.invariant.done c.in_default-next_from.ensures

pub append_between-requires : goal.append_between-requires
append_between-requires c =
    let s = c.loop-next_t.invariant.done in
    (turn_room s (both_there _ _ _ _ _ _ _ c.in-Some.ensures c.in-Some-next_from.ensures), s.more)

pub loop-next_t-smaller : goal.loop-next_t-smaller
loop-next_t-smaller c =
    turn_less c.loop-next_t.invariant.done (both_there _ _ _ _ _ _ _ c.in-Some.ensures c.in-Some-next_from.ensures)
    c.fall_both-m.ensures (rw (c.entry_at-to.ensures, c.entry_at-from.ensures) at c.append_between.ensures.done)

pub loop-next_t-preserved : goal.loop-next_t-preserved
loop-next_t-preserved c =
    let v = c.loop-next_t.invariant in
    record {
      done =
          rw c.from.ensures
          (turns_more v.done (both_there _ _ _ _ _ _ _ c.in-Some.ensures c.in-Some-next_from.ensures)
          c.fall_both-m.ensures (rw (c.entry_at-to.ensures, c.entry_at-from.ensures) at c.append_between.ensures.done));
      same = same_then v.same c.append_between.ensures.same;
    }
