use Rattle.std.proofs.lemmas.Result.{err_from_is_err_and}
use Rattle.rules.specs.Calls.{Resolve}
use Rattle.laws.proofs.Sound.{sound_parts}
use Rattle.answers.specs.Turns.{within_ledger}
use Rattle.answers.proofs.Turning.{room_out, turn_no, turn_yes}
use Rattle.ledger.proofs.Books.{whole}
use Rattle.resolution.proofs.Books.{book_resolvable}
use Rattle.resolution.proofs.Turned.{resolved}
use Rattle.resolution.proofs.resolve.Goals as goal

pub resolve_asks-requires : goal.resolve_asks-requires
resolve_asks-requires c =
    let a = c.args in
    let l = a.ledger.now in
    let b = within_ledger a.s l.issues.now l.froms.now l.tos.now l.lots.now l.days.now c.requires.0.1.rest in
    ((sound_parts b c.requires.0.1.sound).ledger.count, whole _ _ _ _ _ c.requires.0.0)

pub returns-in_err-resolve_asks-clause-done : goal.returns-in_err-resolve_asks-clause-done
returns-in_err-resolve_asks-clause-done c b q =
    let a = c.args in
    let l = a.ledger.now in
    let p = err_from_is_err_and c.from_residual.result c.from_residual.ensures.1 in
    rw (p.1, p.2)
    (turn_no (within_ledger a.s l.issues.now l.froms.now l.tos.now l.lots.now l.days.now b) (Resolve a.i a.a a.x) a.out.now
    (room_out a.out.now c.requires.1) q _ c.in_err-resolve_asks.ensures)

pub resolve_in-k-requires : goal.resolve_in-k-requires
resolve_in-k-requires c =
    let a = c.args in
    let l = a.ledger.now in
    book_resolvable (within_ledger a.s l.issues.now l.froms.now l.tos.now l.lots.now l.days.now c.requires.0.1.rest) c.requires.0.1.sound
    (whole l.issues.now l.froms.now l.tos.now l.lots.now l.days.now c.requires.0.0) a.out.now c.requires.1

pub returns-clause-done : goal.returns-clause-done
returns-clause-done c b q =
    let d = c.resolve_in-k in
    let a = c.args in
    let l = a.ledger.now in
    turn_yes (within_ledger a.s l.issues.now l.froms.now l.tos.now l.lots.now l.days.now b) (Resolve a.i a.a a.x) a.out.now
    (room_out a.out.now c.requires.1) q d.result.records 0 _ _ _ c.in_ok-resolve_asks.ensures
    (resolved a.s _ l.issues.now l.froms.now l.tos.now l.lots.now l.days.now a.out.now a.i a.a a.x d.result
    _ _ _ _ _ _ b c.with_entries-next.ensures d.ensures.done)
