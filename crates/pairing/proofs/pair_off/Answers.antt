use mathlib.Core.Path.{refl, sym}
use Rattle.std.proofs.lemmas.Result.{err_from_is_err_and}
use Rattle.rules.specs.Calls.{PairOff}
use Rattle.answers.specs.Turns.{within_ledger}
use Rattle.answers.proofs.Turning.{turn_no, turn_yes}
use Rattle.ledger.proofs.Books.{whole}
use Rattle.pairing.proofs.Books.{book_pairable}
use Rattle.pairing.proofs.Turned.{paired_off_lem}
use Rattle.pairing.proofs.pair_off.Goals as goal

pub returns-in_err-pair_off_asks-clause-done : goal.returns-in_err-pair_off_asks-clause-done
returns-in_err-pair_off_asks-clause-done c out b q =
    let a = c.args in
    let l = a.ledger.now in
    let p = err_from_is_err_and c.from_residual.result c.from_residual.ensures.1 in
    rw (p.1, p.2)
    (turn_no (within_ledger a.s l.issues.now l.froms.now l.tos.now l.lots.now l.days.now b) (PairOff a.i a.a) out refl q _
    c.in_err-pair_off_asks.ensures)

pub pair_off_in-k-requires : goal.pair_off_in-k-requires
pair_off_in-k-requires c =
    let a = c.args in
    let l = a.ledger.now in
    book_pairable (within_ledger a.s l.issues.now l.froms.now l.tos.now l.lots.now l.days.now c.requires.1.rest) c.requires.1.sound
    (whole l.issues.now l.froms.now l.tos.now l.lots.now l.days.now c.requires.0) a.i a.a (sym c.in_ok-pair_off_asks.ensures)

pub returns-clause-done : goal.returns-clause-done
returns-clause-done c out b q =
    let a = c.args in
    let l = a.ledger.now in
    let d = c.pair_off_in-k in
    turn_yes (within_ledger a.s l.issues.now l.froms.now l.tos.now l.lots.now l.days.now b) (PairOff a.i a.a) out refl q
    d.result.steps d.result.cancelled _ _ _ c.in_ok-pair_off_asks.ensures
    (paired_off_lem a.s _ l.issues.now l.froms.now l.tos.now l.lots.now l.days.now a.i a.a d.result _ _ _ _ _ b out
    c.with_entries-next.ensures d.ensures.paired)
