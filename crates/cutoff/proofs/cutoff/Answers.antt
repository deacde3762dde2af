use mathlib.Core.Path.{sym, ap, ◌∙◌}
use Rattle.std.proofs.lemmas.Result.{err_from_is_err_and}
use Rattle.rules.specs.Refusals.{number_of}
use Rattle.rules.specs.Book.{with_entries}
use Rattle.rules.specs.Calls.{Cutoff}
use Rattle.laws.proofs.Sound.{sound_parts}
use Rattle.runs.proofs.Cells.{sound_cells}
use Rattle.answers.specs.Turns.{but_charges}
use Rattle.answers.proofs.Turning.{room_out, turn_no, turn_yes}
use Rattle.cutoff.proofs.Books.{can_cut_all}
use Rattle.cutoff.proofs.Turned.{cut_asked, was_cut}
use Rattle.cutoff.proofs.cutoff.Goals as goal

pub cutoff_asks-requires : goal.cutoff_asks-requires
cutoff_asks-requires c =
    let a = c.args in
    let l = a.ledger.now in
    -- the book with what is lent
    let b = but_charges a.s a.nets.now a.delivered.now a.lifts.now l.issues.now l.froms.now l.tos.now l.lots.now l.days.now c.requires.3.rest in
    (sound_cells b (sound_parts b c.requires.3.sound) c.requires.0.nets c.requires.0.delivered c.requires.1, (sound_parts b c.requires.3.sound).ledger.count)

-- the number of the first 'no' is by the order of the day
pub returns-in_err-cutoff_asks-clause-done : goal.returns-in_err-cutoff_asks-clause-done
returns-in_err-cutoff_asks-clause-done c b q =
    let a = c.args in
    let l = a.ledger.now in
    let o = c.dealt_today-dealt in
    let r = c.in_err-cutoff_asks.field-0.0 in
    let p = err_from_is_err_and c.from_residual.result c.from_residual.ensures.1 in
    rw (p.1, p.2)
    (turn_no (but_charges a.s a.nets.now a.delivered.now a.lifts.now l.issues.now l.froms.now l.tos.now l.lots.now l.days.now b) Cutoff a.out.now
    (room_out a.out.now c.requires.4) q r
    (cut_asked a.s o.result a.nets.now a.delivered.now a.lifts.now (number_of r) b o.ensures c.in_err-cutoff_asks.ensures))

pub cutoff_in-k-requires : goal.cutoff_in-k-requires
cutoff_in-k-requires c =
    let a = c.args in
    let l = a.ledger.now in
    let b = but_charges a.s a.nets.now a.delivered.now a.lifts.now l.issues.now l.froms.now l.tos.now l.lots.now l.days.now c.requires.3.rest in
    can_cut_all c.dealt_today-dealt.result b (sound_parts b c.requires.3.sound) a.out.now
    (sound_cells b (sound_parts b c.requires.3.sound) c.requires.0.nets c.requires.0.delivered c.requires.1) c.requires.2 c.requires.4
    (sym (c.in_ok-cutoff_asks.ensures a.s.day))

pub returns-clause-done : goal.returns-clause-done
returns-clause-done c b q =
    let a = c.args in
    let l = a.ledger.now in
    let d = c.cutoff_in-k in
    let o = c.dealt_today-dealt in
    turn_yes (but_charges a.s a.nets.now a.delivered.now a.lifts.now l.issues.now l.froms.now l.tos.now l.lots.now l.days.now b) Cutoff a.out.now
    (room_out a.out.now c.requires.4) q d.result.records 0 _ _ _
    (cut_asked a.s o.result a.nets.now a.delivered.now a.lifts.now 0 b o.ensures c.in_ok-cutoff_asks.ensures)
    (was_cut a.s _ o.result a.nets.now a.delivered.now a.lifts.now l.issues.now l.froms.now l.tos.now l.lots.now l.days.now a.out.now
    d.result _ _ _ _ _ _ b (c.with_entries-next.ensures ∙ ap (λ t. with_entries t d.result.entries) c.with_phase.ensures) o.ensures d.ensures.done)
