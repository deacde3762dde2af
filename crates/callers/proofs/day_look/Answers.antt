-- Question 2, and then what is seen in place.
use Rattle.std.proofs.Common.{◌≡◌, ◌∙◌, ap}
use Rattle.rules.specs.declared.State.{State}
use Rattle.rules.specs.Access.{seen_answer}
use Rattle.laws.proofs.Sound.{sound_parts}
use Rattle.columns.specs.declared.SharedLedger.{SharedLedger}
use Rattle.columns.specs.Books.{shared_book}
use Rattle.access.specs.Places.{look_of}
use Rattle.host.specs.States.{state_in}
use Rattle.host.proofs.Holding.{sound_book, sound_lengths}
use Rattle.callers.specs.Callers.{day_look, seen_in}
use Rattle.callers.proofs.AskingBy.{look_unsound, look_told}
use Rattle.callers.proofs.day_look.Goals as goal
use Rattle.callers.proofs.day_look.Goals.{Joined-held, in-Ok, in-Err}

pub look_in-found-requires : goal.look_in-found-requires
look_in-found-requires c =
    let a = c.args in
    let b = shared_book (state_in a.state) a.columns in
    let g = c.in-Ok.ensures.1 in
    let l = sound_lengths a.state.phase b g in
    rw (c.in-Ok.ensures.0, c.ledger_of.ensures)
    (record {
      most = (sound_parts b (sound_book a.state.phase b g)).ledger.count;
      nets = l.cells.nets;
      charges = l.charges;
      ledger = l.ledger;
    })

-- what is found is what is seen of the host's book
found : (c : Joined-held) →
    let a = c.args in seen_answer c.match-held.found ≡ day_look a.w a.state.phase (shared_book (state_in a.state) a.columns) a.issue a.account a.k
found c =
    let a = c.args in
    elim c.match-held.branch [
      | in-Ok w ↦
          rw w.found-is
          (look_told a.w a.state.phase (state_in a.state) a.columns a.issue a.account a.k (seen_answer w.look_in-found.result) w.in-Ok.ensures.1
          (w.look_in-found.ensures
          ∙ ap (λ (t : State). look_of a.w t.entries a.columns.nets.now a.columns.charges.now w.ledger_of.result a.issue a.account a.k) w.in-Ok.ensures.0
          ∙ ap (λ (l : SharedLedger). look_of a.w (state_in a.state).entries a.columns.nets.now a.columns.charges.now l a.issue a.account a.k) w.ledger_of.ensures))
      | in-Err w ↦
          rw (w.found-is, w.in-Err.ensures.0)
          (look_unsound a.w a.state.phase (state_in a.state) a.columns a.issue a.account a.k w.in-Err.ensures.1)
    ]

pub returns : goal.returns
returns c = c.seen_out.ensures ∙ ap seen_in (found (goal.at.returns c).Joined-held)
