-- Number, count and book are the run's, and so is the line.
use Rattle.std.proofs.Common.{arith}
use Rattle.report.proofs.Texts.{added_as}
use Rattle.passing.proofs.Goings.{same_line}
use Rattle.turns.proofs.turn.Goals as goal

pub returns-clause-done : goal.returns-clause-done
returns-clause-done c =
    let i = c.answer-answer.ensures.done in
    rw c.state_after-state.ensures
    (record {
      printed = added_as 72 72 _ _ _ _ _ _ (omega arith) (same_line c.args.index _ _ _ _ _ _ c.name_of.ensures i.says.refusal i.says.count) c.answer_line-end.ensures;
      book = i.says.book;
      lengths = i.lengths;
      sound = i.sound;
    })
