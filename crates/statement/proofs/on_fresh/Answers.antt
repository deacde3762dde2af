-- The columns are those of a fresh book.
use Rattle.std.proofs.Common.{◌∙◌}
use Rattle.statement.proofs.Counted.{fresh_lengths, fresh_is_sound, fresh_room, on_fresh_book}
use Rattle.statement.proofs.on_fresh.Goals as goal

pub span-requires : goal.span-requires
span-requires c =
    (record { lengths = fresh_lengths; sound = fresh_is_sound c.state_of-s.result c.state_of-s.ensures; room = fresh_room }, c.requires)

pub returns : goal.returns
returns c =
    let a = c.args in
    c.span.ensures ∙ on_fresh_book c.state_of-s.result c.state_of-s.ensures a.words.now a.issue a.account
