-- The kind, and then the call of the instruction.
use Rattle.std.proofs.Common.{refl}
use Rattle.columns.specs.Books.{lent_book}
use Rattle.desk.specs.Fields.{instruction_of}
use Rattle.desk.proofs.Numbered.{no_instruction, an_instruction}
use Rattle.host.specs.States.{state_in}
use Rattle.host.proofs.Calling.{no_kind, called_is}
use Rattle.host.proofs.calls.day_call.Goals as goal

pub returns-in-Some-clause-called : goal.returns-in-Some-clause-called
returns-in-Some-clause-called c =
    let a = c.args in
    let i = an_instruction _ _ _ c.in-Some.ensures in
    called_is a.state (lent_book (state_in a.state) a.columns.now) (instruction_of a.kind a.a a.b a.c a.d) a.quotes.now a.out.now a.kind _ _ _
    i.0 (rw i.1 at c.instruction_call.ensures.called)

pub returns-in-None-clause-called : goal.returns-in-None-clause-called
returns-in-None-clause-called c =
    let a = c.args in
    rw (c.refused.ensures, c.number.ensures)
    (no_kind a.state (lent_book (state_in a.state) a.columns.now) (instruction_of a.kind a.a a.b a.c a.d) a.quotes.now a.out.now refl a.kind
    (no_instruction _ _ c.in-None.ensures))
