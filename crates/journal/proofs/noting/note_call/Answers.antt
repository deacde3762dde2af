-- Room and kind, then what the tape's writer answers, then the rest of the record.
use Rattle.std.proofs.Common.{◌∙◌, ◌-◌, refl, ap, arith, length, take, drop}
use Rattle.rules.specs.declared.Instruction.{Instruction}
use Rattle.rules.specs.Tape.{write_of}
use Rattle.desk.specs.Fields.{instruction_of}
use Rattle.desk.proofs.Numbered.{no_instruction, an_instruction}
use Rattle.laws.proofs.Refused.{above_0}
use Rattle.journal.proofs.Stored.{call_short, call_no_kind, call_refused, call_begun, call_done}
use Rattle.journal.proofs.noting.note_call.Goals as goal

pub returns-then-out-lt36 : goal.returns-then-out-lt36
returns-then-out-lt36 c =
    let a = c.args in
    call_short a.number a.kind (instruction_of a.kind a.a a.b a.c a.d) a.quotes.now a.out.now c.if-out-lt36.true

pub returns-in_default : goal.returns-in_default
returns-in_default c =
    let a = c.args in
    call_no_kind a.number a.kind (instruction_of a.kind a.a a.b a.c a.d) a.quotes.now a.out.now c.if-out-lt36.false
    (no_instruction _ _ c.in_default.ensures)

pub returns-in_default-write : goal.returns-in_default-write
returns-in_default-write c =
    let a = c.args in
    let i = an_instruction _ _ _ c.in-Some.ensures in
    let r = above_0 c.in_default-write.field-0 in
    call_refused a.number a.kind (instruction_of a.kind a.a a.b a.c a.d) a.quotes.now a.out.now c.if-out-lt36.false
    _ _ c.write.new.out
    (c.in_default-write.ensures
    ∙ ap (λ (x : Instruction). write_of x a.quotes.now (take (length a.out.now - 1) (drop 1 a.out.now))) i.1)
    i.0 (λ z. omega (arith, r, z))

pub finish-requires : goal.finish-requires
finish-requires c =
    let a = c.args in
    let i = an_instruction _ _ _ c.in-Some.ensures in
    call_begun a.number a.kind (instruction_of a.kind a.a a.b a.c a.d) a.quotes.now a.out.now c.if-out-lt36.false
    0 c.in-Ok.count c.write.new.out
    (c.in-Ok.ensures
    ∙ ap (λ (x : Instruction). write_of x a.quotes.now (take (length a.out.now - 1) (drop 1 a.out.now))) i.1)
    refl

pub returns : goal.returns
returns c =
    let a = c.args in
    let i = an_instruction _ _ _ c.in-Some.ensures in
    call_done a.number a.kind (instruction_of a.kind a.a a.b a.c a.d) a.quotes.now a.out.now c.if-out-lt36.false
    0 c.in-Ok.count c.write.new.out
    (c.in-Ok.ensures
    ∙ ap (λ (x : Instruction). write_of x a.quotes.now (take (length a.out.now - 1) (drop 1 a.out.now))) i.1)
    _ i.0 refl c.finish.ensures
