-- The kind; without the right the number of the refusal, with it the call.
use Rattle.std.proofs.Common.{◌≡◌, ◌∙◌, refl, sym, ap, []}
use Rattle.rules.specs.declared.Book.{Book}
use Rattle.rules.specs.declared.Instruction.{Instruction}
use Rattle.rules.specs.Access.{has_right}
use Rattle.rules.specs.Questions.{first_no}
use Rattle.rules.specs.Run.{call_of}
use Rattle.columns.specs.Books.{lent_book}
use Rattle.desk.specs.Fields.{instruction_of}
use Rattle.desk.proofs.Numbered.{no_instruction, an_instruction}
use Rattle.host.specs.States.{state_in}
use Rattle.callers.specs.Callers.{asks_at}
use Rattle.callers.proofs.ByCaller.{by_no_kind, by_no_right, by_right}
use Rattle.callers.proofs.day_call_as.Goals as goal
use Rattle.callers.proofs.day_call_as.Goals.{Start, After-has_right}

abbrev book : Start → Book
book c = lent_book (state_in c.args.state) c.args.columns.now

abbrev asked : Start → Instruction
asked c = let a = c.args in instruction_of a.kind a.a a.b a.c a.d

-- the right to the instruction that is asked
right : (c : After-has_right) → c.has_right.result ≡ has_right c.args.w (call_of (instruction_of c.args.kind c.args.a c.args.b c.args.c c.args.d) [])
right c = c.has_right.ensures ∙ ap (λ (x : Instruction). has_right c.args.w (call_of x [])) (an_instruction _ _ _ c.in-Some.ensures).1

pub returns-in_default-clause-called : goal.returns-in_default-clause-called
returns-in_default-clause-called c =
    let a = c.args in
    let s = (goal.at.returns-in_default-clause-called c).Start in
    rw (c.refused.ensures, c.number.ensures)
    (by_no_kind a.w a.kind a.state (book s) (asked s) a.quotes.now a.out.now refl (no_instruction _ _ c.in_default.ensures))

pub returns-then-not-has_right-clause-called : goal.returns-then-not-has_right-clause-called
returns-then-not-has_right-clause-called c =
    let a = c.args in
    let s = (goal.at.returns-then-not-has_right-clause-called c).Start in
    let h = (goal.at.returns-then-not-has_right-clause-called c).After-has_right in
    let i = an_instruction _ _ _ c.in-Some.ensures in
    rw (c.refused-then-not-has_right.ensures, c.number-then-not-has_right.ensures)
    (by_no_right a.w a.kind a.state (book s) (asked s) a.quotes.now a.out.now refl i.0 (sym (right h) ∙ c.if-not-has_right.true) _
    (c.no_right-no.ensures
    ∙ ap (λ (b : Book). first_no (asks_at a.state.phase b (call_of c.in-Some.x []) a.out.now)) (c.shared.ensures (state_in a.state))
    ∙ ap (λ (x : Instruction). first_no (asks_at a.state.phase (book s) (call_of x []) a.out.now)) i.1))

pub returns-clause-called : goal.returns-clause-called
returns-clause-called c =
    let a = c.args in
    let s = (goal.at.returns-clause-called c).Start in
    let h = (goal.at.returns-clause-called c).After-has_right in
    let i = an_instruction _ _ _ c.in-Some.ensures in
    rw (← by_right a.w a.kind a.state (book s) (asked s) a.quotes.now a.out.now refl i.0 (sym (right h) ∙ c.if-not-has_right.false))
    (rw i.1 at c.instruction_call.ensures.called)
