-- The four ways of a number: before the window, beyond it, marked before, marked now.
use Rattle.std.proofs.Common.{rules, ◌-◌, ◌/◌, ◌%◌, get_or, sym, ◌∙◌, arith, eqb-true}
use Rattle.drawing.proofs.Marks.{bit_clear, elsewhere, marked_before, marked_now}
use Rattle.drawing.proofs.mark.Goals as goal

pub returns-then-j-w : goal.returns-then-j-w
returns-then-j-w c = let a = c.args in elsewhere a.w a.j a.marks.now (λ d l q. omega arith)

pub returns-then-marks-at : goal.returns-then-marks-at
returns-then-marks-at c = let a = c.args in elsewhere a.w a.j a.marks.now (λ d l q. omega arith)

pub returns-then-is_set : goal.returns-then-is_set
returns-then-is_set c =
    let a = c.args in
    marked_before a.w a.j a.marks.now (omega arith) (omega arith)
    (eqb-true _ _ (sym c.is_set.ensures ∙ c.if-is_set.true))

pub with_bit-requires : goal.with_bit-requires
with_bit-requires c =
    let a = c.args in
    (search rules, bit_clear (get_or a.marks.now ((a.j - a.w) / 64) 0) ((a.j - a.w) % 64) (sym c.is_set.ensures ∙ c.if-is_set.false))

pub returns : goal.returns
returns c =
    let a = c.args in
    rw c.with_bit.ensures
    (marked_now a.w a.j a.marks.now (omega arith) (omega arith)
    (bit_clear (get_or a.marks.now ((a.j - a.w) / 64) 0) ((a.j - a.w) % 64) (sym c.is_set.ensures ∙ c.if-is_set.false)))
