-- With no 'no' the columns are rolled in place.
use Rattle.std.proofs.Common.{rules, refl, sym, ap, ◌∙◌, replicate, pos}
use Rattle.std.proofs.lemmas.Result.{err_from_is_err_and}
use Rattle.rules.specs.Calls.{Roll}
use Rattle.columns.specs.Books.{lent_book}
use Rattle.answers.proofs.Turning.{turn_no, turn_yes}
use Rattle.rolling.proofs.Asks.{chargeable}
use Rattle.rolling.proofs.Turned.{rolled}
use Rattle.rolling.proofs.roll.Goals as goal

pub returns-in_err-roll_asks-clause-made : goal.returns-in_err-roll_asks-clause-made
returns-in_err-roll_asks-clause-made c out =
    let a = c.args in
    let p = err_from_is_err_and c.from_residual.result c.from_residual.ensures.1 in
    rw (p.1, p.2)
    (turn_no (lent_book a.s a.columns.now) (Roll a.days a.rate a.quotes.now) out refl c.requires.sound _ c.in_err-roll_asks.ensures)

pub charge_entries-requires : goal.charge_entries-requires
charge_entries-requires c =
    let a = c.args in
    chargeable a.s a.columns.now a.days a.rate a.quotes.now c.requires (sym c.in_ok-roll_asks.ensures)

-- each column is cleared over its length
pub returns-clause-made : goal.returns-clause-made
returns-clause-made c out =
    let a = c.args in
    let l = c.requires.lengths in
    let b = lent_book a.s a.columns.now in
    rw c.done.ensures
    (turn_yes b (Roll a.days a.rate a.quotes.now) out refl c.requires.sound 0 0 _ _ _ c.in_ok-roll_asks.ensures
    (rolled b a.days a.rate a.quotes.now _ _ _ _ _ out c.next_day-next.ensures
    (c.fill.ensures.after (λ y h. search rules) ∙ ap (λ k. replicate k (pos 0)) l.cells.nets)
    (c.fill-2.ensures.after (λ y h. search rules) ∙ ap (λ k. replicate k 0) l.cells.delivered)
    (c.fill-3.ensures.after (λ y h. search rules) ∙ ap (λ k. replicate k 0) l.lifts)
    c.charge_entries.ensures))
