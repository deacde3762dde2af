-- The head and then the words of the quotes are put over the output.
use Rattle.std.proofs.Common.{◌∙◌, sym, ap, arith, suc}
use Rattle.std.proofs.lemmas.List.{length-map}
use Rattle.rules.specs.Tape.{quote_word}
use Rattle.writing.proofs.Fitting.{roll_fits}
use Rattle.writing.proofs.Writing.{all_written}
use Rattle.writing.proofs.put_roll.Goals as goal

pub returns : goal.returns
returns c =
    let a = c.args in
    let fit = sym c.roll_fits.ensures ∙ c.if-not-roll_fits.false in
    let count = (roll_fits a.days a.rate a.quotes.now fit).count in
    all_written _ _ _ 33 _ fit (ap suc (length-map a.quotes.now quote_word ∙ count)) (omega arith)
    (c.put_quotes.ensures ∙ rw c.roll_head.ensures)
