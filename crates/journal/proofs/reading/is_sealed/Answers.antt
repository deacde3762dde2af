-- Number and checksum are compared as they stand.
use Rattle.std.proofs.Common.{sym, arith, length-take-le}
use Rattle.journals.specs.Record.{summed_words, checks}
use Rattle.journal.proofs.reading.is_sealed.Goals as goal

pub slice_bounds-checksum-end : goal.slice_bounds-checksum-end
slice_bounds-checksum-end c = sym (length-take-le summed_words c.args.words.now (omega (arith, c.requires)))

pub checksum-sum-requires : goal.checksum-sum-requires
checksum-sum-requires c = omega (arith, length-take-le summed_words c.args.words.now (omega (arith, c.requires)))

pub returns : goal.returns
unfolding checks
returns c = rw c.checksum-sum.ensures
