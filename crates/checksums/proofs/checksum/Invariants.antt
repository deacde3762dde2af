-- The words so far are those behind the ones that are left.
use Rattle.checksums.proofs.Bounds.{Summed}
use Rattle.checksums.proofs.checksum.Given as goal

abbrev pub invariant-loop-word : goal.invariant-loop-word
invariant-loop-word l = Summed l.words l.word-iterator.iter.rest.now l.end l.total
