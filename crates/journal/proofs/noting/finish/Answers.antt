-- The zeros, the number and the checksum make the record.
use Rattle.std.proofs.Common.{◌≡◌, ℕ, List, ◌+◌, ◌-◌, ◌≤◌, sym, ap, arith, length, take, replicate, length-set, length-take-le}
use lib.ListN.{set}
use lib.Seq.{sets, length-sets}
use Rattle.journals.specs.Record.{record_words, summed_words}
use Rattle.journal.proofs.Laid.{laid}
use Rattle.journal.proofs.noting.finish.Goals as goal

-- with zeros and number there is as much room as before
module _ (n count : ℕ) (out new : List ℕ) (room : record_words ≤ length out) (e : new ≡ sets out (count + 1) (replicate (summed_words - (count + 1)) 0)) where
  summed : length (take summed_words (set new 0 n)) ≡ summed_words
  summed =
      let l = length-sets out (count + 1) (replicate (summed_words - (count + 1)) 0) in
      length-take-le summed_words (set new 0 n) (omega (arith, length-set new 0 n, ap length e, l, room))

pub slice_bounds-checksum-end-2 : goal.slice_bounds-checksum-end-2
slice_bounds-checksum-end-2 c = sym (summed c.args.number c.args.count c.args.out.now c.clear.new.out c.requires.room c.clear.ensures)

pub checksum-sum-requires : goal.checksum-sum-requires
checksum-sum-requires c = omega (arith, summed c.args.number c.args.count c.args.out.now c.clear.new.out c.requires.room c.clear.ensures)

pub returns : goal.returns
returns c =
    laid c.args.number c.args.count c.checksum-sum.result c.args.out.now c.clear.new.out c.requires.words c.requires.room
    c.clear.ensures c.checksum-sum.ensures
