-- The words so far, and those of the bytes left, are all of the words.
use Rattle.std.proofs.Common.{◌≡◌, ◌++◌, ◌*◌, length, take, drop}
use Rattle.rules.specs.Bytes.{words_in}
use Rattle.input.proofs.decode.Given as goal

abbrev pub invariant-loop-k : goal.invariant-loop-k
invariant-loop-k l =
    (length l.words ≡ length l.fn.words) × (take l.k l.words ++ words_in (drop (4 * l.k) l.bytes) ≡ words_in l.fn.bytes)
