-- Writing all shortfalls from the start is the same as writing from here those that are left.
use Rattle.std.proofs.Common.{◌≡◌, length, map, drop}
use Rattle.rules.specs.Measures.{owed_of}
use Rattle.rules.specs.Fails.{undelivered}
use lib.Seq.{sets}
use Rattle.book.proofs.missing_of.Given as goal

abbrev pub invariant-loop-i : goal.invariant-loop-i
invariant-loop-i l =
    (length l.short ≡ length l.fn.short)
    × (sets l.fn.short 0 (undelivered (map owed_of l.net) l.delivered)
    ≡ sets l.short l.i (undelivered (drop l.i (map owed_of l.net)) (drop l.i l.delivered)))
