-- The run so far, of the bytes that came, printed as many bytes as were sent; the reads made are so few that no number wraps.
use Rattle.std.proofs.Common.{◌≡◌, true, false, ◌-◌, ◌*◌, ◌≤◌}
use Rattle.playing.specs.Playing.{most_reads, Buffers, Standing, unused}
use Rattle.playing.proofs.Sofar.{Sofar}
use Rattle.playing.proofs.play.Given as goal

abbrev pub invariant-loop-sent : goal.invariant-loop-sent
invariant-loop-sent g l =
    Buffers l.bytes l.words l.text l.out l.kept
    × Standing l.p
    × (l.p.index ≤ 4096 * l.reads)
    × (l.sent.count ≤ 327680 * l.reads)
    × (l.reads ≤ most_reads)
    × Sofar l.p.over l.p.failed l.reads l.p.index l.p.book (unused l.p l.bytes) l.sent.count
    × (l.reads ≡ 0 → (l.sent.written ≡ true) × (l.p.over ≡ false) × (l.p.failed ≡ false))

abbrev pub decreases-loop-sent : goal.decreases-loop-sent
decreases-loop-sent g l = most_reads - l.reads
