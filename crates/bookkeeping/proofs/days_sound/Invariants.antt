-- The flag and the tests that are left, from the day before on, are those of the whole column.
use Rattle.std.proofs.Common.{◌≡◌, ◌&&◌, ◌-◌, drop, get_or}
use Rattle.bookkeeping.specs.Columns.{days_rise}
use Rattle.bookkeeping.proofs.days_sound.Given as goal

abbrev pub invariant-loop-k : goal.invariant-loop-k
invariant-loop-k l = l.good && days_rise (get_or l.days (l.k - 1) 0) l.today (drop l.k l.days) ≡ days_rise 0 l.today l.days
