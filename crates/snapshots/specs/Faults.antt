-- Why words are no snapshot, and the number of each question.
use Rattle.std.specs.Prelude.{ℕ, Result, Ok, Err}
use Rattle.snapshots.specs.declared.Fault.{Fault}
use Rattle.snapshots.specs.declared.Fault.TheVariants as fault

abbrev pub fault_number : Fault → ℕ
fault_number fault.Length = 1
fault_number fault.Version = 2
fault_number fault.Checksum = 3
fault_number fault.Field = 4
fault_number fault.Unsound = 5

-- the number in an answer of the code, 0 where it is done
abbrev pub fault_in : {A : Type 0} → Result A Fault → ℕ
fault_in (Ok a) = 0
fault_in (Err f) = fault_number f
