-- What stands at the front of the rest of a journal, in plain numbers.
use Rattle.std.specs.Prelude.{Option, option_map, [], ◌∷◌, ℕ, get_or, replicate}
use Rattle.rules.specs.declared.Instruction.{Instruction}
use Rattle.desk.specs.Fields.{fields_of}
use Rattle.journals.specs.Record.{Logged, instructed, committed, commit_kind, ticket_words}
use Rattle.journals.specs.Journal.{Next, call, none, torn, damaged}
use Rattle.journal.specs.declared.Journalled.{Journalled}
use Rattle.journal.specs.declared.reading.Unread.{Unread}
use Rattle.journal.specs.declared.reading.Unread.TheVariants as unread

-- no call: a reason, and 0 for every other number
abbrev pub nothing_for : ℕ → Journalled
nothing_for reason = record { reason = reason; kind = 0; numbers = replicate 6 0 }

-- an instruction: its kind and four numbers, then two times 0
abbrev pub instruction_as : Instruction → Journalled
instruction_as x =
    let fs = fields_of x in
    record {
      reason = 0;
      kind = get_or fs 0 0;
      numbers = get_or fs 1 0 ∷ get_or fs 2 0 ∷ get_or fs 3 0 ∷ get_or fs 4 0 ∷ 0 ∷ 0 ∷ [];
    }

-- a commit: kind 15 and the ticket's six numbers
abbrev pub plain_of : Logged → Journalled
plain_of (instructed x quotes) = instruction_as x
plain_of (committed t) = record { reason = 0; kind = commit_kind; numbers = ticket_words t }

-- a call that is read
abbrev pub told_in : Option Logged → Option Journalled
told_in = option_map plain_of

-- 1 no word is left, 2 torn, 3 damaged
abbrev pub reason_of : Next → ℕ
reason_of (call c) = 0
reason_of none = 1
reason_of torn = 2
reason_of damaged = 3

abbrev pub journalled : Next → Journalled
journalled (call c) = plain_of c
journalled none = nothing_for (reason_of none)
journalled torn = nothing_for (reason_of torn)
journalled damaged = nothing_for (reason_of damaged)

-- why no call is read
abbrev pub as_next : Unread → Next
as_next unread.Ended = none
as_next unread.Torn = torn
as_next unread.Damaged = damaged
