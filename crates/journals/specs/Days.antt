-- Worked journals, as one list with one proof.
use Rattle.std.specs.Prelude.{refl, Err, List, [], ◌∷◌, ◌++◌, ℕ, set, take, drop, replicate}
use Rattle.rules.specs.declared.Instruction.TheVariants.{Trade, Close}
use Rattle.rules.specs.Days.{Case, case, Holds}
use Rattle.rules.specs.Tape.{read_of, quotes_of}
use Rattle.checksums.specs.Sums.{exchanged}
use Rattle.journals.specs.Record.{Logged, instructed, committed, padded, closed, record_of, checks, call_in, read_record, call_words}
use Rattle.journals.specs.Journal.{journal_of, read_next, ended, whole, torn, damaged, read_journal}

-- a trade, a close, and the commit of a ticket for unit 2 of issue 0
abbrev pub traded : Logged
traded = instructed (Trade 0 4 1 230000) []

abbrev pub closing : Logged
closing = instructed Close []

abbrev pub lifted : Logged
lifted = committed (record { issue = 0; unit = 2; account = 3; lots = 50000; day = 0; count = 1 })

abbrev pub morning : List ℕ
morning = journal_of (traded ∷ closing ∷ lifted ∷ [])

unfoldable pub worked_journals : List Case
worked_journals =
    -- number, the words of a tape, zeros, and the sum of once the first word, twice the second, ..
    case (record_of 0 traded) (0 ∷ 269488128 ∷ 2147713648 ∷ (replicate 31 0 ++ (2687149904 ∷ 1 ∷ [])))
    ∷ case (record_of 1 closing) (1 ∷ 1342177280 ∷ (replicate 32 0 ++ (2684354561 ∷ 0 ∷ [])))
    ∷ case (record_of 2 lifted) (2 ∷ 4026531840 ∷ 0 ∷ 2 ∷ 3 ∷ 50000 ∷ 0 ∷ 1 ∷ (replicate 26 0 ++ (3758396417 ∷ 1 ∷ [])))
    -- read back, and a journal of nothing
    ∷ case (read_journal morning) (ended (traded ∷ closing ∷ lifted ∷ []) whole)
    ∷ case (read_journal []) (ended [] whole)
    -- cut in its last record, before its last word and behind its first
    ∷ case (read_journal (take 107 morning)) (ended (traded ∷ closing ∷ []) torn)
    ∷ case (read_journal (take 73 morning)) (ended (traded ∷ closing ∷ []) torn)
    -- cut behind a record it is a shorter journal
    ∷ case (read_journal (take 72 morning)) (ended (traded ∷ closing ∷ []) whole)
    -- a word changed in the last record, and in one before it
    ∷ case (read_journal (set morning 77 50001)) (ended (traded ∷ closing ∷ []) torn)
    ∷ case (read_journal (set morning 37 1610612736)) (ended (traded ∷ []) (damaged 1))
    -- two words exchanged
    ∷ case (read_journal (exchanged morning 1 2)) (ended [] (damaged 0))
    -- the first record lost, and doubled
    ∷ case (read_journal (drop 36 morning)) (ended [] (damaged 0))
    ∷ case (read_journal (record_of 0 traded ++ morning)) (ended (traded ∷ []) (damaged 1))
    -- a record with its checksum and a word behind its call, or a kind that is none
    ∷ case (read_journal (closed (0 ∷ padded (1342177280 ∷ 1 ∷ [])))) (ended [] torn)
    ∷ case (read_journal (closed (0 ∷ padded (2684354560 ∷ [])))) (ended [] torn)
    -- the tape's reader refuses a commit
    ∷ case (read_of (call_words lifted)) (Err 14)
    ∷ []

-- each by computing what the definitions give
pub worked : Holds worked_journals
unfolding worked_journals padded closed record_of checks call_in read_record journal_of read_next read_journal read_of quotes_of
worked =
    (refl, (refl, (refl, (refl, (refl, (refl, (refl, (refl, (refl, (refl, (refl, (refl, (refl, (refl, (refl, (refl, tt))))))))))))))))
