-- Worked snapshots, as one list with one proof.
use Rattle.std.specs.Prelude.{Err}
use Rattle.std.specs.Prelude.{refl, List, [], ◌∷◌, map, length, get_or, drop, take, pos, negsuc}
use Rattle.rules.specs.Days.{Case, case, Holds}
use Rattle.rules.specs.Book.{fresh}
use Rattle.snapshots.specs.Words.{signed_word, signed_in, long_words, longs_in, issue_in, from_in, to_in, day_in, entry_words}
use Rattle.snapshots.specs.Snapshot.{version, seal, saved, opened, seal_questions, questions}

unfoldable pub worked_words : List Case
worked_words =
    -- nets of −1 and of −20,000,000, and back
    case (map signed_word (negsuc 0 ∷ negsuc 19999999 ∷ pos 7 ∷ [])) (4294967295 ∷ 4274967296 ∷ 7 ∷ [])
    ∷ case (map signed_in (4294967295 ∷ 4274967296 ∷ 7 ∷ [])) (negsuc 0 ∷ negsuc 19999999 ∷ pos 7 ∷ [])
    -- charges of −1 and of 2 ^ 32 + 5, two words each
    ∷ case (long_words (negsuc 0 ∷ pos 4294967301 ∷ [])) (4294967295 ∷ 4294967295 ∷ 5 ∷ 1 ∷ [])
    ∷ case (longs_in (4294967295 ∷ 4294967295 ∷ 5 ∷ 1 ∷ [])) (negsuc 0 ∷ pos 4294967301 ∷ [])
    -- issue 15, from account 63 to account 62, of day 65,535: every bit but one
    ∷ case (entry_words (15 ∷ []) (63 ∷ []) (62 ∷ []) (65535 ∷ [])) (4294901759 ∷ [])
    ∷ case (issue_in 4294901759 ∷ from_in 4294901759 ∷ to_in 4294901759 ∷ day_in 4294901759 ∷ []) (15 ∷ 63 ∷ 62 ∷ 65535 ∷ [])
    -- a body of three words behind version and checksum
    ∷ case (seal (5 ∷ 7 ∷ 1 ∷ [])) (version ∷ 22 ∷ 0 ∷ 5 ∷ 7 ∷ 1 ∷ [])
    -- a fresh book: its length, its version, and the words of its state and first marks
    ∷ case (length (saved fresh)) 6583
    ∷ case (get_or (saved fresh) 0 0) 1399734321
    ∷ case (take 6 (drop 3 (saved fresh))) (0 ∷ 0 ∷ 0 ∷ 0 ∷ 0 ∷ 0 ∷ [])
    -- words lacking
    ∷ case (opened (seal (5 ∷ 7 ∷ 1 ∷ []))) (Err 1)
    ∷ case (opened []) (Err 1)
    ∷ []

-- each by computing what the definitions give
pub worked : Holds worked_words
unfolding worked_words saved opened seal_questions questions
worked =
    (refl, (refl, (refl, (refl, (refl, (refl, (refl, (refl, (refl, (refl, (refl, (refl, tt))))))))))))
