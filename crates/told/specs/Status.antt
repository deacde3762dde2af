-- The reason a unit has not come: for issue and unit number the book tells one of four things.
use Rattle.std.specs.Prelude.{Bool, not, cond, ◌&&◌, List, [], ◌∷◌, ℕ, zero, suc, ◌-◌, ltb, eqb, length, take, drop, Result, Ok, Err}
use Rattle.rules.specs.declared.Book.{Book}
use Rattle.rules.specs.declared.Phase.{Phase}
use Rattle.rules.specs.declared.Refusal.{Refusal}
use Rattle.rules.specs.Refusals.{number_of}
use Rattle.rules.specs.Units.{AccountLots, sum_lots}
use Rattle.rules.specs.Handover.{covered, stock, first_unit}
use Rattle.rules.specs.Book.{is_taking, is_cut, delivered_total, Orders, order_of}
use Rattle.rules.specs.Questions.{Question, ask, first_no, ask_sound, ask_issue}
use Rattle.told.specs.declared.Told.{Told}
use Rattle.told.specs.declared.Told.TheVariants as told

-- handed; waiting, with n lots; partly failed, with the lots lacking; wholly failed; a refusal is none of them, and has
-- its number
pub data StatusAnswer : Type 0 where
  is_handed : StatusAnswer
  waits_for : ℕ → StatusAnswer
  fails_partly : ℕ → StatusAnswer
  fails_wholly : StatusAnswer
  status_refused : ℕ → StatusAnswer

-- the paper's answer for each answer of the code
abbrev pub told_answer : Result Told Refusal → StatusAnswer
told_answer (Ok told.Handed) = is_handed
told_answer (Ok (told.Waiting n)) = waits_for n
told_answer (Ok (told.PartlyFailed x)) = fails_partly x
told_answer (Ok told.WhollyFailed) = fails_wholly
told_answer (Err r) = status_refused (number_of r)

-- unit k of some units, of which d lots are delivered

-- it is handed
abbrev pub covers : List AccountLots → ℕ → ℕ → Bool
covers us d k = ltb k (covered us d)

-- n: the lots that all units up to it, it included, have more than are delivered
abbrev pub wanted : List AccountLots → ℕ → ℕ → ℕ
wanted us d k = sum_lots (take (suc k) us) - d

-- in Settling
unfoldable pub in_settling : List AccountLots → ℕ → ℕ → StatusAnswer
in_settling us d k = cond (covers us d k) is_handed (waits_for (wanted us d k))

-- at the cutoff the remaining stock, if not 0, went to the next unit
abbrev pub takes_stock : List AccountLots → ℕ → ℕ → Bool
takes_stock us d k = eqb k (covered us d) && ltb 0 (stock us d)

-- after cutoff, lacking means lacking at cutoff: the ledger is not read, so that later resolves are not counted
unfoldable pub after_cutoff : List AccountLots → ℕ → ℕ → StatusAnswer
after_cutoff us d k =
    cond (covers us d k) is_handed
    (cond (takes_stock us d k) (fails_partly ((first_unit (drop k us)).lots - stock us d)) fails_wholly)

abbrev pub reason : Phase → List AccountLots → ℕ → ℕ → StatusAnswer
reason phase us d k = cond (is_cut phase) (after_cutoff us d k) (in_settling us d k)

-- Taking is refused by phase
abbrev pub ask_not_taking : Phase → Question
ask_not_taking p = ask 3 (not (is_taking p))

-- a missing unit by 16
abbrev pub ask_unit : List AccountLots → ℕ → Question
ask_unit us k = ask 16 (ltb k (length us))

abbrev pub status_asks : Phase → Orders → ℕ → ℕ → List Question
status_asks phase us i k = ask_not_taking phase ∷ ask_issue i ∷ ask_unit (us i) k ∷ []

abbrev pub status_answer : ℕ → StatusAnswer → StatusAnswer
status_answer zero s = s
status_answer (suc r) s = status_refused (suc r)

-- the units are those of the order as lifted, in Settling and in Cut
unfoldable pub status : Book → ℕ → ℕ → StatusAnswer
status b i k =
    status_answer (first_no (ask_sound b ∷ status_asks b.state.phase (order_of b) i k))
    (reason b.state.phase (order_of b i) (delivered_total b.delivered i) k)
