-- The call: its questions and its answer. The book is read only, and of it the nets alone.
use Rattle.std.specs.Prelude.{Bool, ◌&&◌, List, [], ◌∷◌, ℕ, zero, suc, leb, eqb, length, replicate, ℤ}
use Rattle.rules.specs.declared.Book.{Book}
use Rattle.rules.specs.Measures.{issue_count, account_count, unit_lots, most_lots, between}
use Rattle.rules.specs.Book.{all, sound}
use Rattle.rules.specs.Questions.{Question, ask, first_no}
use Rattle.desks.specs.Desk.{Plan, plan, Ended, last_settlement, inventory_count, simulated, owed_of_each}

-- 5. Has each netting account a settlement account of at most 15?
abbrev pub ask_settlements : List ℕ → Question
ask_settlements settles = ask 5 (eqb (length settles) account_count && all (λ s. leb s last_settlement) settles)

-- 7. Is the size 1..100,000, and is there for each issue and settlement account an inventory of at most 20,000,000?
abbrev pub ask_sizes : ℕ → List ℕ → Question
ask_sizes size inventories =
    ask 7 (between 1 unit_lots size && eqb (length inventories) inventory_count && all (λ x. leb x most_lots) inventories)

-- 2. where it is answered so
abbrev pub simulation_asks : Bool → List ℕ → List ℕ → ℕ → List Question
simulation_asks good settles inventories size = ask 2 good ∷ ask_settlements settles ∷ ask_sizes size inventories ∷ []

-- the result: deliveries made, rounds, the last one included, and the lots still owed of each issue
pub record Tried : Type 0 where
  pub refusal : ℕ
  pub deliveries : ℕ
  pub rounds : ℕ
  pub owed : List ℕ

abbrev pub tried : ℕ → ℕ → ℕ → List ℕ → Tried
tried refusal deliveries rounds owed = record { refusal = refusal; deliveries = deliveries; rounds = rounds; owed = owed }

abbrev pub outcome : Plan → Ended → Tried
outcome p r = tried 0 r.desk.made r.rounds (owed_of_each p.nets r.desk.delivered)

-- a refusal gives its number and 0 for every other number
abbrev pub refused : ℕ → Tried
refused n = tried n 0 0 (replicate issue_count 0)

abbrev pub tried_answer : ℕ → Tried → Tried
tried_answer zero t = t
tried_answer (suc n) t = refused (suc n)

unfoldable pub simulation_where : Bool → List ℤ → List ℕ → List ℕ → ℕ → Tried
simulation_where good nets settles inventories size =
    tried_answer (first_no (simulation_asks good settles inventories size))
    (outcome (plan nets settles size) (simulated (plan nets settles size) inventories))

-- of a book, settlement accounts of its netting accounts, opening inventories and a size of units
abbrev pub simulation : Book → List ℕ → List ℕ → ℕ → Tried
simulation b = simulation_where (sound b) b.nets
