-- What the functions of this crate may count on, and what they leave.
use Rattle.std.specs.Prelude.{◌≡◌, Bool, true, not, ◌&&◌, List, ◌++◌, ℕ, ◌≤◌, ltb, eqb, length, get_or, drop, replicate}
use Rattle.rules.specs.Book.{all}
use Rattle.reports.specs.Allotting.{those, Allotment, allotment, allot}
use Rattle.sharing.specs.declared.Group.{Group}
use Rattle.sharing.specs.declared.Group.TheVariants as the

-- does a counterparty put its report into the group?
abbrev pub faces : Group → ℕ → ℕ → Bool
faces the.Facing failing party = eqb party failing
faces the.Others failing party = not (eqb party failing)

-- a report with a size belongs to one of the two groups
abbrev pub in_group : Group → ℕ → ℕ → ℕ → Bool
in_group group failing size party = ltb 0 size && faces group failing party

-- a group's reports in the drawn order, by columns of sizes and counterparties
abbrev pub grouped : Group → ℕ → List ℕ → List ℕ → List ℕ → List ℕ
grouped group failing sizes parties draw = those (λ k. in_group group failing (get_or sizes k 0) (get_or parties k 0)) draw

-- numbers drawn of the reports with these sizes, with a place for each in every column
pub record Drawn (sizes parties draw out : List ℕ) : Type 0 where
  pub below : all (λ k. ltb k (length sizes)) draw ≡ true
  pub faced : length sizes ≤ length parties
  pub room : length sizes ≤ length out

abbrev pub allot_group : Group → ℕ → List ℕ → List ℕ → List ℕ → Allotment → Allotment
allot_group group failing sizes parties draw a = allot (λ k. get_or sizes k 0) (grouped group failing sizes parties draw) a

-- first those facing the failing account, then the others, in an output whose places of the reports are 0
unfoldable pub shared_out : ℕ → List ℕ → List ℕ → List ℕ → ℕ → List ℕ → List ℕ
shared_out failing sizes parties draw fail out =
    (allot_group the.Others failing sizes parties draw
    (allot_group the.Facing failing sizes parties draw (allotment fail (replicate (length sizes) 0 ++ drop (length sizes) out)))).shares
