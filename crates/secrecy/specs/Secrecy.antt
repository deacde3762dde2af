-- Two books alike to a participant, and what it is then told by either.
use Rattle.std.specs.Prelude.{◌≡◌, Bool, true, false, cond, List, [], ◌∷◌, ℕ, ◌<◌, length}
use Rattle.rules.specs.declared.Book.{Book}
use Rattle.rules.specs.declared.Caller.{Caller}
use Rattle.rules.specs.declared.Entry.{Entry}
use Rattle.rules.specs.Measures.{issue_count, account_count}
use Rattle.rules.specs.Book.{net_at, delivered_at, is_marked, ledger_of, sound}
use Rattle.rules.specs.Calls.{Call, lends}
use Rattle.rules.specs.Access.{is_operator, owns, those, charge_at}
use Rattle.secrecy.specs.Requests.{Request, make, ask_for, unit_of, status_of, simulate, read, Reply, reply, after_request}

-- an entry with an own account at either end
abbrev pub own_entry : Caller → Entry → Bool
own_entry w e = cond (owns w e.from) true (owns w e.to)

-- alike in phase, day, change-over day, marks and that participant's nets, delivered lots, charges and entries in their order
pub record Alike (w : Caller) (b b' : Book) : Type 0 where
  pub phase : b.state.phase ≡ b'.state.phase
  pub day : b.state.day ≡ b'.state.day
  pub turn : b.state.turn ≡ b'.state.turn
  pub marks : (i : ℕ) → i < issue_count → is_marked b.state.marks i ≡ is_marked b'.state.marks i
  pub nets : (i a : ℕ) → i < issue_count → a < account_count → owns w a ≡ true → net_at b.nets i a ≡ net_at b'.nets i a
  pub delivered : (i a : ℕ) → i < issue_count → a < account_count → owns w a ≡ true →
      delivered_at b.delivered i a ≡ delivered_at b'.delivered i a
  pub charges : (a : ℕ) → a < account_count → owns w a ≡ true → charge_at b.charges a ≡ charge_at b'.charges a
  pub entries : those (own_entry w) (ledger_of b) ≡ those (own_entry w) (ledger_of b')

-- the same request: of an output that is lent only the length counts, and of any other nothing
pub data SameRequest : Request → Request → Type 0 where
  same_call : (c : Call) (lent out : List ℕ) → (lends c ≡ true → length lent ≡ length out) → SameRequest (make c lent) (make c out)
  same_ask : (i k : ℕ) → SameRequest (ask_for i k) (ask_for i k)
  same_unit : (i k : ℕ) → SameRequest (unit_of i k) (unit_of i k)
  same_status : (i k : ℕ) → SameRequest (status_of i k) (status_of i k)
  same_simulation : (settles inventories : List ℕ) (size : ℕ) →
      SameRequest (simulate settles inventories size) (simulate settles inventories size)
  same_read : (i a k : ℕ) → SameRequest (read i a k) (read i a k)

-- two sound books alike to it give any caller but the operator equal answers to the same request
abbrev pub Secret : Type 0
Secret =
    (w : Caller) → is_operator w ≡ false → (b b' : Book) → sound b ≡ true → sound b' ≡ true → Alike w b b' →
    (q q' : Request) → SameRequest q q' → reply w b q ≡ reply w b' q'

-- however often it asks: what it is told, request after request, each on the book that the last one left
abbrev pub replies : Caller → Book → List Request → List Reply
replies w b [] = []
replies w b (q ∷ qs) = reply w b q ∷ replies w (after_request w b q) qs

pub data SameRequests : List Request → List Request → Type 0 where
  none : SameRequests [] []
  more : {qs qs' : List Request} (q q' : Request) → SameRequest q q' → SameRequests qs qs' → SameRequests (q ∷ qs) (q' ∷ qs')
