-- Lists of calls: which of them are accepted, the lots that they bring to an issue, and the lots that its units are told to lack after a cutoff.
use Rattle.std.specs.Prelude.{◌≡◌, Bool, true, false, not, cond, ◌&&◌, List, [], ◌∷◌, ℕ, zero, suc, ◌+◌, ◌-◌, ◌≤◌, ◌<◌, eqb, length}
use Rattle.rules.specs.declared.Book.{Book}
use Rattle.rules.specs.Units.{AccountLots}
use Rattle.rules.specs.Book.{order_of}
use Rattle.rules.specs.Calls.{Call, Trade, Close, Deliver, Ask, Commit, Cutoff, Resolve, PairOff, Roll, Mark, Turn, called}
use Rattle.rules.specs.Tally.{Tallied, CallList}
use Rattle.told.specs.Status.{StatusAnswer, is_handed, waits_for, fails_partly, fails_wholly, status_refused, status}

-- the book after a list of calls
abbrev pub after : Book → CallList → Book
after b [] = b
after b (c ∷ cs) = after (called b c.0 c.1).book cs

-- a refused call passes, whatever it is: it changes nothing
abbrev pub unless_refused : ℕ → Bool → Bool
unless_refused zero passes = passes
unless_refused (suc r) passes = true

-- of a list of calls, made one after the other from a book, every accepted one passes
abbrev pub accepted_pass : (Call → Bool) → Book → CallList → Bool
accepted_pass p b [] = true
accepted_pass p b (c ∷ cs) = unless_refused (called b c.0 c.1).refusal (p c.0) && accepted_pass p (called b c.0 c.1).book cs

-- no lift of the issue, and no cutoff
abbrev pub no_lift : ℕ → Call → Bool
no_lift i (Trade j f t x) = true
no_lift i Close = true
no_lift i (Deliver j a x) = true
no_lift i (Ask j k) = true
no_lift i (Commit t) = not (eqb t.issue i)
no_lift i Cutoff = false
no_lift i (Resolve j a x) = true
no_lift i (PairOff j a) = true
no_lift i (Roll days rate prices) = true
no_lift i (Mark j m) = true
no_lift i (Turn d) = true

-- 'no lift between': only an accepted commit is a lift, and only an accepted cutoff ends the day's deliveries
abbrev pub no_lift_between : ℕ → Book → CallList → Bool
no_lift_between i = accepted_pass (no_lift i)

-- the lots that a call brings to the issue, where it is accepted
abbrev pub lots_in : ℕ → Call → ℕ
lots_in i (Trade j f t x) = 0
lots_in i Close = 0
lots_in i (Deliver j a x) = cond (eqb j i) x 0
lots_in i (Ask j k) = 0
lots_in i (Commit t) = 0
lots_in i Cutoff = 0
lots_in i (Resolve j a x) = 0
lots_in i (PairOff j a) = 0
lots_in i (Roll days rate prices) = 0
lots_in i (Mark j m) = 0
lots_in i (Turn d) = 0

-- 0 where it is refused
abbrev pub if_accepted : ℕ → ℕ → ℕ
if_accepted zero x = x
if_accepted (suc r) x = 0

-- lots delivered to the issue by a list of calls
abbrev pub brought : ℕ → Book → CallList → ℕ
brought i b [] = 0
brought i b (c ∷ cs) = if_accepted (called b c.0 c.1).refusal (lots_in i c.0) + brought i (called b c.0 c.1).book cs

-- with n more lots the unit is handed; with fewer it is not, and waits for the rest
pub record HandedFor (n x : ℕ) (s : StatusAnswer) : Type 0 where
  pub enough : n ≤ x → s ≡ is_handed
  pub needed : s ≡ is_handed → n ≤ x
  pub fewer : x < n → s ≡ waits_for (n - x)

-- said of the records: a unit is told to be handed exactly if the issue's row of today's 10s has one at its place
pub record HandedByRow (s : Tallied) (i k : ℕ) : Type 0 where
  pub told : status s.book i k ≡ is_handed → k < length (s.tally.rows i)
  pub recorded : k < length (s.tally.rows i) → status s.book i k ≡ is_handed

-- no roll
abbrev pub no_roll : Call → Bool
no_roll (Trade j f t x) = true
no_roll Close = true
no_roll (Deliver j a x) = true
no_roll (Ask j k) = true
no_roll (Commit t) = true
no_roll Cutoff = true
no_roll (Resolve j a x) = true
no_roll (PairOff j a) = true
no_roll (Roll days rate prices) = false
no_roll (Mark j m) = true
no_roll (Turn d) = true

-- none is accepted
abbrev pub no_roll_since : Book → CallList → Bool
no_roll_since = accepted_pass no_roll

-- the lots that are lacking of a unit, by what is told of it
abbrev pub lacking_of : AccountLots → StatusAnswer → ℕ
lacking_of u is_handed = 0
lacking_of u (waits_for n) = 0
lacking_of u (fails_partly x) = x
lacking_of u fails_wholly = u.lots
lacking_of u (status_refused r) = 0

-- over all units of an account, where s k is told of unit k
abbrev pub lacking_over : ℕ → (ℕ → StatusAnswer) → List AccountLots → ℕ
lacking_over a s [] = 0
lacking_over a s (u ∷ us) = cond (eqb u.account a) (lacking_of u (s 0)) 0 + lacking_over a (λ k. s (suc k)) us

unfoldable pub lacking : Book → ℕ → ℕ → ℕ
lacking b i a = lacking_over a (status b i) (order_of b i)
