-- The same deliveries in another order, made through `day_call`: the same outcome, from any columns. The first call that is accepted
-- says that they have a book's lengths.
use mathlib.Core.Path.{◌≡◌, refl, sym, ap, ◌∙◌}
use mathlib.Core.Bool.{true, false}
use mathlib.Core.List.{List, [], ◌∷◌, ◌++◌}
use Prim.Native.Nat.{ℕ, zero, suc, ◌≤◌}
use native.Mathlib.Omega.{arith}
use lib.ListN.{length-set}
use contract.Lifetimes.{Lfts}
use denote.Triple.Clauses.{AtExit}
use borrow.Fn.Kinds.{Dens, ended_of}
use borrow.Author.Tests.{le-leb}
use Rattle.rules.specs.declared.Book.{Book}
use Rattle.rules.specs.Questions.{ask, first_no}
use Rattle.rules.specs.Calls.{Call, Answer, Effect, answer, output_asks, effect, called}
use Rattle.rules.specs.Run.{call_of}
use Rattle.laws.proofs.Basics.{by_test}
use Rattle.laws.proofs.Answers.{by_answer}
use Rattle.laws.proofs.Called.{Sizes}
use Rattle.reordering.specs.Reordering.{Delivery, deliver, SameInAnyOrder}
use Rattle.reordering.proofs.Given.{same_from_any}
use Rattle.desk.specs.Fields.{is_kind}
use Rattle.host.specs.declared.DayTurned.{DayTurned}
use Rattle.host.specs.States.{state_in, book_at, lengths_right, holds}
use Rattle.host.specs.Calls.{day_made, day_called, CallIs}
use Rattle.host.proofs.Holding.{lengths_right_lem}
use Rattle.host.proofs.Calling.{refusal, of_kind}
use Rattle.callers.proofs.Fed.{answers, ByHost, told, asks, commits, told_by, asks_by, commits_by, same_made, some_no, numbered}
use Rattle.callers.proofs.Contracts.{call_by_host}
use Rattle.host.proofs.calls.day_call.Kinds as call-kinds
use Rattle.host.proofs.calls.day_call.Reads as call-reads

-- a host's call through `day_call`, of a kind that is one, and with the number of a phase
abbrev pub RightNumbers : {b : Book} {c : Call} {out : List ℕ} {r : Answer} → ByHost b c out r → Type 0
RightNumbers (told kind x quotes out h r c t) = (is_kind kind ≡ true) × (h.phase ≤ 2)
RightNumbers (asks phase b issue unit n ticket out t) = ⊥
RightNumbers (commits phase b ticket out lifts n count t) = ⊥
RightNumbers (told_by w kind x quotes out h r c t) = ⊥
RightNumbers (asks_by w phase b issue unit n ticket out t) = ⊥
RightNumbers (commits_by w phase b ticket out lifts n count t) = ⊥

-- so has what a caller learns of the function, where the numbers that it gave are such
module _ (κs : Lfts 4) (a : Dens κs call-kinds.ps) (r : DayTurned) (e : AtExit (ended_of 4 call-kinds.ps call-kinds.r) κs) where
  pub right_numbers : (p : call-reads.Learnt κs a r e) → is_kind a.0 ≡ true → a.1.1.1.1.1.1.0.phase ≤ 2 →
      RightNumbers (call_by_host κs a r e p)
  unfolding call_by_host
  right_numbers p i h = (i, h)

pub record ByDayCall (b : Book) (c : Call) (out : List ℕ) (r : Answer) : Type 0 where
  pub by_host : ByHost b c out r
  pub right : RightNumbers by_host

-- its answer is that of the columns, whatever phase it is
in_columns : (kind phase : ℕ) (b : Book) (c : Call) (out : List ℕ) → is_kind kind ≡ true → phase ≤ 2 → day_called kind phase b c out ≡ day_made 0 b c out
unfolding day_made holds
in_columns kind phase b c out i p = sym (of_kind kind phase b c out i) ∙ rw (le-leb phase 2 p)

-- number and book are those of the columns' answer
record InColumns (b : Book) (c : Call) (out : List ℕ) (r : Answer) : Type 0 where
  number : r.refusal ≡ (day_made 0 b c out).refusal
  book : r.book ≡ (day_made 0 b c out).book

of_columns : (b : Book) (c : Call) (out : List ℕ) (r : Answer) (t : ByHost b c out r) → RightNumbers t → InColumns b c out r
of_columns _ _ _ _ (told kind x quotes out h r c t) k =
    let e = in_columns kind h.phase (book_at h c) (call_of x quotes.entry.now) out.entry.now k.0 k.1 in
    record { number = t.refusal ∙ ap (λ a. a.refusal) e; book = t.book ∙ ap (λ a. a.book) e }
of_columns _ _ _ _ (asks phase b issue unit n ticket out t) k = absurd k
of_columns _ _ _ _ (commits phase b ticket out lifts n count t) k = absurd k
of_columns _ _ _ _ (told_by w kind x quotes out h r c t) k = absurd k
of_columns _ _ _ _ (asks_by w phase b issue unit n ticket out t) k = absurd k
of_columns _ _ _ _ (commits_by w phase b ticket out lifts n count t) k = absurd k

-- columns of a book's lengths can be a book's
right_held : (b : Book) → lengths_right b ≡ true → holds 0 b ≡ true
unfolding holds
right_held b l = l

-- then the whole answer is the call's
of_right : (b : Book) (c : Call) (out : List ℕ) (r : Answer) (t : ByHost b c out r) → RightNumbers t → lengths_right b ≡ true → r ≡ called b c out
of_right _ _ _ _ (told kind i quotes out h r c t) k l =
    let b = book_at h c in
    let x = call_of i quotes.entry.now in
    let e : day_called kind h.phase b x out.entry.now ≡ called b x out.entry.now =
    in_columns kind h.phase b x out.entry.now k.0 k.1 ∙ same_made 0 b x out.entry.now (right_held b l) in
    let w : CallIs (called b x out.entry.now) h.phase r (c.after (state_in r.state)) out.exit.now = rw e at t in
    answers kind i quotes.entry.now out.entry.now h.phase b r (c.after (state_in r.state)) out.exit.now w
of_right _ _ _ _ (asks phase b issue unit n ticket out t) k l = absurd k
of_right _ _ _ _ (commits phase b ticket out lifts n count t) k l = absurd k
of_right _ _ _ _ (told_by w kind x quotes out h r c t) k l = absurd k
of_right _ _ _ _ (asks_by w phase b issue unit n ticket out t) k l = absurd k
of_right _ _ _ _ (commits_by w phase b ticket out lifts n count t) k l = absurd k

-- columns of other lengths are refused
other : (b : Book) (c : Call) (out : List ℕ) → lengths_right b ≡ false → day_made 0 b c out ≡ refusal (first_no (output_asks c out ++ (ask 2 false ∷ []))) b c out
unfolding day_made holds
other b c out g = rw g

number_of_lem : (n : ℕ) (b : Book) (out : List ℕ) (e : Effect) → (answer n b out e).refusal ≡ n
number_of_lem zero b out e = refl
number_of_lem (suc n) b out e = refl

-- so a delivery that is accepted has a book's lengths
brings : (b : Book) (d : Delivery) (r : Answer) → ByDayCall b (deliver d) d.out r → r.refusal ≡ 0 → lengths_right b ≡ true
brings b d r g h = by_test (lengths_right b) (λ l. l) (λ l. absurd (refused l))
  where
    refused : lengths_right b ≡ false → ⊥
    refused l =
        let n = first_no (output_asks (deliver d) d.out ++ (ask 2 false ∷ [])) in
        let p = some_no (output_asks (deliver d) d.out) (numbered (deliver d) d.out) in
        let e : r.refusal ≡ n =
        (of_columns b (deliver d) d.out r g.by_host g.right).number ∙ ap (λ a. a.refusal) (other b (deliver d) d.out l)
        ∙ number_of_lem n b d.out (effect b (deliver d)) in
        omega (arith, p, e, h)

-- and leaves them so
keeps : (b : Book) (d : Delivery) → lengths_right b ≡ true → lengths_right (called b (deliver d) d.out).book ≡ true
unfolding lengths_right
keeps b d l = by_answer (λ r. lengths_right r.book ≡ true) b (deliver d) d.out (λ y. simp length-set l) (λ n. l)

sized : (b : Book) → lengths_right b ≡ true → Sizes b
sized b h =
    let l = lengths_right_lem b h in
    record { nets = l.cells.nets; delivered = l.cells.delivered; lifts = l.lifts; charges = l.charges }

-- of any columns nothing is assumed
pub same_of_hosts : (b : Book) → SameInAnyOrder ByDayCall b
same_of_hosts b =
    same_from_any ByDayCall (λ c. lengths_right c ≡ true) (λ c x o r l g. of_right c x o r g.by_host g.right l) keeps
    (λ c x o r q g l. (of_columns c x o r g.by_host g.right).book ∙ sym (of_columns c x o q l.by_host l.right).book)
    brings sized b
