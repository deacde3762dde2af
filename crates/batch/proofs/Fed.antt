-- Demand 3 speaks of runs: their instructions, fed to the tally from the words, from the numbers that a run told and from the
-- records that it wrote, lead to the states of a list of calls. Runs and the other calls of a host may follow one another in any
-- order.
use mathlib.Core.Path.{◌≡◌, refl, ap}
use mathlib.Core.Bool.{Bool, cond}
use mathlib.Core.List.{List, [], ◌∷◌, ◌++◌}
use Prim.Native.Nat.{ℕ, zero, suc, ◌+◌, ◌*◌, ◌≤◌, ◌<◌}
use native.Mathlib.Omega.{arith}
use lib.ListN.{length, get_or, take, drop}
use Rattle.std.specs.Prelude.{Result, Ok, Err}
use Rattle.rules.specs.declared.Book.{Book}
use Rattle.rules.specs.declared.Instruction.{Instruction}
use Rattle.rules.specs.declared.Instruction.TheVariants as instruction
use Rattle.rules.specs.Questions.{ask, first_no}
use Rattle.rules.specs.Records.{Rec, record_in, records_in}
use Rattle.rules.specs.Calls.{Call, Answer, called}
use Rattle.rules.specs.Tape.{read_of, quotes_of}
use Rattle.rules.specs.Run.{call_of}
use Rattle.rules.specs.Tally.{Tally, Tallied, Demand3, accepted, fed, settling_with, written, answered, start}
use Rattle.laws.proofs.Basics.{by_test}
use Rattle.tally.proofs.Made.{Made, none, more, Step, as_called, demand3_of, made_reached}
use Rattle.tally.proofs.Reached.{Reached}
use Rattle.callers.proofs.Fed.{ByHost, step as host_step}
use Rattle.host.specs.States.{sound_at}
use Rattle.batch.specs.declared.DayRan.{DayRan}
use Rattle.batch.specs.Batch.{answer_at, writes_records, written_by, answer_numbers, has_room, batch_from, batch_of, day_batch, BatchIs, unless_refused, numbers_of}
use Rattle.batch.proofs.Batches.{written_fits, no_instruction, no_room, one_more}

-- What a run told, fed to the tally

-- the records of an instruction that writes some, in the words from its first one on
abbrev pub records_told : Instruction → ℕ → List ℕ → List Rec
records_told x count words = cond (writes_records x) (records_in count words) []

abbrev pub fed_read : Result (Instruction × ℕ) ℕ → Tallied → (Instruction → ℕ → Tallied) → Tallied
fed_read (Err r) end on = end
fed_read (Ok (x, k)) end on = on x k

-- the first n instructions of some words, with the numbers told of them, the words of their records, and the book that the run
-- left
unfoldable pub fed_run : ℕ → List ℕ → List ℕ → List ℕ → Book → Tally → Bool → Tallied
fed_run zero ws numbers records b t settling = record { book = b; tally = t; settling = settling }
fed_run (suc n) ws numbers records b t settling =
    fed_read (read_of ws) (record { book = b; tally = t; settling = settling }) (λ x k.
    let c = call_of x (quotes_of ws) in
    let yes = accepted (get_or numbers 0 0) in
    let count = get_or numbers 1 0 in
    fed_run n (drop k ws) (drop answer_numbers numbers) (drop (written_by x count) records) b
    (fed c yes (records_told x count records) t) (settling_with c yes settling))

-- Calls of a host and runs, in any order

pub data Hosted : Tallied → Type 0 where
  nothing : Hosted start
  call : {s : Tallied} → Hosted s → (c : Call) (out : List ℕ) (r : Answer) → ByHost s.book c out r → Hosted (answered c r s)
  run : {s : Tallied} → Hosted s → (phase stage : ℕ) (ws answers answers' out out' : List ℕ) (r : DayRan) (after : Book) →
      BatchIs (day_batch phase s.book ws answers out) stage r after answers' out' →
      Hosted (fed_run r.answered ws answers' out' after s.tally s.settling)

-- each is a list of calls, made by a host or as the definitions say
data Any (b : Book) (c : Call) (out : List ℕ) (r : Answer) : Type 0 where
  by_host : ByHost b c out r → Any b c out r
  as_said : r ≡ called b c out → Any b c out r

any_step : (b : Book) (c : Call) (out : List ℕ) (r : Answer) → Any b c out r → Step b c out r
any_step b c out r (by_host g) = host_step b c out r g
any_step b c out r (as_said e) = as_called e

-- the records in the first words of an output are those in it, whatever follows
first_records : (n : ℕ) (out rest : List ℕ) → 2 * n ≤ length out → records_in n (take (2 * n) out ++ rest) ≡ records_in n out
first_records zero out rest h = refl
first_records (suc n) [] rest h = absurd (omega arith)
first_records (suc n) (h ∷ []) rest g = absurd (omega arith)
first_records (suc n) (h ∷ l ∷ out) rest g =
    let two : 2 * suc n ≡ suc (suc (2 * n)) = omega arith in
    rw two (ap (λ rs. record_in h l ∷ rs) (first_records n out rest (omega arith)))

-- what a run told of an instruction's records are those that its call wrote
same_records : (b : Book) (x : Instruction) (ws out rest : List ℕ) →
    (let a = answer_at b x ws out in
    records_told x a.count (take (written_by x a.count) a.out ++ rest) ≡ written (call_of x (quotes_of ws)) a)
same_records b (instruction.Trade i f t l) ws out rest = refl
same_records b (instruction.Deliver i a l) ws out rest = first_records _ _ rest (written_fits b (instruction.Deliver i a l) ws out)
same_records b (instruction.Resolve i a l) ws out rest = first_records _ _ rest (written_fits b (instruction.Resolve i a l) ws out)
same_records b (instruction.PairOff i a) ws out rest = refl
same_records b instruction.Close ws out rest = refl
same_records b instruction.Cutoff ws out rest = first_records _ _ rest (written_fits b instruction.Cutoff ws out)
same_records b (instruction.Roll days rate) ws out rest = refl
same_records b (instruction.Mark i m) ws out rest = refl
same_records b (instruction.Turn d) ws out rest = refl

-- A run is a list of calls

after_front : (xs ys : List ℕ) (n : ℕ) → n ≤ length xs → drop n (take n xs ++ ys) ≡ ys
after_front xs ys zero h = refl
after_front [] ys (suc n) h = absurd (omega arith)
after_front (x ∷ xs) ys (suc n) h = after_front xs ys n (omega arith)

-- an instruction that is told first, and then the others
told_first : (n : ℕ) (b b' : Book) (x : Instruction) (k : ℕ) (ws out numbers records : List ℕ) (t : Tally) (q : Bool) → read_of ws ≡ Ok (x, k) →
    (let a = answer_at b x ws out in
    let c = call_of x (quotes_of ws) in
    fed_run (1 + n) ws (numbers_of a ++ numbers) (take (written_by x a.count) a.out ++ records) b' t q
    ≡ fed_run n (drop k ws) numbers records b' (fed c (accepted a.refusal) (written c a) t) (settling_with c (accepted a.refusal) q))
unfolding fed_run
told_first n b b' x k ws out numbers records t q e =
    let one : 1 + n ≡ suc n = omega arith in
    let a = answer_at b x ws out in
    rw (
      one,
      e,
      after_front a.out records (written_by x a.count) (written_fits b x ws out),
      same_records b x ws out records,
    )
    refl

-- nothing is told
none_told : (ws answers out : List ℕ) (s : Tallied) → Made Any s → Made Any (fed_run 0 ws answers out s.book s.tally s.settling)
unfolding fed_run
none_told ws answers out s m = m

abbrev MadeRun : ℕ → Type 0
MadeRun n =
    (ws answers out : List ℕ) (s : Tallied) → Made Any s →
    (let d = batch_from n s.book ws answers out in Made Any (fed_run d.answered ws d.answers d.out d.book s.tally s.settling))

by_words : (n : ℕ) → MadeRun n → (ws answers out : List ℕ) (s : Tallied) → Made Any s → 0 < length ws → (r : Result (Instruction × ℕ) ℕ) → read_of ws ≡ r →
    (let d = batch_from (suc n) s.book ws answers out in Made Any (fed_run d.answered ws d.answers d.out d.book s.tally s.settling))
by_words n h ws answers out s m some (Err r) e = rw (no_instruction n s.book ws answers out some r e) (none_told ws answers out s m)
by_words n h ws answers out s m some (Ok (x, k)) e =
    let a = answer_at s.book x ws out in
    let c = call_of x (quotes_of ws) in
    by_test (has_room (length answers) (length out))
    (λ g.
    rw (one_more n s.book x k ws answers out some e g, told_first _ s.book _ x k ws out _ _ s.tally s.settling e)
    (h (drop k ws) (drop answer_numbers answers) (drop (written_by x a.count) a.out) (answered c a s) (more m c out a (as_said refl))))
    (λ g. rw (no_room n s.book x k ws answers out some e g) (none_told ws answers out s m))

made_run : (n : ℕ) → MadeRun n
unfolding batch_from
made_run zero ws answers out s m = none_told ws answers out s m
made_run (suc n) [] answers out s m = none_told [] answers out s m
made_run (suc n) (w ∷ ws) answers out s m = by_words n (made_run n) (w ∷ ws) answers out s m (omega arith) (read_of (w ∷ ws)) refl

-- on a host's book too
made_day : (phase : ℕ) (ws answers out : List ℕ) (s : Tallied) → Made Any s →
    (let d = day_batch phase s.book ws answers out in Made Any (fed_run d.answered ws d.answers d.out d.book s.tally s.settling))
unfolding day_batch
made_day phase ws answers out s m =
    by_number (first_no (ask 1 (has_room (length answers) (length out)) ∷ ask 2 (sound_at phase s.book) ∷ []))
  where
    by_number : (n : ℕ) →
        (let d = unless_refused n s.book answers out (batch_of s.book ws answers out) in Made Any (fed_run d.answered ws d.answers d.out d.book s.tally s.settling))
    by_number zero = made_run (length ws) ws answers out s m
    by_number (suc n) = none_told ws answers out s m

hosted_made : {s : Tallied} → Hosted s → Made Any s
hosted_made nothing = none
hosted_made (call h c out r g) = more (hosted_made h) c out r (by_host g)
hosted_made (run {s} h phase stage ws answers answers' out out' r after i) =
    rw (i.answered, i.answers, i.out, i.book) (made_day phase ws answers out s (hosted_made h))

-- so demand 3 holds after every list of calls and runs that a host makes
pub demand3_of_runs : {s : Tallied} → Hosted s → Demand3 s
demand3_of_runs h = demand3_of Any any_step (hosted_made h)

-- and the book is sound, in columns of a book's lengths: with the number of a phase no run is refused by 2
pub runs_reached : {s : Tallied} → Hosted s → Reached s.book
runs_reached h = made_reached Any any_step (hosted_made h)
