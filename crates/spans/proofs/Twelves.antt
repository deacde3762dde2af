-- The failed lots of all accounts together are the lots of all 12s that the span's cutoffs wrote in that issue: each entry that a
-- cutoff puts into the ledger is one account's, and has its 12 among the records.
use mathlib.Core.Path.{◌≡◌, refl, sym, ap, ◌∙◌}
use mathlib.Core.Bool.{cond, ◌&&◌}
use mathlib.Core.List.{List, [], ◌∷◌, map}
use Prim.Native.Nat.{ℕ, zero, suc, ◌+◌, ◌≤◌, ◌<◌}
use native.Mathlib.Omega.{arith}
use lib.Dec.{eqb}
use lib.ListN.{length}
use borrow.Author.Tests.{eqb-true, eqb-false, eq-eqb, ne_eqb}
use Rattle.rules.specs.declared.Book.{Book}
use Rattle.rules.specs.declared.Entry.{Entry}
use Rattle.rules.specs.declared.Instruction.{Instruction}
use Rattle.rules.specs.declared.Instruction.TheVariants as instruction
use Rattle.rules.specs.Measures.{total, Every}
use Rattle.rules.specs.Units.{AccountLots, sum_lots}
use Rattle.rules.specs.Ledger.{is_from, lots_of}
use Rattle.rules.specs.Book.{tabulate, order_of, ledger_of, fresh}
use Rattle.rules.specs.Records.{Rec, handover, record_of, words, over, records_in}
use Rattle.rules.specs.Calls.{Cutoff, issue_partials, issue_entries, issue_records, joined, new_entries, cutoff_records}
use Rattle.rules.specs.Run.{any_output, answer_of}
use Rattle.rules.specs.Tally.{records_of}
use Rattle.laws.proofs.Basics.{by_test, total_append, total_add, each_map, each_drop}
use Rattle.laws.proofs.Sound.{SoundEntry}
use Rattle.laws.proofs.Records.{Fits, records_read, each_joined}
use Rattle.laws.proofs.Issue.{records_fit}
use Rattle.laws.proofs.Answers.{by_answer}
use Rattle.laws.proofs.Called.{Standing}
use Rattle.spans.specs.Span.{Turn, turn_of, turns_from}
use Rattle.spans.specs.Statement.{put_by, failed_by, twelves_by, statement_over, statement_on, most_span, all_accounts}
use Rattle.spans.proofs.Cuts.{fresh_stands, answer_stands, cut_book, cut_put}
use Rattle.spans.proofs.Sums.{each_turn}

-- Sums of sums

total_zero {ℓ} : {A : Type ℓ} (f : A → ℕ) → ((x : A) → f x ≡ 0) → (xs : List A) → total f xs ≡ 0
total_zero f h [] = refl
total_zero f h (x ∷ xs) = omega (arith, h x, total_zero f h xs)

total_same {ℓ} : {A : Type ℓ} (f g : A → ℕ) (xs : List A) → Every (λ x. f x ≡ g x) xs → total f xs ≡ total g xs
total_same f g [] h = refl
total_same f g (x ∷ xs) h = omega (arith, h.0, total_same f g xs h.1)

total_swap {ℓ κ} : {A : Type ℓ} {B : Type κ} (f : A → B → ℕ) (xs : List A) (ys : List B) →
    total (λ x. total (f x) ys) xs ≡ total (λ y. total (λ x. f x y) xs) ys
total_swap f [] ys = sym (total_zero (λ y. 0) (λ y. refl) ys)
total_swap f (x ∷ xs) ys =
    omega (arith, total_swap f xs ys, total_add (f x) (λ y. total (λ z. f z y) xs) (λ y. f x y + total (λ z. f z y) xs) (λ y. refl) ys)

-- One entry, over the accounts: it is one account's

-- lots of an entry in an issue
abbrev lots_in : ℕ → Entry → ℕ
lots_in i e = cond (eqb e.issue i) e.lots 0

abbrev lots_by : ℕ → ℕ → Entry → ℕ
lots_by i a e = cond (is_from i a e) e.lots 0

by_same : (i a : ℕ) (e : Entry) → e.from ≡ a → lots_by i a e ≡ lots_in i e
by_same i a e z =
    by_test (eqb e.issue i) (λ p. simp (p, eq-eqb e.from a z)) (λ p. simp p)

by_other : (i a : ℕ) (e : Entry) → (e.from ≡ a → ⊥) → lots_by i a e ≡ 0
by_other i a e ne =
    by_test (eqb e.issue i) (λ p. simp (p, ne_eqb e.from a ne)) (λ p. simp p)

none_by : (i : ℕ) (e : Entry) (k n : ℕ) → e.from < k → total (λ a. lots_by i a e) (tabulate (λ a. a) k n) ≡ 0
none_by i e k zero h = refl
none_by i e k (suc n) h = omega (arith, by_other i k e (λ z. omega arith), none_by i e (suc k) n (omega arith))

one_by : (i : ℕ) (e : Entry) (k n : ℕ) → k ≤ e.from → e.from < k + n → total (λ a. lots_by i a e) (tabulate (λ a. a) k n) ≡ lots_in i e
one_by i e k zero h l = absurd (omega arith)
one_by i e k (suc n) h l =
    by_test (eqb e.from k)
    (λ q.
    let z = eqb-true e.from k q in
    omega (arith, by_same i k e z, none_by i e (suc k) n (omega (arith, z))))
    (λ q.
    let z = eqb-false e.from k q in
    omega (arith, by_other i k e z, one_by i e (suc k) n (omega (arith, z)) (omega arith)))

of_all : (i : ℕ) (e : Entry) → SoundEntry e → total (λ a. lots_by i a e) all_accounts ≡ lots_in i e
unfolding all_accounts
of_all i e s = one_by i e 0 64 (omega arith) s.from

-- entries, over all accounts
entries_all : (i : ℕ) (es : List Entry) → Every SoundEntry es → total (λ a. lots_of (is_from i a) es) all_accounts ≡ total (lots_in i) es
entries_all i es h =
    total_swap (λ a e. lots_by i a e) all_accounts es
    ∙ total_same (λ e. total (λ a. lots_by i a e) all_accounts) (lots_in i) es
    (each_map SoundEntry (λ e. total (λ a. lots_by i a e) all_accounts ≡ lots_in i e) (of_all i) es h)

-- The 12s of a cutoff

-- lots of a record that is a 12 in an issue
abbrev twelve : ℕ → Rec → ℕ
twelve i r = cond (eqb r.kind 12 && eqb r.issue i) r.lots 0

twelves_total : (i : ℕ) (rs : List Rec) → sum_lots (records_of 12 i rs) ≡ total (twelve i) rs
twelves_total i [] = refl
twelves_total i (r ∷ rs) =
    by_test (eqb r.kind 12 && eqb r.issue i)
    (λ q. simp q (omega (arith, twelves_total i rs)))
    (λ q. simp q (omega (arith, twelves_total i rs)))

-- a 10 is none, and an entry's 12 is one
tens_none : (i j : ℕ) (us : List AccountLots) → total (twelve i) (map (handover j) us) ≡ 0
tens_none i j [] = refl
tens_none i j (u ∷ us) = omega (arith, tens_none i j us)

entries_twelves : (i : ℕ) (es : List Entry) → total (twelve i) (map (record_of 12) es) ≡ total (lots_in i) es
entries_twelves i [] = refl
entries_twelves i (e ∷ es) = omega (arith, entries_twelves i es)

joined_same {ℓ κ} : {A : Type ℓ} {B : Type κ} (f : A → ℕ) (g : B → ℕ) (xs : ℕ → List A) (ys : ℕ → List B) → ((j : ℕ) → total f (xs j) ≡ total g (ys j)) →
    (k n : ℕ) → total f (joined (tabulate xs k n)) ≡ total g (joined (tabulate ys k n))
joined_same f g xs ys h k zero = refl
joined_same f g xs ys h k (suc n) =
    omega (
      arith,
      total_append f (xs k) (joined (tabulate xs (suc k) n)),
      total_append g (ys k) (joined (tabulate ys (suc k) n)),
      h k,
      joined_same f g xs ys h (suc k) n,
    )

module _ (b : Book) (s : Standing b) (i : ℕ) where
  abbrev new : List Entry
  new = new_entries b.state.day (order_of b) b.nets b.delivered

  abbrev rs : List Rec
  rs = cutoff_records b.state.day (order_of b) b.nets b.delivered

  records_twelves : total (twelve i) rs ≡ total (lots_in i) new
  records_twelves =
      joined_same (twelve i) (lots_in i) (issue_records b.state.day (order_of b) b.nets b.delivered) (issue_entries b.state.day (order_of b) b.nets b.delivered)
      (λ j.
      let ps = issue_partials (order_of b) b.delivered j in
      let es = issue_entries b.state.day (order_of b) b.nets b.delivered j in
      omega (arith, total_append (twelve i) (map (handover j) ps) (map (record_of 12) es), tens_none i j ps, entries_twelves i es))
      0 16

  all_fit : Every Fits rs
  all_fit =
      each_joined Fits (issue_records b.state.day (order_of b) b.nets b.delivered) 0 16
      (λ j h. records_fit b s.parts s.sizes.nets s.sizes.delivered j (omega arith) b.state.day)

  -- the entries put are sound, since the book behind the cutoff is
  put_sound : Standing (cut_book b) → Every SoundEntry (put_by b (cut_book b))
  put_sound k = each_drop SoundEntry (length (ledger_of b)) (ledger_of (cut_book b)) k.parts.ledger.each

  cut_twelves : Standing (cut_book b) → (out : List ℕ) →
      total (λ a. lots_of (is_from i a) (put_by b (cut_book b))) all_accounts ≡ sum_lots (records_of 12 i (records_in (length rs) (over (words rs) out)))
  cut_twelves k out =
      entries_all i (put_by b (cut_book b)) (put_sound k) ∙ ap (total (lots_in i)) (cut_put b) ∙ sym records_twelves ∙ sym (twelves_total i rs)
      ∙ ap (λ (r : List Rec). sum_lots (records_of 12 i r)) (sym (records_read rs out all_fit))

-- Each turn, and so a span

abbrev Told : ℕ → Turn → Type 0
Told i t = total (λ a. failed_by i a t) all_accounts ≡ twelves_by i t

none_failed : total (λ (a : ℕ). 0) all_accounts ≡ 0
none_failed = total_zero (λ a. 0) (λ a. refl) all_accounts

cutoff_told : (b : Book) → Standing b → (i : ℕ) (ws : List ℕ) → Told i (turn_of b instruction.Cutoff ws)
unfolding answer_of
cutoff_told b s i ws =
    by_answer (λ r. Standing r.book → Told i (record { instruction = instruction.Cutoff; before = b; answer = r })) b Cutoff any_output
    (λ y k. cut_twelves b s i k any_output) (λ r k. none_failed) (answer_stands b instruction.Cutoff ws s)

turn_told : (i : ℕ) (b : Book) → Standing b → (x : Instruction) (ws : List ℕ) → Told i (turn_of b x ws)
turn_told i b s (instruction.Trade j f t x) ws = none_failed
turn_told i b s (instruction.Deliver j c x) ws = none_failed
turn_told i b s (instruction.Resolve j c x) ws = none_failed
turn_told i b s (instruction.PairOff j c) ws = none_failed
turn_told i b s instruction.Close ws = none_failed
turn_told i b s instruction.Cutoff ws = cutoff_told b s i ws
turn_told i b s (instruction.Roll days rate) ws = none_failed
turn_told i b s (instruction.Mark j m) ws = none_failed
turn_told i b s (instruction.Turn d) ws = none_failed

pub span_twelves : (n : ℕ) (b : Book) (ws : List ℕ) → Standing b → (i : ℕ) →
    total (λ a. (statement_over i a (turns_from n b ws)).failed) all_accounts ≡ total (twelves_by i) (turns_from n b ws)
unfolding statement_over
span_twelves n b ws s i =
    total_swap (failed_by i) all_accounts (turns_from n b ws)
    ∙ total_same (λ t. total (λ a. failed_by i a t) all_accounts) (twelves_by i) (turns_from n b ws) (each_turn (Told i) (turn_told i) n b ws s)

-- of a tape's first 4,096 instructions
pub all_twelves : (ws : List ℕ) (i : ℕ) → total (λ a. (statement_on ws i a).failed) all_accounts ≡ total (twelves_by i) (turns_from most_span fresh ws)
unfolding statement_on
all_twelves ws i = span_twelves most_span fresh ws fresh_stands i
