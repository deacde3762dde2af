-- What was written is read back: each field of a word is at its place, so the first records of an
-- output are those that were written there.
use mathlib.Core.Path.{◌≡◌, refl, ap}
use mathlib.Core.Bool.{◌&&◌}
use mathlib.Core.List.{List, [], ◌∷◌, ◌++◌, map}
use Prim.Native.Nat.{ℕ, zero, suc, ◌+◌, ◌*◌, ◌^◌, ◌<◌}
use native.Mathlib.Omega.{arith}
use lib.Dec.{eqb}
use lib.ListN.{length, drop}
use borrow.Author.Tests.{eq-eqb, ne_eqb}
use Rattle.rules.specs.declared.Entry.{Entry}
use Rattle.rules.specs.Measures.{total}
use Rattle.rules.specs.Units.{AccountLots, account_lots, of_account}
use Rattle.rules.specs.Ledger.{is_to, lots_of}
use Rattle.rules.specs.Book.{tabulate}
use Rattle.rules.specs.Records.{Rec, handover, record_of, head_word, lots_word, words, over, kind_bits, issue_bits, from_bits, to_bits, lots_bits, of_field, record_in, records_in}
use Rattle.rules.specs.Calls.{joined}
use Rattle.rules.specs.Tally.{records_of}
use Rattle.laws.proofs.Basics.{by_test, Every, each_append}
use Rattle.laws.proofs.Sound.{SoundEntry}

-- Words

pub head_kind : (k i f t : ℕ) → k < 16 → i < 16 → f < 64 → t < 64 → of_field kind_bits (head_word k i f t) ≡ k
head_kind k i f t hk hi hf ht = omega arith

pub head_issue : (k i f t : ℕ) → k < 16 → i < 16 → f < 64 → t < 64 → of_field issue_bits (head_word k i f t) ≡ i
head_issue k i f t hk hi hf ht = omega arith

pub head_from : (k i f t : ℕ) → k < 16 → i < 16 → f < 64 → t < 64 → of_field from_bits (head_word k i f t) ≡ f
head_from k i f t hk hi hf ht = omega arith

pub head_to : (k i f t : ℕ) → k < 16 → i < 16 → f < 64 → t < 64 → of_field to_bits (head_word k i f t) ≡ t
head_to k i f t hk hi hf ht = omega arith

pub head_fits_lem : (k i f t : ℕ) → k < 16 → i < 16 → f < 64 → t < 64 → head_word k i f t < 2 ^ 32
head_fits_lem k i f t hk hi hf ht = omega arith

pub lots_lots : (x : ℕ) → x < 2 ^ 28 → of_field lots_bits (lots_word x) ≡ x
lots_lots x h = omega arith

-- Records

-- a record whose fields fit their bits
pub record Fits (r : Rec) : Type 0 where
  pub kind : r.kind < 16
  pub issue : r.issue < 16
  pub from : r.from < 64
  pub to : r.to < 64
  pub lots : r.lots < 2 ^ 28

pub entry_fits : (k : ℕ) → k < 16 → (e : Entry) → SoundEntry e → Fits (record_of k e)
entry_fits k h e s =
    record { kind = h; issue = s.issue; from = s.from; to = s.to; lots = omega (arith, s.most) }

read_back : (r : Rec) → Fits r → record_in (head_word r.kind r.issue r.from r.to) (lots_word r.lots) ≡ r
read_back r f = λ j. record {
  kind = head_kind r.kind r.issue r.from r.to f.kind f.issue f.from f.to j;
  issue = head_issue r.kind r.issue r.from r.to f.kind f.issue f.from f.to j;
  from = head_from r.kind r.issue r.from r.to f.kind f.issue f.from f.to j;
  to = head_to r.kind r.issue r.from r.to f.kind f.issue f.from f.to j;
  lots = lots_lots r.lots f.lots j;
}

records_words : (rs : List Rec) (rest : List ℕ) → Every Fits rs → records_in (length rs) (words rs ++ rest) ≡ rs
records_words [] rest fs = refl
records_words (r ∷ rs) rest fs = λ j. read_back r fs.0 j ∷ records_words rs rest fs.1 j

-- the records in an output over which some were written are those
pub records_read : (rs : List Rec) (out : List ℕ) → Every Fits rs → records_in (length rs) (over (words rs) out) ≡ rs
records_read rs out fs = records_words rs (drop (length (words rs)) out) fs

pub length_words : (rs : List Rec) → length (words rs) ≡ 2 * length rs
length_words [] = refl
length_words (r ∷ rs) = omega (arith, length_words rs)

-- an empty output has no record, whatever its count
pub records_none : (n : ℕ) → records_in n [] ≡ []
records_none zero = refl
records_none (suc n) = refl

-- Records of a kind in an issue

pub records_of_append : (k i : ℕ) (xs ys : List Rec) → records_of k i (xs ++ ys) ≡ records_of k i xs ++ records_of k i ys
records_of_append k i [] ys = refl
records_of_append k i (r ∷ rs) ys =
    by_test (eqb r.kind k && eqb r.issue i)
    (λ e. simp e (ap (λ l. account_lots r.to r.lots ∷ l) (records_of_append k i rs ys)))
    (λ e. simp e (records_of_append k i rs ys))

-- the 10s of an issue are its handovers
pub tens_same : (i : ℕ) (us : List AccountLots) → records_of 10 i (map (handover i) us) ≡ us
tens_same i [] = refl
tens_same i (u ∷ us) = simp (eq-eqb i i refl) (ap (λ l. u ∷ l) (tens_same i us))

pub tens_other : (i j : ℕ) (us : List AccountLots) → (i ≡ j → ⊥) → records_of 10 j (map (handover i) us) ≡ []
tens_other i j [] ne = refl
tens_other i j (u ∷ us) ne = simp (ne_eqb i j ne) (tens_other i j us ne)

-- a 12 is no 10
pub tens_fails : (j : ℕ) (es : List Entry) → records_of 10 j (map (record_of 12) es) ≡ []
tens_fails j [] = refl
tens_fails j (e ∷ es) = tens_fails j es

-- the 11s of an issue to an account are the entries met, by issue and 'to'
pub elevens_to : (i a : ℕ) (es : List Entry) → total (of_account a) (records_of 11 i (map (record_of 11) es)) ≡ lots_of (is_to i a) es
elevens_to i a [] = refl
elevens_to i a (e ∷ es) =
    by_test (eqb e.issue i)
    (λ q. simp q (omega (arith, elevens_to i a es)))
    (λ q. simp q (omega (arith, elevens_to i a es)))

-- Lists issue by issue

pub each_joined {ℓ} : {A : Type ℓ} (P : A → Type 0) (g : ℕ → List A) (k n : ℕ) → ((i : ℕ) → i < k + n → Every P (g i)) →
    Every P (joined (tabulate g k n))
each_joined P g k zero f = tt
each_joined P g k (suc n) f =
    each_append P (g k) (joined (tabulate g (suc k) n)) (f k (omega arith)) (each_joined P g (suc k) n (λ i h. f i (omega arith)))
