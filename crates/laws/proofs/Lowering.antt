-- The first entry that passes a test falls by m: sums, counts, lengths and soundness of what is left.
-- Entries before it are as they were, and those behind it too.
use mathlib.Core.Path.{◌≡◌, refl, sym, ap, ◌∙◌}
use mathlib.Core.Bool.{Bool, true, false, cond, ◌&&◌}
use mathlib.Core.List.{List, [], ◌∷◌}
use Prim.Native.Nat.{ℕ, zero, suc, ◌+◌, ◌-◌, ◌≤◌, ◌<◌, min}
use native.Mathlib.Omega.{arith}
use lib.Dec.{leb, eqb}
use lib.ListN.{length}
use borrow.Author.Tests.{eqb-true, ne_eqb}
use Rattle.rules.specs.declared.Entry.{Entry}
use Rattle.rules.specs.Measures.{total}
use Rattle.rules.specs.Ledger.{put_entry, is_from, is_to, count_of, first_of, lower}
use Rattle.rules.specs.Book.{days_sound}
use Rattle.laws.proofs.Basics.{by_test, either, and_left, and_right, and_both, Every}
use Rattle.laws.proofs.Sound.{SoundEntry}
use Rattle.laws.proofs.Meeting.{with_lots, AddsByLots, Steady, total_put_entry, length_put_entry, each_put_entry, sound_put_entry, days_put_entry}

-- the first entry's lots
abbrev pub first_lots : (Entry → Bool) → List Entry → ℕ
first_lots p es = first_of (λ e. e.lots) p es

-- What there is first

pub first_live : (p : Entry → Bool) (es : List Entry) → Every (λ e. 1 ≤ e.lots) es → 0 < count_of p es → 0 < first_lots p es
first_live p [] ps h = h
first_live p (e ∷ es) ps h =
    by_test (p e) (λ t. simp t ps.0) (λ t. simp t (first_live p es ps.1 (omega (arith, simp t at h))))

pub first_bound : (g : Entry → ℕ) (n : ℕ) (p : Entry → Bool) (es : List Entry) → 0 < n → Every (λ e. g e < n) es → first_of g p es < n
first_bound g n p [] h s = h
first_bound g n p (e ∷ es) h s = either (λ z. z < n) (p e) s.0 (first_bound g n p es h s.1)

-- Counts

pub count_put : (p : Entry → Bool) → Steady p → (e : Entry) (n : ℕ) (es : List Entry) →
    count_of p (put_entry e n es) ≡ cond (p e) (min 1 n) 0 + count_of p es
count_put p s e zero es = either (λ k. count_of p es ≡ k + count_of p es) (p e) (omega arith) (omega arith)
count_put p s e (suc n) es =
    by_test (p e) (λ t. simp (s e (suc n), t) (omega arith)) (λ t. simp (s e (suc n), t) (omega arith))

-- lowering adds no entry
pub lower_le : (p q : Entry → Bool) → Steady p → (m : ℕ) (es : List Entry) → count_of p (lower q m es) ≤ count_of p es
lower_le p q s m [] = omega arith
lower_le p q s m (e ∷ es) =
    by_test (q e)
    (λ t. simp (t, count_put p s e (e.lots - m) es)
    (by_test (p e) (λ u. simp u (omega arith)) (λ u. simp u (omega arith))))
    (λ t. simp t (omega (arith, lower_le p q s m es)))

-- the first entry goes if it has at most m lots
pub lower_gone : (p : Entry → Bool) → Steady p → (m : ℕ) (es : List Entry) → 0 < count_of p es →
    first_lots p es ≤ m → count_of p (lower p m es) + 1 ≡ count_of p es
lower_gone p s m [] c h = absurd (omega arith)
lower_gone p s m (e ∷ es) c h =
    by_test (p e)
    (λ t.
    let k : e.lots ≤ m = simp t at h in
    simp (t, count_put p s e (e.lots - m) es) (omega arith))
    (λ t. simp t (omega (arith, lower_gone p s m es (omega (arith, simp t at c)) (simp t at h))))

-- Lowering by one test, seen by another that no entry passes with it

first_put : (g : Entry → ℕ) (p : Entry → Bool) → Steady p → (e : Entry) (n : ℕ) (es : List Entry) → p e ≡ false →
    first_of g p (put_entry e n es) ≡ first_of g p es
first_put g p s e zero es h = refl
first_put g p s e (suc n) es h = simp (s e (suc n), h)

pub first_stays : (g : Entry → ℕ) (p q : Entry → Bool) → Steady p → (m : ℕ) (es : List Entry) → Every (λ e. q e ≡ true → p e ≡ false) es →
    first_of g p (lower q m es) ≡ first_of g p es
first_stays g p q s m [] xs = refl
first_stays g p q s m (e ∷ es) xs =
    by_test (q e)
    (λ t. simp (t, xs.0 t) (first_put g p s e (e.lots - m) es (xs.0 t)))
    (λ t. simp (t, first_stays g p q s m es xs.1) refl)

pub count_stays : (p q : Entry → Bool) → Steady p → (m : ℕ) (es : List Entry) → Every (λ e. q e ≡ true → p e ≡ false) es →
    count_of p (lower q m es) ≡ count_of p es
count_stays p q s m [] xs = refl
count_stays p q s m (e ∷ es) xs =
    by_test (q e)
    (λ t. simp (t, count_put p s e (e.lots - m) es, xs.0 t) (omega arith))
    (λ t. simp (t, count_stays p q s m es xs.1) refl)

-- Sums: what lowering takes away, by any number that adds up by lots

pub lowered : (f : Entry → ℕ) → AddsByLots f → (p : Entry → Bool) (m : ℕ) (es : List Entry) → m ≤ first_lots p es →
    total f (lower p m es) + first_of (λ e. f (with_lots e m)) p es ≡ total f es
lowered f l p m [] h = refl
lowered f l p m (e ∷ es) h =
    by_test (p e)
    (λ t.
    let k : m ≤ e.lots = simp t at h in
    let q : e.lots - m + m ≡ e.lots = omega arith in
    simp t (omega (arith, total_put_entry f l e (e.lots - m) es, l e (e.lots - m) m, ap (λ n. f (with_lots e n)) q)))
    (λ t. simp t (omega (arith, lowered f l p m es (simp t at h))))

-- Lengths

pub length_lower : (p : Entry → Bool) (m : ℕ) (es : List Entry) → length (lower p m es) ≤ length es
length_lower p m [] = omega arith
length_lower p m (e ∷ es) =
    either (λ r. length r ≤ suc (length es)) (p e) (omega (arith, length_put_entry e (e.lots - m) es)) (omega (arith, length_lower p m es))

-- an entry that is met in full goes
pub length_gone : (p : Entry → Bool) (m : ℕ) (es : List Entry) → 0 < first_lots p es → first_lots p es ≤ m →
    length (lower p m es) + 1 ≤ length es
length_gone p m [] h k = absurd (omega arith)
length_gone p m (e ∷ es) h k =
    by_test (p e)
    (λ t.
    let q : e.lots ≤ m = simp t at k in
    simp t (omega (arith, length_put_entry e (e.lots - m) es)))
    (λ t. simp t (omega (arith, length_gone p m es (simp t at h) (simp t at k))))

-- Entries and days

pub each_lower : (P : Entry → Type 0) → ((e : Entry) (n : ℕ) → P e → P (with_lots e n)) → (p : Entry → Bool) (m : ℕ) (es : List Entry) →
    Every P es → Every P (lower p m es)
each_lower P w p m [] ps = ps
each_lower P w p m (e ∷ es) ps =
    either (Every P) (p e) (each_put_entry P w e (e.lots - m) es (λ h. ps.0) ps.1) (ps.0, each_lower P w p m es ps.1)

pub sound_lower : (p : Entry → Bool) (m : ℕ) (es : List Entry) → Every SoundEntry es → Every SoundEntry (lower p m es)
sound_lower p m [] s = s
sound_lower p m (e ∷ es) s =
    either (Every SoundEntry) (p e) (sound_put_entry e (e.lots - m) es s.0 (omega arith) s.1)
    (s.0, sound_lower p m es s.1)

pub days_lower : (lo hi : ℕ) (p : Entry → Bool) (m : ℕ) (es : List Entry) → days_sound lo hi es ≡ true → days_sound lo hi (lower p m es) ≡ true
days_lower lo hi p m [] d = d
days_lower lo hi p m (e ∷ es) d =
    let h = and_left (leb lo e.day) (days_sound e.day hi es) d in
    let k = and_right (leb lo e.day) (days_sound e.day hi es) d in
    either (λ r. days_sound lo hi r ≡ true) (p e) (days_put_entry lo hi e (e.lots - m) es h k)
    (and_both (leb lo e.day) (days_sound e.day hi (lower p m es)) h (days_lower e.day hi p m es k))

-- The two tests of an account

-- an entry goes from one account to another
abbrev pub Apart : Entry → Type 0
Apart e = e.from ≡ e.to → ⊥

pub and_no : (x y : Bool) → y ≡ false → x && y ≡ false
and_no true y h = h
and_no false y h = refl

pub issue_from : (i a : ℕ) (e : Entry) → is_from i a e ≡ true → e.issue ≡ i
issue_from i a e t = eqb-true e.issue i (and_left (eqb e.issue i) (eqb e.from a) t)

pub issue_to : (i a : ℕ) (e : Entry) → is_to i a e ≡ true → e.issue ≡ i
issue_to i a e t = eqb-true e.issue i (and_left (eqb e.issue i) (eqb e.to a) t)

pub account_from : (i a : ℕ) (e : Entry) → is_from i a e ≡ true → e.from ≡ a
account_from i a e t = eqb-true e.from a (and_right (eqb e.issue i) (eqb e.from a) t)

pub account_to : (i a : ℕ) (e : Entry) → is_to i a e ≡ true → e.to ≡ a
account_to i a e t = eqb-true e.to a (and_right (eqb e.issue i) (eqb e.to a) t)

pub from_not_to : (i a : ℕ) (e : Entry) → Apart e → is_from i a e ≡ true → is_to i a e ≡ false
from_not_to i a e h t =
    and_no (eqb e.issue i) (eqb e.to a) (ne_eqb e.to a (λ q. h (account_from i a e t ∙ sym q)))

pub to_not_from : (i a : ℕ) (e : Entry) → Apart e → is_to i a e ≡ true → is_from i a e ≡ false
to_not_from i a e h t =
    and_no (eqb e.issue i) (eqb e.from a) (ne_eqb e.from a (λ q. h (q ∙ sym (account_to i a e t))))

-- the account at the other end of a first entry is another
pub first_from : (i a : ℕ) (es : List Entry) → Every Apart es → 0 < count_of (is_to i a) es → first_of (λ e. e.from) (is_to i a) es ≡ a → ⊥
first_from i a [] ps c = omega arith
first_from i a (e ∷ es) ps c =
    by_test (is_to i a e)
    (λ t. simp t (λ q. ps.0 (q ∙ sym (account_to i a e t))))
    (λ t. simp t (first_from i a es ps.1 (omega (arith, simp t at c))))

pub first_to : (i a : ℕ) (es : List Entry) → Every Apart es → 0 < count_of (is_from i a) es → first_of (λ e. e.to) (is_from i a) es ≡ a → ⊥
first_to i a [] ps c = omega arith
first_to i a (e ∷ es) ps c =
    by_test (is_from i a e)
    (λ t. simp t (λ q. ps.0 (account_from i a e t ∙ sym q)))
    (λ t. simp t (first_to i a es ps.1 (omega (arith, simp t at c))))
