-- Resolve: what is met and what is left of the ledger are the ledger, by any number that adds up by
-- lots; and entries that were sound, with days that never fall, stay so.
use mathlib.Core.Path.{◌≡◌, refl, sym, ap, ◌∙◌}
use mathlib.Core.Bool.{Bool, true, cond, false≢true}
use mathlib.Core.List.{List, [], ◌∷◌, ◌++◌}
use Prim.Native.Nat.{ℕ, zero, suc, ◌+◌, ◌-◌, ◌≤◌, ◌<◌, min}
use native.Mathlib.Omega.{arith}
use lib.Dec.{leb, eqb}
use lib.ListN.{length}
use borrow.Author.Tests.{leb-true, le-leb, eqb-true, eq-eqb}
use Rattle.rules.specs.declared.Entry.{Entry}
use Rattle.rules.specs.Measures.{total}
use Rattle.rules.specs.Ledger.{entry, put_entry, is_from, lots_of, met_by, meet, met}
use Rattle.rules.specs.Book.{days_sound}
use Rattle.laws.proofs.Basics.{by_test, either, and_left, and_right, and_both, Every}
use Rattle.laws.proofs.Cells.{here, here_eq}
use Rattle.laws.proofs.Sound.{SoundEntry}

-- an entry with other lots
abbrev pub with_lots : Entry → ℕ → Entry
with_lots e x = entry e.issue e.from e.to x e.day

-- a number of an entry that adds up by its lots
abbrev pub AddsByLots : (Entry → ℕ) → Type 0
AddsByLots f = (e : Entry) (x y : ℕ) → f (with_lots e (x + y)) ≡ f (with_lots e x) + f (with_lots e y)

-- a test that does not look at lots
abbrev pub Steady : (Entry → Bool) → Type 0
Steady p = (e : Entry) (n : ℕ) → p (with_lots e n) ≡ p e

pub lots_add : (r : Entry → Bool) → Steady r → AddsByLots (λ e. cond (r e) e.lots 0)
lots_add r s e x y = rw (s e (x + y), s e x, s e y) (by_test (r e) (λ q. simp q) (λ q. simp q))

-- An entry put in front, unless it is at 0

pub total_put_entry : (f : Entry → ℕ) → AddsByLots f → (e : Entry) (n : ℕ) (es : List Entry) →
    total f (put_entry e n es) ≡ f (with_lots e n) + total f es
total_put_entry f l e zero es = omega (arith, l e 0 0)
total_put_entry f l e (suc n) es = refl

pub length_put_entry : (e : Entry) (n : ℕ) (es : List Entry) → length (put_entry e n es) ≡ min 1 n + length es
length_put_entry e zero es = omega arith
length_put_entry e (suc n) es = omega arith

pub each_put_entry : (P : Entry → Type 0) → ((e : Entry) (n : ℕ) → P e → P (with_lots e n)) → (e : Entry) (n : ℕ) (es : List Entry) →
    (0 < n → P e) → Every P es → Every P (put_entry e n es)
each_put_entry P w e zero es p ps = ps
each_put_entry P w e (suc n) es p ps = (w e (suc n) (p (omega arith)), ps)

pub sound_put_entry : (e : Entry) (n : ℕ) (es : List Entry) → SoundEntry e → n ≤ e.lots → Every SoundEntry es →
    Every SoundEntry (put_entry e n es)
sound_put_entry e zero es s h p = p
sound_put_entry e (suc n) es s h p = (
  record { issue = s.issue; from = s.from; to = s.to; apart = s.apart; some = omega arith; most = omega (arith, s.most) },
  p,
)

-- Meeting

pub met_by_le : (p : Entry → Bool) (x : ℕ) (e : Entry) → (met_by p x e ≤ e.lots) × (met_by p x e ≤ x)
met_by_le p x e = either (λ n. (n ≤ e.lots) × (n ≤ x)) (p e) (omega arith) (omega arith)

-- what is left and what was met are the ledger
pub meet_met : (f : Entry → ℕ) → AddsByLots f → (p : Entry → Bool) (x : ℕ) (es : List Entry) →
    total f (meet p x es) + total f (met p x es) ≡ total f es
meet_met f l p x [] = refl
meet_met f l p x (e ∷ es) =
    let m = met_by p x e in
    let h = met_by_le p x e in
    let q : e.lots - m + m ≡ e.lots = omega arith in
    omega (
      arith,
      total_put_entry f l e (e.lots - m) (meet p (x - m) es),
      total_put_entry f l e m (met p (x - m) es),
      meet_met f l p (x - m) es,
      l e (e.lots - m) m,
      ap (λ n. f (with_lots e n)) q,
    )

-- what is met is x, or all there is
pub met_sum : (p : Entry → Bool) (x : ℕ) (es : List Entry) → total (λ e. e.lots) (met p x es) ≡ min x (lots_of p es)
met_sum p x [] = omega arith
met_sum p x (e ∷ es) =
    by_test (p e)
    (λ t.
    let m = min x e.lots in
    simp t (omega (arith, total_put_entry (λ d. d.lots) (λ d y z. refl) e m (met p (x - m) es), met_sum p (x - m) es)))
    (λ t. simp t (omega (arith, met_sum p (x - 0) es)))

-- only entries that pass are met
pub met_pass : (p : Entry → Bool) → Steady p → (x : ℕ) (es : List Entry) → Every (λ e. p e ≡ true) (met p x es)
met_pass p s x [] = tt
met_pass p s x (e ∷ es) =
    by_test (p e)
    (λ q. each_put_entry (λ d. p d ≡ true) (λ d n h. s d n ∙ h) e (met_by p x e) (met p (x - met_by p x e) es) (λ h. q)
    (met_pass p s (x - met_by p x e) es))
    (λ q. simp q (met_pass p s (x - 0) es))

pub length_meet : (p : Entry → Bool) (x : ℕ) (es : List Entry) → length (meet p x es) ≤ length es
length_meet p x [] = omega arith
length_meet p x (e ∷ es) =
    omega (arith, length_put_entry e (e.lots - met_by p x e) (meet p (x - met_by p x e) es), length_meet p (x - met_by p x e) es)

pub length_met : (p : Entry → Bool) (x : ℕ) (es : List Entry) → length (met p x es) ≤ length es
length_met p x [] = omega arith
length_met p x (e ∷ es) =
    omega (arith, length_put_entry e (met_by p x e) (met p (x - met_by p x e) es), length_met p (x - met_by p x e) es)

pub sound_meet : (p : Entry → Bool) (x : ℕ) (es : List Entry) → Every SoundEntry es → Every SoundEntry (meet p x es)
sound_meet p x [] s = s
sound_meet p x (e ∷ es) s =
    sound_put_entry e (e.lots - met_by p x e) (meet p (x - met_by p x e) es) s.0 (omega arith)
    (sound_meet p (x - met_by p x e) es s.1)

pub sound_met : (p : Entry → Bool) (x : ℕ) (es : List Entry) → Every SoundEntry es → Every SoundEntry (met p x es)
sound_met p x [] s = s
sound_met p x (e ∷ es) s =
    sound_put_entry e (met_by p x e) (met p (x - met_by p x e) es) s.0 (met_by_le p x e).0
    (sound_met p (x - met_by p x e) es s.1)

-- lots of entries that are all from one account in one issue
pub from_all : (i a j c : ℕ) (es : List Entry) → Every (λ e. is_from i a e ≡ true) es →
    lots_of (is_from j c) es ≡ cond (here i a j c) (total (λ e. e.lots) es) 0
from_all i a j c [] ps = either (λ n. 0 ≡ n) (here i a j c) refl refl
from_all i a j c (e ∷ es) ps =
    let q₁ = eqb-true e.issue i (and_left (eqb e.issue i) (eqb e.from a) ps.0) in
    let q₂ = eqb-true e.from a (and_right (eqb e.issue i) (eqb e.from a) ps.0) in
    let ih = from_all i a j c es ps.1 in
    by_test (here i a j c)
    (λ h.
    let r = here_eq i a j c h in
    let k : is_from j c e ≡ true =
    and_both (eqb e.issue j) (eqb e.from c) (eq-eqb e.issue j (q₁ ∙ sym r.0)) (eq-eqb e.from c (q₂ ∙ sym r.1)) in
    let ih' = simp h at ih in
    simp (h, k) (omega arith))
    (λ h.
    let ih' = simp h at ih in
    simp h (by_test (is_from j c e)
    (λ k.
    let z = and_both (eqb j i) (eqb c a)
    (eq-eqb j i (sym (eqb-true e.issue j (and_left (eqb e.issue j) (eqb e.from c) k)) ∙ q₁))
    (eq-eqb c a (sym (eqb-true e.from c (and_right (eqb e.issue j) (eqb e.from c) k)) ∙ q₂)) in
    absurd (false≢true (sym h ∙ z)))
    (λ k. simp k (omega arith))))

-- x lots of an account that owes as much in the ledger meet x lots from it, and none from another
pub met_from_lem : (i a x j c : ℕ) (es : List Entry) → x ≤ lots_of (is_from i a) es →
    lots_of (is_from j c) (met (is_from i a) x es) ≡ cond (here i a j c) x 0
met_from_lem i a x j c es o =
    from_all i a j c (met (is_from i a) x es) (met_pass (is_from i a) (λ e n. refl) x es)
    ∙ ap (λ n. cond (here i a j c) n 0) (omega (arith, met_sum (is_from i a) x es))

-- Days

pub days_weaken : (lo lo' hi : ℕ) (es : List Entry) → lo ≤ lo' → days_sound lo' hi es ≡ true → days_sound lo hi es ≡ true
days_weaken lo lo' hi [] h d = le-leb lo hi (omega (arith, leb-true lo' hi d))
days_weaken lo lo' hi (e ∷ es) h d =
    and_both (leb lo e.day) (days_sound e.day hi es)
    (le-leb lo e.day (omega (arith, leb-true lo' e.day (and_left (leb lo' e.day) (days_sound e.day hi es) d))))
    (and_right (leb lo' e.day) (days_sound e.day hi es) d)

pub days_put_entry : (lo hi : ℕ) (e : Entry) (n : ℕ) (es : List Entry) → leb lo e.day ≡ true → days_sound e.day hi es ≡ true →
    days_sound lo hi (put_entry e n es) ≡ true
days_put_entry lo hi e zero es h d = days_weaken lo e.day hi es (leb-true lo e.day h) d
days_put_entry lo hi e (suc n) es h d = and_both (leb lo e.day) (days_sound e.day hi es) h d

pub days_meet : (lo hi : ℕ) (p : Entry → Bool) (x : ℕ) (es : List Entry) → days_sound lo hi es ≡ true → days_sound lo hi (meet p x es) ≡ true
days_meet lo hi p x [] d = d
days_meet lo hi p x (e ∷ es) d =
    days_put_entry lo hi e (e.lots - met_by p x e) (meet p (x - met_by p x e) es) (and_left (leb lo e.day) (days_sound e.day hi es) d)
    (days_meet e.day hi p (x - met_by p x e) es (and_right (leb lo e.day) (days_sound e.day hi es) d))

-- entries of today behind a ledger
days_today : (lo hi : ℕ) (es : List Entry) → lo ≤ hi → Every (λ e. e.day ≡ hi) es → days_sound lo hi es ≡ true
days_today lo hi [] h p = le-leb lo hi h
days_today lo hi (e ∷ es) h p =
    and_both (leb lo e.day) (days_sound e.day hi es) (le-leb lo e.day (omega (arith, p.0)))
    (days_today e.day hi es (omega (arith, p.0)) p.1)

pub days_append : (lo hi : ℕ) (es fs : List Entry) → days_sound lo hi es ≡ true → Every (λ e. e.day ≡ hi) fs → days_sound lo hi (es ++ fs) ≡ true
days_append lo hi [] fs h p = days_today lo hi fs (leb-true lo hi h) p
days_append lo hi (e ∷ es) fs h p =
    and_both (leb lo e.day) (days_sound e.day hi (es ++ fs)) (and_left (leb lo e.day) (days_sound e.day hi es) h)
    (days_append e.day hi es fs (and_right (leb lo e.day) (days_sound e.day hi es) h) p)

pub days_later : (lo hi : ℕ) (es : List Entry) → days_sound lo hi es ≡ true → days_sound lo (hi + 1) es ≡ true
days_later lo hi [] d = le-leb lo (hi + 1) (omega (arith, leb-true lo hi d))
days_later lo hi (e ∷ es) d =
    and_both (leb lo e.day) (days_sound e.day (hi + 1) es) (and_left (leb lo e.day) (days_sound e.day hi es) d)
    (days_later e.day hi es (and_right (leb lo e.day) (days_sound e.day hi es) d))
