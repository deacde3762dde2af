-- Where units stood before all lifts.
use Rattle.std.specs.Prelude.{◌≡◌, cond, List, [], ◌∷◌, ℕ, ◌+◌, ◌-◌, ◌≤◌, ◌<◌, leb, ltb, eqb, length, drop, get_or}
use Rattle.rules.specs.Lifts.{Lift, lift_of}
use Rattle.rules.specs.Book.{places_in}
use Rattle.unlifting.specs.declared.Span.{Span}

-- where a unit stood before a lift, and before all of some
abbrev pub back : Lift → ℕ → ℕ
back l k = cond (ltb k l.new) k (cond (eqb k l.new) l.old (cond (leb k l.old) (k - 1) k))

abbrev pub place_of : List Lift → ℕ → ℕ
place_of [] k = k
place_of (l ∷ ls) k = back l (place_of ls k)

pub record BackIs (s : Span) (old new : ℕ) (r : Span) : Type 0 where
  pub one : 1 ≤ r.len
  pub fewer : r.len ≤ s.len
  pub places : (t : ℕ) → t < r.len → back (lift_of old new) (s.base + t) ≡ r.base + t

pub record CanSpan (words : List ℕ) : Type 0 where
  pub whole : length words ≡ 18
  pub few : get_or words 0 0 ≤ 8

pub record SpanIs (words : List ℕ) (k : ℕ) (r : Span) : Type 0 where
  pub one : 1 ≤ r.len
  pub places : (t : ℕ) → t < r.len → place_of (places_in (get_or words 0 0) (drop 2 words)) (k + t) ≡ r.base + t
