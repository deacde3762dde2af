-- Rounds end with the funds given, and the shares lie within one piece of a level, those earlier in the order first.
use mathlib.Core.Path.{◌≡◌, refl, sym, ap, subst, ◌∙◌}
use mathlib.Core.List.{List, [], ◌∷◌}
use Prim.Native.Nat.{ℕ, zero, suc, ◌+◌, ◌-◌, ◌*◌, ◌≤◌, ◌<◌, min}
use native.Mathlib.Omega.{arith}
use lib.Dec.{ltb, eqb}
use lib.ListN.{length, get_or, replicate, length-replicate}
use borrow.Author.Tests.{ltb-true, ltb-false, eqb-true, eqb-false, ne_eqb}
use Rattle.rules.specs.Measures.{sum}
use Rattle.laws.proofs.Basics.{by_test}
use Rattle.contributions.specs.Bases.{piece}
use Rattle.contributions.specs.Rounds.{gets, round, left_over, rounds, allotted}

-- What a round keeps, and what it gives

pub round_sum : (left : ℕ) (bs ss : List ℕ) → sum (round left bs ss) + left_over left bs ss ≡ sum ss + left
round_sum left [] ss = refl
round_sum left (b ∷ bs) [] = refl
round_sum left (b ∷ bs) (s ∷ ss) = omega (arith, round_sum (left - gets b s left) bs ss)

pub length_round : (left : ℕ) (bs ss : List ℕ) → length (round left bs ss) ≡ length ss
length_round left [] ss = refl
length_round left (b ∷ bs) [] = refl
length_round left (b ∷ bs) (s ∷ ss) = ap suc (length_round (left - gets b s left) bs ss)

leftover_le : (left : ℕ) (bs ss : List ℕ) → left_over left bs ss ≤ left
leftover_le left [] ss = omega arith
leftover_le left (b ∷ bs) [] = omega arith
leftover_le left (b ∷ bs) (s ∷ ss) = omega (arith, leftover_le (left - gets b s left) bs ss)

-- a round that gives nothing found every base full
round_full : (left : ℕ) (bs ss : List ℕ) → length bs ≤ length ss → 0 < left → left_over left bs ss ≡ left → sum bs ≤ sum ss
round_full left [] ss l h e = omega arith
round_full left (b ∷ bs) [] l h e = absurd (omega arith)
round_full left (b ∷ bs) (s ∷ ss) l h e =
    let q = leftover_le (left - gets b s left) bs ss in
    let z : gets b s left ≡ 0 = omega arith in
    let k : left - gets b s left ≡ left = omega arith in
    omega (arith, round_full left bs ss (omega arith) h (sym (ap (λ n. left_over n bs ss) k) ∙ e))

-- while a base is not full it gives something
pub round_falls : (left : ℕ) (bs ss : List ℕ) → length bs ≤ length ss → 0 < left → sum ss + left ≤ sum bs → left_over left bs ss < left
round_falls left bs ss l h c =
    by_test (eqb (left_over left bs ss) left)
    (λ q. let f = round_full left bs ss l h (eqb-true (left_over left bs ss) left q) in absurd (omega arith))
    (λ q. let u = eqb-false (left_over left bs ss) left q in omega (arith, leftover_le left bs ss, u))

-- with nothing left nothing is given
round_none : (bs ss : List ℕ) → round 0 bs ss ≡ ss
round_none [] ss = refl
round_none (b ∷ bs) [] = refl
round_none (b ∷ bs) (s ∷ ss) =
    let z : gets b s 0 ≡ 0 = omega arith in
    let k : s + gets b s 0 ≡ s = omega arith in
    let m : 0 - gets b s 0 ≡ 0 = omega arith in
    ap (λ x. x ∷ round (0 - gets b s 0) bs ss) k ∙ ap (λ x. s ∷ round x bs ss) m ∙ ap (λ l. s ∷ l) (round_none bs ss)

-- How many rounds there are at most

pub length_rounds : (n left : ℕ) (bs ss : List ℕ) → length (rounds n left bs ss) ≡ length ss
length_rounds zero left bs ss = refl
length_rounds (suc n) left bs ss =
    by_test (eqb left 0)
    (λ e. simp e)
    (λ e. simp e (length_rounds n (left_over left bs ss) bs (round left bs ss) ∙ length_round left bs ss))

pub length_allotted : (bs : List ℕ) (funds : ℕ) → length (allotted bs funds) ≡ length bs
unfolding allotted
length_allotted bs funds = length_rounds funds funds bs (replicate (length bs) 0) ∙ length-replicate (length bs) 0

pub rounds_none : (n : ℕ) (bs ss : List ℕ) → rounds n 0 bs ss ≡ ss
rounds_none zero bs ss = refl
rounds_none (suc n) bs ss = refl

-- any number that is not below what is left
rounds_any : (n m left : ℕ) (bs ss : List ℕ) → left ≤ n → left ≤ m → length bs ≤ length ss → sum ss + left ≤ sum bs →
    rounds n left bs ss ≡ rounds m left bs ss
rounds_any zero m left bs ss h k l c =
    let z : left ≡ 0 = omega arith in rw z (sym (rounds_none m bs ss))
rounds_any (suc n) zero left bs ss h k l c =
    let z : left ≡ 0 = omega arith in rw z (rounds_none (suc n) bs ss)
rounds_any (suc n) (suc m) left bs ss h k l c =
    by_test (eqb left 0)
    (λ e. simp e)
    (λ e.
    let ne = eqb-false left 0 e in
    let f = round_falls left bs ss l (omega (arith, ne)) c in
    simp e (rounds_any n m (left_over left bs ss) bs (round left bs ss) (omega arith) (omega arith) (omega (arith, length_round left bs ss)) (omega (arith, round_sum left bs ss))))

-- the first of them, and those after it
pub rounds_next : (left : ℕ) (bs ss : List ℕ) → length bs ≤ length ss → 0 < left → sum ss + left ≤ sum bs →
    rounds left left bs ss ≡ rounds (left_over left bs ss) (left_over left bs ss) bs (round left bs ss)
rounds_next zero bs ss l h c = absurd (omega arith)
rounds_next (suc n) bs ss l h c =
    let f = round_falls (suc n) bs ss l h c in
    simp (ne_eqb (suc n) 0 (λ e. omega arith))
    (rounds_any n (left_over (suc n) bs ss) (left_over (suc n) bs ss) bs (round (suc n) bs ss) (omega arith) (omega arith)
    (omega (arith, length_round (suc n) bs ss)) (omega (arith, round_sum (suc n) bs ss)))

-- Levels

-- after m rounds each share is m pieces, or its base where that is less
abbrev pub Level : ℕ → List ℕ → List ℕ → Type 0
Level m [] ss = Unit {0}
Level m (b ∷ bs) [] = Unit {0}
Level m (b ∷ bs) (s ∷ ss) = (s ≡ min b (m * piece)) × Level m bs ss

-- a share between m and m + 1 pieces, or its base
pub record Within (m base share : ℕ) : Type 0 where
  pub least : min base (m * piece) ≤ share
  pub most : share ≤ min base (m * piece + piece)

-- at the end each lies within a level, and where one has not got its whole piece those behind it have got none of theirs
abbrev pub Ended : ℕ → List ℕ → List ℕ → Type 0
Ended m [] ss = Unit {0}
Ended m (b ∷ bs) [] = Unit {0}
Ended m (b ∷ bs) (s ∷ ss) = Within m b s × (s < min b (m * piece + piece) → Level m bs ss) × Ended m bs ss

level_ended : (m : ℕ) (bs ss : List ℕ) → Level m bs ss → Ended m bs ss
level_ended m [] ss h = tt
level_ended m (b ∷ bs) [] h = tt
level_ended m (b ∷ bs) (s ∷ ss) h =
    let e = h.0 in (record { least = omega arith; most = omega arith }, (λ l. h.1), level_ended m bs ss h.1)

round_ended : (m left : ℕ) (bs ss : List ℕ) → Level m bs ss → Ended m bs (round left bs ss)
round_ended m left [] ss h = tt
round_ended m left (b ∷ bs) [] h = tt
round_ended m left (b ∷ bs) (s ∷ ss) h =
    let e = h.0 in (
      record { least = omega arith; most = omega arith },
      (λ l.
          let z : left - gets b s left ≡ 0 = omega arith in
          subst (Level m bs) (sym (ap (λ n. round n bs ss) z ∙ round_none bs ss)) h.1),
      round_ended m (left - gets b s left) bs ss h.1,
    )

-- a round that leaves something brings all of them to the next level
round_level : (m left : ℕ) (bs ss : List ℕ) → Level m bs ss → 0 < left_over left bs ss → Level (suc m) bs (round left bs ss)
round_level m left [] ss h l = tt
round_level m left (b ∷ bs) [] h l = tt
round_level m left (b ∷ bs) (s ∷ ss) h l =
    let e = h.0 in
    (omega (arith, leftover_le (left - gets b s left) bs ss), round_level m (left - gets b s left) bs ss h.1 l)

-- The end of the rounds

pub record Done (funds : ℕ) (bs ss : List ℕ) : Type 0 where
  pub whole : sum ss ≡ funds
  pub level : ℕ
  pub ended : Ended level bs ss

rounds_done : (n left m : ℕ) (bs ss : List ℕ) → left ≤ n → length bs ≤ length ss → sum ss + left ≤ sum bs → Level m bs ss →
    Done (sum ss + left) bs (rounds n left bs ss)
rounds_done zero left m bs ss h l c v = record { whole = omega arith; level = m; ended = level_ended m bs ss v }
rounds_done (suc n) left m bs ss h l c v =
    by_test (eqb left 0)
    (λ e. let z = eqb-true left 0 e in simp e (record { whole = omega arith; level = m; ended = level_ended m bs ss v }))
    (λ e.
    let ne = eqb-false left 0 e in
    let s = round_sum left bs ss in
    let f = round_falls left bs ss l (omega (arith, ne)) c in
    by_test (eqb (left_over left bs ss) 0)
    (λ q.
    let z = eqb-true (left_over left bs ss) 0 q in
    let r : rounds (suc n) left bs ss ≡ round left bs ss =
    simp e (ap (λ k. rounds n k bs (round left bs ss)) z ∙ rounds_none n bs (round left bs ss)) in
    subst (Done (sum ss + left) bs) (sym r) (record { whole = omega arith; level = m; ended = round_ended m left bs ss v }))
    (λ q.
    let u = eqb-false (left_over left bs ss) 0 q in
    let r = rounds_done n (left_over left bs ss) (suc m) bs (round left bs ss) (omega arith) (omega (arith, length_round left bs ss))
    (omega arith) (round_level m left bs ss v (omega (arith, u))) in
    simp e (rw (sym s) r)))

none_level : (bs : List ℕ) → Level 0 bs (replicate (length bs) 0)
none_level [] = tt
none_level (b ∷ bs) = (omega arith, none_level bs)

pub none_sum : (n : ℕ) → sum (replicate n 0) ≡ 0
none_sum zero = refl
none_sum (suc n) = omega (arith, none_sum n)

pub allotted_done : (bs : List ℕ) (funds : ℕ) → funds ≤ sum bs → Done funds bs (allotted bs funds)
unfolding allotted
allotted_done bs funds h =
    let none : List ℕ = replicate (length bs) 0 in
    let z = none_sum (length bs) in
    let q : sum none + funds ≡ funds = omega arith in
    subst (λ n. Done n bs (rounds funds funds bs none)) q
    (rounds_done funds funds 0 bs none (omega arith) (omega (arith, length-replicate {A = ℕ} (length bs) 0)) (omega arith) (none_level bs))

-- At places of the order

level_at : (m : ℕ) (bs ss : List ℕ) (i : ℕ) → Level m bs ss → i < length bs → i < length ss → get_or ss i 0 ≤ m * piece
level_at m [] ss i v h l = absurd (omega arith)
level_at m (b ∷ bs) [] i v h l = absurd (omega arith)
level_at m (b ∷ bs) (s ∷ ss) zero v h l = omega (arith, v.0)
level_at m (b ∷ bs) (s ∷ ss) (suc i) v h l = level_at m bs ss i v.1 (omega arith) (omega arith)

pub within_at : (m : ℕ) (bs ss : List ℕ) (i : ℕ) → Ended m bs ss → i < length bs → i < length ss → Within m (get_or bs i 0) (get_or ss i 0)
within_at m [] ss i v h l = absurd (omega arith)
within_at m (b ∷ bs) [] i v h l = absurd (omega arith)
within_at m (b ∷ bs) (s ∷ ss) zero v h l = v.0
within_at m (b ∷ bs) (s ∷ ss) (suc i) v h l = within_at m bs ss i v.2 (omega arith) (omega arith)

-- one below its base has no less than those behind it
pub ahead_at : (m : ℕ) (bs ss : List ℕ) (i h : ℕ) → Ended m bs ss → i < h → h < length bs → h < length ss →
    get_or ss i 0 < get_or bs i 0 → get_or ss h 0 ≤ get_or ss i 0
ahead_at m [] ss i h v q k l p = absurd (omega arith)
ahead_at m (b ∷ bs) [] i h v q k l p = absurd (omega arith)
ahead_at m (b ∷ bs) (s ∷ ss) i zero v q k l p = absurd (omega arith)
ahead_at m (b ∷ bs) (s ∷ ss) zero (suc h) v q k l p =
    by_test (ltb s (min b (m * piece + piece)))
    (λ e. omega (arith, v.0.least, level_at m bs ss h (v.1 (ltb-true s (min b (m * piece + piece)) e)) (omega arith) (omega arith)))
    (λ e. omega (arith, ltb-false s (min b (m * piece + piece)) e, (within_at m bs ss h v.2 (omega arith) (omega arith)).most))
ahead_at m (b ∷ bs) (s ∷ ss) (suc i) (suc h) v q k l p = ahead_at m bs ss i h v.2 (omega arith) (omega arith) (omega arith) p
