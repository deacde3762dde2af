-- What a delivery hands on, unit by unit, is what it hands on run by run.
use mathlib.Core.Path.{◌≡◌, refl, sym, ap, ◌∙◌}
use mathlib.Core.List.{List, [], ◌∷◌, ◌++◌}
use Prim.Native.Nat.{ℕ, zero, suc, ◌+◌, ◌-◌, ◌*◌, ◌/◌, ◌%◌, ◌≤◌, ◌<◌}
use native.Mathlib.Omega.{arith}
use native.Mathlib.Nat.{add-zero, sub-zero, suc-mul, mod-lt, div-add-mod', div-eq_of_lt-le, div-lt_iff_lt-mul}
use lib.Dec.{leb}
use lib.ListN.{length, get_or, set, take, drop, replicate, length-set, length-drop, length-replicate}
use lib.Seq.{get_or-set_same, take_all, drop-append-le, drop-append-add}
use borrow.Author.Tests.{leb-true, leb-false, lt-leb}
use Rattle.rules.specs.Measures.{Every}
use Rattle.rules.specs.Units.{AccountLots, account_lots, prepend, sum_lots}
use Rattle.rules.specs.Handover.{covered, handed, handovers}
use Rattle.laws.proofs.Basics.{by_test, total_append, total_replicate, total_put, each_append, each_replicate, each_put, each_take, each_drop}
use Rattle.laws.proofs.Handover.{covered_past, covered_within, covered_le, handed_extends}
use Rattle.desks.specs.Desk.{Plan, settlement_of, joined}
use Rattle.ranking.specs.Runs.{units_of_run, units_of_runs}
use Rattle.joining.specs.Runs.{handed_of, added_at, joined_runs}
use Rattle.simulation.proofs.Leaps.{covered_same, covered_whole, take_same, set_self}

abbrev Some : AccountLots → Type 0
Some u = 1 ≤ u.lots

-- Parts of two lists together

covered_nothing : (vs : List AccountLots) → Every Some vs → covered vs 0 ≡ 0
covered_nothing [] h = refl
covered_nothing (v ∷ vs) h = simp (lt-leb v.lots 0 (omega (arith, h.0))) refl

covered_both : (us vs : List AccountLots) (d : ℕ) → Every Some vs → covered (us ++ vs) d ≡ covered us d + covered vs (d - sum_lots us)
covered_both us vs d h =
    by_test (leb (sum_lots us) d)
    (λ e.
    let le = leb-true (sum_lots us) d e in
    covered_past us vs d le ∙ ap (λ n. n + covered vs (d - sum_lots us)) (sym (covered_whole us d le)))
    (λ e.
    let lt = leb-false (sum_lots us) d e in
    let z : d - sum_lots us ≡ 0 = omega arith in
    covered_within us vs d lt
    ∙ sym (ap (λ n. covered us d + n) (ap (covered vs) z ∙ covered_nothing vs h) ∙ add-zero (covered us d)))

module _ {ℓ} {A : Type ℓ} where
  take_both : (us vs : List A) (m : ℕ) → take m (us ++ vs) ≡ take m us ++ take (m - length us) vs
  take_both us vs zero = ap (λ n. take n vs) (sym z) where
    z : 0 - length us ≡ 0
    z = omega arith
  take_both [] vs (suc m) = ap (λ n. take n vs) (sym z) where
    z : suc m - 0 ≡ suc m
    z = omega arith
  take_both (u ∷ us) vs (suc m) = ap (λ l. u ∷ l) (take_both us vs m ∙ ap (λ n. take m us ++ take n vs) (sym z)) where
    z : suc m - suc (length us) ≡ m - length us
    z = omega arith

  take_none : (us : List A) (m : ℕ) → m ≡ 0 → take m us ≡ []
  take_none us m e = ap (λ n. take n us) e

-- the units that a total of e covers and one of b does not
abbrev between : List AccountLots → ℕ → ℕ → List AccountLots
between us b e = take (covered us e - covered us b) (drop (covered us b) us)

between_both : (us vs : List AccountLots) (b e : ℕ) → Every Some vs → b ≤ e →
    between (us ++ vs) b e ≡ between us b e ++ between vs (b - sum_lots us) (e - sum_lots us)
between_both us vs b e h le =
    let n = sum_lots us in
    let cb = covered us b in
    let ce = covered us e in
    let vb = covered vs (b - n) in
    let ve = covered vs (e - n) in
    let both : between (us ++ vs) b e ≡ take (ce + ve - (cb + vb)) (drop (cb + vb) (us ++ vs)) =
    ap (λ k. take (covered (us ++ vs) e - k) (drop k (us ++ vs))) (covered_both us vs b h)
    ∙ ap (λ k. take (k - (cb + vb)) (drop (cb + vb) (us ++ vs))) (covered_both us vs e h) in
    by_test (leb n b)
    (λ t.
    let nb = leb-true n b t in
    let wb = covered_whole us b nb in
    let we = covered_whole us e (omega arith) in
    let k : ce + ve - (cb + vb) ≡ ve - vb = omega (arith, wb, we) in
    let z : ce - cb ≡ 0 = omega (arith, wb, we) in
    both ∙ ap (λ m. take m (drop (cb + vb) (us ++ vs))) k
    ∙ ap (λ m. take (ve - vb) (drop (m + vb) (us ++ vs))) wb
    ∙ ap (take (ve - vb)) (drop-append-add us vs vb)
    ∙ sym (ap (λ l. l ++ between vs (b - n) (e - n)) (take_none (drop cb us) (ce - cb) z)))
    (λ t.
    let lt = leb-false n b t in
    let zb : b - n ≡ 0 = omega arith in
    let vz : vb ≡ 0 = ap (covered vs) zb ∙ covered_nothing vs h in
    let cl = covered_le us b in
    let el = covered_le us e in
    let start : drop (cb + vb) (us ++ vs) ≡ drop cb us ++ vs =
    ap (λ m. drop (cb + m) (us ++ vs)) vz ∙ ap (λ m. drop m (us ++ vs)) (add-zero cb) ∙ drop-append-le cb us vs cl in
    let second : between vs (b - n) (e - n) ≡ take ve vs =
    ap (λ m. take (ve - m) (drop m vs)) vz ∙ ap (λ m. take m vs) (sub-zero ve) in
    let m = ce + ve - (cb + vb) in
    let ld = length-drop cb us in
    let spread : between (us ++ vs) b e ≡ take m (drop cb us) ++ take (m - length (drop cb us)) vs =
    both ∙ ap (take m) start ∙ take_both (drop cb us) vs m in
    by_test (leb n e)
    (λ q.
    let we = covered_whole us e (leb-true n e q) in
    let f : take m (drop cb us) ≡ between us b e =
    take_all m (drop cb us) (omega (arith, vz, we, ld)) ∙ sym (take_all (ce - cb) (drop cb us) (omega (arith, we, ld))) in
    let g : m - length (drop cb us) ≡ ve = omega (arith, vz, we, ld, cl) in
    spread ∙ ap (λ l. l ++ take (m - length (drop cb us)) vs) f ∙ ap (λ k. between us b e ++ take k vs) g
    ∙ sym (ap (λ l. between us b e ++ l) second))
    (λ q.
    let ze : e - n ≡ 0 = omega (arith, leb-false n e q) in
    let ez : ve ≡ 0 = ap (covered vs) ze ∙ covered_nothing vs h in
    let f : m ≡ ce - cb = omega (arith, vz, ez) in
    let g : m - length (drop cb us) ≡ ve = omega (arith, vz, ez, ld, el) in
    spread ∙ ap (λ k. take k (drop cb us) ++ take (m - length (drop cb us)) vs) f ∙ ap (λ k. between us b e ++ take k vs) g
    ∙ sym (ap (λ l. between us b e ++ l) second)))

between_sum : (us : List AccountLots) (b e : ℕ) → b ≤ e → sum_lots (handed us b) + sum_lots (between us b e) ≡ sum_lots (handed us e)
unfolding handovers
between_sum us b e le =
    let q : b + (e - b) ≡ e = omega arith in
    sym (total_append (λ u. u.lots) (handed us b) (between us b e))
    ∙ ap sum_lots (ap (λ n. handed us b ++ between us b n) (sym q) ∙ sym (handed_extends us b (e - b)) ∙ ap (handed us) q)

-- One run

pub sum_run : (size a lots : ℕ) → sum_lots (units_of_run size (account_lots a lots)) ≡ lots
sum_run size a lots =
    let r = replicate (lots / size) (account_lots a size) in
    let s = prepend a (lots % size) [] in
    omega (
      arith,
      total_append (λ u. u.lots) r s,
      total_replicate (λ u. u.lots) (lots / size) (account_lots a size),
      total_put (λ u. u.lots) a (lots % size) [] refl,
      div-add-mod' lots size,
    )

some_run : (size a lots : ℕ) → 0 < size → Every Some (units_of_run size (account_lots a lots))
some_run size a lots p =
    each_append Some (replicate (lots / size) (account_lots a size)) (prepend a (lots % size) [])
    (each_replicate Some (lots / size) (account_lots a size) p) (each_put Some a (lots % size) [] (λ h. h) tt)

pub some_runs : (size : ℕ) (rs : List AccountLots) → 0 < size → Every Some (units_of_runs size rs)
some_runs size [] p = tt
some_runs size (r ∷ rs) p = each_append Some (units_of_run size r) (units_of_runs size rs) (some_run size r.account r.lots p) (some_runs size rs p)

abbrev Of : ℕ → AccountLots → Type 0
Of a u = u.account ≡ a

of_run : (size a lots : ℕ) → Every (Of a) (units_of_run size (account_lots a lots))
of_run size a lots =
    each_append (Of a) (replicate (lots / size) (account_lots a size)) (prepend a (lots % size) [])
    (each_replicate (Of a) (lots / size) (account_lots a size) refl) (each_put (Of a) a (lots % size) [] (λ h. refl) tt)

sum_fulls : (n a size : ℕ) → sum_lots (replicate n (account_lots a size)) ≡ n * size
sum_fulls n a size = total_replicate (λ u. u.lots) n (account_lots a size)

put_short : (a x d : ℕ) → d < x → covered (prepend a x []) d ≡ 0
put_short a zero d h = absurd (omega arith)
put_short a (suc x) d h = simp (lt-leb (suc x) d h) refl

-- what a total hands over of it
handed_run : (size a lots d : ℕ) → 0 < size → sum_lots (handed (units_of_run size (account_lots a lots)) d) ≡ handed_of size lots d
unfolding handed_of
handed_run size a lots d p =
    let us = units_of_run size (account_lots a lots) in
    let q = lots / size in
    let x = account_lots a size in
    let s = prepend a (lots % size) [] in
    let dm = div-add-mod' lots size in
    let front = sum_fulls q a size in
    by_test (leb lots d)
    (λ t.
    let le : sum_lots us ≤ d = omega (arith, leb-true lots d t, sum_run size a lots) in
    simp t (ap (λ n. sum_lots (take n us)) (covered_whole us d le) ∙ ap sum_lots (take_all (length us) us (omega arith)) ∙ sum_run size a lots))
    (λ t.
    let lt = leb-false lots d t in
    simp t
    (by_test (leb (q * size) d)
    (λ e.
    let le = leb-true (q * size) d e in
    let short : d - q * size < lots % size = omega arith in
    let c : covered us d ≡ q =
    covered_past (replicate q x) s d (omega (arith, front))
    ∙ ap (λ n. length (replicate q x) + n) (ap (λ n. covered s (d - n)) front ∙ put_short a (lots % size) (d - q * size) short)
    ∙ add-zero (length (replicate q x)) ∙ length-replicate q x in
    let k : d / size ≡ q = div-eq_of_lt-le size le (omega (arith, suc-mul q size, mod-lt lots p)) in
    ap (λ n. sum_lots (take n us)) c ∙ ap sum_lots (take_same x s q q (omega arith)) ∙ front ∙ ap (λ n. n * size) (sym k))
    (λ e.
    let z = leb-false (q * size) d e in
    let c = covered_same q a size d s p z in
    let b : d / size ≤ q = omega (arith, (div-lt_iff_lt-mul p).1 z) in
    ap (λ n. sum_lots (take n us)) c ∙ ap sum_lots (take_same x s q (d / size) b) ∙ sum_fulls (d / size) a size)))

between_run : (size a lots b e : ℕ) → 0 < size → b ≤ e →
    sum_lots (between (units_of_run size (account_lots a lots)) b e) ≡ handed_of size lots e - handed_of size lots b
between_run size a lots b e p le =
    omega (arith, between_sum (units_of_run size (account_lots a lots)) b e le, handed_run size a lots b p, handed_run size a lots e p)

-- Inventories

set_set : (l : List ℕ) (c v w : ℕ) → set (set l c v) c w ≡ set l c w
set_set [] c v w = refl
set_set (x ∷ xs) zero v w = refl
set_set (x ∷ xs) (suc c) v w = ap (λ l. x ∷ l) (set_set xs c v w)

added_twice : (l : List ℕ) (i s x y : ℕ) → i * 16 + s < length l → added_at (added_at l i s x) i s y ≡ added_at l i s (x + y)
added_twice l i s x y h =
    let c = i * 16 + s in
    let v = get_or l c 0 in
    let e : get_or (set l c (v + x)) c 0 + y ≡ v + (x + y) = omega (arith, get_or-set_same l c (v + x) 0 h) in
    set_set l c (v + x) (get_or (set l c (v + x)) c 0 + y) ∙ ap (set l c) e

joined_append : (p : Plan) (i : ℕ) (us vs : List AccountLots) (l : List ℕ) → joined p i (us ++ vs) l ≡ joined p i vs (joined p i us l)
joined_append p i [] vs l = refl
joined_append p i (u ∷ us) vs l = joined_append p i us vs (added_at l i (settlement_of p u.account) u.lots)

joined_account : (p : Plan) (i a : ℕ) (us : List AccountLots) (l : List ℕ) → Every (Of a) us → i * 16 + settlement_of p a < length l →
    joined p i us l ≡ added_at l i (settlement_of p a) (sum_lots us)
joined_account p i a [] l h k = sym (set_self l (i * 16 + settlement_of p a))
joined_account p i a (u ∷ us) l h k =
    let s = settlement_of p a in
    let l₁ = added_at l i s u.lots in
    let n : length l₁ ≡ length l = length-set l (i * 16 + s) (get_or l (i * 16 + s) 0 + u.lots) in
    ap (λ b. joined p i us (added_at l i (settlement_of p b) u.lots)) h.0
    ∙ joined_account p i a us l₁ h.1 (omega arith)
    ∙ added_twice l i s u.lots (sum_lots us) k

-- Run by run

pub joined_runs_lem : (p : Plan) (i : ℕ) (rs : List AccountLots) (b e : ℕ) (l : List ℕ) → 0 < p.size → b ≤ e → i < 16 →
    ((a : ℕ) → settlement_of p a < 16) → length l ≡ 256 →
    joined p i (between (units_of_runs p.size rs) b e) l ≡ joined_runs p.settles p.size i rs b e l
joined_runs_lem p i [] b e l z le hi st n = refl
joined_runs_lem p i (r ∷ rs) b e l z le hi st n =
    let size = p.size in
    let a = r.account in
    let us = units_of_run size r in
    let vs = units_of_runs size rs in
    let x = handed_of size r.lots e - handed_of size r.lots b in
    let k = sum_run size a r.lots in
    let s = settlement_of p a in
    let l₁ = added_at l i s x in
    let hs = st a in
    let n₁ : length l₁ ≡ length l = length-set l (i * 16 + s) (get_or l (i * 16 + s) 0 + x) in
    ap (λ ws. joined p i ws l) (between_both us vs b e (some_runs size rs z) le)
    ∙ joined_append p i (between us b e) (between vs (b - sum_lots us) (e - sum_lots us)) l
    ∙ ap (joined p i (between vs (b - sum_lots us) (e - sum_lots us)))
    (joined_account p i a (between us b e) l
    (each_take (Of a) (covered us e - covered us b) (drop (covered us b) us) (each_drop (Of a) (covered us b) us (of_run size a r.lots)))
    (omega (arith, hs))
    ∙ ap (added_at l i s) (between_run size a r.lots b e z le))
    ∙ ap (λ m. joined p i (between vs (b - m) (e - m)) l₁) k
    ∙ joined_runs_lem p i rs (b - r.lots) (e - r.lots) l₁ z (omega arith) hi st (n₁ ∙ n)
