-- The runs at the cutoff: which wait, and the gathered ones are the stretches of their units but for runs of 0 lots.
use mathlib.Core.Path.{◌≡◌, refl, sym, ap, ◌∙◌}
use mathlib.Core.Bool.{cond, false, true}
use mathlib.Core.List.{List, [], ◌∷◌, ◌++◌, map, map-append, append_assoc, append-nil}
use Prim.Native.Nat.{ℕ, zero, suc, ◌+◌, ◌-◌, ◌*◌, ◌/◌, ◌%◌, ◌≤◌, ◌<◌}
use native.Mathlib.Omega.{arith}
use lib.Dec.{leb, ltb, eqb}
use lib.ListN.{length, take, drop, get_or, set, replicate, length-set, get_or-eq_default}
use native.Mathlib.Numerals.{add-one}
use lib.Seq.{drop-cons, drop-set-lt, take-suc, take-suc-set, take-length, drop-length, get_or-set_same, get_or-set_other}
use borrow.Author.Tests.{ltb-true, ltb-false, leb-true, leb-false, le-leb, lt-leb, eqb-true, eqb-false, eq-eqb}
use Rattle.std.proofs.lemmas.List.{drop-set}
use Rattle.rules.specs.Measures.{unit_lots}
use Rattle.rules.specs.Units.{AccountLots, account_lots}
use Rattle.rules.specs.Handover.{waiting}
use Rattle.rules.specs.Fails.{is_full_of, full_lots}
use Rattle.laws.proofs.Basics.{by_test, Every, each_drop}
use Rattle.runs.specs.Runs.{part_of, units_of_run, units_of_runs, units_of_words, Plain}
use Rattle.gathering.specs.Gathering.{spent, laid}
use Rattle.runs.proofs.Units.{waits_run, waits_over}
use Rattle.runs.proofs.Words.{word_at, units_at_word}
use Rattle.runs.proofs.Numbers.{plain_less}

pub laid_same : (s t : ℕ → ℕ) (us : List AccountLots) → ((a : ℕ) → s a ≡ t a) → laid s us ≡ laid t us
laid_same s t [] e = refl
laid_same s t (u ∷ us) e =
    by_test (leb unit_lots u.lots)
    (λ f. simp f (rw (e u.account) (ap (λ l. account_lots u.account (t u.account) ∷ l)
    (laid_same (spent s u.account) (spent t u.account) us (λ b. ap (λ x. cond (eqb b u.account) 0 x) (e b))))))
    (λ f. simp f (ap (λ l. u ∷ l) (laid_same s t us e)))

-- The runs that wait

pub drop_map : (j : ℕ) (ws : List ℕ) → drop j (map part_of ws) ≡ map part_of (drop j ws)
drop_map zero ws = refl
drop_map (suc j) [] = refl
drop_map (suc j) (w ∷ ws) = drop_map j ws

module _ (runs : List ℕ) (j : ℕ) (h : j < length runs) where
  -- past a word, or in it
  pub waits_past_word : (d : ℕ) → get_or runs j 0 / 64 ≤ d →
      waiting (units_of_runs (drop j (map part_of runs))) d ≡ waiting (units_of_runs (drop (j + 1) (map part_of runs))) (d - get_or runs j 0 / 64)
  waits_past_word d g =
      rw (units_at_word runs j h) (waits_over (part_of (get_or runs j 0)) (units_of_runs (drop (j + 1) (map part_of runs))) d g)

  waits_in_word : (d : ℕ) → d < get_or runs j 0 / 64 →
      waiting (units_of_runs (drop j (map part_of runs))) d
      ≡ units_of_run (account_lots (get_or runs j 0 % 64) (get_or runs j 0 / 64 - d / 100000 * 100000)) ++ units_of_runs (drop (j + 1) (map part_of runs))
  waits_in_word d g =
      rw (units_at_word runs j h) (waits_run (part_of (get_or runs j 0)) (units_of_runs (drop (j + 1) (map part_of runs))) d g)

  -- what is not handed of a word, and the words behind it
  module _ (v d : ℕ) (g : d < get_or runs j 0 / 64) (e : v ≡ get_or runs j 0 - d / 100000 * 6400000) where
    rest_lots : v / 64 ≡ get_or runs j 0 / 64 - d / 100000 * 100000
    rest_lots = omega arith

    pub rest_of_word : units_of_words (drop j (set runs j v)) ≡ waiting (units_of_runs (drop j (map part_of runs))) d
    rest_of_word =
        let a : v % 64 ≡ get_or runs j 0 % 64 = omega arith in
        ap units_of_words (drop-set runs j v h) ∙ rw (a, rest_lots, ← drop_map (j + 1) runs) (sym (waits_in_word d g))

    pub plain_rest : Every Plain (map part_of runs) → Every Plain (map part_of (drop j (set runs j v)))
    plain_rest p =
        let q = rw (word_at runs j h) at (each_drop Plain j (map part_of runs) p) in
        rw (drop-set runs j v h, ← drop_map (j + 1) runs)
        ((λ f. ap (λ x. x % 100000) rest_lots ∙ plain_less (get_or runs j 0 / 64) (d / 100000) (omega arith) (q.0 (omega (arith, rest_lots)))), q.1)

-- Each account's full lots

abbrev full_from : List ℕ → ℕ → ℕ → ℕ
full_from runs j a = full_lots unit_lots a (map part_of (drop j runs))

full_one : (a : ℕ) (u : AccountLots) → Plain u → cond (is_full_of unit_lots a u) u.lots 0 ≡ cond (eqb u.account a) (u.lots / 100000 * 100000) 0
full_one a u p =
    by_test (leb unit_lots u.lots)
    (λ t. let r = p (leb-true unit_lots u.lots t) in
    by_test (eqb u.account a) (λ e. simp (t, e) (omega arith)) (λ e. simp (t, e)))
    (λ t. let g = leb-false unit_lots u.lots t in
    by_test (eqb u.account a) (λ e. simp (t, e) (omega arith)) (λ e. simp (t, e)))

module _ (runs full : List ℕ) (j : ℕ) (h : j < length runs) (l : length full ≡ 64) (p : Every Plain (map part_of (drop j runs)))
    (F : ℕ → ℕ) (i : (a : ℕ) → get_or full a 0 + full_from runs j a ≡ F a) where
  abbrev key : ℕ
  key = get_or runs j 0

  abbrev x : ℕ
  x = key / 6400000 * 100000

  here : map part_of (drop j runs) ≡ part_of key ∷ map part_of (drop (suc j) runs)
  here = ap (map part_of) (drop-cons runs j 0 h)

  pub plain_next : Every Plain (map part_of (drop (j + 1) runs))
  plain_next = rw add-one (rw here at p).1

  full_at : (a : ℕ) → full_from runs j a ≡ cond (eqb (key % 64) a) x 0 + full_from runs (j + 1) a
  full_at a =
      let e : key / 64 / 100000 * 100000 ≡ x = omega arith in
      ap (full_lots unit_lots a) here
      ∙ rw add-one (ap (λ y. y + full_from runs (suc j) a) (full_one a (part_of key) (rw here at p).0 ∙ ap (λ y. cond (eqb (key % 64) a) y 0) e))

  pub sum_fits : get_or full (key % 64) 0 + x ≤ F (key % 64)
  sum_fits = omega (arith, i (key % 64), rw (eq-eqb (key % 64) (key % 64) refl) at (full_at (key % 64)))

  pub sums_next : (a : ℕ) → get_or (set full (key % 64) (get_or full (key % 64) 0 + x)) a 0 + full_from runs (j + 1) a ≡ F a
  sums_next a =
      by_test (eqb (key % 64) a)
      (λ t.
      let q = eqb-true (key % 64) a t in
      let f = rw t at (full_at a) in
      rw (← q, get_or-set_same full (key % 64) (get_or full (key % 64) 0 + x) 0 (omega arith))
      (omega (arith, rw (← q) at (i a), rw (← q) at f)))
      (λ t.
      let ne = eqb-false (key % 64) a t in
      let f = rw t at (full_at a) in
      rw (get_or-set_other full (key % 64) a (get_or full (key % 64) 0 + x) 0 (λ q. ne (sym q))) (omega (arith, i a, f)))

-- One pass

abbrev pub left : List ℕ → ℕ → ℕ
left full a = get_or full a 0

module _ (runs full : List ℕ) (j : ℕ) (h : j < length runs) (all : List AccountLots)
    (i : all ≡ map part_of (take j runs) ++ laid (left full) (map part_of (drop j runs))) where
  pub spread_small : get_or runs j 0 < 6400000 → all ≡ map part_of (take (j + 1) runs) ++ laid (left full) (map part_of (drop (j + 1) runs))
  spread_small g =
      let k = get_or runs j 0 in
      let t : leb unit_lots (k / 64) ≡ false = lt-leb unit_lots (k / 64) (omega arith) in
      i ∙ rw (add-one, take-suc runs j 0 h, map-append, drop-cons runs j 0 h)
      (rw t (sym (append_assoc (map part_of (take j runs)) (part_of k ∷ []) (laid (left full) (map part_of (drop (suc j) runs))))))

  pub spread_full : length full ≡ 64 → 6400000 ≤ get_or runs j 0 → (w : ℕ) → w ≡ get_or full (get_or runs j 0 % 64) 0 * 64 + get_or runs j 0 % 64 →
      all ≡ map part_of (take (j + 1) (set runs j w)) ++ laid (left (set full (get_or runs j 0 % 64) 0)) (map part_of (drop (j + 1) (set runs j w)))
  spread_full l g w ew =
      let k = get_or runs j 0 in
      let a = k % 64 in
      let R = map part_of (drop (suc j) runs) in
      let t : leb unit_lots (k / 64) ≡ true = le-leb unit_lots (k / 64) (omega arith) in
      let w₁ : w % 64 ≡ a = omega arith in
      let w₂ : w / 64 ≡ get_or full a 0 = omega arith in
      let o : laid (spent (left full) a) R ≡ laid (left (set full a 0)) R =
      laid_same (spent (left full) a) (left (set full a 0)) R (λ b. by_test (eqb b a)
      (λ e. simp e (rw (eqb-true b a e) (sym (get_or-set_same full a 0 0 (omega arith)))))
      (λ e. simp e (sym (get_or-set_other full a b 0 0 (eqb-false b a e))))) in
      i ∙ rw (add-one, take-suc-set runs j w h, map-append, drop-cons runs j 0 h, drop-set-lt (suc j) runs j w (omega arith), t, ← o, w₁, w₂)
      (sym (append_assoc (map part_of (take j runs)) (account_lots a (get_or full a 0) ∷ []) (laid (spent (left full) a) R)))

pub spent_small : (full : List ℕ) (k : ℕ) → ((a : ℕ) → get_or full a 0 ≤ 20000000) → (a : ℕ) → get_or (set full k 0) a 0 ≤ 20000000
spent_small full k h a =
    by_test (eqb a k)
    (λ e. by_test (ltb a (length full))
    (λ t. rw (eqb-true a k e, get_or-set_same full k 0 0 (omega (arith, eqb-true a k e, ltb-true a (length full) t))) (omega arith))
    (λ t. let g : length (set full k 0) ≤ a = omega (arith, length-set full k 0, ltb-false a (length full) t) in
    rw (get_or-eq_default (set full k 0) 0 g) (omega arith)))
    (λ e. rw (get_or-set_other full k a 0 0 (eqb-false a k e)) (h a))

pub spread_end : (runs full : List ℕ) (j : ℕ) → j ≡ length runs →
    map part_of (take j runs) ++ laid (left full) (map part_of (drop j runs)) ≡ map part_of runs
spread_end runs full j e = rw (e, take-length runs, drop-length runs) (append-nil (map part_of runs))

pub zeros : (n a : ℕ) → ◌≡◌ {A = ℕ} (get_or (replicate n 0) a 0) 0
zeros zero a = refl
zeros (suc n) zero = refl
zeros (suc n) (suc a) = zeros n a
