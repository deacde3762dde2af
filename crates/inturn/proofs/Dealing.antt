-- Rounds of units dealt out of runs: who takes part in a round, the round that follows, and the units one by one.
use mathlib.Core.Path.{◌≡◌, refl, sym, ap, ◌∙◌}
use mathlib.Core.List.{List, [], ◌∷◌, ◌++◌, map, map-append, append_assoc, append-nil}
use Prim.Native.Nat.{ℕ, zero, suc, ◌+◌, ◌-◌, ◌*◌, ◌/◌, ◌%◌, ◌≤◌, ◌<◌}
use native.Mathlib.Omega.{arith}
use native.Mathlib.Nat.{suc-mul, mul_comm, mul-le-mul, div-add-mod'}
use native.Mathlib.Numerals.{add-one}
use lib.Dec.{ltb}
use lib.ListN.{length, take, drop, get_or, length-map, length-append, length-drop, get_or-map}
use lib.Seq.{take-take, take-suc, take_all, drop-cons, drop-drop, drop-append-add, drop-append-le, length-take-le, get_or-take}
use borrow.Author.Tests.{lt-ltb, le-ltb, ltb-true, ltb-false}
use Rattle.rules.specs.Measures.{Every, unit_lots}
use Rattle.rules.specs.Units.{AccountLots, account_lots}
use Rattle.rules.specs.Dealt.{round, rounds}
use Rattle.laws.proofs.Basics.{by_test, each_append, each_map}
use Rattle.runs.specs.Runs.{part_of, runs_in}
use Rattle.inturn.specs.declared.Deal.{Deal}
use Rattle.inturn.specs.InTurn.{Falling, Narrowed, full_unit, CanDeal, smalls_of, dealt_runs, dealt_from, SeatAt, CanStep, Stepped}
use Rattle.runs.proofs.Loops.{runs_length, runs_at_lem}

-- Who takes part in a round

round_append : (size s : ℕ) (us vs : List AccountLots) → round size s (us ++ vs) ≡ round size s us ++ round size s vs
round_append size s [] vs = refl
round_append size s (u ∷ us) vs =
    by_test (ltb s (u.lots / size))
    (λ e. simp e (ap (λ l. account_lots u.account size ∷ l) (round_append size s us vs)))
    (λ e. simp e (round_append size s us vs))

pub round_none : (size s : ℕ) (us : List AccountLots) → Every (λ v. v.lots / size ≤ s) us → round size s us ≡ []
round_none size s [] ps = refl
round_none size s (u ∷ us) ps = rw (le-ltb s (u.lots / size) ps.0) (round_none size s us ps.1)

round_all : (s : ℕ) (us : List AccountLots) → Every (λ v. s < v.lots / unit_lots) us → round unit_lots s us ≡ map full_unit us
round_all s [] ps = refl
round_all s (u ∷ us) ps = rw (lt-ltb s (u.lots / unit_lots) ps.0) (ap (λ l. full_unit u ∷ l) (round_all s us ps.1))

pub runs_more : (runs : List ℕ) (w : ℕ) → w < length runs → runs_in runs (suc w) ≡ runs_in runs w ++ (part_of (get_or runs w 0) ∷ [])
runs_more runs w h = ap (map part_of) (take-suc runs w 0 h) ∙ map-append part_of (take w runs) (get_or runs w 0 ∷ [])

pub each_runs : (P : AccountLots → Type 0) (runs : List ℕ) (n : ℕ) → n ≤ length runs →
    ((j : ℕ) → j < n → P (part_of (get_or runs j 0))) → Every P (runs_in runs n)
each_runs P runs zero h ps = tt
each_runs P runs (suc n) h ps =
    rw (runs_more runs n h)
    (each_append P (runs_in runs n) (part_of (get_or runs n 0) ∷ []) (each_runs P runs n (omega arith) (λ j l. ps j (omega arith)))
    (ps n (omega arith), tt))

-- the first n runs lent as a list of their own
pub lent_falling : (runs : List ℕ) (n : ℕ) → Falling runs n → Falling (take n runs) (length (take n runs))
lent_falling runs n f =
    let l = length-take-le n runs f.there in
    record {
      there = omega arith;
      falls = λ i j p q. rw (get_or-take n runs j 0 (omega arith), get_or-take n runs i 0 (omega arith)) (f.falls i j p (omega arith));
    }

pub lent_narrowed : (runs : List ℕ) (n r w : ℕ) → n ≤ length runs → Narrowed (take n runs) (length (take n runs)) r w → Narrowed runs n r w
lent_narrowed runs n r w h f =
    let l = length-take-le n runs h in
    let few : w ≤ n = omega (arith, f.few) in
    let e : take (length (take n runs)) (take n runs) ≡ take n runs = take_all (length (take n runs)) (take n runs) (omega arith) in
    let t : take w (take n runs) ≡ take w runs = take-take w n runs few in
    record {
      few = few;
      rest = λ s p. rw (e, t) at (f.rest s p);
      all = rw t at f.all;
      some = λ p. rw (get_or-take n runs (w - 1) 0 (omega arith)) at (f.some p);
    }

-- the last run takes no part
pub narrow_less : (runs : List ℕ) (w v r : ℕ) → w ≡ suc v → w ≤ length runs → get_or runs v 0 / 6400000 ≤ r →
    (s : ℕ) → r ≤ s → round unit_lots s (runs_in runs w) ≡ round unit_lots s (runs_in runs v)
narrow_less runs w v r q h g s l =
    let k = get_or runs v 0 in
    let e : k / 64 / 100000 ≤ s = omega arith in
    rw (q, runs_more runs v (omega arith), round_append unit_lots s (runs_in runs v) (part_of k ∷ []), round_none unit_lots s (part_of k ∷ []) (e, tt))
    (append-nil (round unit_lots s (runs_in runs v)))

-- it does, and so do all in front of it
pub narrow_all : (runs : List ℕ) (n w v r : ℕ) → Falling runs n → w ≡ suc v → w ≤ n → r < get_or runs v 0 / 6400000 →
    round unit_lots r (runs_in runs w) ≡ map full_unit (runs_in runs w)
narrow_all runs n w v r f q h g =
    round_all r (runs_in runs w)
    (each_runs (λ u. r < u.lots / unit_lots) runs w (omega (arith, f.there))
    (λ j l. omega (arith, f.falls j v (omega arith) (omega arith))))

-- The round that follows

pub rounds_same : (size r n : ℕ) (us vs : List AccountLots) → ((s : ℕ) → r ≤ s → round size s us ≡ round size s vs) → rounds size r n us ≡ rounds size r n vs
rounds_same size r zero us vs h = refl
rounds_same size r (suc n) us vs h = rw (h r (omega arith), rounds_same size (suc r) n us vs (λ s l. h s (omega arith)))

pub rounds_more : (size r n : ℕ) (us : List AccountLots) → Every (λ v. v.lots / size ≤ r + n) us → rounds size r (suc n) us ≡ rounds size r n us
rounds_more size r zero us ps = rw (round_none size r us (each_map _ (λ v. v.lots / size ≤ r) (λ v h. omega (arith, h)) us ps))
rounds_more size r (suc n) us ps =
    ap (λ l. round size r us ++ l) (rounds_more size (suc r) n us (each_map _ (λ v. v.lots / size ≤ suc r + n) (λ v h. omega (arith, h)) us ps))

pub first_round : (size r n : ℕ) (us : List AccountLots) → Every (λ v. v.lots / size ≤ n) us →
    rounds size r n us ≡ round size r us ++ rounds size (suc r) n us
first_round size r zero us ps = sym (rw (round_none size r us (each_map _ (λ v. v.lots / size ≤ r) (λ v h. omega (arith, h)) us ps)))
first_round size r (suc n) us ps =
    ap (λ l. round size r us ++ l) (sym (rounds_more size (suc r) n us (each_map _ (λ v. v.lots / size ≤ suc r + n) (λ v h. omega (arith, h)) us ps)))

pub next_round : (runs : List ℕ) (n r w : ℕ) → n ≤ length runs → ((j : ℕ) → j < n → get_or runs j 0 / 6400000 ≤ 200) → Narrowed runs n r w →
    rounds unit_lots r 200 (runs_in runs n) ≡ map full_unit (runs_in runs w) ++ rounds unit_lots (suc r) 200 (runs_in runs w)
next_round runs n r w h ps k =
    rounds_same unit_lots r 200 (runs_in runs n) (runs_in runs w) k.rest
    ∙ first_round unit_lots r 200 (runs_in runs w)
    (each_runs (λ u. u.lots / unit_lots ≤ 200) runs w (omega (arith, k.few)) (λ j l. omega (arith, ps j (omega (arith, k.few)))))
    ∙ ap (λ l. l ++ rounds unit_lots (suc r) 200 (runs_in runs w)) k.all

pub falling_less : (runs : List ℕ) (n w : ℕ) → Falling runs n → w ≤ n → Falling runs w
falling_less runs n w f h = record { there = omega (arith, f.there); falls = λ i j l g. f.falls i j l (omega arith) }

-- Units one by one

-- the units from a place on
abbrev pub rest_of : List ℕ → ℕ → ℕ → ℕ → ℕ → ℕ → List AccountLots
rest_of runs n m r w at = drop at (map full_unit (runs_in runs w) ++ (rounds unit_lots (suc r) 200 (runs_in runs w) ++ smalls_of runs n m))

pub full_word : (k : ℕ) → part_of (6400000 + k % 64) ≡ full_unit (part_of k)
full_word k =
    let p : (6400000 + k % 64) % 64 ≡ k % 64 = omega arith in
    let q : (6400000 + k % 64) / 64 ≡ 100000 = omega arith in
    rw (p, q)

module _ (runs : List ℕ) (n m : ℕ) (ready : CanDeal runs n m) where
  pub seat_start : (k w : ℕ) → Narrowed runs m 0 w → drop k (dealt_runs runs n m) ≡ rest_of runs n m 0 w k
  unfolding dealt_runs
  seat_start k w h =
      ap (λ l. drop k (l ++ smalls_of runs n m)) (next_round runs m 0 w ready.falling.there ready.small h)
      ∙ ap (drop k) (append_assoc (map full_unit (runs_in runs w)) (rounds unit_lots 1 200 (runs_in runs w)) (smalls_of runs n m))

  wide_length : (w : ℕ) → w ≤ m → length (map full_unit (runs_in runs w)) ≡ w
  wide_length w h = length-map (runs_in runs w) full_unit ∙ runs_length runs w 0 (omega (arith, ready.falling.there))

  -- a round that is over
  pub over_round : (r w v at : ℕ) → w ≤ m → w ≤ at → Narrowed runs w (r + 1) v → rest_of runs n m r w at ≡ rest_of runs n m (r + 1) v (at - w)
  over_round r w v at h g k =
      let fs = map full_unit (runs_in runs w) in
      let ds = rounds unit_lots (suc r) 200 (runs_in runs w) ++ smalls_of runs n m in
      let e : at ≡ length fs + (at - w) = omega (arith, wide_length w h) in
      ap (λ i. drop i (fs ++ ds)) e ∙ drop-append-add fs ds (at - w)
      ∙ ap (λ l. drop (at - w) (l ++ smalls_of runs n m))
      (ap (λ s. rounds unit_lots s 200 (runs_in runs w)) (sym (add-one r))
      ∙ next_round runs w (r + 1) v (omega (arith, ready.falling.there)) (λ j l. ready.small j (omega arith)) k)
      ∙ ap (drop (at - w)) (append_assoc (map full_unit (runs_in runs v)) (rounds unit_lots (suc (r + 1)) 200 (runs_in runs v)) (smalls_of runs n m))

  -- a unit of the round
  pub step_full : (r w at : ℕ) → w ≤ m → at < w → rest_of runs n m r w at ≡ part_of (6400000 + get_or runs at 0 % 64) ∷ rest_of runs n m r w (at + 1)
  step_full r w at h g =
      let fs = map full_unit (runs_in runs w) in
      let ds = rounds unit_lots (suc r) 200 (runs_in runs w) ++ smalls_of runs n m in
      let u = part_of (get_or runs at 0) in
      let e : get_or fs at (full_unit (part_of 0)) ≡ full_unit u =
      get_or-map full_unit (runs_in runs w) at (part_of 0) ∙ ap full_unit (get_or-map part_of (take w runs) at 0 ∙ ap part_of (get_or-take w runs at 0 g)) in
      drop-append-le at fs ds (omega (arith, wide_length w h))
      ∙ ap (λ l. l ++ ds) (drop-cons fs at (full_unit (part_of 0)) (omega (arith, wide_length w h)))
      ∙ rw (e, full_word (get_or runs at 0), add-one)
      (ap (λ l. full_unit u ∷ l) (sym (drop-append-le (suc at) fs ds (omega (arith, wide_length w h)))))

  -- a small unit
  none_wide : (r at : ℕ) → rest_of runs n m r 0 at ≡ drop (m + at) (runs_in runs n)
  none_wide r at = drop-drop at m (runs_in runs n)

  pub more_small : (r at : ℕ) → 0 < length (rest_of runs n m r 0 at) → m + at < n
  more_small r at h =
      omega (arith, length-drop (m + at) (runs_in runs n), runs_length runs n 0 ready.held, ap length (none_wide r at))

  pub step_small : (r at : ℕ) → m + at < n → rest_of runs n m r 0 at ≡ part_of (get_or runs (m + at) 0) ∷ rest_of runs n m r 0 (at + 1)
  step_small r at h =
      let e : m + (at + 1) ≡ suc (m + at) = omega arith in
      none_wide r at ∙ runs_at_lem runs n (m + at) ready.held h
      ∙ ap (λ l. part_of (get_or runs (m + at) 0) ∷ l) (ap (λ i. drop i (runs_in runs n)) (sym e) ∙ sym (none_wide r (at + 1)))

-- a round that somebody takes part in is one of the first 200
pub below_most : (runs : List ℕ) (n m v r w : ℕ) → CanDeal runs n m → v ≤ m → Narrowed runs v r w → 0 < w → r < 200
below_most runs n m v r w c g k h = omega (arith, k.some h, c.small (w - 1) (omega (arith, k.few)))

-- Rounds in which the same runs take part

module _ (runs : List ℕ) (n m : ℕ) (ready : CanDeal runs n m) (w : ℕ) (h : w ≤ m) (o : 0 < w) where
  same_wide : (r : ℕ) → r < get_or runs (w - 1) 0 / 6400000 → Narrowed runs w r w
  same_wide r g =
      record {
        few = omega arith;
        rest = λ s l. refl;
        all = narrow_all runs m w (w - 1) r ready.falling (omega arith) h g;
        some = λ l. g;
      }

  pub block_on : (j r x : ℕ) → r + j < get_or runs (w - 1) 0 / 6400000 → rest_of runs n m r w (j * w + x) ≡ rest_of runs n m (r + j) w x
  block_on zero r x g =
      let e : 0 * w + x ≡ x = omega arith in
      let f : r ≡ r + 0 = omega arith in
      ap (rest_of runs n m r w) e ∙ ap (λ i. rest_of runs n m i w x) f
  block_on (suc j) r x g =
      let e : suc j * w + x - w ≡ j * w + x = omega (arith, suc-mul j w) in
      let f : r + 1 + j ≡ r + suc j = omega arith in
      over_round runs n m ready r w w (suc j * w + x) h (omega (arith, suc-mul j w)) (same_wide (r + 1) (omega arith))
      ∙ ap (rest_of runs n m (r + 1) w) e ∙ block_on j (r + 1) x (omega arith) ∙ ap (λ i. rest_of runs n m i w x) f

  -- behind all of them
  pub block_over : (c r v left : ℕ) → r + c ≡ get_or runs (w - 1) 0 / 6400000 → 0 < c → w * c ≤ left → Narrowed runs w (r + c) v →
      rest_of runs n m r w left ≡ rest_of runs n m (r + c) v (left - w * c)
  block_over zero r v left e g l k = absurd (omega arith)
  block_over (suc j) r v left e g l k =
      let p : w * suc j ≡ j * w + w = mul_comm w (suc j) ∙ suc-mul j w in
      let q : left ≡ j * w + (left - j * w) = omega (arith, p) in
      let t : r + suc j ≡ r + j + 1 = omega arith in
      let y : left - j * w - w ≡ left - w * suc j = omega (arith, p) in
      ap (rest_of runs n m r w) q ∙ block_on j r (left - j * w) (omega arith)
      ∙ over_round runs n m ready (r + j) w v (left - j * w) h (omega (arith, p)) (rw t at k)
      ∙ ap (rest_of runs n m (r + j + 1) v) y ∙ ap (λ i. rest_of runs n m i v (left - w * suc j)) (sym t)

  -- or within them
  pub block_in : (c r left : ℕ) → r + c ≡ get_or runs (w - 1) 0 / 6400000 → left < w * c →
      (left / w < c) × (rest_of runs n m r w left ≡ rest_of runs n m (r + left / w) w (left % w))
  block_in c r left e g =
      let d = div-add-mod' left w in
      let own : w ≤ w = omega arith in
      let q : left / w < c =
      by_test (ltb (left / w) c) (λ f. ltb-true (left / w) c f)
      (λ f. absurd (omega (arith, d, mul_comm w c, mul-le-mul (ltb-false (left / w) c f) own))) in
      (q, ap (rest_of runs n m r w) (sym d) ∙ block_on (left / w) r (left % w) (omega arith))

  pub block_fits : (c : ℕ) → c ≤ 200 → w * c ≤ 25600
  block_fits c g =
      let few-wide : w ≤ 128 = omega (arith, ready.fulls, ready.few) in
      omega (arith, mul-le-mul few-wide g)

  pub block_some : (c : ℕ) → 0 < c → w ≤ w * c
  block_some c g =
      let own : w ≤ w = omega arith in
      omega (arith, mul-le-mul own g)

-- Places by numbers

pub rounds_add : (size r a b : ℕ) (us : List AccountLots) → rounds size r (a + b) us ≡ rounds size r a us ++ rounds size (r + a) b us
rounds_add size r zero b us =
    let e : 0 + b ≡ b = omega arith in
    let f : r ≡ r + 0 = omega arith in
    ap (λ i. rounds size r i us) e ∙ ap (λ i. rounds size i b us) f
rounds_add size r (suc a) b us =
    let e : suc a + b ≡ suc (a + b) = omega arith in
    let f : suc r + a ≡ r + suc a = omega arith in
    ap (λ i. rounds size r i us) e
    ∙ ap (λ l. round size r us ++ l) (rounds_add size (suc r) a b us ∙ ap (λ i. rounds size (suc r) a us ++ rounds size i b us) f)
    ∙ sym (append_assoc (round size r us) (rounds size (suc r) a us) (rounds size (r + suc a) b us))

pub narrowed_on : (runs : List ℕ) (m r w s v : ℕ) → Narrowed runs m r w → Narrowed runs w s v → r ≤ s → Narrowed runs m s v
narrowed_on runs m r w s v k l h =
    record {
      few = omega (arith, k.few, l.few);
      rest = λ t g. k.rest t (omega arith) ∙ l.rest t g;
      all = l.all;
      some = l.some;
    }

-- rounds in which the first w of m runs take part
module _ (runs : List ℕ) (n m : ℕ) (ready : CanDeal runs n m) (w : ℕ) (o : 0 < w) (r₀ : ℕ) (k : Narrowed runs m r₀ w) where
  some_rounds : (c r : ℕ) → r₀ ≤ r → r + c ≤ get_or runs (w - 1) 0 / 6400000 → length (rounds unit_lots r c (runs_in runs m)) ≡ c * w
  some_rounds zero r h g = let e : 0 * w ≡ 0 = omega arith in sym e
  some_rounds (suc c) r h g =
      let e : round unit_lots r (runs_in runs m) ≡ map full_unit (runs_in runs w) =
      k.rest r h ∙ narrow_all runs m w (w - 1) r ready.falling (omega arith) k.few (omega arith) in
      length-append (round unit_lots r (runs_in runs m)) (rounds unit_lots (suc r) c (runs_in runs m))
      ∙ rw (e, wide_length runs n m ready w k.few, some_rounds c (suc r) (omega arith) (omega arith)) (omega (arith, suc-mul c w))

  pub front_block : (c : ℕ) → r₀ + c ≤ get_or runs (w - 1) 0 / 6400000 →
      length (rounds unit_lots 0 (r₀ + c) (runs_in runs m)) ≡ length (rounds unit_lots 0 r₀ (runs_in runs m)) + w * c
  front_block c g =
      let e : 0 + r₀ ≡ r₀ = omega arith in
      ap length (rounds_add unit_lots 0 r₀ c (runs_in runs m))
      ∙ length-append (rounds unit_lots 0 r₀ (runs_in runs m)) (rounds unit_lots (0 + r₀) c (runs_in runs m))
      ∙ ap (λ i. length (rounds unit_lots 0 r₀ (runs_in runs m)) + i)
      (ap (λ i. length (rounds unit_lots i c (runs_in runs m))) e ∙ some_rounds c r₀ (omega arith) g ∙ mul_comm c w)

  -- a place within them
  pub seat_in : (x left j : ℕ) → j ≡ length (rounds unit_lots 0 r₀ (runs_in runs m)) + left → x ≡ left / w → r₀ + x < get_or runs (w - 1) 0 / 6400000 →
      SeatAt runs m j (record { round = r₀ + x; wide = w; at = left % w })
  seat_in x left j e f g =
      let d = div-add-mod' left w in
      let b = front_block x (omega arith) in
      let c : w * x ≡ left / w * w = mul_comm w x ∙ ap (λ i. i * w) f in
      record {
        place = omega (arith, b, c, d);
        narrowed = record {
          few = k.few;
          rest = λ s l. k.rest s (omega arith);
          all = narrow_all runs m w (w - 1) (r₀ + x) ready.falling (omega arith) k.few g;
          some = λ l. g;
        };
        most = omega (arith, ready.small (w - 1) (omega (arith, k.few)));
      }

-- The three steps

module _ (runs : List ℕ) (n m : ℕ) (d : Deal) (can : CanStep runs n m d) where
  pub small_there : d.wide ≡ 0 → m + d.at < n
  unfolding dealt_from
  small_there z = more_small runs n m can.ready d.round d.at (rw z at can.more)

  pub step_to_small : d.wide ≡ 0 →
      Stepped runs n m d (record { word = get_or runs (m + d.at) 0; next = record { round = d.round; wide = 0; at = d.at + 1 } })
  unfolding dealt_from
  step_to_small z =
      record {
        list = rw z (step_small runs n m can.ready d.round d.at (small_there z));
        seated = record { few = omega arith; within = λ h. absurd (omega arith); some = λ h. absurd (omega arith) };
      }

  pub step_within : d.at + 1 < d.wide →
      Stepped runs n m d (record { word = 6400000 + get_or runs d.at 0 % 64; next = record { round = d.round; wide = d.wide; at = d.at + 1 } })
  unfolding dealt_from
  step_within h =
      record {
        list = step_full runs n m can.ready d.round d.wide d.at can.seated.few (omega arith);
        seated = record { few = can.seated.few; within = λ g. h; some = can.seated.some };
      }

  pub step_over : (v : ℕ) → 0 < d.wide → d.wide ≤ d.at + 1 → Narrowed runs d.wide (d.round + 1) v →
      Stepped runs n m d (record { word = 6400000 + get_or runs d.at 0 % 64; next = record { round = d.round + 1; wide = v; at = 0 } })
  unfolding dealt_from
  step_over v h g k =
      let z : d.at + 1 - d.wide ≡ 0 = omega (arith, can.seated.within h) in
      record {
        list = step_full runs n m can.ready d.round d.wide d.at can.seated.few (can.seated.within h)
            ∙ ap (λ l. part_of (6400000 + get_or runs d.at 0 % 64) ∷ l)
            (over_round runs n m can.ready d.round d.wide v (d.at + 1) can.seated.few g k
            ∙ ap (rest_of runs n m (d.round + 1) v) z);
        seated = record {
          few = omega (arith, k.few, can.seated.few);
          within = λ p. p;
          some = below_most runs n m d.wide (d.round + 1) v can.ready can.seated.few k;
        };
      }

-- Units put out as words

pub out_left : (out : List ℕ) (j k : ℕ) (us all : List AccountLots) → j < length out → map part_of (take j out) ++ us ≡ drop k all →
    k + length out ≤ length all → 0 < length us
out_left out j k us all h p g =
    omega (
      arith,
      ap length p,
      length-append (map part_of (take j out)) us,
      length-map (take j out) part_of,
      length-take-le j out (omega arith),
      length-drop k all,
    )
