-- Places side by side: the rest of a round, whole rounds, the front of a round; or small units.
use mathlib.Core.Path.{◌≡◌, refl, sym, ap, subst, ◌∙◌}
use mathlib.Core.Bool.{true, false}
use mathlib.Core.List.{List, [], ◌∷◌, ◌++◌, map, append-nil, append_assoc}
use Prim.Native.Nat.{ℕ, zero, suc, ◌+◌, ◌-◌, ◌*◌, ◌/◌, ◌%◌, ◌≤◌, ◌<◌, min}
use native.Mathlib.Omega.{arith}
use lib.Dec.{leb, ltb, lit<}
use lib.ListN.{length, take, drop, replicate, length-map, length-append, length-drop, take-append-drop}
use lib.Seq.{take-take, drop-drop, take-append-le, take-append_seam, drop-append-le, drop-append-add, length-take-le}
use borrow.Author.Tests.{le-leb, lt-leb, ltb-true, ltb-false}
use Rattle.rules.specs.Measures.{Every, unit_lots, total}
use Rattle.rules.specs.Units.{AccountLots, account_lots, of_account}
use Rattle.rules.specs.Fails.{stretches}
use Rattle.rules.specs.Dealt.{round, rounds}
use Rattle.laws.proofs.Basics.{by_test, each_take, each_drop, each_map, put_pos}
use Rattle.laws.proofs.Fails.{additive_account}
use Rattle.laws.proofs.Stretches.{total_stretches}
use Rattle.laws.proofs.DealtStretches.{together, rounds_together}
use Rattle.runs.specs.Runs.{part_of, runs_in, units_of_run, units_of_runs, Plain, PlainIn}
use Rattle.runs.proofs.Loops.{runs_length}
use Rattle.inturn.specs.declared.Deal.{Deal}
use Rattle.inturn.specs.InTurn.{Narrowed, full_unit, most_rounds, smalls_of, dealt_runs, SeatAt}
use Rattle.inturn.proofs.Dealing.{each_runs, rounds_add}
use Rattle.stretching.specs.Adding.{Fits, Room, Joined, share_of, shares_in, CanFeed, Fed}
use Rattle.stretching.specs.Spans.{Parted, span_in, CanFeedSpan, FedSpan}
use Rattle.stretching.proofs.Adding.{fits_front}

-- Some units behind others, and more behind them

fits_same : (us vs : List AccountLots) → stretches unit_lots us ≡ stretches unit_lots vs → Fits us → Fits vs
fits_same us vs e f =
    record {
      few = omega (arith, ap length e, f.few);
      small = λ a.
          omega (
            arith,
            f.small a,
            ap (total (of_account a)) e,
            total_stretches unit_lots (of_account a) (additive_account a) us,
            total_stretches unit_lots (of_account a) (additive_account a) vs,
          );
    }

abbrev pub Same : List AccountLots → List AccountLots → Type 0
Same xs ys = (us : List AccountLots) → stretches unit_lots (us ++ xs) ≡ stretches unit_lots (us ++ ys)

pub room_same : (out : List ℕ) (c : ℕ) (at : List ℕ) (xs ys : List AccountLots) → Same xs ys → Room out c at xs → Room out c at ys
room_same out c at xs ys e r =
    record { whole = r.whole; index = r.index; units = r.units; list = r.list; fits = fits_same (r.units ++ xs) (r.units ++ ys) (e r.units) r.fits }

pub joined_same : (before after : List ℕ) (c : ℕ) (at : List ℕ) (xs ys : List AccountLots) (k : ℕ) → Same xs ys → Joined before after c at xs k → Joined before after c at ys k
joined_same before after c at xs ys k e j = record { list = λ us s. j.list us s ∙ e us; index = j.index }

pub room_front : (out : List ℕ) (c : ℕ) (at : List ℕ) (xs ys : List AccountLots) → Room out c at (xs ++ ys) → Room out c at xs
room_front out c at xs ys r =
    record {
      whole = r.whole;
      index = r.index;
      units = r.units;
      list = r.list;
      fits = fits_front (r.units ++ xs) ys (subst Fits (sym (append_assoc r.units xs ys)) r.fits);
    }

pub room_next : (out : List ℕ) (c : ℕ) (at : List ℕ) (xs ys : List AccountLots) → Room out c at (xs ++ ys) →
    (out' at' : List ℕ) (c' : ℕ) → length out' ≡ length out → Joined out out' c at' xs c' → Room out' c' at' ys
room_next out c at xs ys r out' at' c' l j =
    record {
      whole = l ∙ r.whole;
      index = j.index;
      units = r.units ++ xs;
      list = j.list r.units r.list;
      fits = subst Fits (sym (append_assoc r.units xs ys)) r.fits;
    }

pub joined_join : (o₀ o₁ o₂ : List ℕ) (c₀ c₁ c₂ : ℕ) (a₁ a₂ : List ℕ) (xs ys : List AccountLots) →
    Joined o₀ o₁ c₀ a₁ xs c₁ → Joined o₁ o₂ c₁ a₂ ys c₂ → Joined o₀ o₂ c₀ a₂ (xs ++ ys) c₂
joined_join o₀ o₁ o₂ c₀ c₁ c₂ a₁ a₂ xs ys j k =
    record { list = λ us s. k.list (us ++ xs) (j.list us s) ∙ ap (stretches unit_lots) (append_assoc us xs ys); index = k.index }

-- What runs have of rounds

shares_one : (r : ℕ) (vs : List AccountLots) → Every (λ v. r < v.lots / unit_lots) vs → units_of_runs (map (share_of r 1) vs) ≡ map full_unit vs
shares_one r [] ps = refl
shares_one r (v ∷ vs) ps =
    let t : leb unit_lots v.lots ≡ true = le-leb 100000 v.lots (omega (arith, ps.0)) in
    let m : min 1 (v.lots / 100000 - r) ≡ 1 = omega (arith, ps.0) in
    rw (t, m) (ap (λ l. full_unit v ∷ l) (shares_one r vs ps.1))

shares_small : (vs : List AccountLots) → Every (λ v. (1 ≤ v.lots) × (v.lots < unit_lots)) vs → units_of_runs (map (share_of 0 0) vs) ≡ vs
shares_small [] ps = refl
shares_small (v ∷ vs) ps =
    let t : leb unit_lots v.lots ≡ false = lt-leb 100000 v.lots ps.0.1 in
    let q : v.lots / 100000 ≡ 0 = omega (arith, ps.0.1) in
    let r : v.lots % 100000 ≡ v.lots = omega (arith, ps.0.1) in
    let k : units_of_run v ≡ v ∷ [] = rw (q, r) (put_pos v.account v.lots [] ps.0.0) in
    rw t (ap (λ l. l ++ units_of_runs (map (share_of 0 0) vs)) k ∙ ap (λ l. v ∷ l) (shares_small vs ps.1))

shares_rounds : (r c : ℕ) (vs : List AccountLots) → Every (λ v. unit_lots ≤ v.lots) vs → units_of_runs (map (share_of r c) vs) ≡ together unit_lots r c vs
shares_rounds r c [] ps = refl
shares_rounds r c (v ∷ vs) ps =
    let t : leb unit_lots v.lots ≡ true = le-leb 100000 v.lots ps.0 in
    let k = min c (v.lots / 100000 - r) in
    let d : k * 100000 / 100000 ≡ k = omega arith in
    let z : k * 100000 % 100000 ≡ 0 = omega arith in
    let u : units_of_run (account_lots v.account (k * 100000)) ≡ replicate k (account_lots v.account 100000) =
    rw (d, z) (append-nil (replicate k (account_lots v.account 100000))) in
    rw t (ap (λ l. l ++ units_of_runs (map (share_of r c) vs)) u ∙ ap (λ l. replicate k (account_lots v.account 100000) ++ l) (shares_rounds r c vs ps.1))

-- Parts of runs

drop_part : {A : Type 0} (a x : ℕ) (ws : List A) → drop a (take (a + x) ws) ≡ take x (drop a ws)
drop_part zero x ws = let e : 0 + x ≡ x = omega arith in ap (λ i. take i ws) e
drop_part (suc a) x [] = let e : suc a + x ≡ suc (a + x) = omega arith in ap (λ i. drop (suc a) (take i [])) e ∙ nil x
  where
    nil : {A : Type 0} (x : ℕ) → [] ≡ take x (drop {A = A} (suc a) [])
    nil zero = refl
    nil (suc x) = refl
drop_part (suc a) x (w ∷ ws) =
    let e : suc a + x ≡ suc (a + x) = omega arith in
    ap (λ i. drop (suc a) (take i (w ∷ ws))) e ∙ drop_part a x ws

map_take : {A B : Type 0} (f : A → B) (k : ℕ) (xs : List A) → take k (map f xs) ≡ map f (take k xs)
map_take f zero xs = refl
map_take f (suc k) [] = refl
map_take f (suc k) (x ∷ xs) = ap (λ l. f x ∷ l) (map_take f k xs)

map_drop : {A B : Type 0} (f : A → B) (k : ℕ) (xs : List A) → drop k (map f xs) ≡ map f (drop k xs)
map_drop f zero xs = refl
map_drop f (suc k) [] = refl
map_drop f (suc k) (x ∷ xs) = map_drop f k xs

pub runs_front : (runs : List ℕ) (y n : ℕ) → y ≤ n → runs_in runs y ≡ take y (runs_in runs n)
runs_front runs y n h = ap (map part_of) (sym (take-take y n runs h)) ∙ sym (map_take part_of y (take n runs))

pub plain_front : (runs : List ℕ) (y n : ℕ) → y ≤ n → PlainIn runs n → PlainIn runs y
plain_front runs y n h ps = subst (Every Plain) (sym (runs_front runs y n h)) (each_take Plain y (runs_in runs n) ps)

-- units in the midst of others
cut_out : {A : Type 0} (X Y Z C D : List A) (at x : ℕ) → at ≤ length Y → at + x ≡ length Y + (length Z + length C) →
    take x (drop (length X + at) (X ++ (Y ++ (Z ++ (C ++ D))))) ≡ drop at Y ++ (Z ++ C)
cut_out X Y Z C D at x h e =
    let mid = drop at Y ++ (Z ++ C) in
    let l : x ≡ length mid = omega (arith, length-append (drop at Y) (Z ++ C), length-append Z C, length-drop at Y) in
    ap (take x) (drop-append-add X (Y ++ (Z ++ (C ++ D))) at ∙ drop-append-le at Y (Z ++ (C ++ D)) h
    ∙ ap (λ l. drop at Y ++ l) (sym (append_assoc Z C D)) ∙ sym (append_assoc (drop at Y) (Z ++ C) D))
    ∙ ap (λ i. take i (mid ++ D)) l ∙ take-append_seam mid D

rounds_none : (R : List AccountLots) (c r : ℕ) → ((s : ℕ) → r ≤ s → round unit_lots s R ≡ []) → rounds unit_lots r c R ≡ []
rounds_none R zero r e = refl
rounds_none R (suc c) r e = rw (e r (omega arith)) (rounds_none R c (suc r) (λ s h. e s (omega arith)))

rounds_like : (R W : List AccountLots) (c r : ℕ) → ((s : ℕ) → r ≤ s → round unit_lots s R ≡ round unit_lots s W) → rounds unit_lots r c R ≡ rounds unit_lots r c W
rounds_like R W zero r e = refl
rounds_like R W (suc c) r e = rw (e r (omega arith), rounds_like R W c (suc r) (λ s h. e s (omega arith)))

-- no fewer units in more rounds
rounds_grow : (R : List AccountLots) (a b : ℕ) → a ≤ b → length (rounds unit_lots 0 a R) ≤ length (rounds unit_lots 0 b R)
rounds_grow R a b h =
    let e : b ≡ a + (b - a) = omega arith in
    omega (
      arith,
      ap (λ i. length (rounds unit_lots 0 i R)) e,
      ap length (rounds_add unit_lots 0 a (b - a) R),
      length-append (rounds unit_lots 0 a R) (rounds unit_lots (0 + a) (b - a) R),
    )

-- Dealt runs

module _ (runs : List ℕ) (n m : ℕ) (p : Parted runs n m) where
  abbrev R : List AccountLots
  R = runs_in runs m

  abbrev S : List AccountLots
  S = smalls_of runs n m

  abbrev fulls : ℕ → List AccountLots
  fulls w = map full_unit (runs_in runs w)

  in_runs : m ≤ length runs
  in_runs = p.ready.falling.there

  fulls_length : (w : ℕ) → w ≤ m → length (fulls w) ≡ w
  fulls_length w h = length-map (runs_in runs w) full_unit ∙ runs_length runs w 0 (omega (arith, in_runs))

  smalls_length : length S ≡ n - m
  smalls_length = length-drop m (runs_in runs n) ∙ ap (λ i. i - m) (runs_length runs n 0 p.ready.held)

  -- the units behind r rounds
  abbrev behind : ℕ → List AccountLots
  behind r = rounds unit_lots r (most_rounds - r) R ++ S

  apart : (r : ℕ) → r ≤ most_rounds → dealt_runs runs n m ≡ rounds unit_lots 0 r R ++ behind r
  unfolding dealt_runs
  apart r h =
      let e : most_rounds ≡ r + (most_rounds - r) = omega arith in
      let z : 0 + r ≡ r = omega arith in
      ap (λ i. rounds unit_lots 0 i R ++ S) e
      ∙ ap (λ l. l ++ S) (rounds_add unit_lots 0 r (most_rounds - r) R)
      ∙ append_assoc (rounds unit_lots 0 r R) (rounds unit_lots (0 + r) (most_rounds - r) R) S
      ∙ ap (λ i. rounds unit_lots 0 r R ++ (rounds unit_lots i (most_rounds - r) R ++ S)) z

  length_apart : (r : ℕ) → r ≤ most_rounds → length (dealt_runs runs n m) ≡ length (rounds unit_lots 0 r R) + length (behind r)
  length_apart r h = ap length (apart r h) ∙ length-append (rounds unit_lots 0 r R) (behind r)

  -- a round, and the units behind it
  module _ (r w : ℕ) (k : Narrowed runs m r w) where
    this_round : round unit_lots r R ≡ fulls w
    this_round = k.rest r (omega arith) ∙ k.all

    taking : (y : ℕ) → y ≤ w → Every (λ v. r < v.lots / unit_lots) (runs_in runs y)
    taking y h =
        each_runs (λ v. r < v.lots / unit_lots) runs y (omega (arith, in_runs, k.few))
        (λ j l. omega (arith, p.ready.falling.falls j (w - 1) (omega arith) (omega (arith, k.few)), k.some (omega arith)))

    pub part_shares : (a y : ℕ) → y ≤ w → shares_in runs a y r 1 ≡ drop a (fulls y)
    unfolding shares_in
    part_shares a y h =
        shares_one r (drop a (runs_in runs y)) (each_drop (λ v. r < v.lots / unit_lots) a (runs_in runs y) (taking y h))
        ∙ sym (map_drop full_unit a (runs_in runs y))

    pub whole_shares : (c : ℕ) → shares_in runs 0 w (r + 1) c ≡ together unit_lots (r + 1) c (runs_in runs w)
    unfolding shares_in
    whole_shares c =
        shares_rounds (r + 1) c (runs_in runs w)
        (each_map (λ v. r < v.lots / unit_lots) (λ v. unit_lots ≤ v.lots) (λ v h. omega (arith, h)) (runs_in runs w) (taking w (omega arith)))

    none_left : w ≡ 0 → r ≤ most_rounds → behind r ≡ S
    none_left z h = ap (λ l. l ++ S) (rounds_none R (most_rounds - r) r (λ s l. k.rest s l ∙ ap (λ i. round unit_lots s (runs_in runs i)) z))

    few_rounds : 0 < w → r < most_rounds
    few_rounds o = omega (arith, k.some o, p.ready.small (w - 1) (omega (arith, k.few)))

    some_left : 0 < w → behind r ≡ fulls w ++ (rounds unit_lots (suc r) (most_rounds - r - 1) R ++ S)
    some_left o =
        let e : most_rounds - r ≡ suc (most_rounds - r - 1) = omega (arith, few_rounds o) in
        ap (λ i. rounds unit_lots r i R ++ S) e
        ∙ append_assoc (round unit_lots r R) (rounds unit_lots (suc r) (most_rounds - r - 1) R) S
        ∙ ap (λ l. l ++ (rounds unit_lots (suc r) (most_rounds - r - 1) R ++ S)) this_round

  -- small units
  pub small_shares : (j x : ℕ) → m + j + x ≤ n → shares_in runs (m + j) (m + j + x) 0 0 ≡ take x (drop j S)
  unfolding shares_in
  small_shares j x h =
      let e : drop (m + j) (runs_in runs (m + j + x)) ≡ take x (drop j S) =
      ap (drop (m + j)) (runs_front runs (m + j + x) n h) ∙ drop_part (m + j) x (runs_in runs n) ∙ ap (take x) (sym (drop-drop j m (runs_in runs n))) in
      ap (λ l. units_of_runs (map (share_of 0 0) l)) e
      ∙ shares_small (take x (drop j S)) (each_take (λ v. (1 ≤ v.lots) × (v.lots < unit_lots)) x (drop j S) (each_drop (λ v. (1 ≤ v.lots) × (v.lots < unit_lots)) j S p.small))

  -- Places side by side

  module _ (b x : ℕ) (there : b + x ≤ length (dealt_runs runs n m)) (d : Deal) (k : SeatAt runs m b d) where
    abbrev r : ℕ
    r = d.round

    abbrev w : ℕ
    w = d.wide

    abbrev j : ℕ
    j = d.at

    from_here : drop b (dealt_runs runs n m) ≡ drop j (behind r)
    from_here =
        ap (drop b) (apart r k.most) ∙ ap (λ i. drop i (rounds unit_lots 0 r R ++ behind r)) k.place
        ∙ drop-append-add (rounds unit_lots 0 r R) (behind r) j

    pub smalls_there : w ≡ 0 → m + j + x ≤ n
    smalls_there z =
        omega (arith, there, length_apart r k.most, ap length (none_left r w k.narrowed z k.most), smalls_length, k.place, p.ready.fulls)

    pub span_small : w ≡ 0 → shares_in runs (m + j) (m + j + x) 0 0 ≡ span_in runs n m b x
    unfolding span_in
    span_small z =
        small_shares j x (smalls_there z)
        ∙ sym (ap (take x) (from_here ∙ ap (drop j) (none_left r w k.narrowed z k.most)))

    pub span_part : 0 < w → j + x ≤ w → shares_in runs j (j + x) r 1 ≡ span_in runs n m b x
    unfolding span_in
    span_part o h =
        let few = k.narrowed.few in
        let T = rounds unit_lots (suc r) (most_rounds - r - 1) R ++ S in
        let l = fulls_length w few in
        let e : fulls (j + x) ≡ take (j + x) (fulls w) = ap (map full_unit) (runs_front runs (j + x) w h) ∙ sym (map_take full_unit (j + x) (runs_in runs w)) in
        part_shares r w k.narrowed j (j + x) h ∙ ap (drop j) e ∙ drop_part j x (fulls w)
        ∙ sym (ap (take x) (from_here ∙ ap (drop j) (some_left r w k.narrowed o) ∙ drop-append-le j (fulls w) T (omega (arith, l)))
        ∙ take-append-le x (drop j (fulls w)) T (omega (arith, l, length-drop j (fulls w))))

    -- more than the rest of a round
    module _ (g : Deal) (kg : SeatAt runs m (b + x) g) (wg : 0 < g.wide → g.at < g.wide) (o : j < w) (over : w < j + x) where
      abbrev q : ℕ
      q = g.round

      abbrev v : ℕ
      v = g.at

      next_length : (s u : ℕ) → Narrowed runs m s u → length (rounds unit_lots 0 (s + 1) R) ≡ length (rounds unit_lots 0 s R) + u
      next_length s u t =
          let z : 0 + s ≡ s = omega arith in
          ap length (rounds_add unit_lots 0 s 1 R) ∙ length-append (rounds unit_lots 0 s R) (rounds unit_lots (0 + s) 1 R)
          ∙ ap (λ i. length (rounds unit_lots 0 s R) + i)
          (ap (λ i. length (rounds unit_lots i 1 R)) z ∙ ap length (append-nil (round unit_lots s R) ∙ this_round s u t) ∙ fulls_length u t.few)

      pub later : r < q
      later =
          by_test (ltb r q) (λ e. ltb-true r q e)
          (λ e.
          let h = ltb-false r q e in
          by_test (ltb 0 g.wide)
          (λ f.
          let i = wg (ltb-true 0 g.wide f) in
          absurd (omega (
            arith,
            rounds_grow R (q + 1) (r + 1) (omega arith),
            next_length r w k.narrowed,
            next_length q g.wide kg.narrowed,
            k.place,
            kg.place,
          )))
          (λ f.
          let z : g.wide ≡ 0 = omega (arith, ltb-false 0 g.wide f) in
          let none : round unit_lots r R ≡ [] = kg.narrowed.rest r h ∙ ap (λ i. round unit_lots r (runs_in runs i)) z in
          absurd (omega (arith, fulls_length w k.narrowed.few, ap length (sym none ∙ this_round r w k.narrowed)))))

      abbrev c : ℕ
      c = q - r - 1

      abbrev Z : List AccountLots
      Z = rounds unit_lots (r + 1) c (runs_in runs w)

      abbrev C : List AccountLots
      C = take v (behind q)

      front_rounds : rounds unit_lots 0 q R ≡ rounds unit_lots 0 r R ++ (fulls w ++ Z)
      front_rounds =
          let h = later in
          let e : q ≡ r + (1 + c) = omega arith in
          let z : 0 + r ≡ r = omega arith in
          let t : rounds unit_lots (r + 1) c R ≡ Z = rounds_like R (runs_in runs w) c (r + 1) (λ s l. k.narrowed.rest s (omega arith)) in
          ap (λ i. rounds unit_lots 0 i R) e ∙ rounds_add unit_lots 0 r (1 + c) R
          ∙ ap (λ l. rounds unit_lots 0 r R ++ l)
          (ap (λ i. rounds unit_lots i (1 + c) R) z ∙ rounds_add unit_lots r 1 c R
          ∙ rw (append-nil (round unit_lots r R), this_round r w k.narrowed, t))

      front_length : length (rounds unit_lots 0 q R) ≡ length (rounds unit_lots 0 r R) + (w + length Z)
      front_length =
          ap length front_rounds ∙ length-append (rounds unit_lots 0 r R) (fulls w ++ Z)
          ∙ ap (λ i. length (rounds unit_lots 0 r R) + i) (length-append (fulls w) Z ∙ ap (λ i. i + length Z) (fulls_length w k.narrowed.few))

      last_length : length C ≡ v
      last_length = length-take-le v (behind q) (omega (arith, there, kg.place, length_apart q kg.most))

      pub span_rounds : span_in runs n m b x ≡ drop j (fulls w) ++ (Z ++ C)
      unfolding span_in
      span_rounds =
          let X = rounds unit_lots 0 r R in
          let E = behind q in
          let whole : dealt_runs runs n m ≡ X ++ (fulls w ++ (Z ++ (C ++ drop v E))) =
          apart q kg.most ∙ ap (λ l. l ++ E) front_rounds ∙ append_assoc X (fulls w ++ Z) E ∙ ap (λ l. X ++ l) (append_assoc (fulls w) Z E)
          ∙ ap (λ l. X ++ (fulls w ++ (Z ++ l))) (sym (take-append-drop v E)) in
          ap (λ l. take x (drop b l)) whole ∙ ap (λ i. take x (drop i (X ++ (fulls w ++ (Z ++ (C ++ drop v E)))))) k.place
          ∙ cut_out X (fulls w) Z C (drop v E) j x (omega (arith, fulls_length w k.narrowed.few))
          (omega (arith, fulls_length w k.narrowed.few, last_length, front_length, k.place, kg.place))

      pub last_small : g.wide ≡ 0 → (m + v ≤ n) × (shares_in runs m (m + v) 0 0 ≡ C)
      last_small z =
          let e = none_left q g.wide kg.narrowed z kg.most in
          let h : m + v ≤ n = omega (arith, there, kg.place, length_apart q kg.most, ap length e, smalls_length, p.ready.fulls) in
          let a : m + 0 + v ≡ m + v = omega arith in
          let a₀ : m + 0 ≡ m = omega arith in
          (h, ap (λ i. shares_in runs m i 0 0) (sym a) ∙ ap (λ i. shares_in runs i (m + 0 + v) 0 0) (sym a₀) ∙ small_shares 0 v (omega arith) ∙ ap (take v) (sym e))

      pub last_part : 0 < g.wide → shares_in runs 0 v q 1 ≡ C
      last_part f =
          let i = wg f in
          let u = g.wide in
          part_shares q u kg.narrowed 0 v (omega arith)
          ∙ ap (map full_unit) (runs_front runs v u (omega arith)) ∙ sym (map_take full_unit v (runs_in runs u))
          ∙ sym (ap (take v) (some_left q u kg.narrowed f)
          ∙ take-append-le v (fulls u) (rounds unit_lots (suc q) (most_rounds - q - 1) R ++ S) (omega (arith, fulls_length u kg.narrowed.few)))

      abbrev T : List AccountLots
      T = together unit_lots (r + 1) c (runs_in runs w)

      pub as_fed : Same (span_in runs n m b x) (drop j (fulls w) ++ (T ++ C))
      as_fed us =
          let A = drop j (fulls w) in
          ap (λ l. stretches unit_lots (us ++ l)) span_rounds
          ∙ ap (stretches unit_lots) (sym (append_assoc us A (Z ++ C)))
          ∙ rounds_together unit_lots (lit< tt) (r + 1) c (us ++ A) (runs_in runs w) C
          ∙ ap (stretches unit_lots) (append_assoc us A (T ++ C))

-- The ways to feed a span

module _ (runs : List ℕ) (n m b x : ℕ) (out : List ℕ) (c : ℕ) (at : List ℕ) (can : CanFeedSpan runs n m b x out c at) (d : Deal) (k : SeatAt runs m b d) where
  abbrev P : Parted runs n m
  P = can.parted

  there_in : n ≤ length runs
  there_in = P.ready.held

  full_in : d.wide ≤ n
  full_in = omega (arith, k.narrowed.few, P.ready.fulls)

  pub feed_small : d.wide ≡ 0 → CanFeed runs (m + d.at) (m + d.at + x) 0 0 out c at
  feed_small z =
      let h = smalls_there runs n m P b x can.there d k z in
      record {
        there = omega (arith, there_in);
        plain = plain_front runs (m + d.at + x) n h P.plain;
        room = subst (Room out c at) (sym (span_small runs n m P b x can.there d k z)) can.room;
      }

  pub fed_small : d.wide ≡ 0 → (out' at' : List ℕ) (r : ℕ) → Fed runs (m + d.at) (m + d.at + x) 0 0 out out' c at' r → FedSpan runs n m b x out out' c at' r
  fed_small z out' at' r f = subst (λ us. Joined out out' c at' us r) (span_small runs n m P b x can.there d k z) f

  pub feed_part : 0 < d.wide → d.at + x ≤ d.wide → CanFeed runs d.at (d.at + x) d.round 1 out c at
  feed_part o h =
      record {
        there = omega (arith, there_in, full_in);
        plain = plain_front runs (d.at + x) n (omega (arith, full_in)) P.plain;
        room = subst (Room out c at) (sym (span_part runs n m P b x can.there d k o h)) can.room;
      }

  pub fed_part : 0 < d.wide → d.at + x ≤ d.wide → (out' at' : List ℕ) (r : ℕ) → Fed runs d.at (d.at + x) d.round 1 out out' c at' r → FedSpan runs n m b x out out' c at' r
  fed_part o h out' at' r f = subst (λ us. Joined out out' c at' us r) (span_part runs n m P b x can.there d k o h) f

  -- rest of a round, whole rounds, and what is behind them
  module _ (g : Deal) (kg : SeatAt runs m (b + x) g) (wg : 0 < g.wide → g.at < g.wide) (o : d.at < d.wide) (over : d.wide < d.at + x) where
    abbrev rest : List AccountLots
    rest = shares_in runs d.at d.wide d.round 1

    abbrev whole : List AccountLots
    whole = shares_in runs 0 d.wide (d.round + 1) (g.round - d.round - 1)

    abbrev last : List AccountLots
    last = take g.at (behind runs n m P g.round)

    pub next_round : d.round < g.round
    next_round = later runs n m P b x can.there d k g kg wg o over

    as_shares : Same (span_in runs n m b x) (rest ++ (whole ++ last))
    as_shares us =
        as_fed runs n m P b x can.there d k g kg wg o over us
        ∙ sym (ap (λ l. stretches unit_lots (us ++ (l ++ (whole ++ last)))) (part_shares runs n m P d.round d.wide k.narrowed d.at d.wide (omega arith))
        ∙ ap (λ l. stretches unit_lots (us ++ (drop d.at (map full_unit (runs_in runs d.wide)) ++ (l ++ last))))
        (whole_shares runs n m P d.round d.wide k.narrowed (g.round - d.round - 1)))

    all_room : Room out c at (rest ++ (whole ++ last))
    all_room = room_same out c at (span_in runs n m b x) (rest ++ (whole ++ last)) as_shares can.room

    pub feed_rest : CanFeed runs d.at d.wide d.round 1 out c at
    feed_rest =
        record {
          there = omega (arith, there_in, full_in);
          plain = plain_front runs d.wide n full_in P.plain;
          room = room_front out c at rest (whole ++ last) all_room;
        }

    module _ (o₁ a₁ : List ℕ) (c₁ : ℕ) (l₁ : length o₁ ≡ length out) (f₁ : Fed runs d.at d.wide d.round 1 out o₁ c a₁ c₁) where
      next_room : Room o₁ c₁ a₁ (whole ++ last)
      next_room = room_next out c at rest (whole ++ last) all_room o₁ a₁ c₁ l₁ f₁

      pub feed_whole : CanFeed runs 0 d.wide (d.round + 1) (g.round - d.round - 1) o₁ c₁ a₁
      feed_whole =
          record {
            there = omega (arith, there_in, full_in);
            plain = plain_front runs d.wide n full_in P.plain;
            room = room_front o₁ c₁ a₁ whole last next_room;
          }

      module _ (o₂ a₂ : List ℕ) (c₂ : ℕ) (l₂ : length o₂ ≡ length o₁) (f₂ : Fed runs 0 d.wide (d.round + 1) (g.round - d.round - 1) o₁ o₂ c₁ a₂ c₂) where
        last_room : Room o₂ c₂ a₂ last
        last_room = room_next o₁ c₁ a₁ whole last next_room o₂ a₂ c₂ l₂ f₂

        all_fed : (o₃ a₃ : List ℕ) (c₃ : ℕ) → Joined o₂ o₃ c₂ a₃ last c₃ → FedSpan runs n m b x out o₃ c a₃ c₃
        all_fed o₃ a₃ c₃ f₃ =
            joined_same out o₃ c a₃ (rest ++ (whole ++ last)) (span_in runs n m b x) c₃ (λ us. sym (as_shares us))
            (joined_join out o₁ o₃ c c₁ c₃ a₁ a₃ rest (whole ++ last) f₁ (joined_join o₁ o₂ o₃ c₁ c₂ c₃ a₂ a₃ whole last f₂ f₃))

        pub feed_last_small : g.wide ≡ 0 → CanFeed runs m (m + g.at) 0 0 o₂ c₂ a₂
        feed_last_small z =
            let s = last_small runs n m P b x can.there d k g kg wg o over z in
            record {
              there = omega (arith, s.0, there_in);
              plain = plain_front runs (m + g.at) n s.0 P.plain;
              room = subst (Room o₂ c₂ a₂) (sym s.1) last_room;
            }

        pub fed_last_small : g.wide ≡ 0 → (o₃ a₃ : List ℕ) (c₃ : ℕ) → Fed runs m (m + g.at) 0 0 o₂ o₃ c₂ a₃ c₃ → FedSpan runs n m b x out o₃ c a₃ c₃
        fed_last_small z o₃ a₃ c₃ f =
            all_fed o₃ a₃ c₃ (subst (λ us. Joined o₂ o₃ c₂ a₃ us c₃) (last_small runs n m P b x can.there d k g kg wg o over z).1 f)

        pub feed_last_part : 0 < g.wide → CanFeed runs 0 g.at g.round 1 o₂ c₂ a₂
        feed_last_part h =
            let f : g.at ≤ n = omega (arith, wg h, kg.narrowed.few, P.ready.fulls) in
            record {
              there = omega (arith, there_in);
              plain = plain_front runs g.at n f P.plain;
              room = subst (Room o₂ c₂ a₂) (sym (last_part runs n m P b x can.there d k g kg wg o over h)) last_room;
            }

        pub fed_last_part : 0 < g.wide → (o₃ a₃ : List ℕ) (c₃ : ℕ) → Fed runs 0 g.at g.round 1 o₂ o₃ c₂ a₃ c₃ → FedSpan runs n m b x out o₃ c a₃ c₃
        fed_last_part h o₃ a₃ c₃ f =
            all_fed o₃ a₃ c₃ (subst (λ us. Joined o₂ o₃ c₂ a₃ us c₃) (last_part runs n m P b x can.there d k g kg wg o over h) f)
