-- Even lots: of even nets and delivered lots the units, the stock and the fails of an issue are even, in any order.
use mathlib.Core.Path.{refl, sym}
use mathlib.Core.Bool.{Bool}
use mathlib.Core.List.{List, [], ◌∷◌, map}
use Prim.Native.Nat.{ℕ, suc, ◌-◌, min}
use native.Mathlib.Omega.{arith}
use lib.Dec.{leb}
use lib.IntN.{ℤ, pos, negsuc, nat_abs, ◌+ℤ◌, ◌-ℤ◌}
use Rattle.rules.specs.Measures.{total, sum, due_of, owed_of, unit_lots}
use Rattle.rules.specs.Units.{AccountLots, by_account, largest_first, receivers, units}
use Rattle.rules.specs.Handover.{covered, stock, waiting}
use Rattle.rules.specs.Lifts.{Lift, lift, lifted}
use Rattle.rules.specs.Fails.{Fail, is_full_of, full_lots, without_fulls, stretches, take_lots, drop_lots, lacks, undelivered, shortfalls, fail_of, overlaps, fails}
use Rattle.rules.specs.Dealt.{dealt}
use Rattle.rules.specs.Book.{row, lifts_at, units_by, order_in}
use Rattle.laws.proofs.Basics.{either, Every, every_of, each_map, each_append, each_drop, each_put}
use Rattle.laws.proofs.Dealt.{dealt_lots, each_by_lots}
use Rattle.laws.proofs.Units.{each_fulls, each_smalls, each_units}
use Rattle.laws.proofs.Lifts.{each_lift}
use Rattle.laws.proofs.Fails.{each_of_map}
use Rattle.laws.proofs.Signed.{rises, falls, size_of_lem}
use Rattle.laws.proofs.Sound.{Even}

abbrev pub EvenLots : AccountLots → Type 0
EvenLots u = Even u.lots

abbrev pub EvenNet : ℤ → Type 0
EvenNet n = Even (nat_abs n)

-- Signed numbers

-- of an even net what is due is even, and what is owed
pub due_even : (n : ℤ) → EvenNet n → Even (due_of n)
due_even (pos n) h = h
due_even (negsuc n) h = refl

pub owed_even : (n : ℤ) → EvenNet n → Even (owed_of n)
owed_even (pos n) h = refl
owed_even (negsuc n) h = h

-- a rise or a fall by even lots
pub rise_even : (n : ℤ) (x : ℕ) → EvenNet n → Even x → EvenNet (n +ℤ pos x)
rise_even n x h k = omega (arith, size_of_lem n, size_of_lem (n +ℤ pos x), rises n x)

pub fall_even : (n : ℤ) (x : ℕ) → EvenNet n → Even x → EvenNet (n -ℤ pos x)
fall_even n x h k = omega (arith, size_of_lem n, size_of_lem (n -ℤ pos x), falls n x)

-- Sums and lists of lots

pub total_even {ℓ} : {A : Type ℓ} (f : A → ℕ) (l : List A) → Every (λ x. Even (f x)) l → Even (total f l)
total_even f [] h = refl
total_even f (x ∷ xs) h = omega (arith, h.0, total_even f xs h.1)

pub by_account_even : (k : ℕ) (xs : List ℕ) → Every Even xs → Every EvenLots (by_account k xs)
by_account_even k [] h = tt
by_account_even k (x ∷ xs) h = each_put EvenLots k x (by_account (suc k) xs) (λ p. h.0) (by_account_even (suc k) xs h.1)

pub take_even : (x : ℕ) (vs : List AccountLots) → Even x → Every EvenLots vs → Every EvenLots (take_lots x vs)
take_even x [] e h = tt
take_even x (v ∷ vs) e h =
    each_put EvenLots v.account (min x v.lots) (take_lots (x - v.lots) vs) (λ p. omega (arith, h.0))
    (take_even (x - v.lots) vs (omega (arith, h.0)) h.1)

pub drop_even : (x : ℕ) (vs : List AccountLots) → Even x → Every EvenLots vs → Every EvenLots (drop_lots x vs)
drop_even x [] e h = tt
drop_even x (v ∷ vs) e h =
    each_put EvenLots v.account (v.lots - x) (drop_lots (x - v.lots) vs) (λ p. omega (arith, h.0))
    (drop_even (x - v.lots) vs (omega (arith, h.0)) h.1)

-- Units

pub units_even : (dues : List ℕ) → Every Even dues → Every EvenLots (units unit_lots dues)
units_even dues h =
    let rs = receivers dues in
    each_units EvenLots unit_lots dues
    (each_fulls EvenLots unit_lots (largest_first rs) (every_of _ (largest_first rs) (λ r. refl)))
    (each_smalls EvenLots unit_lots rs (each_map EvenLots _ (λ r e p. omega (arith, e)) rs (by_account_even 0 dues h)))

lifted_even : (ls : List Lift) (us : List AccountLots) → Every EvenLots us → Every EvenLots (lifted ls us)
lifted_even [] us h = h
lifted_even (l ∷ ls) us h = lifted_even ls (lift l us) (each_lift EvenLots l us h)

pub order_even : (new : Bool) (nets : List ℤ) (lifts : List ℕ) (i : ℕ) → Every EvenNet (row i nets) → Every EvenLots (order_in new nets lifts i)
unfolding order_in
order_even new nets lifts i h =
    let dues = map due_of (row i nets) in
    let es = units_even dues (each_of_map Even due_of (row i nets) (each_map EvenNet (λ n. Even (due_of n)) due_even (row i nets) h)) in
    lifted_even (lifts_at lifts i) (units_by new (row i nets))
    (either (Every EvenLots) new (each_by_lots Even (units unit_lots dues) (dealt unit_lots dues) (sym (dealt_lots dues)) es) es)

-- Stock, what units lack, and fails

pub stock_even : (us : List AccountLots) (d : ℕ) → Every EvenLots us → Even d → Even (stock us d)
stock_even [] d h e = e
stock_even (u ∷ us) d h e =
    either Even (leb u.lots d) (stock_even us (d - u.lots) h.1 (omega (arith, h.0))) e

without_even : (size a : ℕ) (vs : List AccountLots) → Every EvenLots vs → Every EvenLots (without_fulls size a vs)
without_even size a [] h = tt
without_even size a (v ∷ vs) h =
    either (Every EvenLots) (is_full_of size a v) (without_even size a vs h.1) (h.0, without_even size a vs h.1)

full_even : (size a : ℕ) (vs : List AccountLots) → Every EvenLots vs → Even (full_lots size a vs)
full_even size a vs h =
    total_even _ vs (each_map EvenLots _ (λ v e. either Even (is_full_of size a v) e refl) vs h)

stretches_even : (size : ℕ) (us : List AccountLots) → Every EvenLots us → Every EvenLots (stretches size us)
stretches_even size [] h = tt
stretches_even size (u ∷ us) h =
    let vs = stretches size us in
    let k = stretches_even size us h.1 in
    either (Every EvenLots) (leb size u.lots)
    (omega (arith, h.0, full_even size u.account vs k), without_even size u.account vs k) (h.0, k)

lacks_even : (size : ℕ) (us : List AccountLots) (d : ℕ) → Every EvenLots us → Even d → Every EvenLots (lacks size us d)
unfolding lacks
lacks_even size us d h e =
    drop_even (stock us d) (stretches size (waiting us d)) (stock_even us d h e)
    (stretches_even size (waiting us d) (each_drop EvenLots (covered us d) us h))

undelivered_even : (xs ds : List ℕ) → Every Even xs → Every Even ds → Every Even (undelivered xs ds)
undelivered_even [] ds h k = tt
undelivered_even (x ∷ xs) [] h k = tt
undelivered_even (x ∷ xs) (d ∷ ds) h k = (omega (arith, h.0, k.0), undelivered_even xs ds h.1 k.1)

abbrev pub EvenFail : Fail → Type 0
EvenFail f = Even f.lots

overlaps_even : (ss vs : List AccountLots) → Every EvenLots ss → Every EvenLots vs → Every EvenFail (overlaps ss vs)
overlaps_even [] vs h k = tt
overlaps_even (s ∷ ss) vs h k =
    each_append EvenFail (map (fail_of s.account) (take_lots s.lots vs)) (overlaps ss (drop_lots s.lots vs))
    (each_of_map EvenFail (fail_of s.account) (take_lots s.lots vs) (take_even s.lots vs h.0 k))
    (overlaps_even ss (drop_lots s.lots vs) h.1 (drop_even s.lots vs h.0 k))

pub fails_even : (size : ℕ) (us : List AccountLots) (ns : List ℤ) (ds : List ℕ) → Every EvenLots us → Every EvenNet ns → Every Even ds →
    Every EvenFail (fails size us (map owed_of ns) ds)
unfolding fails
fails_even size us ns ds u n d =
    overlaps_even (shortfalls (map owed_of ns) ds) (lacks size us (sum ds))
    (by_account_even 0 (undelivered (map owed_of ns) ds)
    (undelivered_even (map owed_of ns) ds (each_of_map Even owed_of ns (each_map EvenNet (λ m. Even (owed_of m)) owed_even ns n)) d))
    (lacks_even size us (sum ds) u (total_even (λ x. x) ds d))
