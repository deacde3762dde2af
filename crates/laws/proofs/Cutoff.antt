-- The cutoff of an issue with a given order of units: what was handed, the stock's part and what is failed are
-- the units; deliverers are short of what units lack; each fail runs from a deliverer to a receiver.
use mathlib.Core.Path.{◌≡◌, ◌∙◌}
use mathlib.Core.Bool.{true}
use mathlib.Core.List.{List, [], ◌∷◌, map}
use Prim.Native.Nat.{ℕ, suc, ◌+◌, ◌-◌, ◌≤◌, ◌<◌}
use native.Mathlib.Omega.{arith}
use native.Mathlib.Nat.{min-eq_left, sub-eq-zero_of_le, sub-zero}
use lib.Dec.{leb}
use lib.IntN.{ℤ, pos, negsuc}
use lib.ListN.{length, get_or, length-map, get_or-map}
use borrow.Author.Tests.{eqb-true}
use Rattle.rules.specs.Measures.{total, sum, due_of, owed_of}
use Rattle.rules.specs.Units.{AccountLots, account_lots, by_account, sum_lots, of_account}
use Rattle.rules.specs.Handover.{stock, handed, waiting, first_unit, partials}
use Rattle.rules.specs.Fails.{full_lots, without_fulls, stretches, take_lots, lacks, undelivered, shortfalls, fails}
use Rattle.rules.specs.Book.{balanced, within_owed}
use Rattle.laws.proofs.Basics.{either, Every, total_put, sum_parts, each_map, each_zip, each_put}
use Rattle.laws.proofs.Units.{Order, UnitSized, account_same, each_parts}
use Rattle.laws.proofs.Handover.{stock_next, total_handed, total_partials}
use Rattle.laws.proofs.Overlaps.{Additive, additive_zero, cut_skip, cut_zero}
use Rattle.laws.proofs.Fails.{lots_to, lots_from, additive_account, overlaps_to, overlaps_from_lem, Bounded, every_overlaps, length_shorts, get_or_shorts, shortfalls_account, shorts_sum, each_shorts}
use Rattle.laws.proofs.Stretches.{total_stretches, lacks_sum, every_lacks}
use Rattle.laws.proofs.Ranking.{due_parts}

-- Handed, partly handed, lacking

cut_first : (f : AccountLots → ℕ) → Additive f → (s : ℕ) (w : AccountLots) (ws : List AccountLots) → s ≤ w.lots →
    total f (take_lots s (w ∷ ws)) ≡ f (account_lots w.account s)
cut_first f l s w ws h =
    simp (min-eq_left h, sub-eq-zero_of_le h, cut_zero ws)
    (omega (arith, total_put f w.account s [] (additive_zero f l w.account)))

-- the first lots of stretches are the first unit's
cut_next : (size : ℕ) (f : AccountLots → ℕ) → Additive f → (s : ℕ) (ws : List AccountLots) → s ≤ (first_unit ws).lots - 1 →
    total f (take_lots s (stretches size ws)) ≡ f (account_lots (first_unit ws).account s)
cut_next size f l s [] h =
    let z : s ≡ 0 = omega arith in
    rw (z, additive_zero f l 0)
cut_next size f l s (u ∷ us) h =
    let vs = stretches size us in
    either (λ r. total f (take_lots s r) ≡ f (account_lots u.account s)) (leb size u.lots)
    (cut_first f l s (account_lots u.account (u.lots + full_lots size u.account vs)) (without_fulls size u.account vs) (omega arith))
    (cut_first f l s u vs (omega arith))

-- what is handed, the stock's part and what is lacking are the units, by any number that adds up
pub settled : (size : ℕ) (f : AccountLots → ℕ) → Additive f → (us : List AccountLots) (d : ℕ) → d ≤ sum_lots us →
    total f (handed us d) + total f (partials us d) + total f (lacks size us d) ≡ total f us
unfolding lacks
settled size f l us d h =
    let ws = waiting us d in
    let s = stock us d in
    omega (
      arith,
      total_partials f us d (additive_zero f l),
      cut_next size f l s ws (stock_next us d h),
      cut_skip f l s (stretches size ws),
      total_stretches size f l ws,
      total_handed f us d,
    )

-- A row of nets and of delivered lots

-- what an issue's row has in a sound book
pub record SoundRow (nets : List ℤ) (delivered : List ℕ) : Type 0 where
  pub lengths : length nets ≡ length delivered
  pub balance : balanced nets ≡ true
  pub owed : within_owed nets delivered ≡ true

abbrev pub dues : List ℤ → List ℕ
dues nets = map due_of nets

abbrev pub obligations : List ℤ → List ℕ
obligations nets = map owed_of nets

pub balance_sum : (nets : List ℤ) → balanced nets ≡ true → sum (dues nets) ≡ sum (obligations nets)
balance_sum nets h = eqb-true (sum (dues nets)) (sum (obligations nets)) h

-- what is delivered is at most what is due
pub delivered_due : (nets : List ℤ) (delivered : List ℕ) → SoundRow nets delivered → sum delivered ≤ sum (dues nets)
delivered_due nets delivered r =
    omega (arith, shorts_sum nets delivered r.lengths r.owed, balance_sum nets r.balance)

module _ (nets : List ℤ) (delivered : List ℕ) (us : List AccountLots) (o : Order (dues nets) us) (r : SoundRow nets delivered) (size : ℕ) where
  -- deliverers are short of what units lack
  pub shorts_lacks : sum_lots (shortfalls (obligations nets) delivered) ≡ sum_lots (lacks size us (sum delivered))
  shorts_lacks =
      omega (
        arith,
        sum_parts 0 (undelivered (obligations nets) delivered),
        shorts_sum nets delivered r.lengths r.owed,
        lacks_sum size us (sum delivered),
        o.whole,
        balance_sum nets r.balance,
      )

  -- every account fails what it owed and did not deliver
  pub fails_from : (a : ℕ) →
      total (lots_from a) (fails size us (obligations nets) delivered) ≡ get_or (obligations nets) a 0 - get_or delivered a 0
  unfolding fails
  fails_from a =
      overlaps_from_lem (shortfalls (obligations nets) delivered) (lacks size us (sum delivered)) a shorts_lacks
      ∙ shortfalls_account (obligations nets) delivered a (length-map nets owed_of ∙ r.lengths)

  -- every account is failed what it was due and not handed
  pub fails_to_lem : (b : ℕ) →
      total (of_account b) (handed us (sum delivered)) + total (of_account b) (partials us (sum delivered))
      + total (lots_to b) (fails size us (obligations nets) delivered) ≡ get_or (dues nets) b 0
  unfolding fails
  fails_to_lem b =
      omega (
        arith,
        overlaps_to (shortfalls (obligations nets) delivered) (lacks size us (sum delivered)) b shorts_lacks,
        settled size (of_account b) (additive_account b) us (sum delivered) (omega (arith, o.whole, delivered_due nets delivered r)),
        o.due b,
      )

-- Deliverers and receivers

abbrev pub Deliverer : List ℤ → ℕ → Type 0
Deliverer nets a = (a < length nets) × (1 ≤ owed_of (get_or nets a (pos 0)))

abbrev pub Receiver : List ℤ → ℕ → Type 0
Receiver nets a = (a < length nets) × (1 ≤ due_of (get_or nets a (pos 0)))

pub not_both : (nets : List ℤ) (a : ℕ) → Deliverer nets a → Receiver nets a → ⊥
not_both nets a p q = one (get_or nets a (pos 0)) p.1 q.1
  where
    one : (n : ℤ) → 1 ≤ owed_of n → 1 ≤ due_of n → ⊥
    one (pos n) h g = omega arith
    one (negsuc n) h g = omega arith

-- a unit's lots are among its account's
pub share : (ws us : List AccountLots) → ((a : ℕ) → total (of_account a) ws ≤ total (of_account a) us) →
    Every (λ u. u.lots ≤ total (of_account u.account) us) ws
share [] us h = tt
share (w ∷ ws) us h = (omega (arith, h w.account, account_same w.account w.lots), share ws us (λ a. omega (arith, h a)))

-- every unit of an order is of an account that is due lots
pub order_due : (xs : List ℕ) (us : List AccountLots) → Order xs us → Every (λ u. 1 ≤ get_or xs u.account 0) us
order_due xs us o =
    each_zip UnitSized (λ u. u.lots ≤ total (of_account u.account) us) (λ u. 1 ≤ get_or xs u.account 0)
    (λ u p q. omega (arith, p.0, o.due u.account)) us o.sized (share us us (λ a. omega arith))

-- and a receiver's
pub order_receivers : (nets : List ℤ) (us : List AccountLots) → Order (dues nets) us → Every (λ u. Receiver nets u.account) us
order_receivers nets us o =
    each_zip (λ u. u.account < length (dues nets)) (λ u. 1 ≤ get_or (dues nets) u.account 0) (λ u. Receiver nets u.account)
    (λ u a h. (omega (arith, length-map nets due_of), rw (get_or-map due_of nets u.account (pos 0)) at h))
    us o.accounts (order_due (dues nets) us o)

pub each_some : (k : ℕ) (xs : List ℕ) → Every (λ u. 1 ≤ u.lots) (by_account k xs)
each_some k [] = tt
each_some k (x ∷ xs) = each_put (λ u. 1 ≤ u.lots) k x (by_account (suc k) xs) (λ h. h) (each_some (suc k) xs)

pub each_lots : (m k : ℕ) (xs : List ℕ) → Every (λ x. x ≤ m) xs → Every (λ u. u.lots ≤ m) (by_account k xs)
each_lots m k [] p = tt
each_lots m k (x ∷ xs) p = each_put (λ u. u.lots ≤ m) k x (by_account (suc k) xs) (λ h. p.0) (each_lots m (suc k) xs p.1)

-- every shortfall is a deliverer's
pub short_deliverers : (nets : List ℤ) (delivered : List ℕ) (m : ℕ) → length nets ≡ length delivered → Every (λ x. x ≤ m) (obligations nets) →
    Every (λ s. Deliverer nets s.account × (s.lots ≤ m)) (shortfalls (obligations nets) delivered)
short_deliverers nets delivered m e hs =
    let xs = undelivered (obligations nets) delivered in
    let l = length-map nets owed_of in
    each_zip (λ s. Deliverer nets s.account) (λ s. s.lots ≤ m) (λ s. Deliverer nets s.account × (s.lots ≤ m)) (λ s p q. (p, q))
    (by_account 0 xs)
    (each_zip (λ s. s.account < length nets) (λ s. 1 ≤ get_or xs s.account 0) (λ s. Deliverer nets s.account)
    (λ s a h. (a, owing s.account h)) (by_account 0 xs)
    (each_parts (length nets) 0 xs (omega (arith, length_shorts (obligations nets) delivered)))
    (each_zip (λ s. 1 ≤ s.lots) (λ s. (0 ≤ s.account) × (s.lots ≡ get_or xs (s.account - 0) 0)) (λ s. 1 ≤ get_or xs s.account 0)
    (λ s p q. omega (arith, rw sub-zero at q.1)) (by_account 0 xs) (each_some 0 xs) (due_parts 0 xs)))
    (each_lots m 0 xs (each_shorts m (obligations nets) delivered hs))
  where
    owing : (a : ℕ) → 1 ≤ get_or (undelivered (obligations nets) delivered) a 0 → 1 ≤ owed_of (get_or nets a (pos 0))
    owing a h =
        omega (
          arith,
          get_or_shorts (obligations nets) delivered a (length-map nets owed_of ∙ e),
          get_or-map owed_of nets a (pos 0),
        )

-- each fail runs from a deliverer to a receiver and has 1 to m lots, where nobody owes more than m
pub fails_bounded : (nets : List ℤ) (delivered : List ℕ) (us : List AccountLots) (size m : ℕ) → Order (dues nets) us →
    length nets ≡ length delivered → Every (λ x. x ≤ m) (obligations nets) →
    Every (Bounded (Deliverer nets) (Receiver nets) m) (fails size us (obligations nets) delivered)
unfolding fails
fails_bounded nets delivered us size m o e hs =
    let vs = lacks size us (sum delivered) in
    every_overlaps (Deliverer nets) (Receiver nets) m (shortfalls (obligations nets) delivered) vs (short_deliverers nets delivered m e hs)
    (each_map (λ v. Receiver nets v.account × (1 ≤ v.lots)) (λ v. Receiver nets v.account) (λ v p. p.0) vs
    (every_lacks size (Receiver nets) us (sum delivered) (order_receivers nets us o)))
