-- One entry more is charged: what is left to charge, and how far a charge can have gone from where it was.
use mathlib.Core.Path.{◌≡◌, sym, ap, ◌∙◌}
use mathlib.Core.Bool.{Bool, true, false, cond}
use mathlib.Core.List.{List, [], ◌∷◌}
use Prim.Native.Nat.{ℕ, zero, suc, ◌+◌, ◌-◌, ◌≤◌, ◌<◌, ◌^◌}
use native.Mathlib.Numerals.{add-one}
use native.Mathlib.Omega.{arith}
use lib.Dec.{ltb}
use lib.ListN.{length, drop, get_or, set, length-set, drop_of_length-le}
use lib.Seq.{drop-cons}
use lib.IntN.{ℤ, pos, negsuc, nat_abs, neg_ℤ, ◌+ℤ◌, ◌-ℤ◌}
use Rattle.rules.specs.Measures.{price_in, accrued_in, charge_of}
use Rattle.rules.specs.Ledger.{entry, charged}
use Rattle.rules.specs.Book.{entries}
use Rattle.laws.proofs.Ledger.{no_entry, length_entries, entry_at_lem}
use Rattle.book.proofs.Signs.{abs_neg}
use Rattle.charging.specs.Charging.{paid}

-- how large a sum can be
either_abs : (t : Bool) (x y m : ℕ) → suc x ≤ m → y ≤ m → nat_abs (cond t (negsuc x) (pos y)) ≤ m
either_abs true x y m p q = p
either_abs false x y m p q = q

sub_abs : (a b : ℕ) → nat_abs (cond (ltb a (suc b)) (negsuc (suc b - suc a)) (pos (a - suc b))) ≤ a + suc b
sub_abs a b = either_abs (ltb a (suc b)) (suc b - suc a) (a - suc b) (a + suc b) (omega arith) (omega arith)

pub sum_abs : (a b : ℤ) → nat_abs (a +ℤ b) ≤ nat_abs a + nat_abs b
sum_abs (pos a) (pos b) = omega arith
sum_abs (pos a) (negsuc b) = sub_abs a b
sum_abs (negsuc a) (pos b) = let h = sub_abs b a in omega arith
sum_abs (negsuc a) (negsuc b) = omega arith

pub less_abs : (a : ℤ) (y : ℕ) → nat_abs (a -ℤ pos y) ≤ nat_abs a + y
less_abs a y = omega (arith, sum_abs a (neg_ℤ (pos y)), abs_neg y)

abbrev pub Within : ℕ → List ℤ → Type 0
Within m cs = (a : ℕ) → nat_abs (get_or cs a (pos 0)) ≤ m

pub within_set : (m : ℕ) (cs : List ℤ) (k : ℕ) (v : ℤ) → Within m cs → nat_abs v ≤ m → Within m (set cs k v)
within_set m [] k v h g a = h a
within_set m (c ∷ cs) zero v h g zero = g
within_set m (c ∷ cs) zero v h g (suc a) = h (suc a)
within_set m (c ∷ cs) (suc k) v h g zero = h 0
within_set m (c ∷ cs) (suc k) v h g (suc a) = within_set m cs k v (λ j. h (suc j)) g a

-- y yen taken and given move no charge by more than twice that
pub within_paid : (m f t y : ℕ) (cs : List ℤ) → Within m cs → Within (m + (y + y)) (paid f t y cs)
within_paid m f t y cs h =
    let g : Within (m + y) (set cs f (get_or cs f (pos 0) -ℤ pos y)) =
    within_set (m + y) cs f _ (λ a. let k = h a in omega arith) (omega (arith, less_abs (get_or cs f (pos 0)) y, h f)) in
    let taken = set cs f (get_or cs f (pos 0) -ℤ pos y) in
    within_set (m + (y + y)) taken t _ (λ a. let k = g a in omega arith)
    (omega (arith, sum_abs (get_or taken t (pos 0)) (pos y), g t))

-- room for twice y leaves room for y once y is taken
pub room_taken : (cs : List ℤ) (f t y : ℕ) → ((a : ℕ) → nat_abs (get_or cs a (pos 0)) + (y + y) < 2 ^ 63) →
    nat_abs (get_or (set cs f (get_or cs f (pos 0) -ℤ pos y)) t (pos 0)) + y < 2 ^ 63
room_taken cs f t y h =
    let m = 2 ^ 63 - 1 - (y + y) in
    let g = within_set (m + y) cs f (get_or cs f (pos 0) -ℤ pos y) (λ a. let k = h a in omega arith)
    (omega (arith, less_abs (get_or cs f (pos 0)) y, h f)) t in
    let k = h t in
    omega arith

pub length_paid : (f t y : ℕ) (cs : List ℤ) → length (paid f t y cs) ≡ length cs
length_paid f t y cs = simp length-set

module _ (days rate : ℕ) (quotes : List ℕ) where
  module _ (n : ℕ) (is fs ts xs ds : List ℕ) (k : ℕ) (whole cs : List ℤ) where
    pub charge_more : (y : ℕ) → k < n → y ≡ charge_of (get_or xs k 0) (price_in quotes (get_or is k 0)) days rate (accrued_in quotes (get_or is k 0)) →
        charged days rate quotes (drop k (entries n is fs ts xs ds)) cs ≡ whole →
        charged days rate quotes (drop (k + 1) (entries n is fs ts xs ds)) (paid (get_or fs k 0) (get_or ts k 0) y cs) ≡ whole
    charge_more y h ey e =
        let es = entries n is fs ts xs ds in
        let l : k < length es = omega (arith, length_entries n is fs ts xs ds) in
        let d : drop k es ≡ entry (get_or is k 0) (get_or fs k 0) (get_or ts k 0) (get_or xs k 0) (get_or ds k 0) ∷ drop (suc k) es =
        drop-cons es k no_entry l ∙ ap (λ v. v ∷ drop (suc k) es) (entry_at_lem n is fs ts xs ds k h) in
        rw (ey, add-one) (sym (ap (λ v. charged days rate quotes v cs) d) ∙ e)

    pub charge_end : n ≤ k → charged days rate quotes (drop k (entries n is fs ts xs ds)) cs ≡ whole → cs ≡ whole
    charge_end h e =
        let l : length (entries n is fs ts xs ds) ≤ k = omega (arith, length_entries n is fs ts xs ds) in
        sym (ap (λ v. charged days rate quotes v cs) (drop_of_length-le (entries n is fs ts xs ds) l)) ∙ e
