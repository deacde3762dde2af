-- What is left of a ledger from place k on, as a loop over its columns meets it: the entry at k, and the rest.
use mathlib.Core.Path.{◌≡◌, refl, ap}
use mathlib.Core.Bool.{cond, ◌&&◌}
use mathlib.Core.List.{List, [], ◌∷◌, tail}
use Prim.Native.Nat.{ℕ, zero, suc, ◌+◌, ◌-◌, ◌<◌}
use native.Mathlib.Numerals.{add-one}
use native.Mathlib.Omega.{arith}
use lib.Dec.{eqb}
use lib.ListN.{get_or, drop}
use Rattle.rules.specs.declared.Entry.{Entry}
use Rattle.rules.specs.Ledger.{entry, is_from, lots_of}
use Rattle.rules.specs.Book.{head_or0, entries}

abbrev pub left : ℕ → ℕ → List ℕ → List ℕ → List ℕ → List ℕ → List ℕ → List Entry
left k n is fs ts xs ds = entries (n - k) (drop k is) (drop k fs) (drop k ts) (drop k xs) (drop k ds)

head_drop : (k : ℕ) (l : List ℕ) → head_or0 (drop k l) ≡ get_or l k 0
head_drop zero [] = refl
head_drop zero (x ∷ l) = refl
head_drop (suc k) [] = refl
head_drop (suc k) (x ∷ l) = head_drop k l

tail_drop : (k : ℕ) (l : List ℕ) → tail (drop k l) ≡ drop (suc k) l
tail_drop zero [] = refl
tail_drop zero (x ∷ l) = refl
tail_drop (suc k) [] = refl
tail_drop (suc k) (x ∷ l) = tail_drop k l

pub left_next : (k n : ℕ) (is fs ts xs ds : List ℕ) → k < n →
    left k n is fs ts xs ds
    ≡ entry (get_or is k 0) (get_or fs k 0) (get_or ts k 0) (get_or xs k 0) (get_or ds k 0) ∷ left (k + 1) n is fs ts xs ds
left_next k n is fs ts xs ds h =
    let e : n - k ≡ suc (n - (k + 1)) = omega arith in
    rw e
    (rw (add-one k) (simp (head_drop, tail_drop)))

-- the lots from an account: those of the entry at k, and of the rest
pub owed_next : (k n : ℕ) (is fs ts xs ds : List ℕ) (i a : ℕ) → k < n →
    lots_of (is_from i a) (left k n is fs ts xs ds)
    ≡ cond (eqb (get_or is k 0) i && eqb (get_or fs k 0) a) (get_or xs k 0) 0 + lots_of (is_from i a) (left (k + 1) n is fs ts xs ds)
owed_next k n is fs ts xs ds i a h = ap (lots_of (is_from i a)) (left_next k n is fs ts xs ds h)
