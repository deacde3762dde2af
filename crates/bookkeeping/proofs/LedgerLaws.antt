-- The scan of the ledger: its entries column by column.
use mathlib.Core.Path.{◌≡◌, refl, ap, ◌∙◌}
use mathlib.Core.Bool.{Bool, true, false, not, ◌&&◌}
use mathlib.Core.List.{List, [], ◌∷◌, tail}
use Prim.Native.Nat.{ℕ, zero, suc, ◌≤◌}
use native.Mathlib.Omega.{arith}
use lib.Dec.{leb, eqb}
use lib.ListN.{length, take}
use Rattle.rules.specs.Measures.{last_account}
use Rattle.rules.specs.Ledger.{entry}
use Rattle.rules.specs.Book.{all, head_or0, entries, entry_sound, days_sound, LedgerLengths}
use Rattle.laws.proofs.Scans.{and_turn}
use Rattle.balancing.specs.Scan.{entries_sound}
use Rattle.bookkeeping.specs.Columns.{issue_sound, sides_sound, lots_sound, days_rise}

-- The entries are what stands in the columns

and_entry : (i f t n l a s x : Bool) →
    ((((i && f) && t) && n) && l) && ((a && s) && x) ≡ ((i && a) && (((f && t) && n) && s)) && (l && x)
and_entry false f t n l a s x = refl
and_entry true f t n l a s x =
    and_turn true ((f && t) && n) (a && s) l x ∙ ap (λ u. u && (l && x)) (and_turn true true a ((f && t) && n) s)

by_column : (n : ℕ) (is fs ts xs ds : List ℕ) → n ≤ length is → n ≤ length fs → n ≤ length ts → n ≤ length xs →
    all entry_sound (entries n is fs ts xs ds)
    ≡ (all issue_sound (take n is) && sides_sound (take n fs) (take n ts)) && all lots_sound (take n xs)
by_column zero is fs ts xs ds hi hf ht hx = refl
by_column (suc n) [] fs ts xs ds hi hf ht hx = absurd (omega arith)
by_column (suc n) (i ∷ is) [] ts xs ds hi hf ht hx = absurd (omega arith)
by_column (suc n) (i ∷ is) (f ∷ fs) [] xs ds hi hf ht hx = absurd (omega arith)
by_column (suc n) (i ∷ is) (f ∷ fs) (t ∷ ts) [] ds hi hf ht hx = absurd (omega arith)
by_column (suc n) (i ∷ is) (f ∷ fs) (t ∷ ts) (x ∷ xs) ds hi hf ht hx =
    ap (λ r. entry_sound (entry i f t x (head_or0 ds)) && r) (by_column n is fs ts xs (tail ds) (omega arith) (omega arith) (omega arith) (omega arith))
    ∙ and_entry (issue_sound i) (leb f last_account) (leb t last_account) (not (eqb f t)) (lots_sound x)
    (all issue_sound (take n is)) (sides_sound (take n fs) (take n ts)) (all lots_sound (take n xs))

days_by_column : (n least today : ℕ) (is fs ts xs ds : List ℕ) → n ≤ length ds →
    days_sound least today (entries n is fs ts xs ds) ≡ days_rise least today (take n ds)
days_by_column zero least today is fs ts xs ds h = refl
days_by_column (suc n) least today is fs ts xs [] h = absurd (omega arith)
days_by_column (suc n) least today is fs ts xs (d ∷ ds) h =
    ap (λ r. leb least d && r) (days_by_column n d today (tail is) (tail fs) (tail ts) (tail xs) ds (omega arith))

pub columns_sound : (today n : ℕ) (is fs ts xs ds : List ℕ) (i a x d : Bool) → n ≤ 2048 → LedgerLengths is fs ts xs ds →
    i ≡ all issue_sound (take n is) → a ≡ sides_sound (take n fs) (take n ts) → x ≡ all lots_sound (take n xs) →
    d ≡ days_rise 0 today (take n ds) → ((i && a) && x) && d ≡ entries_sound today (entries n is fs ts xs ds)
unfolding entries_sound
columns_sound today n is fs ts xs ds i a x d h l ei ea ex ed =
    rw (ei, ea, ex, ed, by_column n is fs ts xs ds (omega arith) (omega arith) (omega arith) (omega arith), days_by_column n 0 today is fs ts xs ds (omega arith))
