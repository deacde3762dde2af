-- Entries at 0 go.
use mathlib.Core.Path.{◌≡◌, refl}
use mathlib.Core.Bool.{cond}
use mathlib.Core.List.{List, ◌∷◌}
use Prim.Native.Nat.{ℕ, zero, suc}
use native.Mathlib.Omega.{arith}
use borrow.Author.Tests.{ne_eqb}
use Rattle.rules.specs.declared.Entry.{Entry}
use Rattle.rules.specs.Ledger.{put_entry}
use Rattle.rules.specs.Book.{is_zero}
use Rattle.laws.proofs.Meeting.{with_lots}

-- an entry put in front unless it is at 0, as entries at 0 go
pub put_zeros : (e : Entry) (x : ℕ) (es : List Entry) → put_entry e x es ≡ cond (is_zero x) es (with_lots e x ∷ es)
put_zeros e zero es = refl
put_zeros e (suc x) es = rw (ne_eqb (suc x) 0 (λ z. omega arith))
