-- What is taken is written before the other charge is read, as the definition has it; both sums fit.
use Rattle.std.proofs.Common.{◌≡◌, ℕ, ◌+◌, ◌<◌, ◌^◌, get_or, arith}
use lib.ListN.{set}
use lib.IntN.{ℤ, pos, negsuc, nat_abs, neg_ℤ, ◌+ℤ◌, ◌-ℤ◌}
use mir.Syntax.{w64}
use mir.Val.{SFits, to_z}
use mir.ValLaws.{to_z-of_z, to_z_pos}
use Rattle.book.proofs.Signs.{back, sum_fits, abs_neg}
use Rattle.charging.proofs.Charging.{room_taken}
use Rattle.charging.proofs.pay.Goals as goal

small_fits : (z : ℤ) (y : ℕ) → nat_abs z + y < 2 ^ 63 → SFits w64 z
small_fits (pos n) y h = record { sfits = omega arith }
small_fits (negsuc n) y h = record { sfits = omega arith }

pub overflow_cast-charges : goal.overflow_cast-charges
overflow_cast-charges c = let h = c.requires.room 0 in record { sfits = omega arith }

pub returns : goal.returns
returns c =
    let a = c.args in
    let falls = get_or a.charges.now a.f (pos 0) in
    let rises = get_or (set a.charges.now a.f (falls -ℤ pos a.y)) a.t (pos 0) in
    let r = c.requires.room a.f in
    let g = room_taken a.charges.now a.f a.t a.y c.requires.room in
    let y : to_z w64 a.y ≡ pos a.y = to_z_pos w64 a.y (omega arith) in
    let f : back w64 falls ≡ falls = to_z-of_z w64 falls (small_fits falls (a.y + a.y) r) in
    let taken : back w64 (falls -ℤ pos a.y) ≡ falls -ℤ pos a.y =
    to_z-of_z w64 _ (sum_fits w64 falls (neg_ℤ (pos a.y)) (omega (arith, abs_neg a.y))) in
    let t : back w64 rises ≡ rises = to_z-of_z w64 rises (small_fits rises a.y g) in
    let given : back w64 (rises +ℤ pos a.y) ≡ rises +ℤ pos a.y = to_z-of_z w64 _ (sum_fits w64 rises (pos a.y) g) in
    rw (f, y, taken, t, given)
