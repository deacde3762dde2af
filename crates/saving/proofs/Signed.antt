-- Signed numbers in two's complement are their words.
use mathlib.Core.Path.{◌≡◌, refl}
use Prim.Native.Nat.{◌%◌, ◌/◌}
use native.Mathlib.Omega.{arith}
use lib.IntN.{ℤ, pos, negsuc}
use mir.Syntax.{w32, w64}
use mir.Val.{SFits, of_z}
use Rattle.checksums.specs.Sums.{word_size}
use Rattle.snapshots.specs.Words.{signed_word, low_word, high_word}

pub signed_word_lem : (n : ℤ) → SFits w32 n → of_z w32 n ≡ signed_word n
signed_word_lem (pos n) h = refl
signed_word_lem (negsuc n) h = omega (arith, h.sfits)

pub low_word_lem : (z : ℤ) → SFits w64 z → of_z w64 z % word_size ≡ low_word z
low_word_lem (pos n) h = refl
low_word_lem (negsuc n) h = omega (arith, h.sfits)

pub high_word_lem : (z : ℤ) → SFits w64 z → of_z w64 z / word_size ≡ high_word z
high_word_lem (pos n) h = refl
high_word_lem (negsuc n) h = omega (arith, h.sfits)
