-- Numbers of a book as words: signed ones in two's complement, one of 64 bits as two words, the low half first; and of an
-- entry issue, from, to and day in one word.
use Rattle.std.specs.Prelude.{Bool, cond, ℕ, zero, suc, ◌+◌, ◌-◌, ◌*◌, ◌<◌, ◌/◌, ◌%◌, ltb, get_or, take, drop, ℤ, pos, negsuc}
use mathlib.Core.List.{List, [], ◌∷◌, ◌++◌, tail}
use Rattle.rules.specs.declared.Phase.{Phase}
use Rattle.rules.specs.declared.Phase.TheVariants.{Taking, Settling, Cut}
use Rattle.rules.specs.Book.{head_or0}
use Rattle.checksums.specs.Sums.{word_size}

abbrev pub last_word : ℕ
last_word = 4294967295

-- words from this on are of negative numbers
abbrev pub sign_word : ℕ
sign_word = 2147483648

abbrev pub phase_word : Phase → ℕ
phase_word Taking = 0
phase_word Settling = 1
phase_word Cut = 2

abbrev pub phase_in : ℕ → Phase
phase_in zero = Taking
phase_in (suc zero) = Settling
phase_in (suc (suc n)) = Cut

abbrev pub signed_word : ℤ → ℕ
signed_word (pos n) = n
signed_word (negsuc n) = last_word - n

abbrev pub signed_in : ℕ → ℤ
signed_in w = cond (ltb w sign_word) (pos w) (negsuc (last_word - w))

abbrev pub low_word : ℤ → ℕ
low_word (pos n) = n % word_size
low_word (negsuc n) = last_word - n % word_size

abbrev pub high_word : ℤ → ℕ
high_word (pos n) = n / word_size
high_word (negsuc n) = last_word - n / word_size

abbrev pub long_in : ℕ → ℕ → ℤ
long_in l h = cond (ltb h sign_word) (pos (l + word_size * h)) (negsuc (last_word - l + word_size * (last_word - h)))

abbrev pub long_words : List ℤ → List ℕ
long_words [] = []
long_words (c ∷ cs) = low_word c ∷ high_word c ∷ long_words cs

abbrev pub longs_in : List ℕ → List ℤ
longs_in [] = []
longs_in (l ∷ []) = []
longs_in (l ∷ h ∷ ws) = long_in l h ∷ longs_in ws

-- does a number fit 32 bits with a sign? and 64?
abbrev pub fits32 : ℤ → Bool
fits32 (pos n) = ltb n sign_word
fits32 (negsuc n) = ltb n sign_word

abbrev pub fits64 : ℤ → Bool
fits64 (pos n) = ltb n (word_size * sign_word)
fits64 (negsuc n) = ltb n (word_size * sign_word)

-- an entry but for its lots, in one word: issue in 4 bits, from and to in 6 each, day in 16
abbrev pub entry_word : ℕ → ℕ → ℕ → ℕ → ℕ
entry_word i f t d = 268435456 * i + 4194304 * f + 65536 * t + d

-- so many values of a field, from a place in the word on
abbrev pub field_in : ℕ → ℕ → ℕ → ℕ
field_in place values w = w / place % values

abbrev pub issue_in : ℕ → ℕ
issue_in w = field_in 268435456 16 w

abbrev pub from_in : ℕ → ℕ
from_in w = field_in 4194304 64 w

abbrev pub to_in : ℕ → ℕ
to_in w = field_in 65536 64 w

abbrev pub day_in : ℕ → ℕ
day_in w = w % 65536

-- of each entry of a ledger's columns
abbrev pub entry_words : List ℕ → List ℕ → List ℕ → List ℕ → List ℕ
entry_words [] fs ts ds = []
entry_words (i ∷ is) fs ts ds = entry_word i (head_or0 fs) (head_or0 ts) (head_or0 ds) ∷ entry_words is (tail fs) (tail ts) (tail ds)

-- numbers that fit the fields of an entry's word
pub record Fields (i f t d : ℕ) : Type 0 where
  pub issue : i < 16
  pub from : f < 64
  pub to : t < 64
  pub day : d < 65536

-- and at each entry of the columns
abbrev pub InRange : List ℕ → List ℕ → List ℕ → List ℕ → Type 0
InRange is fs ts ds = (k : ℕ) → Fields (get_or is k 0) (get_or fs k 0) (get_or ts k 0) (get_or ds k 0)

-- columns one behind the other, and words taken apart by the widths of columns
abbrev pub joined : List (List ℕ) → List ℕ
joined [] = []
joined (c ∷ cs) = c ++ joined cs

abbrev pub parted : List ℕ → List ℕ → List (List ℕ)
parted [] ws = []
parted (n ∷ ns) ws = take n ws ∷ parted ns (drop n ws)
