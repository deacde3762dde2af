-- A tape as bytes: little-endian words.
use Rattle.std.specs.Prelude.{Bool, not, List, [], ◌∷◌, ℕ, ◌+◌, ◌*◌, ◌%◌, eqb, length}

-- the word of four bytes, the least first
abbrev pub word_of : ℕ → ℕ → ℕ → ℕ → ℕ
word_of a b c d = a + 256 * b + 65536 * c + 16777216 * d

-- the whole words of some bytes
abbrev pub words_in : List ℕ → List ℕ
words_in [] = []
words_in (a ∷ []) = []
words_in (a ∷ b ∷ []) = []
words_in (a ∷ b ∷ c ∷ []) = []
words_in (a ∷ b ∷ c ∷ d ∷ bytes) = word_of a b c d ∷ words_in bytes

-- a last word of 1 to 3 bytes is not whole
abbrev pub stray_in : List ℕ → Bool
stray_in bytes = not (eqb (length bytes % 4) 0)
