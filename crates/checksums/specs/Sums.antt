-- The weighted sum of words: what a checksum is made of. And what may have become of words: two exchanged, any lowered.
use Rattle.std.specs.Prelude.{Bool, List, [], ◌∷◌, ℕ, ◌+◌, ◌≤◌, ltb, get_or, set}
use Rattle.rules.specs.Measures.{sum}

-- a word is below this
abbrev pub word_size : ℕ
word_size = 4294967296

abbrev pub below : ℕ → ℕ → Bool
below most n = ltb n most

-- the first word, twice the second, three times the third, ..: the sum of the sums of all ends of the list
abbrev pub weighted : List ℕ → ℕ
weighted [] = 0
weighted (w ∷ ws) = w + sum ws + weighted ws

-- so many words at most are summed: then the sum fits 64 bits
abbrev pub most_words : ℕ
most_words = 16384

-- the words at i and j, each in the other's place
abbrev pub exchanged : List ℕ → ℕ → ℕ → List ℕ
exchanged ws i j = set (set ws i (get_or ws j 0)) j (get_or ws i 0)

-- each word of the first list is at most the one of the second
abbrev pub Under : List ℕ → List ℕ → Type 0
Under [] [] = Unit {0}
Under [] (w ∷ ws) = ⊥
Under (v ∷ vs) [] = ⊥
Under (v ∷ vs) (w ∷ ws) = (v ≤ w) × Under vs ws
