-- A roll's quotes from a place on, one by one; and what is left of storing them, where the room or the tape ends.
use mathlib.Core.Path.{◌≡◌, refl, ◌∙◌}
use mathlib.Core.List.{List, [], ◌∷◌, map, append-nil}
use Prim.Native.Nat.{ℕ, suc, ◌+◌, ◌-◌, ◌≤◌, ◌<◌}
use native.Mathlib.Numerals.{add-one}
use native.Mathlib.Omega.{arith}
use lib.ListN.{length, get_or, set, take, drop, length-map, length-take, length-drop, drop_of_length-le}
use lib.Seq.{drop-cons, sets, sets-eq, set_out, take-nil}
use Rattle.rules.specs.Measures.{quote_count, tape_words}
use Rattle.rules.specs.Records.{quote_bits, of_field}
use Rattle.rules.specs.Tape.{quotes_of}

abbrev pub quotes_from : ℕ → List ℕ → List ℕ
quotes_from at ws = map (of_field quote_bits) (take (quote_count - at) (drop (at + 1) ws))

pub quote_cons : (ws : List ℕ) (at : ℕ) → at < quote_count → at + 1 < length ws →
    quotes_from at ws ≡ of_field quote_bits (get_or ws (at + 1) 0) ∷ quotes_from (at + 1) ws
quote_cons ws at h l =
    let e : quote_count - at ≡ suc (quote_count - (at + 1)) = omega arith in
    rw (e, drop-cons ws (at + 1) 0 l, ← add-one (at + 1))

pub quote_none : (ws : List ℕ) (at : ℕ) → length ws ≤ at + 1 → quotes_from at ws ≡ []
quote_none ws at l = rw (drop_of_length-le ws l, take-nil (quote_count - at))

-- one quote stored
pub quotes_next : (ws lent : List ℕ) (at v : ℕ) → at < quote_count → at + 1 < length ws → v ≡ of_field quote_bits (get_or ws (at + 1) 0) →
    sets (set lent at v) (at + 1) (quotes_from (at + 1) ws) ≡ sets lent at (quotes_from at ws)
quotes_next ws lent at v h l e = rw (e, quote_cons ws at h l, add-one at)

-- stores past the end change nothing
pub sets_out : (l : List ℕ) (i : ℕ) (vs : List ℕ) → length l ≤ i → sets l i vs ≡ l
sets_out l i [] h = refl
sets_out l i (v ∷ vs) h = rw (set_out l i v h) (sets_out l (suc i) vs (omega arith))

pub count_quotes : (ws : List ℕ) → tape_words ≤ length ws → length (quotes_of ws) ≡ quote_count
unfolding quotes_of
count_quotes ws h =
    length-map (take quote_count (drop 1 ws)) (of_field quote_bits) ∙ simp (length-take, length-drop) (omega arith)

-- 32 lent numbers hold the quotes of a whole roll
pub quotes_filled : (ws lent : List ℕ) → tape_words ≤ length ws → length lent ≡ quote_count → sets lent 0 (quotes_of ws) ≡ quotes_of ws
quotes_filled ws lent h e =
    let n = count_quotes ws h in
    let m : length lent ≤ 0 + length (quotes_of ws) = omega arith in
    sets-eq (quotes_of ws) lent 0 (omega arith) ∙ rw (drop_of_length-le lent m, append-nil (quotes_of ws))
