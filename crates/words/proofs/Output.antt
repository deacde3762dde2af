-- Records one behind the other in a lent output: a record put behind n records extends them.
use mathlib.Core.Path.{◌≡◌, refl, ap}
use mathlib.Core.List.{List, [], ◌∷◌, ◌++◌}
use Prim.Native.Nat.{ℕ, ◌+◌, ◌*◌, ◌≤◌}
use native.Mathlib.Omega.{arith}
use lib.ListN.{length, drop, length-append, length-drop}
use lib.Seq.{sets, take_at, drop-drop, drop-append-add, sets-eq}
use Rattle.rules.specs.Records.{Rec, head_word, lots_word, words, over}

pub words_append : (rs ss : List Rec) → words (rs ++ ss) ≡ words rs ++ words ss
words_append [] ss = refl
words_append (r ∷ rs) ss =
    ap (λ l. head_word r.kind r.issue r.from r.to ∷ lots_word r.lots ∷ l) (words_append rs ss)

pub words_length : (rs : List Rec) → length (words rs) ≡ 2 * length rs
words_length [] = refl
words_length (r ∷ rs) = omega (arith, words_length rs)

pub over_length : (ws o : List ℕ) → length ws ≤ length o → length (over ws o) ≡ length o
over_length ws o h = omega (arith, length-append ws (drop (length ws) o), length-drop (length ws) o)

-- words stored behind words that stand in front of an output
pub over_more : (ws vs o : List ℕ) → length ws + length vs ≤ length o → sets (over ws o) (length ws) vs ≡ over (ws ++ vs) o
over_more ws vs o f =
    let n = length ws in
    let m = length vs in
    let e : length (over ws o) ≡ length o = over_length ws o (omega arith) in
    let d : length (ws ++ vs) ≡ n + m = length-append ws vs in
    rw
    (sets-eq vs (over ws o) n (omega arith), take_at ws (drop n o) n refl, drop-append-add ws (drop n o) m, drop-drop m n o, d)

-- an output with records in front is as long as it was
pub records_length : (rs : List Rec) (o : List ℕ) → 2 * length rs ≤ length o → length (over (words rs) o) ≡ length o
records_length rs o h = over_length (words rs) o (omega (arith, words_length rs))
