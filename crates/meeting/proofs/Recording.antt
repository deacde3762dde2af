-- One record written, unless its lots are 0; and one entry met.
use mathlib.Core.Path.{◌≡◌, refl, sym, ap, ◌∙◌}
use mathlib.Core.List.{List, map}
use Prim.Native.Nat.{ℕ, zero, suc, ◌+◌, ◌-◌, ◌*◌}
use native.Mathlib.Numerals.{add-one}
use native.Mathlib.Nat.{add-zero}
use native.Mathlib.Omega.{arith}
use lib.ListN.{set, get_or}
use lib.Seq.{sets}
use Rattle.rules.specs.declared.Entry.{Entry}
use Rattle.rules.specs.Ledger.{put_entry, is_from, met_by}
use Rattle.rules.specs.Records.{head_word, lots_word, record_of, words}
use Rattle.meeting.specs.Meeting.{Recorded, WasMet}

pub recorded_none : (e : Entry) (x n : ℕ) (o : List ℕ) → x ≡ 0 → Recorded e x n n o o
recorded_none e x n o z = rw z (record { next = sym (add-zero n); out = refl })

pub recorded_some : (e : Entry) (x n : ℕ) (o₀ o : List ℕ) → (x ≡ 0 → ⊥) →
    o ≡ set (set o₀ (2 * n) (head_word 11 e.issue e.from e.to)) (2 * n + 1) (lots_word x) → Recorded e x n (n + 1) o₀ o
recorded_some e zero n o₀ o h s = absurd (h refl)
recorded_some e (suc x) n o₀ o h s = record { next = refl; out = s ∙ rw (add-one (2 * n)) refl }

-- an entry met by m of x lots
pub was_met_lem : (i a x k n m r : ℕ) (e : Entry) (xs xs' o o' : List ℕ) → m ≡ met_by (is_from i a) x e → Recorded e m n r o o' →
    xs' ≡ set xs k (get_or xs k 0 - m) → WasMet i a x k n (record { records = r; left = x - m }) e xs xs' o o'
was_met_lem i a x k n m r e xs xs' o o' q h p =
    record { left = ap (λ y. x - y) q; lots = rw q at p; met = rw q at h }

-- a record and those that follow, stored behind n others
pub recorded_more : (e : Entry) (x n r : ℕ) (es : List Entry) (o₀ o : List ℕ) → Recorded e x n r o₀ o →
    sets o₀ (2 * n) (words (map (record_of 11) (put_entry e x es))) ≡ sets o (2 * r) (words (map (record_of 11) es))
recorded_more e zero n r es o₀ o q =
    let z : n ≡ r = omega (arith, q.next) in
    rw (q.out, z)
recorded_more e (suc x) n r es o₀ o q =
    let z : 2 * r ≡ suc (suc (2 * n)) = omega (arith, q.next) in
    rw (q.out, z)
