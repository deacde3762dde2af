-- The lots of one entry changed where it stands: one store in one column.
use mathlib.Core.Path.{◌≡◌, refl, ap, ◌∙◌}
use mathlib.Core.List.{List, [], ◌∷◌, map, tail}
use Prim.Native.Nat.{ℕ, zero, suc, ◌-◌, ◌<◌}
use native.Mathlib.Omega.{arith}
use lib.ListN.{length, set, replicate, length-map, length-set}
use lib.Seq.{set-append_left}
use Rattle.rules.specs.declared.Entry.{Entry}
use Rattle.rules.specs.Measures.{most_entries}
use Rattle.rules.specs.Ledger.{entry}
use Rattle.rules.specs.Book.{head_or0, entries, column}
use Rattle.laws.proofs.Meeting.{with_lots}
use Rattle.ledger.specs.Columns.{Held}
use Rattle.ledger.proofs.Entries.{entries_length}

-- the entry at place k with x lots
abbrev pub lots_at : ℕ → ℕ → List Entry → List Entry
lots_at k x [] = []
lots_at zero x (e ∷ es) = with_lots e x ∷ es
lots_at (suc k) x (e ∷ es) = e ∷ lots_at k x es

pub entries_lots : (n k x : ℕ) (is fs ts xs ds : List ℕ) → k < length xs →
    entries n is fs ts (set xs k x) ds ≡ lots_at k x (entries n is fs ts xs ds)
entries_lots zero k x is fs ts xs ds h = refl
entries_lots (suc n) k x is fs ts [] ds h = absurd (omega arith)
entries_lots (suc n) zero x is fs ts (y ∷ xs) ds h = refl
entries_lots (suc n) (suc k) x is fs ts (y ∷ xs) ds h =
    ap (λ l. entry (head_or0 is) (head_or0 fs) (head_or0 ts) y (head_or0 ds) ∷ l)
    (entries_lots n k x (tail is) (tail fs) (tail ts) xs (tail ds) (omega arith))

pub length_lots : (k x : ℕ) (es : List Entry) → length (lots_at k x es) ≡ length es
length_lots k x [] = refl
length_lots zero x (e ∷ es) = refl
length_lots (suc k) x (e ∷ es) = ap suc (length_lots k x es)

map_lots : (k x : ℕ) (es : List Entry) → map (λ e. e.lots) (lots_at k x es) ≡ set (map (λ e. e.lots) es) k x
map_lots k x [] = refl
map_lots zero x (e ∷ es) = refl
map_lots (suc k) x (e ∷ es) = ap (λ l. e.lots ∷ l) (map_lots k x es)

map_other : (g : Entry → ℕ) → ((e : Entry) (x : ℕ) → g (with_lots e x) ≡ g e) → (k x : ℕ) (es : List Entry) →
    map g (lots_at k x es) ≡ map g es
map_other g s k x [] = refl
map_other g s zero x (e ∷ es) = ap (λ y. y ∷ map g es) (s e x)
map_other g s (suc k) x (e ∷ es) = ap (λ l. g e ∷ l) (map_other g s k x es)

column_other : (g : Entry → ℕ) → ((e : Entry) (x : ℕ) → g (with_lots e x) ≡ g e) → (k x : ℕ) (es : List Entry) →
    column g es ≡ column g (lots_at k x es)
column_other g s k x es = rw (map_other g s k x es, length_lots k x es)

column_lots : (k x : ℕ) (es : List Entry) → k < length es → set (column (λ e. e.lots) es) k x ≡ column (λ e. e.lots) (lots_at k x es)
column_lots k x es h =
    rw (map_lots k x es, length_lots k x es)
    (set-append_left (map (λ e. e.lots) es) (replicate (most_entries - length es) 0) k x (omega (arith, length-map es (λ e. e.lots))))

-- the columns hold the ledger as it is then
pub held_lots : (n k x : ℕ) (is fs ts xs ds : List ℕ) → k < n → Held n is fs ts xs ds → Held n is fs ts (set xs k x) ds
held_lots n k x is fs ts xs ds h held =
    let es = entries n is fs ts xs ds in
    let w = held.whole in
    let c = held.columns in
    let l : length es ≡ n = entries_length n is fs ts xs ds in
    record {
      most = held.most;
      whole = record { issues = w.issues; froms = w.froms; tos = w.tos; lotss = length-set xs k x ∙ w.lotss; dayss = w.dayss };
      columns =
          rw (entries_lots n k x is fs ts xs ds (omega (arith, w.lotss, held.most)))
          (record {
            issues = c.issues ∙ column_other (λ e. e.issue) (λ e y. refl) k x es;
            froms = c.froms ∙ column_other (λ e. e.from) (λ e y. refl) k x es;
            tos = c.tos ∙ column_other (λ e. e.to) (λ e y. refl) k x es;
            lotss = ap (λ y. set y k x) c.lotss ∙ column_lots k x es (omega arith);
            dayss = c.dayss ∙ column_other (λ e. e.day) (λ e y. refl) k x es;
          });
    }
