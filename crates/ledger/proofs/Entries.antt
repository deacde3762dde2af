-- A ledger's columns give the ledger back, and one more entry is one store in each column.
use mathlib.Core.Path.{◌≡◌, refl, ap, sym, ◌∙◌}
use mathlib.Core.List.{List, [], ◌∷◌, ◌++◌, map, map-append, append_assoc, append-nil, tail}
use Prim.Native.Nat.{ℕ, zero, suc, ◌+◌, ◌-◌, ◌≤◌, ◌<◌}
use native.Mathlib.Numerals.{add-one}
use native.Mathlib.Omega.{arith}
use lib.ListN.{length, set, replicate, length-append, length-map, length-replicate}
use lib.Seq.{set_at}
use Rattle.rules.specs.declared.Entry.{Entry}
use Rattle.rules.specs.Measures.{most_entries}
use Rattle.rules.specs.Ledger.{entry}
use Rattle.rules.specs.Book.{head_or0, entries, column}
use Rattle.laws.proofs.Ledger.{get_or_first, get_d_tail}
use Rattle.ledger.specs.Columns.{entry_at, Columns, Held, Stored, Kept}
use Rattle.ledger.proofs.Each.{each_column, each_pair}

pub entries_length : (n : ℕ) (is fs ts xs ds : List ℕ) → length (entries n is fs ts xs ds) ≡ n
entries_length zero is fs ts xs ds = refl
entries_length (suc n) is fs ts xs ds = ap suc (entries_length n (tail is) (tail fs) (tail ts) (tail xs) (tail ds))

pub column_length : (g : Entry → ℕ) (es : List Entry) → length es ≤ most_entries → length (column g es) ≡ most_entries
column_length g es h =
    omega (
      arith,
      length-append (map g es) (replicate (most_entries - length es) 0),
      length-map es g,
      length-replicate {A = ℕ} (most_entries - length es) 0,
    )

-- whatever stands after the entries
entries_front : (es : List Entry) (r₁ r₂ r₃ r₄ r₅ : List ℕ) →
    entries (length es) (map (λ e. e.issue) es ++ r₁) (map (λ e. e.from) es ++ r₂) (map (λ e. e.to) es ++ r₃)
    (map (λ e. e.lots) es ++ r₄) (map (λ e. e.day) es ++ r₅) ≡ es
entries_front [] r₁ r₂ r₃ r₄ r₅ = refl
entries_front (e ∷ es) r₁ r₂ r₃ r₄ r₅ = ap (λ l. e ∷ l) (entries_front es r₁ r₂ r₃ r₄ r₅)

pub entries_columns : (es : List Entry) (n : ℕ) (is fs ts xs ds : List ℕ) → n ≡ length es → Columns es is fs ts xs ds →
    entries n is fs ts xs ds ≡ es
entries_columns es n is fs ts xs ds e c =
    rw (e, c.issues, c.froms, c.tos, c.lotss, c.dayss)
    (entries_front es (replicate (most_entries - length es) 0) (replicate (most_entries - length es) 0)
    (replicate (most_entries - length es) 0) (replicate (most_entries - length es) 0) (replicate (most_entries - length es) 0))

-- unused places, one of them in front
pub unused_more : (n : ℕ) → n < most_entries →
    ◌≡◌ {A = List ℕ} (replicate (most_entries - n) 0) (0 ∷ replicate (most_entries - suc n) 0)
unused_more n h =
    let e : most_entries - n ≡ suc (most_entries - suc n) = omega arith in
    rw e

-- one column with an entry more
pub column_append : (g : Entry → ℕ) (es : List Entry) (n : ℕ) (e : Entry) → length es ≡ n → n < most_entries →
    set (column g es) n (g e) ≡ column g (es ++ (e ∷ []))
column_append g es n e q h =
    let l : length (es ++ (e ∷ [])) ≡ suc n = length-append es (e ∷ []) ∙ omega arith in
    rw (
      l,
      map-append g es (e ∷ []),
      q,
      unused_more n h,
      set_at (map g es) 0 (replicate (most_entries - suc n) 0) (g e) n (length-map es g ∙ q),
    )
    (sym (append_assoc (map g es) (g e ∷ []) (replicate (most_entries - suc n) 0)))

module _ (es : List Entry) (n : ℕ) (is fs ts xs ds : List ℕ) where
  -- a ledger's columns hold it
  pub kept_held : Kept es n is fs ts xs ds → length es ≤ most_entries → Held n is fs ts xs ds
  kept_held k h =
      record {
        most = omega arith;
        whole = each_column (λ g c e. ap length e ∙ column_length g es h) k.columns;
        columns = rw (entries_columns es n is fs ts xs ds k.count k.columns) k.columns;
      }

  -- and are read as it
  pub kept_entries : Kept es n is fs ts xs ds → entries n is fs ts xs ds ≡ es
  kept_entries k = entries_columns es n is fs ts xs ds k.count k.columns

-- an entry stored behind the others
pub held_append : (n : ℕ) (e : Entry) (i₀ f₀ t₀ x₀ d₀ i f t x d : List ℕ) → n < most_entries → Held n i₀ f₀ t₀ x₀ d₀ →
    Stored n e i₀ f₀ t₀ x₀ d₀ i f t x d → Kept (entries n i₀ f₀ t₀ x₀ d₀ ++ (e ∷ [])) (n + 1) i f t x d
held_append n e i₀ f₀ t₀ x₀ d₀ i f t x d h held s =
    let es = entries n i₀ f₀ t₀ x₀ d₀ in
    let l : length es ≡ n = entries_length n i₀ f₀ t₀ x₀ d₀ in
    record {
      count = omega (arith, length-append es (e ∷ []));
      columns = each_pair (λ g c₀ c p q. q ∙ ap (λ k. set k n (g e)) p ∙ column_append g es n e l h) held.columns s;
    }

-- One ledger behind another

entries_more : (n : ℕ) (is fs ts xs ds : List ℕ) → entries (suc n) is fs ts xs ds ≡ entries n is fs ts xs ds ++ (entry_at n is fs ts xs ds ∷ [])
entries_more zero is fs ts xs ds = rw (get_or_first is, get_or_first fs, get_or_first ts, get_or_first xs, get_or_first ds)
entries_more (suc n) is fs ts xs ds =
    ap (λ l. entry (head_or0 is) (head_or0 fs) (head_or0 ts) (head_or0 xs) (head_or0 ds) ∷ l)
    (entries_more n (tail is) (tail fs) (tail ts) (tail xs) (tail ds)
    ∙ rw (get_d_tail is n, get_d_tail fs n, get_d_tail ts n, get_d_tail xs n, get_d_tail ds n))

-- the first j of the other's entries are there
pub record Joined (es : List Entry) (n j k : ℕ) (mi mf mt mx md is fs ts xs ds : List ℕ) : Type 0 where
  pub some : j ≤ k
  pub most : n + k ≤ most_entries
  pub held : Held (n + j) is fs ts xs ds
  pub there : entries (n + j) is fs ts xs ds ≡ es ++ entries j mi mf mt mx md

pub joined_starts : (n k : ℕ) (mi mf mt mx md is fs ts xs ds : List ℕ) → n + k ≤ most_entries → Held n is fs ts xs ds →
    Joined (entries n is fs ts xs ds) n 0 k mi mf mt mx md is fs ts xs ds
joined_starts n k mi mf mt mx md is fs ts xs ds h held =
    let e : n + 0 ≡ n = omega arith in
    record { some = omega arith; most = h; held = rw e held; there = rw e (sym (append-nil (entries n is fs ts xs ds))) }

module _ {es : List Entry} {n j k : ℕ} {mi mf mt mx md is fs ts xs ds : List ℕ} (s : Joined es n j k mi mf mt mx md is fs ts xs ds) where
  pub joined_more : {is' fs' ts' xs' ds' : List ℕ} → j < k →
      Kept (entries (n + j) is fs ts xs ds ++ (entry_at j mi mf mt mx md ∷ [])) (n + j + 1) is' fs' ts' xs' ds' →
      Joined es n (j + 1) k mi mf mt mx md is' fs' ts' xs' ds'
  joined_more {is'} {fs'} {ts'} {xs'} {ds'} h q =
      let es₀ = entries (n + j) is fs ts xs ds in
      let e = entry_at j mi mf mt mx md in
      let l : length (es₀ ++ (e ∷ [])) ≡ n + j + 1 = sym q.count in
      let a : n + (j + 1) ≡ n + j + 1 = omega arith in
      record {
        some = omega arith;
        most = s.most;
        held = rw a (kept_held (es₀ ++ (e ∷ [])) (n + j + 1) is' fs' ts' xs' ds' q (omega (arith, s.most)));
        there =
            ap (λ m. entries m is' fs' ts' xs' ds') a
            ∙ kept_entries (es₀ ++ (e ∷ [])) (n + j + 1) is' fs' ts' xs' ds' q
            ∙ ap (λ y. y ++ (e ∷ [])) s.there
            ∙ append_assoc es (entries j mi mf mt mx md) (e ∷ [])
            ∙ ap (λ y. es ++ y) (sym (entries_more j mi mf mt mx md))
            ∙ ap (λ m. es ++ entries m mi mf mt mx md) (sym (add-one j));
      }

  pub joined_ends : k ≤ j → Kept (es ++ entries k mi mf mt mx md) (n + k) is fs ts xs ds
  joined_ends h =
      let e : j ≡ k = omega (arith, s.some) in
      let q : Kept (entries (n + j) is fs ts xs ds) (n + j) is fs ts xs ds =
      record { count = sym (entries_length (n + j) is fs ts xs ds); columns = s.held.columns } in
      rw e at (rw s.there at q)
