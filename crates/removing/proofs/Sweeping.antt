-- Entries at 0 go and what stands between them moves up. Before place w stand the entries that stay, from place k
-- on the columns are as they were; what is to stay of the whole ledger is the former and what stays of the latter.
use mathlib.Core.Path.{◌≡◌, refl, sym, ap, ◌∙◌}
use mathlib.Core.Bool.{Bool, true, false, false≢true}
use mathlib.Core.List.{List, [], ◌∷◌, ◌++◌, map, map-append, append_assoc, append-nil}
use Prim.Native.Nat.{ℕ, zero, suc, ◌+◌, ◌-◌, ◌≤◌, ◌<◌}
use native.Mathlib.Numerals.{add-one}
use native.Mathlib.Omega.{arith}
use lib.Dec.{leb}
use lib.ListN.{length, get_or, take, drop, replicate, length-append, length-take, length-drop, length-map, drop_of_length-le, take-append-drop}
use lib.Seq.{drop-cons, drop-drop, get_or-drop, drop_at}
use borrow.Author.Tests.{leb-true, leb-false}
use Rattle.rules.specs.declared.Entry.{Entry}
use Rattle.rules.specs.Measures.{most_entries}
use Rattle.rules.specs.Book.{is_zero, entries, column}
use Rattle.laws.proofs.Basics.{by_test}
use Rattle.laws.proofs.Ledger.{no_entry, entry_at_lem}
use Rattle.ledger.specs.Columns.{EachPair, Held, Unused, Cleared, Kept, without_zeros}
use Rattle.ledger.proofs.Each.{each_stay, each_then, each_after, both}
use Rattle.ledger.proofs.Entries.{entries_length}
use Rattle.std.specs.Prelude.{Option, Some, None}
use Rattle.std.specs.Option.{unwrap_or}
use Rattle.seeking.specs.Places.{NoneIn, Passed, First, Sought}
use Rattle.seeking.proofs.Passing.{none_join}
use Rattle.removing.specs.Moves.{zero_at, CanLookFor, Moved, CanMoveAll, MovedAll, Removable}
use Rattle.removing.proofs.Moving.{same_at, same_behind}

-- entries that are not at 0 stay
none_zeros : (m : ℕ) (es : List Entry) → m ≤ length es → ((j : ℕ) → j < m → is_zero (get_or es j no_entry).lots ≡ false) →
    without_zeros es ≡ take m es ++ without_zeros (drop m es)
none_zeros zero es h z = refl
none_zeros (suc m) [] h z = absurd (omega arith)
none_zeros (suc m) (e ∷ es) h z =
    let y : is_zero e.lots ≡ false = z 0 (omega arith) in
    rw y (ap (λ l. e ∷ l) (none_zeros m es (omega arith) (λ j l. z (suc j) (omega arith))))

-- a part of a column is that of the entries
part_of : (g : Entry → ℕ) (zs : List ℕ) (s m : ℕ) (es : List Entry) → s + m ≤ length es →
    take m (drop s (map g es ++ zs)) ≡ map g (take m (drop s es))
part_of g zs zero zero es h = refl
part_of g zs zero (suc m) [] h = absurd (omega arith)
part_of g zs zero (suc m) (e ∷ es) h = ap (λ l. g e ∷ l) (part_of g zs zero m es (omega arith))
part_of g zs (suc s) m [] h = absurd (omega arith)
part_of g zs (suc s) m (e ∷ es) h = part_of g zs s m es (omega arith)

-- one column of a ledger
pub record Swept (g : Entry → ℕ) (es pre : List Entry) (w k : ℕ) (c₀ c : List ℕ) : Type 0 where
  pub own : c₀ ≡ column g es
  pub whole : length c ≡ most_entries
  pub front : take w c ≡ map g pre
  pub back : drop k c ≡ drop k c₀

swept_starts : (g : Entry → ℕ) (es : List Entry) (k : ℕ) (c : List ℕ) → k ≤ length es → (length c ≡ most_entries) × (c ≡ column g es) →
    Swept g es (take k es) k k c c
swept_starts g es k c h p =
    record { own = p.1; whole = p.0; front = ap (take k) p.1 ∙ part_of g _ 0 k es (omega arith); back = refl }

swept_more : (g : Entry → ℕ) (es pre : List Entry) (w k e : ℕ) (c₀ c c' : List ℕ) → k < e → e ≤ length es → Swept g es pre w k c₀ c →
    Moved w (k + 1) e c c' →
    Swept g es (pre ++ take (e - (k + 1)) (drop (k + 1) es)) (w + (e - (k + 1))) e c₀ c'
swept_more g es pre w k e c₀ c c' h l s m =
    let x = e - (k + 1) in
    record {
      own = s.own;
      whole = m.whole ∙ s.whole;
      front =
          m.front
          ∙ ap (λ y. y ++ take x (drop (k + 1) c)) s.front
          ∙ ap (λ y. map g pre ++ take x y) (same_behind k c c₀ s.back (k + 1) (omega arith) ∙ ap (drop (k + 1)) s.own)
          ∙ ap (λ y. map g pre ++ y) (part_of g _ (k + 1) x es (omega arith))
          ∙ sym (map-append g pre (take x (drop (k + 1) es)));
      back = m.back ∙ same_behind k c c₀ s.back e (omega arith);
    }

-- behind the last entry the columns are 0
swept_unused : (g : Entry → ℕ) (es : List Entry) (n : ℕ) (c₀ c : List ℕ) → length es ≡ n → c₀ ≡ column g es → drop n c ≡ drop n c₀ →
    drop n c ≡ replicate (most_entries - n) 0
swept_unused g es n c₀ c l o b =
    b ∙ ap (drop n) o ∙ drop_at (map g es) (replicate (most_entries - length es) 0) n (length-map es g ∙ l)
    ∙ ap (λ m. replicate (most_entries - m) 0) l

-- the pass at place k, where an entry at 0 stands
pub record Sweep (n to k w : ℕ) (i₀ f₀ t₀ x₀ d₀ i f t x d : List ℕ) : Type 0 where
  pub pre : List Entry
  pub held : Held n i₀ f₀ t₀ x₀ d₀
  pub inside : k ≤ n
  pub end : to ≤ n
  pub keeps : w ≡ length pre
  pub behind : w ≤ k
  pub stays : without_zeros (entries n i₀ f₀ t₀ x₀ d₀) ≡ pre ++ without_zeros (drop k (entries n i₀ f₀ t₀ x₀ d₀))
  pub here : k < n → zero_at x₀ k ≡ true
  pub later : NoneIn (zero_at x₀) to n
  pub columns : EachPair (λ g c₀ c. Swept g (entries n i₀ f₀ t₀ x₀ d₀) pre w k c₀ c) i₀ f₀ t₀ x₀ d₀ i f t x d

-- none passes from place s to before e, and what stands at e passes, where it is before n
pub record Part (t : ℕ → Bool) (n s e : ℕ) : Type 0 where
  pub start : s ≤ e
  pub most : e ≤ n
  pub none : NoneIn t s e
  pub found : e < n → t e ≡ true

part_ends : (t : ℕ → Bool) (to n s : ℕ) → to ≤ n → NoneIn t to n → (o : Option ℕ) → Sought t to s o → Part t n s (unwrap_or o n)
part_ends t to n s h l (Some z) q =
    record { start = q.passed.start; most = omega (arith, q.inside); none = q.passed.none; found = λ u. q.found }
part_ends t to n s h l None q =
    record {
      start = omega (arith, q.start);
      most = omega arith;
      none = none_join t s to n q.none l;
      found = λ u. absurd (omega arith);
    }

-- the part with entries at 0 can be looked at
pub looks_starts : {n s e : ℕ} {is fs ts xs ds : List ℕ} → Removable n s e is fs ts xs ds → CanLookFor e s xs
looks_starts r = record { start = r.part; inside = omega (arith, r.inside, r.held.most, r.held.whole.lotss) }

module _ {n at to : ℕ} {is fs ts xs ds : List ℕ} (r : Removable n at to is fs ts xs ds) where
  abbrev all : List Entry
  all = entries n is fs ts xs ds

  none_first : {m : ℕ} → Passed (zero_at xs) to at m → NoneIn (zero_at xs) 0 m
  none_first {m} p = none_join (zero_at xs) 0 at m r.none_before p.none

  lots_at_lem : (j : ℕ) → j < n → is_zero (get_or all j no_entry).lots ≡ zero_at xs j
  lots_at_lem j h = ap (λ e. is_zero e.lots) (entry_at_lem n is fs ts xs ds j h)

  -- where there is none at 0 all stay
  pub none_goes : Passed (zero_at xs) to at to → Kept (without_zeros all) n is fs ts xs ds
  none_goes p =
      let l = entries_length n is fs ts xs ds in
      let none : NoneIn (zero_at xs) 0 n =
      none_join (zero_at xs) 0 to n (none_first p) r.none_behind in
      let d : drop n all ≡ [] = drop_of_length-le all {i = n} (omega arith) in
      let same : without_zeros all ≡ all =
      none_zeros n all (omega arith) (λ j h. lots_at_lem j h ∙ none j (omega arith) h)
      ∙ ap (λ l. take n all ++ without_zeros l) d
      ∙ ap (λ l. take n all ++ l) (sym d)
      ∙ take-append-drop n all in
      rw same (record { count = sym l; columns = r.held.columns })

  pub sweep_starts : {first : ℕ} → First (zero_at xs) to at first → Sweep n to first first is fs ts xs ds is fs ts xs ds
  sweep_starts {first} q =
      let l = entries_length n is fs ts xs ds in
      let b : first < to = q.inside in
      let m : first ≤ length all = omega (arith, r.inside) in
      record {
        pre = take first all;
        held = r.held;
        inside = omega (arith, r.inside);
        end = r.inside;
        keeps = omega (arith, length-take first all);
        behind = omega arith;
        stays = none_zeros first all m (λ j u. lots_at_lem j (omega (arith, r.inside)) ∙ none_first q.passed j (omega arith) u);
        here = λ u. q.found;
        later = r.none_behind;
        columns = each_stay (λ g c p. swept_starts g all first c m p) (both r.held.whole r.held.columns);
      }

module _ {n to k w : ℕ} {i₀ f₀ t₀ x₀ d₀ i f t x d : List ℕ} (s : Sweep n to k w i₀ f₀ t₀ x₀ d₀ i f t x d) where
  abbrev es : List Entry
  es = entries n i₀ f₀ t₀ x₀ d₀

  len : length es ≡ n
  len = entries_length n i₀ f₀ t₀ x₀ d₀

  -- entries at 0 stand before place `to`
  before_end : k < n → k < to
  before_end h =
      by_test (leb to k)
      (λ y. absurd (false≢true (sym (s.later k (leb-true to k y) h) ∙ s.here h)))
      (λ y. omega (arith, leb-false to k y))

  pub sweep_looks : k < n → CanLookFor to (k + 1) x
  sweep_looks h =
      record {
        start = omega (arith, before_end h);
        inside = omega (arith, s.columns.lotss.whole, s.end, s.held.most);
      }

  -- behind place k the column of lots is as it was
  lots_same : (j : ℕ) → k ≤ j → zero_at x j ≡ zero_at x₀ j
  lots_same j u = ap is_zero (same_at 0 k x x₀ s.columns.lotss.back j u)

  pub sweep_ends_at : k < n → (o : Option ℕ) → Sought (zero_at x) to (k + 1) o → Part (zero_at x) n (k + 1) (unwrap_or o n)
  sweep_ends_at h o q =
      part_ends (zero_at x) to n (k + 1) s.end
      (λ j u v. lots_same j (omega (arith, before_end h)) ∙ s.later j u v) o q

  module _ {e : ℕ} (h : k < n) (q : Part (zero_at x) n (k + 1) e) where
    pub end_inside : (k < e) × (e ≤ n)
    end_inside = (omega (arith, q.start), q.most)

    none_part : NoneIn (zero_at x₀) (k + 1) e
    none_part j u v = sym (lots_same j (omega arith)) ∙ q.none j u v

    found_next : e < n → zero_at x₀ e ≡ true
    found_next u = sym (lots_same e (omega (arith, end_inside.0))) ∙ q.found u

    pub sweep_can : CanMoveAll w (k + 1) e i f t x d
    sweep_can =
        each_after
        (λ g c₀ c p.
        record {
          up = omega (arith, s.behind);
          part = omega (arith, end_inside.0);
          inside = omega (arith, end_inside.1, p.whole, s.held.most);
        })
        s.columns

    abbrev part : List Entry
    part = take (e - (k + 1)) (drop (k + 1) es)

    part_length : length part ≡ e - (k + 1)
    part_length = length-take (e - (k + 1)) (drop (k + 1) es) ∙ omega (arith, length-drop (k + 1) es, len, end_inside.1)

    part_stays : without_zeros (drop k es) ≡ part ++ without_zeros (drop e es)
    part_stays =
        let a : is_zero (get_or es k no_entry).lots ≡ true =
        ap (λ d. is_zero d.lots) (entry_at_lem n i₀ f₀ t₀ x₀ d₀ k h) ∙ s.here h in
        let b : k + 1 + (e - (k + 1)) ≡ e = omega (arith, end_inside.0) in
        ap without_zeros (drop-cons es k no_entry (omega (arith, len)) ∙ ap (λ j. get_or es k no_entry ∷ drop j es) (sym (add-one k)))
        ∙ rw a
        (none_zeros (e - (k + 1)) (drop (k + 1) es) (omega (arith, length-drop (k + 1) es, len, end_inside.1))
        (λ j u.
        ap (λ d. is_zero d.lots) (get_or-drop (k + 1) es j no_entry ∙ entry_at_lem n i₀ f₀ t₀ x₀ d₀ (k + 1 + j) (omega (arith, end_inside.1)))
        ∙ none_part (k + 1 + j) (omega arith) (omega arith))
        ∙ ap (λ l. part ++ without_zeros l) (drop-drop (e - (k + 1)) (k + 1) es ∙ ap (λ j. drop j es) b))

    pub sweep_more : {i' f' t' x' d' : List ℕ} → MovedAll w (k + 1) e i f t x d i' f' t' x' d' →
        Sweep n to e (w + (e - (k + 1))) i₀ f₀ t₀ x₀ d₀ i' f' t' x' d'
    sweep_more m =
        record {
          pre = s.pre ++ part;
          held = s.held;
          inside = end_inside.1;
          end = s.end;
          keeps = omega (arith, s.keeps, length-append s.pre part, part_length);
          behind = omega (arith, s.behind, end_inside.0);
          stays =
              s.stays
              ∙ ap (λ l. s.pre ++ l) part_stays
              ∙ sym (append_assoc s.pre part (without_zeros (drop e es)));
          here = found_next;
          later = s.later;
          columns =
              each_then
              (λ g c₀ c c' p y. swept_more g es s.pre w k e c₀ c c' end_inside.0 (omega (arith, len, end_inside.1)) p y)
              s.columns
              m;
        }

  pub sweep_unused : n ≤ k → (w ≤ n) × Unused n i f t x d
  sweep_unused h =
      let e : k ≡ n = omega (arith, s.inside) in (
        omega (arith, s.behind),
        record {
          most = s.held.most;
          whole = each_after (λ g c₀ c p. p.whole) s.columns;
          zeros = each_after (λ g c₀ c p. swept_unused g es n c₀ c len p.own (rw e at p.back)) s.columns;
        },
      )

  pub sweep_ends : n ≤ k → {i' f' t' x' d' : List ℕ} → Cleared w i f t x d i' f' t' x' d' → Kept (without_zeros es) w i' f' t' x' d'
  sweep_ends h c =
      let v : without_zeros es ≡ s.pre = s.stays ∙ ap (λ l. s.pre ++ without_zeros l) (drop_of_length-le es {i = k} (omega (arith, len))) ∙ append-nil s.pre in
      rw v (record {
        count = s.keeps;
        columns =
            each_after
            (λ g c₀ c' p. p)
            (each_then
            {Q = λ g c₀ c'. c' ≡ column g s.pre}
            (λ g c₀ c₁ c' p e.
            e ∙ ap (λ y. y ++ replicate (most_entries - w) 0) p.front
            ∙ ap (λ j. map g s.pre ++ replicate (most_entries - j) 0) s.keeps)
            s.columns
            c);
      })
