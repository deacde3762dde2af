-- Entries met one by one where they stand. What the definition makes of the whole ledger is what it makes of
-- the ledger now, from place k on.
use mathlib.Core.Path.{◌≡◌, refl, sym, ap, ◌∙◌, subst}
use mathlib.Core.Bool.{Bool, true, false, cond}
use mathlib.Core.List.{List, [], ◌∷◌, ◌++◌, map}
use Prim.Native.Nat.{ℕ, zero, suc, ◌+◌, ◌-◌, ◌*◌, ◌≤◌, ◌<◌}
use native.Mathlib.Numerals.{add-one}
use native.Mathlib.Omega.{arith}
use lib.Dec.{leb}
use lib.ListN.{length, get_or, set, drop, length-map, length-drop}
use lib.Seq.{sets, length-sets, sets-eq, get_or-drop, get_or-set_other}
use borrow.Author.Tests.{ne_eqb, leb-true, leb-false}
use Rattle.rules.specs.declared.Entry.{Entry}
use Rattle.rules.specs.Measures.{output_words}
use Rattle.rules.specs.Ledger.{put_entry, is_from, met_by, meet, met}
use Rattle.rules.specs.Book.{is_zero, entries, entry_sound}
use Rattle.rules.specs.Records.{record_of, words, over}
use Rattle.laws.proofs.Basics.{by_test, Every, each_map, each_at}
use Rattle.laws.proofs.Sound.{SoundEntry, all_each, entry_parts, parts_entry}
use Rattle.laws.proofs.Ledger.{no_entry, entry_at_lem}
use Rattle.laws.proofs.Meeting.{with_lots, length_put_entry, length_met}
use Rattle.words.proofs.Output.{words_length}
use Rattle.ledger.specs.Columns.{entry_at, Held, Kept, without_zeros}
use Rattle.ledger.proofs.Entries.{entries_length}
use Rattle.ledger.proofs.Zeros.{put_zeros}
use Rattle.ledger.proofs.Lots.{lots_at, entries_lots, held_lots}
use Rattle.seeking.specs.Places.{is_at, NoneIn, Passed}
use Rattle.removing.specs.Moves.{zero_at, Removable}
use Rattle.meeting.specs.declared.Met.{Met}
use Rattle.meeting.specs.Meeting.{alone, CanMeet, WasMet}
use Rattle.resolution.specs.Resolving.{Resolvable, Resolved}
use Rattle.meeting.proofs.Recording.{recorded_more}

module _ (p : Entry → Bool) where
  -- each entry with its lots less what meets it, those before place k as they are
  abbrev pub met_from : ℕ → ℕ → List Entry → List Entry
  met_from k x [] = []
  met_from zero x (e ∷ es) = with_lots e (e.lots - met_by p x e) ∷ met_from zero (x - met_by p x e) es
  met_from (suc k) x (e ∷ es) = e ∷ met_from k x es

  -- without those at 0 it is what is left of the ledger
  meet_zeros : (x : ℕ) (es : List Entry) → meet p x es ≡ without_zeros (met_from 0 x es)
  meet_zeros x [] = refl
  meet_zeros x (e ∷ es) =
      let y = e.lots - met_by p x e in
      put_zeros e y (meet p (x - met_by p x e) es)
      ∙ ap (λ l. cond (is_zero y) l (with_lots e y ∷ l)) (meet_zeros (x - met_by p x e) es)

  -- the entry at place k met, what is left and what is met
  meets_turn : (k x : ℕ) (es : List Entry) → k < length es →
      let e = get_or es k no_entry in
      met_from k x es ≡ met_from (suc k) (x - met_by p x e) (lots_at k (e.lots - met_by p x e) es)
  meets_turn k x [] h = absurd (omega arith)
  meets_turn zero x (e ∷ es) h = refl
  meets_turn (suc k) x (e ∷ es) h = ap (λ l. e ∷ l) (meets_turn k x es (omega arith))

  mets_turn : (k x y : ℕ) (es : List Entry) → k < length es →
      let e = get_or es k no_entry in
      met p x (drop k es) ≡ put_entry e (met_by p x e) (met p (x - met_by p x e) (drop (suc k) (lots_at k y es)))
  mets_turn k x y [] h = absurd (omega arith)
  mets_turn zero x y (e ∷ es) h = refl
  mets_turn (suc k) x y (e ∷ es) h = mets_turn k x y es (omega arith)

  -- an entry that nothing meets
  meets_pass : (k x : ℕ) (es : List Entry) → k < length es → p (get_or es k no_entry) ≡ false → met_from k x es ≡ met_from (suc k) x es
  meets_pass k x [] h z = absurd (omega arith)
  meets_pass zero x (e ∷ es) h z =
      let l : e.lots - 0 ≡ e.lots = omega arith in
      let y : x - 0 ≡ x = omega arith in
      rw (z, l, y)
  meets_pass (suc k) x (e ∷ es) h z = ap (λ l. e ∷ l) (meets_pass k x es (omega arith) z)

  mets_pass : (k x : ℕ) (es : List Entry) → k < length es → p (get_or es k no_entry) ≡ false → met p x (drop k es) ≡ met p x (drop (suc k) es)
  mets_pass k x [] h z = absurd (omega arith)
  mets_pass zero x (e ∷ es) h z = let y : x - 0 ≡ x = omega arith in rw (z, y)
  mets_pass (suc k) x (e ∷ es) h z = mets_pass k x es (omega arith) z

  -- behind the last entry
  meets_ends : (k x : ℕ) (es : List Entry) → length es ≤ k → met_from k x es ≡ es
  meets_ends k x [] h = refl
  meets_ends zero x (e ∷ es) h = absurd (omega arith)
  meets_ends (suc k) x (e ∷ es) h = ap (λ l. e ∷ l) (meets_ends k x es (omega arith))

  mets_ends : (k x : ℕ) (es : List Entry) → length es ≤ k → met p x (drop k es) ≡ []
  mets_ends zero x [] h = refl
  mets_ends (suc k) x [] h = refl
  mets_ends zero x (e ∷ es) h = absurd (omega arith)
  mets_ends (suc k) x (e ∷ es) h = mets_ends k x es (omega arith)

-- where no lots are left nothing is met
module _ (p : Entry → Bool) where
  none_by : (e : Entry) → met_by p 0 e ≡ 0
  none_by e = by_test (p e) (λ q. simp q (omega arith)) (λ q. simp q)

  own_lots : (e : Entry) → with_lots e (e.lots - 0) ≡ e
  own_lots e = let z : e.lots - 0 ≡ e.lots = omega arith in rw z

  meets_none : (k : ℕ) (es : List Entry) → met_from p k 0 es ≡ es
  meets_none k [] = refl
  meets_none zero (e ∷ es) = rw (none_by e, own_lots e, meets_none zero es)
  meets_none (suc k) (e ∷ es) = ap (λ l. e ∷ l) (meets_none k es)

  mets_none : (es : List Entry) → met p 0 es ≡ []
  mets_none [] = refl
  mets_none (e ∷ es) = rw (none_by e) (mets_none es)

-- entries from place k on are sound: the one there, and those behind it
sound_here : (k : ℕ) (es : List Entry) → k < length es → Every SoundEntry (drop k es) → SoundEntry (get_or es k no_entry)
sound_here k [] h ss = absurd (omega arith)
sound_here zero (e ∷ es) h ss = ss.0
sound_here (suc k) (e ∷ es) h ss = sound_here k es (omega arith) ss

sound_after : (k : ℕ) (es : List Entry) → Every SoundEntry (drop k es) → Every SoundEntry (drop (suc k) es)
sound_after k [] ss = tt
sound_after zero (e ∷ es) ss = ss.1
sound_after (suc k) (e ∷ es) ss = sound_after k es ss

sound_behind : (k y : ℕ) (es : List Entry) → Every SoundEntry (drop k es) → Every SoundEntry (drop (suc k) (lots_at k y es))
sound_behind k y [] ss = tt
sound_behind zero y (e ∷ es) ss = ss.1
sound_behind (suc k) y (e ∷ es) ss = sound_behind k y es ss

-- the pass at place k: r records are written, x lots are left
pub record Meets (i a x₀ : ℕ) (es₀ : List Entry) (n k r x : ℕ) (is fs ts xs ds o₀ o : List ℕ) : Type 0 where
  pub held : Held n is fs ts xs ds
  pub some : k ≤ n
  pub few : r ≤ k
  pub room : output_words ≤ length o
  pub same : length o ≡ length o₀
  pub sound : Every SoundEntry (drop k (entries n is fs ts xs ds))
  pub meets : meet (is_from i a) x₀ es₀ ≡ without_zeros (met_from (is_from i a) k x (entries n is fs ts xs ds))
  pub mets : length (met (is_from i a) x₀ es₀) ≡ r + length (met (is_from i a) x (drop k (entries n is fs ts xs ds)))
  pub written :
      over (words (map (record_of 11) (met (is_from i a) x₀ es₀))) o₀
      ≡ sets o (2 * r) (words (map (record_of 11) (met (is_from i a) x (drop k (entries n is fs ts xs ds)))))

pub meets_starts : (i a x n : ℕ) (is fs ts xs ds o : List ℕ) → Resolvable n is fs ts xs ds o →
    Meets i a x (entries n is fs ts xs ds) n 0 0 x is fs ts xs ds o o
meets_starts i a x n is fs ts xs ds o h =
    let es = entries n is fs ts xs ds in
    let ms = met (is_from i a) x es in
    let rs = map (record_of 11) ms in
    let l = words_length rs in
    record {
      held = h.held;
      some = omega arith;
      few = omega arith;
      room = h.room;
      same = refl;
      sound = each_map (λ e. entry_sound e ≡ true) SoundEntry entry_parts es (all_each entry_sound es h.sound);
      meets = meet_zeros (is_from i a) x es;
      mets = omega arith;
      written =
          let z : 0 + length (words rs) ≡ length (words rs) = omega arith in
          sym (sets-eq (words rs) o 0
          (omega (arith, length-map ms (record_of 11), length_met (is_from i a) x es, entries_length n is fs ts xs ds, h.held.most, h.room))
          ∙ ap (λ m. words rs ++ drop m o) z);
    }

module _ {i a x₀ : ℕ} {es₀ : List Entry} {n k r x : ℕ} {is fs ts xs ds o₀ o : List ℕ}
    (s : Meets i a x₀ es₀ n k r x is fs ts xs ds o₀ o) where
  abbrev es : List Entry
  es = entries n is fs ts xs ds

  module _ (h : k < n) where
    inside : k < length es
    inside = omega (arith, entries_length n is fs ts xs ds)

    here : get_or es k no_entry ≡ entry_at k is fs ts xs ds
    here = entry_at_lem n is fs ts xs ds k h

    pub meets_can : {e : Entry} → e ≡ entry_at k is fs ts xs ds → CanMeet k e r xs o
    meets_can q =
        record {
          place = omega (arith, s.held.most, s.held.whole.lotss);
          here = ap (λ d. d.lots) q;
          room = omega (arith, s.few, s.held.most, s.room);
          sound = ap entry_sound (q ∙ sym here) ∙ parts_entry (get_or es k no_entry) (sound_here k es inside s.sound);
        }

    -- one entry further
    pub meets_more : {d : Entry} → d ≡ entry_at k is fs ts xs ds → {t : Met} {xs' o' : List ℕ} → WasMet i a x k r t d xs xs' o o' →
        Meets i a x₀ es₀ n (k + 1) t.records t.left is fs ts xs' ds o₀ o'
    meets_more q₀ {t} {xs'} {o'} w₀ =
        let p = is_from i a in
        let e = get_or es k no_entry in
        let m = met_by p x e in
        let y = e.lots - m in
        let w : WasMet i a x k r t e xs xs' o o' = subst (λ d. WasMet i a x k r t d xs xs' o o') (q₀ ∙ sym here) w₀ in
        let v : xs' ≡ set xs k y = w.lots ∙ ap (λ z. set xs k (z - m)) (sym (ap (λ d. d.lots) here)) in
        let q : entries n is fs ts xs' ds ≡ lots_at k y es =
        ap (λ z. entries n is fs ts z ds) v ∙ entries_lots n k y is fs ts xs ds (omega (arith, s.held.whole.lotss, s.held.most)) in
        let c = mets_turn p k x y es inside in
        let same : length o' ≡ length o = ap length w.met.out ∙ length-sets o (2 * r) (words (map (record_of 11) (alone e m))) in
        rw (add-one k, w.left)
        (record {
          held = rw v (held_lots n k y is fs ts xs ds h s.held);
          some = omega arith;
          few = omega (arith, w.met.next, length_put_entry e m [], s.few);
          room = omega (arith, s.room);
          same = same ∙ s.same;
          sound = rw q (sound_behind k y es s.sound);
          meets = rw q (s.meets ∙ ap without_zeros (meets_turn p k x es inside));
          mets =
              rw q (omega (
                arith,
                s.mets,
                ap length c,
                length_put_entry e m (met p (x - m) (drop (suc k) (lots_at k y es))),
                w.met.next,
                length_put_entry e m [],
              ));
          written =
              rw q (s.written
              ∙ ap (λ l. sets o (2 * r) (words (map (record_of 11) l))) c
              ∙ recorded_more e m r t.records (met p (x - m) (drop (suc k) (lots_at k y es))) o o' w.met);
        })

    -- one entry further that is not of the issue and the account
    meets_next : is_at is fs i a k ≡ false → Meets i a x₀ es₀ n (suc k) r x is fs ts xs ds o₀ o
    meets_next z =
        let p = is_from i a in
        let q : p (get_or es k no_entry) ≡ false = ap p here ∙ z in
        let c = mets_pass p k x es inside q in
        record {
          held = s.held;
          some = omega arith;
          few = omega (arith, s.few);
          room = s.room;
          same = s.same;
          sound = sound_after k es s.sound;
          meets = s.meets ∙ ap without_zeros (meets_pass p k x es inside q);
          mets = s.mets ∙ ap (λ l. r + length l) c;
          written = s.written ∙ ap (λ l. sets o (2 * r) (words (map (record_of 11) l))) c;
        }

  -- the ledger without entries at 0, where no more is met
  ended : met_from (is_from i a) k x es ≡ es → met (is_from i a) x (drop k es) ≡ [] → {w : ℕ} {is' fs' ts' xs' ds' : List ℕ} →
      Kept (without_zeros es) w is' fs' ts' xs' ds' →
      Resolved es₀ i a x₀ (record { entries = w; records = r }) is' fs' ts' xs' ds' o₀ o
  ended e c q =
      let p = is_from i a in
      let m : meet p x₀ es₀ ≡ without_zeros es = s.meets ∙ ap without_zeros e in
      record {
        entries = q.count ∙ ap length (sym m);
        columns = rw m q.columns;
        records = omega (arith, s.mets, ap length c, length-map (met p x₀ es₀) (record_of 11));
        written = sym (s.written ∙ ap (λ y. sets o (2 * r) (words (map (record_of 11) y))) c);
      }

  -- where the lots are used up, or behind the last entry
  pub meets_spent : x ≡ 0 → {w : ℕ} {is' fs' ts' xs' ds' : List ℕ} → Kept (without_zeros es) w is' fs' ts' xs' ds' →
      Resolved es₀ i a x₀ (record { entries = w; records = r }) is' fs' ts' xs' ds' o₀ o
  meets_spent z q =
      let p = is_from i a in
      ended (rw z (meets_none p k es)) (rw z (mets_none p (drop k es))) q

  meets_over_all : n ≤ k → {w : ℕ} {is' fs' ts' xs' ds' : List ℕ} → Kept (without_zeros es) w is' fs' ts' xs' ds' →
      Resolved es₀ i a x₀ (record { entries = w; records = r }) is' fs' ts' xs' ds' o₀ o
  meets_over_all h q =
      let p = is_from i a in
      let l : length es ≤ k = omega (arith, entries_length n is fs ts xs ds) in
      ended (meets_ends p k x es l) (mets_ends p k x es l) q

-- the entries up to the next of the issue and the account
meets_over : {i a x₀ : ℕ} {es₀ : List Entry} {n k r x : ℕ} {is fs ts xs ds o₀ o : List ℕ} → Meets i a x₀ es₀ n k r x is fs ts xs ds o₀ o →
    (m : ℕ) → k ≤ m → m ≤ n → NoneIn (is_at is fs i a) k m → Meets i a x₀ es₀ n m r x is fs ts xs ds o₀ o
meets_over {k = k} s zero h l z = let e : k ≡ 0 = omega arith in rw e at s
meets_over {k = k} s (suc m) h l z =
    by_test (leb (suc m) k)
    (λ y. let e : k ≡ suc m = omega (arith, leb-true (suc m) k y) in rw e at s)
    (λ y.
    let b : k ≤ m = omega (arith, leb-false (suc m) k y) in
    meets_next (meets_over s m b (omega arith) (λ j u v. z j u (omega arith))) (omega arith) (z m b (omega arith)))

pub meets_skip : {i a x₀ : ℕ} {es₀ : List Entry} {n k m r x : ℕ} {is fs ts xs ds o₀ o : List ℕ} → Passed (is_at is fs i a) n k m →
    Meets i a x₀ es₀ n k r x is fs ts xs ds o₀ o → Meets i a x₀ es₀ n m r x is fs ts xs ds o₀ o
meets_skip {m = m} p s = meets_over s m p.start p.most p.none

-- where there is no entry more of the issue and the account
pub meets_last : {i a x₀ : ℕ} {es₀ : List Entry} {n k r x : ℕ} {is fs ts xs ds o₀ o : List ℕ} → Passed (is_at is fs i a) n k n →
    Meets i a x₀ es₀ n k r x is fs ts xs ds o₀ o → {w : ℕ} {is' fs' ts' xs' ds' : List ℕ} →
    Kept (without_zeros (entries n is fs ts xs ds)) w is' fs' ts' xs' ds' →
    Resolved es₀ i a x₀ (record { entries = w; records = r }) is' fs' ts' xs' ds' o₀ o
meets_last p s q = meets_over_all (meets_skip p s) (omega arith) q

-- entries from place k on are not at 0 where they are sound
none_from : (k n : ℕ) (is fs ts xs ds : List ℕ) → k ≤ n → Every SoundEntry (drop k (entries n is fs ts xs ds)) → NoneIn (zero_at xs) k n
none_from k n is fs ts xs ds m ss j h l =
    let es = entries n is fs ts xs ds in
    let z : k + (j - k) ≡ j = omega arith in
    let e : get_or (drop k es) (j - k) no_entry ≡ entry_at j is fs ts xs ds =
    get_or-drop k es (j - k) no_entry ∙ ap (λ y. get_or es y no_entry) z ∙ entry_at_lem n is fs ts xs ds j l in
    let s = each_at SoundEntry (drop k es) no_entry (j - k) ss (omega (arith, length-drop k es, entries_length n is fs ts xs ds)) in
    ne_eqb (get_or xs j 0) 0 (λ y. omega (arith, s.some, ap (λ d. d.lots) e))

-- entries before the first that is met stay as they were
pub record Front (first k : ℕ) (xs : List ℕ) : Type 0 where
  pub start : first ≤ k
  pub none : NoneIn (zero_at xs) 0 first

pub front_starts : {i a x₀ : ℕ} {es₀ : List Entry} {n r x : ℕ} {is fs ts xs ds o₀ o : List ℕ} →
    Meets i a x₀ es₀ n 0 r x is fs ts xs ds o₀ o → (m : ℕ) → m ≤ n → Front m m xs
front_starts {n = n} {is = is} {fs = fs} {ts = ts} {xs = xs} {ds = ds} s m p =
    record {
      start = omega arith;
      none = λ j h l. none_from 0 n is fs ts xs ds (omega arith) s.sound j h (omega arith);
    }

pub front_more : {i a x k r : ℕ} {t : Met} {e : Entry} {first m : ℕ} {xs xs' o o' : List ℕ} → Front first k xs →
    WasMet i a x k r t e xs xs' o o' → k + 1 ≤ m → Front first m xs'
front_more {i} {a} {x} {k} {r} {t} {e} {first} {m} {xs} f w p =
    record {
      start = omega (arith, f.start);
      none =
          λ j h l.
          ap (λ y. is_zero (get_or y j 0)) w.lots
          ∙ ap is_zero (get_or-set_other xs k j (get_or xs k 0 - met_by (is_from i a) x e) 0 (λ q. omega (arith, f.start)))
          ∙ f.none j h l;
    }

pub meets_removable : {i a x₀ : ℕ} {es₀ : List Entry} {n k r x first : ℕ} {is fs ts xs ds o₀ o : List ℕ} →
    Meets i a x₀ es₀ n k r x is fs ts xs ds o₀ o → Front first k xs → Removable n first k is fs ts xs ds
meets_removable {n = n} {k = k} {is = is} {fs = fs} {ts = ts} {xs = xs} {ds = ds} s f =
    record {
      held = s.held;
      part = f.start;
      inside = s.some;
      none_before = f.none;
      none_behind = none_from k n is fs ts xs ds s.some s.sound;
    }
