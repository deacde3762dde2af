-- What is saved is opened again, the same book; what is opened is sound and saves to the same words; words of another
-- number, with one word changed, with two unlike words exchanged or with words lowered are not opened.
use Rattle.std.specs.Prelude.{Ok, Err}
use mathlib.Core.Path.{◌≡◌, refl, sym, ap, ◌∙◌, subst}
use mathlib.Core.Bool.{Bool, true, false, ◌&&◌, false≢true}
use mathlib.Core.List.{List, [], ◌∷◌, map}
use Prim.Native.Nat.{ℕ, zero, suc, ◌*◌, ◌≤◌, ◌<◌, ◌/◌, ◌%◌}
use native.Mathlib.Omega.{arith}
use borrow.Author.Tests.{ltb-true, lt-ltb, eqb-true, eq-eqb, ne_eqb}
use lib.Dec.{eqb}
use lib.ListN.{length, get_or, set, take, drop, length-drop, length-map}
use lib.Seq.{get_or-take, get_or-drop}
use Rattle.rules.specs.declared.Book.{Book}
use Rattle.rules.specs.declared.Phase.{Phase}
use Rattle.rules.specs.declared.Phase.TheVariants.{Taking, Settling, Cut}
use Rattle.rules.specs.Measures.{sum}
use Rattle.rules.specs.Book.{all, sound, fresh}
use Rattle.rules.specs.Questions.{first_no}
use Rattle.laws.proofs.Basics.{and_left, and_right, and_both, all_at}
use Rattle.laws.proofs.Answers.{AllYes, all_yes, stops, no_no}
use Rattle.laws.proofs.Called.{fresh_sound}
use Rattle.checksums.specs.Sums.{word_size, below, weighted, exchanged, Under}
use Rattle.checksums.proofs.Bounds.{all_drop, weighted_fits, sum_size}
use Rattle.snapshots.specs.Words.{phase_word, signed_word, signed_in, long_words, fits32, issue_in, from_in, to_in, day_in, entry_word, entry_words, joined, parted}
use Rattle.snapshots.specs.Snapshot.{version, seal, widths, snapshot_words, columns_of, book_from, saved, fitting, columns_in, book_in, seal_questions, questions, Opened, answer, opened, Typed}
use Rattle.snapshots.proofs.Seals.{sealed_set, sealed_exchanged, seal_under}
use Rattle.snapshots.proofs.Words.{phase_back, phase_word_lem, signed_back, signed_word_lem, signed_below, map_back, all_map, longs_back, longs_length, longs_below, longs_words, joined_parted, parted_joined, length_joined, all_joined, parted_lengths, all_parted, FieldsBack, fields_back, entries_length, column_back, entries_below, entries_words}
use Rattle.snapshots.proofs.Ranges.{Ranged, ranges}

-- Answers

book_or : Book → Opened → Book
book_or b (Err n) = b
book_or b (Ok c) = c

is_book : Opened → Bool
is_book (Err n) = false
is_book (Ok c) = true

answered : (n : ℕ) (a b : Book) → answer n a ≡ Ok b → (n ≡ 0) × (a ≡ b)
unfolding book_or is_book
answered zero a b e = (refl, ap (book_or a) e)
answered (suc n) a b e = absurd (false≢true (ap is_book e))

-- What words that are opened have

pub record Whole (ws : List ℕ) : Type 0 where
  pub long : length ws ≡ snapshot_words
  pub words : all (below word_size) ws ≡ true
  pub kind : get_or ws 0 0 ≡ version
  pub low : get_or ws 1 0 ≡ weighted (drop 3 ws) % word_size
  pub high : get_or ws 2 0 ≡ weighted (drop 3 ws) / word_size
  pub phase : get_or ws 4 0 < 3
  pub firm : sound (book_in ws) ≡ true

whole_of : (ws : List ℕ) → AllYes (questions ws) → Whole ws
unfolding seal_questions questions fitting
whole_of ws y =
    let n = eqb (length ws) snapshot_words in
    let l = eqb (get_or ws 1 0) (weighted (drop 3 ws) % word_size) in
    let h = eqb (get_or ws 2 0) (weighted (drop 3 ws) / word_size) in
    record {
      long = eqb-true (length ws) snapshot_words (and_left n (all (below word_size) ws) y.0);
      words = and_right n (all (below word_size) ws) y.0;
      kind = eqb-true (get_or ws 0 0) version y.1.0;
      low = eqb-true (get_or ws 1 0) (weighted (drop 3 ws) % word_size) (and_left l h y.1.1.0);
      high = eqb-true (get_or ws 2 0) (weighted (drop 3 ws) / word_size) (and_right l h y.1.1.0);
      phase = ltb-true (get_or ws 4 0) 3 (and_right (all (below 256) (book_in ws).state.marks && below 65536 (book_in ws).state.day) (below 3 (get_or ws 4 0)) y.1.1.1.0);
      firm = y.1.1.1.1.0;
    }

opened_as : (ws : List ℕ) (b : Book) → opened ws ≡ Ok b → Whole ws × (book_in ws ≡ b)
unfolding opened seal_questions questions
opened_as ws b e =
    let a = answered (first_no (questions ws)) (book_in ws) b e in
    (whole_of ws (all_yes (questions ws) (omega arith, (omega arith, (omega arith, (omega arith, (omega arith, tt))))) a.0), a.1)

-- the words are sealed
whole_sealed : (ws : List ℕ) → 3 ≤ length ws → get_or ws 0 0 ≡ version → get_or ws 1 0 ≡ weighted (drop 3 ws) % word_size →
    get_or ws 2 0 ≡ weighted (drop 3 ws) / word_size → seal (drop 3 ws) ≡ ws
whole_sealed [] n k l h = absurd (omega arith)
whole_sealed (x ∷ []) n k l h = absurd (omega arith)
whole_sealed (x ∷ y ∷ []) n k l h = absurd (omega arith)
whole_sealed (x ∷ y ∷ z ∷ ws) n k l h = rw (← k, ← l, ← h)

-- and their columns are those of their book
columns_from : (c0 c1 c2 c3 c4 c5 c6 c7 : List ℕ) → length c0 ≡ 4 → get_or c0 1 0 < 3 → all (below word_size) c2 ≡ true →
    length c5 ≡ 128 → all (below word_size) c5 ≡ true → all (below word_size) c6 ≡ true →
    columns_of (book_from (c0 ∷ c1 ∷ c2 ∷ c3 ∷ c4 ∷ c5 ∷ c6 ∷ c7 ∷ [])) ≡ c0 ∷ c1 ∷ c2 ∷ c3 ∷ c4 ∷ c5 ∷ c6 ∷ c7 ∷ []
columns_from [] c1 c2 c3 c4 c5 c6 c7 n p a m b e = absurd (omega arith)
columns_from (x ∷ []) c1 c2 c3 c4 c5 c6 c7 n p a m b e = absurd (omega arith)
columns_from (x ∷ y ∷ []) c1 c2 c3 c4 c5 c6 c7 n p a m b e = absurd (omega arith)
columns_from (x ∷ y ∷ z ∷ []) c1 c2 c3 c4 c5 c6 c7 n p a m b e = absurd (omega arith)
columns_from (x ∷ y ∷ z ∷ u ∷ v ∷ us) c1 c2 c3 c4 c5 c6 c7 n p a m b e = absurd (omega arith)
columns_from (x ∷ y ∷ z ∷ u ∷ []) c1 c2 c3 c4 c5 c6 c7 n p a m b e =
    rw (
      phase_word_lem y p,
      map_back signed_in signed_word (below word_size) (λ w h. signed_word_lem w (ltb-true w word_size h)) c2 a,
      longs_words 64 c5 m b,
      entries_words c6 e,
    )

columns_in_lem : (ws : List ℕ) → Whole ws → columns_of (book_in ws) ≡ columns_in ws
unfolding book_in columns_in
columns_in_lem ws w =
    let vs = drop 3 ws in
    let cs = parted widths vs in
    let n : map length cs ≡ widths = parted_lengths widths vs (omega (arith, w.long, length-drop 3 ws)) in
    let a : all (all (below word_size)) cs ≡ true = all_parted (below word_size) widths vs (all_drop (below word_size) 3 ws w.words) in
    columns_from (get_or cs 0 []) (get_or cs 1 []) (get_or cs 2 []) (get_or cs 3 []) (get_or cs 4 []) (get_or cs 5 []) (get_or cs 6 []) (get_or cs 7 [])
    (ap (λ l. get_or l 0 0) n)
    (rw (get_or-take 4 vs 1 0 (omega arith), get_or-drop 3 ws 1 0) w.phase)
    (all_at (all (below word_size)) cs [] 2 a (omega arith))
    (ap (λ l. get_or l 5 0) n)
    (all_at (all (below word_size)) cs [] 5 a (omega arith))
    (all_at (all (below word_size)) cs [] 6 a (omega arith))

whole_saved : (ws : List ℕ) → Whole ws → saved (book_in ws) ≡ ws
unfolding saved columns_in
whole_saved ws w =
    ap (λ cs. seal (joined cs)) (columns_in_lem ws w)
    ∙ ap seal (joined_parted widths (drop 3 ws) (omega (arith, w.long, length-drop 3 ws)))
    ∙ whole_sealed ws (omega (arith, w.long)) w.kind w.low w.high

-- The theorems on words that are opened

module _ (ws : List ℕ) (b : Book) (e : opened ws ≡ Ok b) where
  -- what is opened saves to the same words
  pub opened_saved : saved b ≡ ws
  opened_saved =
      let o = opened_as ws b e in
      ap saved (sym o.1) ∙ whole_saved ws o.0

  -- what is opened is sound
  pub opened_sound : sound b ≡ true
  opened_sound =
      let o = opened_as ws b e in
      ap sound (sym o.1) ∙ o.0.firm

  -- words of another length are not opened
  pub opened_length : length ws ≡ snapshot_words
  opened_length = (opened_as ws b e).0.long

module _ (ws : List ℕ) (b : Book) (e : opened ws ≡ Ok b) where
  -- with one word changed they are not opened
  pub changed_refused : (i w : ℕ) → i < length ws → (w ≡ get_or ws i 0 → ⊥) → (c : Book) → opened (set ws i w) ≡ Ok c → ⊥
  unfolding saved
  changed_refused i w h d c f =
      d
      (sealed_set (joined (columns_of b)) (joined (columns_of c)) ws (opened_saved ws b e) i w h
      (sym (opened_saved (set ws i w) c f)))

  -- with two unlike words exchanged they are not opened
  pub exchanged_refused : (i j : ℕ) → i < length ws → j < length ws → (get_or ws i 0 ≡ get_or ws j 0 → ⊥) → (c : Book) →
      opened (exchanged ws i j) ≡ Ok c → ⊥
  unfolding saved
  exchanged_refused i j h g d c f =
      d
      (sealed_exchanged (joined (columns_of b)) (joined (columns_of c)) ws (opened_saved ws b e) i j h g
      (sym (opened_saved (exchanged ws i j) c f)))

-- What is saved

more : (a b : ℕ) → a ≤ b → (xs : List ℕ) → all (below a) xs ≡ true → all (below b) xs ≡ true
more a b h [] e = refl
more a b h (x ∷ xs) e =
    and_both (below b x) (all (below b) xs)
    (lt-ltb x b (omega (arith, h, ltb-true x a (and_left (below a x) (all (below a) xs) e))))
    (more a b h xs (and_right (below a x) (all (below a) xs) e))

phase_small : (p : Phase) → phase_word p < 3
phase_small Taking = omega arith
phase_small Settling = omega arith
phase_small Cut = omega arith

module _ (b : Book) (t : Typed b) (s : sound b ≡ true) where
  ranged : Ranged b
  ranged = ranges b t s

  -- each column of the ledger is read back by its field
  entries_back : (f : ℕ → ℕ) (xs : List ℕ) → f 0 ≡ 0 → length xs ≡ 2048 →
      ((k : ℕ) → f (entry_word (get_or b.issues k 0) (get_or b.froms k 0) (get_or b.tos k 0) (get_or b.days k 0)) ≡ get_or xs k 0) →
      map f (entry_words b.issues b.froms b.tos b.days) ≡ xs
  entries_back f xs z n e = column_back b.issues b.froms b.tos b.days f xs z (n ∙ sym t.lengths.ledger.issues) e

  book_back : book_from (columns_of b) ≡ b
  book_back =
      let r = ranged in
      let q : (k : ℕ) → FieldsBack (get_or b.issues k 0) (get_or b.froms k 0) (get_or b.tos k 0) (get_or b.days k 0) =
      λ k. fields_back (get_or b.issues k 0) (get_or b.froms k 0) (get_or b.tos k 0) (get_or b.days k 0) (r.entered k) in
      rw (
        phase_back b.state.phase,
        map_back signed_word signed_in fits32 signed_back b.nets r.nets,
        longs_back b.charges r.charges,
        entries_back issue_in b.issues refl t.lengths.ledger.issues (λ k. (q k).issue),
        entries_back from_in b.froms refl t.lengths.ledger.froms (λ k. (q k).from),
        entries_back to_in b.tos refl t.lengths.ledger.tos (λ k. (q k).to),
        entries_back day_in b.days refl t.lengths.ledger.days (λ k. (q k).day),
      )

  columns_lengths : map length (columns_of b) ≡ widths
  columns_lengths =
      let c : length (long_words b.charges) ≡ 128 = omega (arith, longs_length b.charges, t.lengths.charges) in
      let n : length (map signed_word b.nets) ≡ 1024 = length-map b.nets signed_word ∙ t.lengths.cells.nets in
      let e : length (entry_words b.issues b.froms b.tos b.days) ≡ 2048 =
      entries_length b.issues b.froms b.tos b.days ∙ t.lengths.ledger.issues in
      rw (t.sixteen, n, t.lengths.cells.delivered, t.lengths.lifts, c, e, t.lengths.ledger.lots)

  columns_back : columns_in (saved b) ≡ columns_of b
  unfolding columns_in saved
  columns_back = ap (λ ns. parted ns (joined (columns_of b))) (sym columns_lengths) ∙ parted_joined (columns_of b)

  saved_book : book_in (saved b) ≡ b
  unfolding book_in
  saved_book = ap book_from columns_back ∙ book_back

  body_length : length (joined (columns_of b)) ≡ 6580
  body_length = length_joined (columns_of b) ∙ ap sum columns_lengths

  body_words : all (below word_size) (joined (columns_of b)) ≡ true
  body_words =
      let p = below word_size in
      let r = ranged in
      let d : p b.state.day ≡ true = lt-ltb b.state.day word_size (omega (arith, t.day)) in
      let f : p (phase_word b.state.phase) ≡ true =
      lt-ltb (phase_word b.state.phase) word_size (omega (arith, phase_small b.state.phase)) in
      let n : p b.state.entries ≡ true = lt-ltb b.state.entries word_size r.count in
      let u : p b.state.turn ≡ true = lt-ltb b.state.turn word_size t.turn in
      all_joined p (columns_of b)
      (rw (
        d,
        f,
        n,
        u,
        more 256 word_size (omega arith) b.state.marks t.marks,
        all_map signed_word fits32 p (λ z h. lt-ltb (signed_word z) word_size (signed_below z h)) b.nets r.nets,
        r.delivered,
        t.lifts,
        longs_below b.charges r.charges,
        entries_below b.issues b.froms b.tos b.days r.entered,
        r.lots,
      ))

  saved_words : all (below word_size) (saved b) ≡ true
  unfolding saved
  saved_words =
      let p = below word_size in
      let body = joined (columns_of b) in
      let w : weighted body ≤ sum_size * length body = weighted_fits body body_words (omega (arith, body_length)) in
      let l : p (weighted body % word_size) ≡ true = lt-ltb (weighted body % word_size) word_size (omega arith) in
      let h : p (weighted body / word_size) ≡ true = lt-ltb (weighted body / word_size) word_size (omega (arith, w, body_length)) in
      rw (l, h, body_words)

  -- a snapshot has so many words
  pub saved_long : length (saved b) ≡ snapshot_words
  unfolding saved
  saved_long = omega (arith, body_length)

  saved_fits : fitting b (phase_word b.state.phase) ≡ true
  unfolding fitting
  saved_fits =
      rw (t.marks, lt-ltb b.state.day 65536 t.day, lt-ltb (phase_word b.state.phase) 3 (phase_small b.state.phase))

  saved_phase : get_or (saved b) 4 0 ≡ phase_word b.state.phase
  unfolding saved
  saved_phase = refl

  saved_yes : AllYes (questions (saved b))
  unfolding seal_questions questions saved
  saved_yes =
      let body = joined (columns_of b) in (
        and_both (eqb (length (saved b)) snapshot_words) (all (below word_size) (saved b))
            (eq-eqb (length (saved b)) snapshot_words saved_long) saved_words,
        (
          eq-eqb version version refl,
          (
            and_both (eqb (weighted body % word_size) (weighted body % word_size)) (eqb (weighted body / word_size) (weighted body / word_size))
                (eq-eqb (weighted body % word_size) (weighted body % word_size) refl)
                (eq-eqb (weighted body / word_size) (weighted body / word_size) refl),
            (rw saved_book saved_fits, (ap sound saved_book ∙ s, tt)),
          ),
        ),
      )

  -- what is saved is opened again, the same book
  pub saved_opened : opened (saved b) ≡ Ok b
  unfolding opened
  saved_opened =
      ap (λ n. answer n (book_in (saved b))) (sym (no_no (questions (saved b)) saved_yes)) ∙ ap Ok saved_book

-- Words lost: with any words of the body lowered, and the first three as they were, they are not opened
module _ (ws vs : List ℕ) (b c : Book) (e : opened ws ≡ Ok b) (f : opened vs ≡ Ok c) where
  lowered_same : Under (drop 3 vs) (drop 3 ws) → take 3 vs ≡ take 3 ws → vs ≡ ws
  unfolding saved
  lowered_same u k =
      let p = joined (columns_of b) in
      let q = joined (columns_of c) in
      let s : seal p ≡ ws = opened_saved ws b e in
      let t : seal q ≡ vs = opened_saved vs c f in
      let h : take 3 (seal q) ≡ take 3 (seal p) = ap (take 3) t ∙ k ∙ ap (take 3) (sym s) in
      let d : q ≡ p =
      seal_under p q (subst (λ (x : List ℕ). Under (drop 3 x) p) (sym t) (subst (λ (x : List ℕ). Under (drop 3 vs) (drop 3 x)) (sym s) u))
      (ap (λ x. get_or x 1 0) h) (ap (λ x. get_or x 2 0) h) in
      sym t ∙ ap seal d ∙ s

pub lowered_refused : (ws : List ℕ) (b : Book) → opened ws ≡ Ok b → (vs : List ℕ) → Under (drop 3 vs) (drop 3 ws) → take 3 vs ≡ take 3 ws →
    (vs ≡ ws → ⊥) → (c : Book) → opened vs ≡ Ok c → ⊥
lowered_refused ws b e vs u k d c f = d (lowered_same ws vs b c e f u k)

-- Words lacking or too many: they are refused by 1
pub length_refused : (ws : List ℕ) → (length ws ≡ snapshot_words → ⊥) → opened ws ≡ Err 1
unfolding opened seal_questions questions
length_refused ws h =
    ap (λ n. answer n (book_in ws))
    (sym (stops 0 (questions ws) tt (ap (λ t. t && all (below word_size) ws) (ne_eqb (length ws) snapshot_words h))))

-- a fresh book's snapshot is opened as a fresh book
pub fresh_opened : opened (saved fresh) ≡ Ok fresh
fresh_opened =
    saved_opened fresh
    (record {
      lengths =
          record {
            cells = record { nets = refl; delivered = refl };
            lifts = refl;
            charges = refl;
            ledger = record { issues = refl; froms = refl; tos = refl; lots = refl; days = refl };
          };
      sixteen = refl;
      day = omega arith;
      turn = omega arith;
      marks = refl;
      lifts = refl;
    })
    fresh_sound
