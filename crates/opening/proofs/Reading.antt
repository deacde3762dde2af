-- The book of words by the places of its columns, and what opening answers.
use Rattle.std.specs.Prelude.{Ok, Err}
use mathlib.Core.Path.{◌≡◌, refl, sym, ap, ◌∙◌}
use mathlib.Core.Bool.{true, false, ◌&&◌}
use mathlib.Core.List.{List, [], ◌∷◌, ◌++◌, map}
use Prim.Native.Nat.{ℕ, zero, suc, ◌+◌, ◌*◌, ◌<◌, ◌%◌}
use native.Mathlib.Omega.{arith}
use borrow.Author.Tests.{ltb-true, eqb-true}
use lib.Dec.{eqb}
use lib.ListN.{length, get_or, drop, length-map}
use lib.Seq.{drop-drop, get_or-take, get_or-drop}
use lib.IntN.{ℤ}
use Rattle.rules.specs.declared.Book.{Book}
use Rattle.rules.specs.declared.State.{State}
use Rattle.rules.specs.Book.{all, state_of, book_of, with_state, fresh, sound, Lengths}
use Rattle.rules.specs.Questions.{Question, ask, first_no}
use Rattle.laws.proofs.Basics.{and_left, and_right}
use Rattle.laws.proofs.Answers.{AllYes, all_yes, stops, no_no}
use Rattle.checksums.specs.Sums.{word_size, below}
use Rattle.snapshots.specs.Words.{phase_in, signed_in, longs_in, field_in, issue_in, from_in, to_in, day_in, parted}
use Rattle.snapshots.specs.Snapshot.{widths, snapshot_words, book_from, columns_in, book_in, fitting, seal_questions, questions, answer, opened}
use Rattle.snapshots.proofs.Theorems.{opened_length}
use Rattle.restoring.specs.Taking.{part, TakenCells, TakenLedger, numbers_fit, taken_state}
use Rattle.restoring.proofs.Words.{part_length}
use Rattle.opening.specs.Judging.{book_with, open_number, open_book, Judges, Opens}

abbrev parts_at : ℕ → List ℕ → List ℕ → List (List ℕ)
parts_at at [] ws = []
parts_at at (n ∷ ns) ws = part at n ws ∷ parts_at (at + n) ns ws

parted_at : (ns ws : List ℕ) (at : ℕ) → parted ns (drop at ws) ≡ parts_at at ns ws
parted_at [] ws at = refl
parted_at (n ∷ ns) ws at = ap (λ l. part at n ws ∷ l) (ap (parted ns) (drop-drop n at ws) ∙ parted_at ns ws (at + n))

columns_at : (ws : List ℕ) → columns_in ws ≡ parts_at 3 widths ws
unfolding columns_in
columns_at ws = parted_at widths ws 3

unfoldable pub read_book : List ℕ → Book
read_book ws =
    book_of (state_of (get_or ws 3 0) (phase_in (get_or ws 4 0)) (get_or ws 5 0) (get_or ws 6 0) (part 7 16 ws))
    (map signed_in (part 23 1024 ws)) (part 1047 1024 ws) (part 2071 288 ws) (longs_in (part 2359 128 ws))
    (map issue_in (part 2487 2048 ws)) (map from_in (part 2487 2048 ws)) (map to_in (part 2487 2048 ws)) (part 4535 2048 ws)
    (map day_in (part 2487 2048 ws))

word_at : (ws : List ℕ) (j : ℕ) → j < 4 → get_or (part 3 4 ws) j 0 ≡ get_or ws (3 + j) 0
word_at ws j h = get_or-take 4 (drop 3 ws) j 0 h ∙ get_or-drop 3 ws j 0

book_at : (ws : List ℕ) → book_in ws ≡ read_book ws
unfolding book_in read_book
book_at ws =
    ap book_from (columns_at ws)
    ∙ rw (word_at ws 0 (omega arith), word_at ws 1 (omega arith), word_at ws 2 (omega arith), word_at ws 3 (omega arith))

-- What was taken

-- the columns are the book's
pub taken_book : (ws : List ℕ) (s : State) (ns : List ℤ) (dl ls : List ℕ) (cs : List ℤ) (is fs ts xs ds : List ℕ) →
    TakenCells ws ns dl ls cs → TakenLedger ws is fs ts xs ds → book_of s ns dl ls cs is fs ts xs ds ≡ book_with ws s
unfolding read_book
taken_book ws s ns dl ls cs is fs ts xs ds a b =
    rw (a.first, a.second, a.third, a.fourth, b.first, b.second, b.third, b.fourth, b.fifth)
    (ap (λ b. with_state b s) (sym (book_at ws)))

halved : (n : ℕ) (ws : List ℕ) → length ws ≡ 2 * n → length (longs_in ws) ≡ n
halved zero [] e = refl
halved (suc n) [] e = absurd (omega arith)
halved n (l ∷ []) e = absurd (omega arith)
halved zero (l ∷ h ∷ ws) e = absurd (omega arith)
halved (suc n) (l ∷ h ∷ ws) e = ap suc (halved n ws (omega arith))

-- and have its lengths
pub taken_lengths : (ws : List ℕ) (ns : List ℤ) (dl ls : List ℕ) (cs : List ℤ) (is fs ts xs ds : List ℕ) →
    length ws ≡ snapshot_words → TakenCells ws ns dl ls cs → TakenLedger ws is fs ts xs ds → Lengths ns dl ls cs is fs ts xs ds
taken_lengths ws ns dl ls cs is fs ts xs ds e a b =
    let p : length (part 2487 2048 ws) ≡ 2048 = part_length 2487 2048 ws (omega arith) in
    record {
      cells =
          record {
            nets = ap length a.first ∙ length-map (part 23 1024 ws) signed_in ∙ part_length 23 1024 ws (omega arith);
            delivered = ap length a.second ∙ part_length 1047 1024 ws (omega arith);
          };
      lifts = ap length a.third ∙ part_length 2071 288 ws (omega arith);
      charges = ap length a.fourth ∙ halved 64 (part 2359 128 ws) (part_length 2359 128 ws (omega arith));
      ledger =
          record {
            issues = ap length b.first ∙ length-map (part 2487 2048 ws) issue_in ∙ p;
            froms = ap length b.second ∙ length-map (part 2487 2048 ws) from_in ∙ p;
            tos = ap length b.third ∙ length-map (part 2487 2048 ws) to_in ∙ p;
            lots = ap length b.fourth ∙ part_length 4535 2048 ws (omega arith);
            days = ap length b.fifth ∙ length-map (part 2487 2048 ws) day_in ∙ p;
          };
    }

-- a book that is the same has the same lengths
pub same_lengths : (b d : Book) → b ≡ d →
    Lengths d.nets d.delivered d.lifts d.charges d.issues d.froms d.tos d.lots d.days →
    Lengths b.nets b.delivered b.lifts b.charges b.issues b.froms b.tos b.lots b.days
same_lengths b d e n = rw e n

-- numbers that fit are taken as they are
fit_same : (most : ℕ) (f : ℕ → ℕ) → ((w : ℕ) → w < most → f w ≡ w) → (ws : List ℕ) → all (below most) ws ≡ true → map f ws ≡ ws
fit_same most f e [] h = refl
fit_same most f e (w ∷ ws) h =
    rw (e w (ltb-true w most (and_left (below most w) (all (below most) ws) h)), fit_same most f e ws (and_right (below most w) (all (below most) ws) h))

small : (w : ℕ) → w < 256 → field_in 1 256 w ≡ w
small w h = omega arith

middle : (w : ℕ) → w < 65536 → w % 65536 ≡ w
middle w h = omega arith

module _ (ws : List ℕ) where
  -- the test is that of the definition
  flag : numbers_fit ws ≡ fitting (book_in ws) (get_or ws 4 0)
  unfolding fitting read_book
  flag = sym (ap (λ b. fitting b (get_or ws 4 0)) (book_at ws))

  -- and where all fits, so is the state
  state_at : numbers_fit ws ≡ true → taken_state ws ≡ (book_in ws).state
  unfolding read_book
  state_at u =
      let m = all (below 256) (part 7 16 ws) in
      let d = below 65536 (get_or ws 3 0) in
      let p = below 3 (get_or ws 4 0) in
      let v = and_left (m && d) p u in
      let n : day_in (get_or ws 3 0) ≡ get_or ws 3 0 = middle (get_or ws 3 0) (ltb-true (get_or ws 3 0) 65536 (and_right m d v)) in
      let k : map (field_in 1 256) (part 7 16 ws) ≡ part 7 16 ws = fit_same 256 (field_in 1 256) small (part 7 16 ws) (and_left m d v) in
      ap (λ x. state_of x (phase_in (get_or ws 4 0)) (get_or ws 5 0) (get_or ws 6 0) (map (field_in 1 256) (part 7 16 ws))) n
      ∙ ap (state_of (get_or ws 3 0) (phase_in (get_or ws 4 0)) (get_or ws 5 0) (get_or ws 6 0)) k
      ∙ sym (ap (λ b. b.state) (book_at ws))

-- Answers

first_append : (qs rs : List Question) → (first_no qs ≡ 0 → ⊥) → first_no qs ≡ first_no (qs ++ rs)
first_append [] rs h = absurd (h refl)
first_append (ask n true ∷ qs) rs h = first_append qs rs h
first_append (ask n false ∷ qs) rs h = refl

-- a number that is not 0 is a refusal
answer_no : (q : ℕ) (b : Book) → (q ≡ 0 → ⊥) → answer q b ≡ Err q
answer_no zero b h = absurd (h refl)
answer_no (suc q) b h = refl

module _ (ws : List ℕ) where
  refused_by_lem : (q : ℕ) → q ≡ first_no (questions ws) → (q ≡ 0 → ⊥) → opened ws ≡ Err q
  unfolding opened
  refused_by_lem q e h = ap (λ n. answer n (book_in ws)) (sym e) ∙ answer_no q (book_in ws) h

  judged_no : (q : ℕ) (s : State) → opened ws ≡ Err q → s ≡ fresh.state → Judges ws q s
  judged_no q s e f = record { refusal = sym (ap open_number e); state = f ∙ sym (ap (λ d. (open_book d fresh).state) e) }

  -- one of the first three questions
  pub not_sealed_no : (q : ℕ) (s : State) → q ≡ first_no (seal_questions ws) → (q ≡ 0 → ⊥) → s ≡ fresh.state → Judges ws q s
  unfolding questions
  not_sealed_no q s e h f =
      judged_no q s
      (refused_by_lem q
      (e ∙ first_append (seal_questions ws) (ask 4 (fitting (book_in ws) (get_or ws 4 0)) ∷ ask 5 (sound (book_in ws)) ∷ []) (λ z. h (e ∙ z))) h)
      f

  -- a number that is 0, where the first three are answered 'yes'
  module _ (z : 0 ≡ first_no (seal_questions ws)) where
    yes : AllYes (seal_questions ws)
    unfolding seal_questions
    yes = all_yes (seal_questions ws) (omega arith, (omega arith, (omega arith, tt))) (sym z)

    pub sealed_long : length ws ≡ snapshot_words
    unfolding seal_questions
    sealed_long = eqb-true (length ws) snapshot_words (and_left (eqb (length ws) snapshot_words) (all (below word_size) ws) yes.0)

    pub unfit : numbers_fit ws ≡ false → Judges ws 4 fresh.state
    unfolding seal_questions questions
    unfit f =
        let y = yes in
        judged_no 4 fresh.state
        (refused_by_lem 4 (stops 3 (questions ws) (y.0, (y.1.0, (y.1.1.0, tt))) (sym (flag ws) ∙ f)) (λ w. absurd (omega arith)))
        refl

    module _ (s : State) (t : (numbers_fit ws ≡ true) × (s ≡ taken_state ws)) where
      fits : fitting (book_in ws) (get_or ws 4 0) ≡ true
      fits = sym (flag ws) ∙ t.0

      same : book_with ws s ≡ book_in ws
      same = ap (with_state (book_in ws)) (t.1 ∙ state_at ws t.0)

      pub unsound : sound (book_with ws s) ≡ false → Judges ws 5 fresh.state
      unfolding seal_questions questions
      unsound h =
          let y = yes in
          judged_no 5 fresh.state
          (refused_by_lem 5 (stops 4 (questions ws) (y.0, (y.1.0, (y.1.1.0, (fits, tt)))) (sym (ap sound same) ∙ h)) (λ w. absurd (omega arith)))
          refl

      pub judged_yes : sound (book_with ws s) ≡ true → Judges ws 0 s
      unfolding seal_questions questions opened
      judged_yes h =
          let y = yes in
          let o : opened ws ≡ Ok (book_in ws) =
          ap (λ n. answer n (book_in ws)) (sym (no_no (questions ws) (y.0, (y.1.0, (y.1.1.0, (fits, (sym (ap sound same) ∙ h, tt))))))) in
          record { refusal = sym (ap open_number o); state = t.1 ∙ state_at ws t.0 ∙ sym (ap (λ d. (open_book d fresh).state) o) }

-- What is lent

kept_by : (k : ℕ) (b : Book) (n : ℕ) (s : State) (lent : Book) → n ≡ open_number (answer k b) → s ≡ (open_book (answer k b) fresh).state →
    (n ≡ 0 → ⊥) → with_state lent s ≡ open_book (answer k b) lent
kept_by zero b n s lent e f h = absurd (h e)
kept_by (suc k) b n s lent e f h = ap (with_state lent) f

done_by : (k : ℕ) (b : Book) (n : ℕ) → n ≡ open_number (answer k b) → n ≡ 0 → answer k b ≡ Ok b
done_by zero b n e z = refl
done_by (suc k) b n e z = absurd (omega (arith, e, z))

module _ (ws : List ℕ) (n : ℕ) (s : State) (j : Judges ws n s) where
  -- refused: it stays
  pub stays : (lent : Book) → (n ≡ 0 → ⊥) → Opens ws n (with_state lent s) (with_state lent s)
  unfolding opened
  stays lent h = record { refusal = j.refusal; book = kept_by (first_no (questions ws)) (book_in ws) n s (with_state lent s) j.refusal j.state h }

  module _ (z : n ≡ 0) where
    done : opened ws ≡ Ok (book_in ws)
    unfolding opened
    done = done_by (first_no (questions ws)) (book_in ws) n j.refusal z

    pub long_enough : length ws ≡ snapshot_words
    long_enough = opened_length ws (book_in ws) done

    -- done: it is the book of the words
    pub comes : (lent : Book) (ns : List ℤ) (dl ls : List ℕ) (cs : List ℤ) (is fs ts xs ds : List ℕ) → TakenCells ws ns dl ls cs →
        TakenLedger ws is fs ts xs ds → Opens ws n lent (book_of s ns dl ls cs is fs ts xs ds)
    comes lent ns dl ls cs is fs ts xs ds a b =
        record {
          refusal = j.refusal;
          book =
              taken_book ws s ns dl ls cs is fs ts xs ds a b
              ∙ ap (with_state (book_in ws)) (j.state ∙ ap (λ d. (open_book d fresh).state) done)
              ∙ sym (ap (λ d. open_book d lent) done);
        }
