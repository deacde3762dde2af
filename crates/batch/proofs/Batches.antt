-- A turn more, and the end. Invariant of the loop: what is done so far, with what is answered from here on behind it, is what is
-- answered of all words.
use mathlib.Core.Path.{◌≡◌, refl, sym, ap, subst, ◌∙◌}
use mathlib.Core.Bool.{Bool, true, false}
use mathlib.Core.List.{List, [], ◌∷◌, ◌++◌, append_assoc, append-nil}
use Prim.Native.Nat.{ℕ, zero, suc, ◌+◌, ◌-◌, ◌*◌, ◌≤◌, ◌<◌}
use native.Mathlib.Omega.{arith}
use native.Mathlib.Nat.{zero-add, suc-add}
use borrow.Author.Tests.{leb-true}
use lib.Dec.{leb}
use lib.ListN.{length, take, drop, length-take, length-drop, length-append, drop_of_length-le, take-append-drop}
use lib.Seq.{drop-drop}
use Rattle.std.specs.Prelude.{Ok, Err}
use Rattle.rules.specs.declared.Book.{Book}
use Rattle.rules.specs.declared.Instruction.{Instruction}
use Rattle.rules.specs.declared.Instruction.TheVariants as instruction
use Rattle.rules.specs.declared.State.{State}
use Rattle.rules.specs.Measures.{output_words}
use Rattle.rules.specs.Questions.{ask, first_no}
use Rattle.rules.specs.Records.{Rec, words, over}
use Rattle.rules.specs.Calls.{Deliver, Cutoff, Resolve}
use Rattle.rules.specs.Refusals.{number_in}
use Rattle.rules.specs.Tape.{read_of}
use Rattle.laws.proofs.Basics.{and_left, and_right}
use Rattle.laws.proofs.Records.{length_words}
use Rattle.laws.proofs.Answers.{said_yes, said_no, by_answer}
use Rattle.columns.specs.declared.LentColumns.{LentColumns}
use Rattle.columns.specs.Books.{lent_book}
use Rattle.host.specs.declared.DayState.{DayState}
use Rattle.host.specs.States.{number_of, numbers_of as state_numbers, state_in, sound_at}
use Rattle.tape.proofs.Rest.{rest_part}
use Rattle.rereading.proofs.Sized.{read_sized}
use Rattle.host.proofs.Holding.{back_state, same_stage, is_phase}
use Rattle.batch.specs.declared.DayRan.{DayRan}
use Rattle.batch.specs.declared.Ran.{Ran}
use Rattle.batch.specs.declared.Stand.{Stand}
use Rattle.batch.specs.Batch.{BatchIs, DayRanIs, day_batch, stopped_by, answer_at, written_by, answer_numbers, numbers_of, has_room, Batch, stops, behind, followed, batch_from, batch_of, Stepped, place_behind, Running, Stopped, RanIs, told_of}

-- Records that a call wrote stand in the words that it may write to

over_fits : (rs : List Rec) (out : List ℕ) → 2 * length rs ≤ length (over (words rs) out)
over_fits rs out = omega (arith, length_words rs, length-append (words rs) (drop (length (words rs)) out))

pub written_fits : (b : Book) (x : Instruction) (ws out : List ℕ) → written_by x (answer_at b x ws out).count ≤ length (answer_at b x ws out).out
written_fits b (instruction.Trade i f t l) ws out = omega arith
written_fits b (instruction.Deliver i a l) ws out =
    by_answer (λ d. 2 * d.count ≤ length d.out) b (Deliver i a l) out (λ y. over_fits _ out) (λ r. omega arith)
written_fits b (instruction.Resolve i a l) ws out =
    by_answer (λ d. 2 * d.count ≤ length d.out) b (Resolve i a l) out (λ y. over_fits _ out) (λ r. omega arith)
written_fits b (instruction.PairOff i a) ws out = omega arith
written_fits b instruction.Close ws out = omega arith
written_fits b instruction.Cutoff ws out =
    by_answer (λ d. 2 * d.count ≤ length d.out) b Cutoff out (λ y. over_fits _ out) (λ r. omega arith)
written_fits b (instruction.Roll days rate) ws out = omega arith
written_fits b (instruction.Mark i m) ws out = omega arith
written_fits b (instruction.Turn d) ws out = omega arith

-- Parts

-- a part of a list as it comes back
back_part : (xs ys : List ℕ) (at : ℕ) → take at xs ++ (ys ++ drop (length xs - at) (drop at xs)) ≡ take at xs ++ ys
back_part xs ys at =
    let d : length (drop at xs) ≤ length xs - at = omega (arith, length-drop at xs) in
    rw (drop_of_length-le (drop at xs) d, append-nil ys) refl

-- beyond a place that is there
front : (xs ys : List ℕ) (at n : ℕ) → at ≤ length xs → take (at + n) (take at xs ++ ys) ≡ take at xs ++ take n ys
front xs ys zero n h = rw (zero-add n) refl
front [] ys (suc at) n h = absurd (omega arith)
front (x ∷ xs) ys (suc at) n h = rw (suc-add at n) (ap (λ l. x ∷ l) (front xs ys at n (omega arith)))

back : (xs ys : List ℕ) (at n : ℕ) → at ≤ length xs → drop (at + n) (take at xs ++ ys) ≡ drop n ys
back xs ys zero n h = rw (zero-add n) refl
back [] ys (suc at) n h = absurd (omega arith)
back (x ∷ xs) ys (suc at) n h = rw (suc-add at n) (back xs ys at n (omega arith))

length_front : (xs ys : List ℕ) (at : ℕ) → at ≤ length xs → length (take at xs ++ ys) ≡ at + length ys
length_front xs ys at h = omega (arith, length-append (take at xs) ys, length-take at xs)

-- By what is read

module _ (n : ℕ) (b : Book) where
  pub ends : (answers out : List ℕ) → batch_from n b [] answers out ≡ stops 0 b answers out
  unfolding batch_from
  ends answers out = by_fuel n
    where
      by_fuel : (m : ℕ) → batch_from m b [] answers out ≡ stops 0 b answers out
      by_fuel zero = refl
      by_fuel (suc m) = refl

  pub no_instruction : (ws answers out : List ℕ) → 0 < length ws → (r : ℕ) → read_of ws ≡ Err r → batch_from (suc n) b ws answers out ≡ stops r b answers out
  unfolding batch_from
  no_instruction [] answers out h r e = absurd (omega arith)
  no_instruction (w ∷ ws) answers out h r e = rw e refl

  module _ (x : Instruction) (k : ℕ) where
    pub no_room : (ws answers out : List ℕ) → 0 < length ws → read_of ws ≡ Ok (x, k) → has_room (length answers) (length out) ≡ false →
        batch_from (suc n) b ws answers out ≡ stops 0 b answers out
    unfolding batch_from
    no_room [] answers out h e g = absurd (omega arith)
    no_room (w ∷ ws) answers out h e g = rw (e, g) refl

    pub one_more : (ws answers out : List ℕ) → 0 < length ws → read_of ws ≡ Ok (x, k) → has_room (length answers) (length out) ≡ true →
        batch_from (suc n) b ws answers out
        ≡ followed x k (answer_at b x ws out) (λ rest. batch_from n (answer_at b x ws out).book (drop k ws) (drop answer_numbers answers) rest)
    unfolding batch_from
    one_more [] answers out h e g = absurd (omega arith)
    one_more (w ∷ ws) answers out h e g = rw (e, g) refl

-- On the way

nothing_before : (d : Batch) → d ≡ behind 0 0 0 [] [] d
nothing_before d =
    λ j. record {
      refusal = d.refusal;
      answered = sym (zero-add d.answered) j;
      used = sym (zero-add d.used) j;
      written = sym (zero-add d.written) j;
      book = d.book;
      answers = d.answers;
      out = d.out;
    }

before_both : (n k w m l v : ℕ) (ns os ms ps : List ℕ) (d : Batch) →
    behind n k w ns os (behind m l v ms ps d) ≡ behind (n + m) (k + l) (w + v) (ns ++ ms) (os ++ ps) d
before_both n k w m l v ns os ms ps d =
    let a : n + (m + d.answered) ≡ n + m + d.answered = omega arith in
    let u : k + (l + d.used) ≡ k + l + d.used = omega arith in
    let p : w + (v + d.written) ≡ w + v + d.written = omega arith in
    λ j. record {
      refusal = d.refusal;
      answered = a j;
      used = u j;
      written = p j;
      book = d.book;
      answers = sym (append_assoc ns ms d.answers) j;
      out = sym (append_assoc os ps d.out) j;
    }

pub starts : (b : Book) (ws answers out : List ℕ) → Running b ws answers out (record { used = 0; answered = 0; written = 0 }) b answers out
starts b ws answers out =
    record { within = omega arith; told = omega arith; put = omega arith; left = length ws; enough = omega arith; same = nothing_before _ }

-- The end

module _ (b₀ : Book) (ws answers₀ out₀ : List ℕ) (p : Stand) (b : Book) (answers out : List ℕ) (g : Running b₀ ws answers₀ out₀ p b answers out) where
  abbrev told : ℕ
  told = 3 * p.answered

  -- instructions are left as long as words are
  some_left : p.used < length ws → suc (g.left - 1) ≡ g.left
  some_left h = omega (arith, g.enough)

  words_left : p.used < length ws → 0 < length (drop p.used ws)
  words_left h = omega (arith, length-drop p.used ws)

  stopped : (r : ℕ) →
      batch_from g.left b (drop p.used ws) (drop told answers) (drop p.written out) ≡ stops r b (drop told answers) (drop p.written out) →
      Stopped (batch_of b₀ ws answers₀ out₀) r p b answers out
  stopped r e =
      let s = g.same ∙ ap (behind p.answered p.used p.written (take told answers) (take p.written out)) e in
      rw s
      (record {
        refusal = refl;
        answered = omega arith;
        used = omega arith;
        written = omega arith;
        book = refl;
        answers = sym (take-append-drop told answers);
        out = sym (take-append-drop p.written out);
      })

  pub stops_at_end : length ws ≤ p.used → Stopped (batch_of b₀ ws answers₀ out₀) 0 p b answers out
  stops_at_end h =
      stopped 0 (rw (drop_of_length-le ws h) (ends g.left b (drop told answers) (drop p.written out)))

  pub stops_refused : p.used < length ws → (r : ℕ) → read_of (drop p.used ws) ≡ Err r → Stopped (batch_of b₀ ws answers₀ out₀) r p b answers out
  stops_refused h r e =
      stopped r (rw (← some_left h) (no_instruction (g.left - 1) b (drop p.used ws) (drop told answers) (drop p.written out) (words_left h) r e))

  -- One more

  module _ (x : Instruction) (k : ℕ) (e : read_of (drop p.used ws) ≡ Ok (x, k)) where
    room_here : (q : Bool) → has_room (length answers - told) (length out - p.written) ≡ q →
        has_room (length (drop told answers)) (length (drop p.written out)) ≡ q
    room_here q r = rw (length-drop told answers, length-drop p.written out) r

    words_here : p.used < length ws
    words_here = let z = read_sized (drop p.used ws) x k e in omega (arith, z.0, z.1, length-drop p.used ws)

    pub stops_full : has_room (length answers - told) (length out - p.written) ≡ false → Stopped (batch_of b₀ ws answers₀ out₀) 0 p b answers out
    stops_full r =
        stopped 0
        (rw (← some_left words_here)
        (no_room (g.left - 1) b x k (drop p.used ws) (drop told answers) (drop p.written out) (words_left words_here) e (room_here false r)))

    module _ (room : has_room (length answers - told) (length out - p.written) ≡ true) (numbers rest : List ℕ) (w : ℕ) (b' : Book)
        (s : Stepped (drop p.used ws) x b (drop told answers) numbers (drop p.written out) rest w b') where
      goes_on : Running b₀ ws answers₀ out₀ (place_behind p k w) b'
          (take told answers ++ numbers) (take p.written out ++ rest)
      goes_on =
          let vs = drop p.used ws in
          let lent = drop p.written out in
          let a = answer_at b x vs lent in
          let z = read_sized vs x k e in
          let r = room_here true room in
          let three : 3 ≤ length (drop told answers) = leb-true 3 (length (drop told answers)) (and_left (leb 3 (length (drop told answers))) _ r) in
          let fits : w ≤ length rest = rw (s.put, s.left) (written_fits b x vs lent) in
          let thrice : 3 * (p.answered + 1) ≡ told + 3 = omega arith in
          let one = rw (some_left words_here) at (one_more (g.left - 1) b x k vs (drop told answers) lent (words_left words_here) e r) in
          record {
            within = omega (arith, z.1, length-drop p.used ws, g.within);
            told = omega (arith, length_front answers numbers told g.told, ap length s.told);
            put = omega (arith, length_front out rest p.written g.put, fits);
            left = g.left - 1;
            enough = omega (arith, g.enough, z.0);
            same = rw (
              thrice,
              front answers numbers told 3 g.told,
              back answers numbers told 3 g.told,
              front out rest p.written w g.put,
              back out rest p.written w g.put,
              ← drop-drop k p.used ws,
              s.told,
              s.left,
              s.put,
              s.book,
            )
                (g.same ∙ ap (behind p.answered p.used p.written (take told answers) (take p.written out)) one
                ∙ before_both p.answered p.used p.written 1 k (written_by x a.count) (take told answers) (take p.written out) (numbers_of a)
                (take (written_by x a.count) a.out) _);
          }

      -- with the parts as they come back
      next : Running b₀ ws answers₀ out₀ (place_behind p k w) b'
          (take told answers ++ (numbers ++ drop (length answers - told) (drop told answers)))
          (take p.written out ++ (rest ++ drop (length out - p.written) (drop p.written out)))
      next = rw (back_part answers numbers told, back_part out rest p.written) goes_on

      -- of a call that is lent no output
      pub keeps_out : rest ≡ drop p.written out →
          Running b₀ ws answers₀ out₀ (place_behind p k w) b' (take told answers ++ (numbers ++ drop (length answers - told) (drop told answers))) out
      keeps_out same =
          let o : take p.written out ++ rest ≡ out = ap (λ l. take p.written out ++ l) same ∙ take-append-drop p.written out in
          subst (λ (l : List ℕ). Running b₀ ws answers₀ out₀ (place_behind p k w) b'
          (take told answers ++ (numbers ++ drop (length answers - told) (drop told answers))) l) o
          (rw (back_part answers numbers told) goes_on)

    -- of a turn in the parts that it is lent
    pub turned : (room : has_room (length answers - told) (length out - p.written) ≡ true) (numbers rest : List ℕ) (w : ℕ) (b' : Book) →
        Stepped (take (length ws - p.used) (drop p.used ws)) x b (take (length answers - told) (drop told answers)) numbers
        (take (length out - p.written) (drop p.written out)) rest w b' →
        Running b₀ ws answers₀ out₀ (place_behind p k w) b'
        (take told answers ++ (numbers ++ drop (length answers - told) (drop told answers)))
        (take p.written out ++ (rest ++ drop (length out - p.written) (drop p.written out)))
    turned room numbers rest w b' s = next room numbers rest w b' (rw (rest_part ws p.used, rest_part answers told, rest_part out p.written) at s)

-- room for one more in the numbers, whatever is told of it
pub told_fits : (n m k room : ℕ) → has_room (m - 3 * n) room ≡ true → k ≡ m → 3 * (n + 1) ≤ k
told_fits n m k room h e = omega (arith, e, leb-true 3 (m - 3 * n) (and_left (leb 3 (m - 3 * n)) _ h))

-- and for the words that it puts into the rest of an output
pub put_fits : (out rest : List ℕ) (at w k : ℕ) → at ≤ length out → w ≤ length rest → length rest ≡ length (take (length out - at) (drop at out)) →
    k ≡ length out → at + w ≤ k
put_fits out rest at w k h f e s =
    let part : length (take (length out - at) (drop at out)) ≡ length out - at = rw (rest_part out at) (length-drop at out) in
    omega (arith, h, f, e, s, part)

-- and in the parts that it is lent
pub roomy : (answers out : List ℕ) (n w : ℕ) → has_room (length answers - n) (length out - w) ≡ true →
    (3 ≤ length (take (length answers - n) (drop n answers))) × (output_words ≤ length (take (length out - w) (drop w out)))
roomy answers out n w h =
    let three : 3 ≤ length answers - n = leb-true 3 (length answers - n) (and_left (leb 3 (length answers - n)) _ h) in
    let words : output_words ≤ length out - w = leb-true output_words (length out - w) (and_right (leb 3 (length answers - n)) _ h) in (
      rw (rest_part answers n, length-drop n answers) three,
      rw (rest_part out w, length-drop w out) words,
    )

-- What a function gives

-- where it stops, in plain numbers
given : (d : Batch) (r : Ran) (c : LentColumns) (numbers words : List ℕ) → Stopped d (number_in r.stop) r.stand (lent_book r.state c) numbers words →
    BatchIs d (number_of d.book.state.phase) (told_of r) (lent_book (state_in (state_numbers r.state)) c) numbers words
given d r c numbers words q =
    record {
      refusal = q.refusal;
      answered = q.answered;
      used = q.used;
      written = q.written;
      book = ap (λ (t : State). lent_book t c) (back_state r.state) ∙ q.book;
      stage = ap (λ (b : Book). number_of b.state.phase) q.book;
      answers = q.answers;
      out = q.out;
    }

module _ (h : DayState) (c : LentColumns) (ws answers out : List ℕ) where
  abbrev book : Book
  book = lent_book (state_in h) c

  abbrev asked : ℕ
  asked = first_no (ask 1 (has_room (length answers) (length out)) ∷ ask 2 (sound_at h.phase book) ∷ [])

  -- a refusal by 1 or 2 leaves all as it came
  refused : (n : ℕ) → asked ≡ suc n → DayRanIs ws h answers answers out out (stopped_by (suc n) h) c c
  unfolding day_batch
  refused n e =
      rw e
      (record {
        refusal = refl;
        answered = refl;
        used = refl;
        written = refl;
        book = refl;
        stage = same_stage h.phase;
        answers = refl;
        out = refl;
      })

  pub refused_short : has_room (length answers) (length out) ≡ false → DayRanIs ws h answers answers out out (stopped_by 1 h) c c
  refused_short g = refused 0 (said_no 1 (has_room (length answers) (length out)) _ g)

  module _ (room : has_room (length answers) (length out) ≡ true) where
    pub refused_unsound : sound_at h.phase book ≡ false → DayRanIs ws h answers answers out out (stopped_by 2 h) c c
    refused_unsound g = refused 1 (said_yes 1 (has_room (length answers) (length out)) _ room ∙ said_no 2 (sound_at h.phase book) [] g)

    pub ran : sound_at h.phase book ≡ true → (n : DayRan) (r : Ran) → n ≡ told_of r → (after : LentColumns) (answers' out' : List ℕ) →
        RanIs ws book answers answers' out out' r (lent_book r.state after) → DayRanIs ws h answers answers' out out' n c after
    unfolding day_batch
    ran g n r e after answers' out' q =
        rw (e, said_yes 1 (has_room (length answers) (length out)) (ask 2 (sound_at h.phase book) ∷ []) room, said_yes 2 (sound_at h.phase book) [] g, is_phase h.phase book g)
        (given (batch_of book ws answers out) r after answers' out' q)
