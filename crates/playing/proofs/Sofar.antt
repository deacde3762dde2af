-- A run on its way: the bytes that came, what was printed of them and the run from here.
use mathlib.Core.Path.{◌≡◌, refl, sym, ap, subst, ◌∙◌}
use mathlib.Core.Bool.{Bool, true, false, not, false≢true}
use mathlib.Core.List.{List, [], ◌∷◌, ◌++◌, append_assoc, append-nil}
use Prim.Native.Nat.{ℕ, zero, suc, ◌+◌, ◌-◌, ◌*◌, ◌%◌, ◌≤◌, ◌<◌}
use native.Mathlib.Omega.{arith}
use lib.Dec.{eqb}
use lib.ListN.{length, take, drop, length-append}
use lib.Seq.{take-nil, drop-nil, take-append_seam, drop-append_seam, length-take-le}
use Rattle.std.specs.Prelude.{Option, Some, None}
use Rattle.rules.specs.declared.Book.{Book}
use Rattle.rules.specs.Bytes.{words_in, stray_in}
use Rattle.rules.specs.Book.{fresh, sound}
use Rattle.rules.specs.Run.{Ran, run_rest, stopped}
use Rattle.rules.specs.Text.{lines_text, ran_of, closing_text, printed_of}
use Rattle.laws.proofs.Sound.{sound_parts}
use Rattle.rereading.proofs.Run.{run_start}
use Rattle.input.specs.Fed.{is_ended, brought, says_end, says_failed}
use Rattle.input.proofs.WordLaws.{tail_in, words_append, words_tail, words_length, words_from, stray_from}
use Rattle.parts.specs.declared.Place.{Place}
use Rattle.passing.specs.Going.{Follows, Goes, onward, Went}
use Rattle.passing.proofs.Goings.{went_as}
use Rattle.playing.specs.declared.End.{End}
use Rattle.playing.specs.Playing.{most_reads, Standing, unused, Stepped, Shown, Played}

drop_front : (n m : ℕ) (xs : List ℕ) → drop n (take m xs) ≡ take (m - n) (drop n xs)
drop_front zero m xs = let e : m ≡ m - 0 = omega arith in ap (λ (k : ℕ). take k xs) e
drop_front (suc n) zero xs = let e : 0 ≡ 0 - suc n = omega arith in drop-nil (suc n) ∙ ap (λ (k : ℕ). take k (drop (suc n) xs)) e
drop_front (suc n) (suc m) [] = sym (take-nil {A = ℕ} (suc m - suc n))
drop_front (suc n) (suc m) (x ∷ xs) = let e : m - n ≡ suc m - suc n = omega arith in drop_front n m xs ∙ ap (λ (k : ℕ). take k (drop n xs)) e

goes_then : (a c d : Ran) (s t : List ℕ) → Goes a s c → Goes c t d → Goes a (s ++ t) d
goes_then a c d s t g h =
    record {
      printed = g.printed ∙ ap (λ (l : List ℕ). s ++ l) h.printed ∙ sym (append_assoc s t (lines_text d.lines));
      book = g.book ∙ h.book;
    }

-- a part of a text stands behind what is before it
pub stands_in : (before text after all : List ℕ) → all ≡ before ++ (text ++ after) → take (length text) (drop (length before) all) ≡ text
stands_in before text after all e =
    ap (λ (l : List ℕ). take (length text) (drop (length before) l)) e
    ∙ ap (take (length text)) (drop-append_seam before (text ++ after))
    ∙ take-append_seam text after

stands : (sent : ℕ) (before text bytes : List ℕ) (on : Ran) → length before ≡ sent → Goes (ran_of bytes) (before ++ text) on →
    take (length text) (drop sent (printed_of bytes)) ≡ text
unfolding printed_of
stands sent before text bytes on m g =
    let lines = lines_text on.lines in
    let closing = closing_text (ran_of bytes).book in
    ap (λ (n : ℕ). take (length text) (drop n (lines_text (ran_of bytes).lines ++ closing))) (sym m)
    ∙ stands_in before text (lines ++ closing) (lines_text (ran_of bytes).lines ++ closing)
    (ap (λ (l : List ℕ). l ++ closing) g.printed ∙ append_assoc (before ++ text) lines closing ∙ append_assoc before text (lines ++ closing))

-- a read that fails brings nothing and does not say that the tape has ended
failed_end : (z : Option ℕ) → says_failed z ≡ true → says_end z ≡ false
failed_end (Some n) e = absurd (let q : ◌≡◌ {A = ℕ} 0 1 = cc in omega arith)
failed_end None e = refl

failed_none : (z : Option ℕ) → says_failed z ≡ true → brought z ≡ 0
failed_none (Some n) e = absurd (let q : ◌≡◌ {A = ℕ} 0 1 = cc in omega arith)
failed_none None e = refl

-- a read that neither ends the tape nor fails brings a byte
brings : (z : Option ℕ) → says_end z ≡ false → says_failed z ≡ false → 0 < brought z
brings (Some zero) e f = absurd (false≢true (sym e))
brings (Some (suc n)) e f = omega arith
brings None e f = absurd (false≢true (sym f))

-- a run on its way: of all bytes that the reads brought, in order, and whatever comes behind them, the text written so far and
-- the run from here; each read but the last brought a byte, and the last where the run goes on
pub record Sofar (over failed : Bool) (reads index : ℕ) (b : Book) (rest : List ℕ) (sent : ℕ) : Type 0 where
  pub came : List ℕ
  pub text : List ℕ
  pub ended : Bool
  pub many : length text ≡ sent
  pub each : over ≡ false → failed ≡ false → reads ≤ length came
  pub brought : reads ≤ length came + 1
  pub goes : over ≡ false → ended ≡ false
  pub run : (more : List ℕ) → (ended ≡ true → more ≡ []) →
      Goes (ran_of (came ++ more)) text (onward over index b (words_in (rest ++ more)) (stray_in (rest ++ more)))

-- nothing came yet
pub sofar_starts : (b : Book) (rest : List ℕ) → b ≡ fresh → rest ≡ [] → Sofar false false 0 0 b rest 0
unfolding ran_of
sofar_starts b rest e r =
    record {
      came = [];
      text = [];
      ended = false;
      many = refl;
      each = λ z f. omega arith;
      brought = omega arith;
      goes = λ z. refl;
      run = λ more f. rw (e, r, run_start (words_in more) (stray_in more)) (record { printed = refl; book = refl });
    }

-- what follows the words of some bytes, and what follows the bytes
follows : (ended : Bool) (all more : List ℕ) → (ended ≡ true → more ≡ []) →
    Follows ended (stray_in all) (words_in (tail_in all ++ more)) (stray_in (all ++ more))
follows ended all more f =
    record {
      none = λ e. ap (λ (l : List ℕ). words_in (tail_in all ++ l)) (f e) ∙ words_tail all;
      same = λ e. ap (λ (l : List ℕ). stray_in (all ++ l)) (f e) ∙ ap stray_in (append-nil all);
    }

on_goes : (over : Bool) (index : ℕ) (b : Book) (a : Ran) (text ws : List ℕ) (stray : Bool) → over ≡ false →
    Goes a text (onward over index b ws stray) → Goes a text (run_rest index b ws stray)
on_goes over index b a text ws stray e g = rw e at g

module _ (p r : Place) (bytes bytes' text : List ℕ) (d : Stepped p bytes bytes' text r) where
  -- the bytes in the buffer, their words, and those that came
  abbrev all : List ℕ
  all = take d.read.end bytes'

  abbrev came : List ℕ
  came = d.fed.refilled.came

  size : length all ≡ d.read.end
  size = length-take-le d.read.end bytes' d.fed.refilled.fits

  went : Went (words_in all) (is_ended d.read.input) (stray_in all) p.index p.book text d.parted.used r.printed r.over r.book
  went =
      went_as _ _ _ _ _ _ d.fed.decoded.front (ap (λ (k : ℕ). not (eqb (k % 4) 0)) (sym size)) refl refl d.parted.went

  -- a read that fails leaves the run where it is
  failed_waits : p.end < p.start + 132 → p.start ≤ p.end → r.failed ≡ true → r.over ≡ false
  failed_waits k h e =
      let f = d.fed.refilled in
      let s : says_failed f.said ≡ true = sym f.took.failed ∙ sym d.parted.failed ∙ e in
      let n = failed_none f.said s in
      let z = words_length all in
      went.waits (f.took.done ∙ failed_end f.said s) (omega (arith, z.0, size, f.took.end))

  pub standing_on : length bytes' ≡ 16384 → p.over ≡ false → Standing p → Standing r
  standing_on l o g =
      let z = words_length all in
      let q = d.parted in
      record {
        order = omega (arith, went.within, z.0, size, q.start, q.end);
        within = omega (arith, q.end, d.fed.refilled.fits);
        few = λ e. let k = went.few e in omega (arith, z.1, size, q.start, q.end);
        waits = failed_waits (g.few o) g.order;
        sound = went.sound;
      }

  -- at most 4,096 words are used, and their lines have room
  pub few_words : length bytes' ≡ 16384 → (r.index ≤ p.index + 4096) × (r.printed ≤ 327680)
  few_words l =
      let z = words_length all in
      (omega (arith, went.within, z.0, size, d.fed.refilled.fits, d.parted.index), omega (arith, went.fits, z.0, size, d.fed.refilled.fits))

  -- the part's own run, of bytes
  part_goes : (more : List ℕ) → (is_ended d.read.input ≡ true → more ≡ []) →
      Goes (run_rest p.index p.book (words_in (all ++ more)) (stray_in (all ++ more))) (take r.printed text)
      (onward r.over r.index r.book (words_in (unused r bytes' ++ more)) (stray_in (unused r bytes' ++ more)))
  part_goes more f =
      let k = d.parted.used in
      let z = words_length all in
      let u : drop (4 * k) all ≡ unused r bytes' =
      drop_front (4 * k) d.read.end bytes'
      ∙ ap (λ (n : ℕ). take (d.read.end - n) (drop n bytes')) (sym d.parted.start)
      ∙ ap (λ (n : ℕ). take (n - r.start) (drop r.start bytes')) (sym d.parted.end) in
      rw (words_append all more, d.parted.index, ← u, ← words_from k all more went.within, ← stray_from k all more (omega (arith, went.within, z.0)))
      (went.run (words_in (tail_in all ++ more)) (stray_in (all ++ more)) (follows (is_ended d.read.input) all more f))

  -- and one that neither fails nor ends the run brings a byte
  came_some : r.over ≡ false → r.failed ≡ false → 0 < length came
  came_some o e =
      let f = d.fed.refilled in
      omega (arith, f.many, brings f.said (sym f.took.done ∙ went.goes o) (sym f.took.failed ∙ sym d.parted.failed ∙ e))

  module _ (sent reads : ℕ) (o : p.over ≡ false) (s : Sofar p.over p.failed reads p.index p.book (unused p bytes) sent) where
    on : (more : List ℕ) → (is_ended d.read.input ≡ true → more ≡ []) →
        Goes (ran_of ((s.came ++ came) ++ more)) (s.text ++ take r.printed text)
        (onward r.over r.index r.book (words_in (unused r bytes' ++ more)) (stray_in (unused r bytes' ++ more)))
    on more f =
        let old = s.run (came ++ more) (λ e. absurd (let k : ◌≡◌ {A = Bool} true false = sym e ∙ s.goes o in let q : ◌≡◌ {A = ℕ} 0 1 = cc in omega arith)) in
        let e : unused p bytes ++ (came ++ more) ≡ all ++ more =
        sym (append_assoc (unused p bytes) came more) ∙ ap (λ (l : List ℕ). l ++ more) (sym d.fed.refilled.filled) in
        rw (append_assoc s.came came more)
        (goes_then (ran_of (s.came ++ (came ++ more)))
        (run_rest p.index p.book (words_in (all ++ more)) (stray_in (all ++ more)))
        (onward r.over r.index r.book (words_in (unused r bytes' ++ more)) (stray_in (unused r bytes' ++ more)))
        s.text (take r.printed text)
        (subst (λ (l : List ℕ). Goes (ran_of (s.came ++ (came ++ more))) s.text (run_rest p.index p.book (words_in l) (stray_in l))) e
        (on_goes p.over p.index p.book _ s.text (words_in (unused p bytes ++ (came ++ more))) (stray_in (unused p bytes ++ (came ++ more))) o old))
        (part_goes more f))

    pub sofar_on : (next : ℕ) → next ≡ sent + length (take r.printed text) → p.failed ≡ false → Sofar r.over r.failed (reads + 1) r.index r.book (unused r bytes') next
    sofar_on next e w =
        record {
          came = s.came ++ came;
          text = s.text ++ take r.printed text;
          ended = is_ended d.read.input;
          many = omega (arith, e, s.many, length-append s.text (take r.printed text));
          each = λ u v. omega (arith, s.each o w, came_some u v, length-append s.came came);
          brought = omega (arith, s.each o w, length-append s.came came);
          goes = went.goes;
          run = on;
        }

    -- what the part prints stands behind what was printed
    pub shown : Shown sent (take r.printed text)
    shown =
        record {
          came = s.came ++ came;
          ended = is_ended d.read.input;
          printed = record { part = λ more f. stands sent s.text (take r.printed text) _ _ s.many (on more f) };
        }

-- the run is over: nothing more is needed
over_goes : (over : Bool) (index : ℕ) (b : Book) (a : Ran) (text ws : List ℕ) (stray : Bool) → over ≡ true →
    Goes a text (onward over index b ws stray) → Goes a text (stopped [] b)
over_goes over index b a text ws stray e g = rw e at g

pub played : (r : End) (index : ℕ) (rest : List ℕ) → r.sent.count ≤ 327680 * most_reads → sound r.book ≡ true →
    (r.over ≡ false → r.failed ≡ false → r.sent.written ≡ true → r.reads ≡ most_reads) → (r.failed ≡ true → r.over ≡ false) →
    0 < r.reads → Sofar r.over r.failed r.reads index r.book rest r.sent.count → Played r
played r index rest n o stops waits begun s =
    let g : r.over ≡ true → (more : List ℕ) → (s.ended ≡ true → more ≡ []) → Goes (ran_of (s.came ++ more)) s.text (stopped [] r.book) =
    λ e more f. over_goes r.over index r.book _ s.text (words_in (rest ++ more)) (stray_in (rest ++ more)) e (s.run more f) in
    record {
      few = n;
      count = (sound_parts _ o).ledger.count;
      stops = stops;
      waits = waits;
      begun = begun;
      came = s.came;
      ended = s.ended;
      text = s.text;
      each = s.each;
      brought = s.brought;
      many = s.many;
      printed = record { part = λ more f. stands 0 [] s.text _ _ refl (s.run more f) };
      goes = s.goes;
      lines = λ e more f. (g e more f).printed ∙ append-nil s.text;
      book = λ e more f. (g e more f).book;
    }
