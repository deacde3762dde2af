-- A turn of the run, whatever words follow: an instruction that is sure to be whole is read and answered alike, its line comes
-- first, and the run goes on behind it.
use mathlib.Core.Path.{◌≡◌, refl, sym, ap, subst, ◌∙◌}
use mathlib.Core.Bool.{Bool, true, false, ◌&&◌}
use mathlib.Core.List.{List, [], ◌∷◌, ◌++◌, append_assoc, append-nil}
use Prim.Native.Nat.{ℕ, ◌+◌, ◌-◌, ◌≤◌, ◌<◌}
use native.Mathlib.Omega.{arith}
use borrow.Author.Tests.{leb-true, leb-false, ltb-true, ltb-false}
use lib.ListN.{length, take, drop, length-drop}
use lib.Seq.{drop-append-le, drop-drop}
use Rattle.rules.specs.declared.Book.{Book}
use Rattle.rules.specs.declared.Instruction.{Instruction}
use Rattle.rules.specs.declared.Line.{Line}
use Rattle.rules.specs.declared.Name.{Name}
use Rattle.rules.specs.declared.Name.TheVariants.{Tape}
use Rattle.std.specs.Prelude.{Ok, Err}
use Rattle.rules.specs.Book.{sound}
use Rattle.rules.specs.Calls.{Answer, called}
use Rattle.rules.specs.Tape.{read_of, quotes_of}
use Rattle.rules.specs.Run.{Ran, call_of, name_of, line, any_output, answer_of, ended, stopped, after_line, run_rest}
use Rattle.rules.specs.Text.{line_text, lines_text}
use Rattle.report.specs.Added.{Added}
use Rattle.laws.proofs.Called.{Sizes, called_sound}
use Rattle.rereading.proofs.Run.{run_ended, run_refused, run_instruction, not_ended}
use Rattle.rereading.proofs.Sized.{read_sized}
use Rattle.rereading.proofs.Window.{read_append, quotes_append}
use Rattle.answers.specs.Turns.{Given, Says}
use Rattle.passing.specs.Going.{Stepped, enough, stray_text, Follows, Goes, onward, Went, Going}

-- An answer

-- an answer keeps the book sound
pub answer_sound : (b b' : Book) (t : Given) (x : Instruction) (ws : List ℕ) → Sizes b → sound b ≡ true → Says (answer_of b x ws) t b' → sound b' ≡ true
unfolding answer_of
answer_sound b b' t x ws z h i = ap sound i.book ∙ called_sound b (call_of x (quotes_of ws)) any_output z h

-- and so is the line
pub same_line : (i : ℕ) (n m : Name) (r r' k k' : ℕ) → n ≡ m → r ≡ r' → k ≡ k' → line_text (line i n r k) ≡ line_text (line i m r' k')
same_line i n m r r' k k' e f g = rw (e, f, g)

-- Words that are sure to hold a whole instruction

pub some_words : (last : Bool) (n : ℕ) → enough n last ≡ true → 0 < n
some_words true n h = ltb-true 0 n h
some_words false n h = let l = leb-true 33 n h in omega arith

module _ (last : Bool) (rest more : List ℕ) (h : enough (length rest) last ≡ true) (e : last ≡ true → more ≡ []) where
  nothing_more : last ≡ true → rest ++ more ≡ rest
  nothing_more t = ap (λ (l : List ℕ). rest ++ l) (e t) ∙ append-nil rest

same_read : (last : Bool) (rest more : List ℕ) → enough (length rest) last ≡ true → (last ≡ true → more ≡ []) → read_of (rest ++ more) ≡ read_of rest
same_read true rest more h e = ap read_of (nothing_more true rest more h e refl)
same_read false rest more h e = read_append rest more (leb-true 33 (length rest) h)

same_quotes : (last : Bool) (rest more : List ℕ) → enough (length rest) last ≡ true → (last ≡ true → more ≡ []) → quotes_of (rest ++ more) ≡ quotes_of rest
same_quotes true rest more h e = ap quotes_of (nothing_more true rest more h e refl)
same_quotes false rest more h e = quotes_append rest more (leb-true 33 (length rest) h)

going_on : (rest more : List ℕ) (then : Bool) → 0 < length rest → ended (rest ++ more) then ≡ false
going_on [] more then h = absurd (omega arith)
going_on (w ∷ rest) more then h = not_ended w (rest ++ more) then

-- The run behind a line

goes_line : (a : Ran) (text : List ℕ) (l : Line) (r : Ran) → Goes a text (after_line l r) → Goes a (text ++ line_text l) r
goes_line a text l r g = record { printed = g.printed ∙ sym (append_assoc text (line_text l) (lines_text r.lines)); book = g.book }

goes_as : (a : Ran) (text : List ℕ) (r r' : Ran) → r ≡ r' → Goes a text r → Goes a text r'
goes_as a text r r' e g = subst (λ (k : Ran). Goes a text k) e g

goes_none : (a : Ran) (text : List ℕ) (r : Ran) → Goes a text r → Goes a (text ++ []) r
goes_none a text r g = subst (λ (t : List ℕ). Goes a t r) (sym (append-nil text)) g

module _ (a : Ran) (text : List ℕ) (i : ℕ) (b : Book) (last : Bool) (rest more : List ℕ) (then : Bool) where
  -- an instruction is answered
  pub goes_turn : (x : Instruction) (k : ℕ) → enough (length rest) last ≡ true → (last ≡ true → more ≡ []) → read_of rest ≡ Ok (x, k) →
      Goes a text (run_rest i b (rest ++ more) then) →
      Goes a (text ++ line_text (line i (name_of x) (answer_of b x rest).refusal (answer_of b x rest).count))
      (run_rest (i + k) (answer_of b x rest).book (drop k rest ++ more) then)
  unfolding answer_of
  goes_turn x k h e q g =
      let all = rest ++ more in
      let ans : List ℕ → Answer = λ ps. called b (call_of x ps) any_output in
      let p = same_quotes last rest more h e in
      let d = drop-append-le k rest more (read_sized rest x k q).1 in
      goes_line a text (line i (name_of x) (ans (quotes_of rest)).refusal (ans (quotes_of rest)).count)
      (run_rest (i + k) (ans (quotes_of rest)).book (drop k rest ++ more) then)
      (goes_as a text (run_rest i b all then)
      (after_line (line i (name_of x) (ans (quotes_of rest)).refusal (ans (quotes_of rest)).count)
      (run_rest (i + k) (ans (quotes_of rest)).book (drop k rest ++ more) then))
      (run_instruction i b all then x k (going_on rest more then (some_words last (length rest) h)) (same_read last rest more h e ∙ q)
      ∙ ap (λ (ps : List ℕ). after_line (line i (name_of x) (ans ps).refusal (ans ps).count) (run_rest (i + k) (ans ps).book (drop k all) then)) p
      ∙ ap (λ (ws : List ℕ). after_line (line i (name_of x) (ans (quotes_of rest)).refusal (ans (quotes_of rest)).count) (run_rest (i + k) (ans (quotes_of rest)).book ws then)) d)
      g)

  -- the reader refuses: the run is over
  pub goes_refused : (r : ℕ) → enough (length rest) last ≡ true → (last ≡ true → more ≡ []) → read_of rest ≡ Err r →
      Goes a text (run_rest i b (rest ++ more) then) → Goes a (text ++ line_text (line i Tape r 0)) (stopped [] b)
  goes_refused r h e q g =
      goes_line a text (line i Tape r 0) (stopped [] b)
      (goes_as a text (run_rest i b (rest ++ more) then) (stopped (line i Tape r 0 ∷ []) b)
      (run_refused i b (rest ++ more) then r (going_on rest more then (some_words last (length rest) h)) (same_read last rest more h e ∙ q)) g)

-- no words are left, and none follow
empty_read : read_of [] ≡ Err 13
unfolding read_of
empty_read = refl

goes_end : (a : Ran) (text : List ℕ) (i : ℕ) (b : Book) (stray : Bool) → Goes a text (run_rest i b [] stray) → Goes a (text ++ stray_text stray i) (stopped [] b)
goes_end a text i b true g =
    goes_line a text (line i Tape 13 0) (stopped [] b)
    (goes_as a text (run_rest i b [] true) (stopped (line i Tape 13 0 ∷ []) b) (run_refused i b [] true 13 refl empty_read) g)
goes_end a text i b false g = goes_none a text (stopped [] b) (goes_as a text (run_rest i b [] false) (stopped [] b) (run_ended i b [] false refl) g)

no_words : (rest : List ℕ) → length rest ≤ 0 → rest ≡ []
no_words [] h = refl
no_words (w ∷ rest) h = absurd (omega arith)

-- too few words are left to go on
pub goes_out : (a : Ran) (text : List ℕ) (i : ℕ) (b : Book) (last stray : Bool) (rest more : List ℕ) (then : Bool) →
    enough (length rest) last ≡ false → Follows last stray more then → Goes a text (run_rest i b (rest ++ more) then) →
    Goes a (text ++ stray_text (last && stray) i) (onward last i b (rest ++ more) then)
goes_out a text i b true stray rest more then h f g =
    let z : rest ++ more ≡ [] = ap (λ (l : List ℕ). rest ++ l) (f.none refl) ∙ append-nil rest ∙ no_words rest (ltb-false 0 (length rest) h) in
    goes_end a text i b stray
    (goes_as a text (run_rest i b (rest ++ more) then) (run_rest i b [] stray) (ap (λ (l : List ℕ). run_rest i b l then) z ∙ ap (run_rest i b []) (f.same refl)) g)
goes_out a text i b false stray rest more then h f g = goes_none a text (run_rest i b (rest ++ more) then) g

-- The words from a place on

pub rest_enough : (ws : List ℕ) (at : ℕ) (last t : Bool) → t ≡ enough (length ws - at) last → enough (length (drop at ws)) last ≡ t
rest_enough ws at last t e = ap (λ (n : ℕ). enough n last) (length-drop at ws) ∙ sym e

many_left : (last : Bool) (n : ℕ) → enough n last ≡ true → last ≡ false → 33 ≤ n
many_left true n h e = absurd (let k : ◌≡◌ {A = ℕ} 0 1 = cc in omega arith)
many_left false n h e = leb-true 33 n h

few_left : (last : Bool) (n : ℕ) → enough n last ≡ false → last ≡ false → n < 33
few_left true n h e = absurd (let k : ◌≡◌ {A = ℕ} 0 1 = cc in omega arith)
few_left false n h e = leb-false 33 n h

-- A run on its way

module _ (ws : List ℕ) (last stray : Bool) (index : ℕ) (b₀ b : Book) (text text' : List ℕ) (at end : ℕ)
    (g : Going ws last stray index b₀ b text at end) where
  pub going_again : (x : Instruction) (k e : ℕ) (b' : Book) → enough (length (drop at ws)) last ≡ true → read_of (drop at ws) ≡ Ok (x, k) →
      Stepped (drop at ws) x (index + at) b text text' end e b' → Going ws last stray index b₀ b' text' (at + k) e
  going_again x k e b' h q d =
      let z = read_sized (drop at ws) x k q in
      let i : index + (at + k) ≡ index + at + k = omega arith in
      record {
        within = omega (arith, z.1, length-drop at ws);
        short = omega (arith, d.printed.few, g.short, z.0);
        run = λ more then f.
            rw (d.printed.front, d.book, i, ← drop-drop k at ws)
            (goes_turn (run_rest index b₀ (ws ++ more) then) (take end text) (index + at) b last (drop at ws) more then x k h f.none q (g.run more then f));
      }

  pub going_refused : (n e : ℕ) → enough (length (drop at ws)) last ≡ true → read_of (drop at ws) ≡ Err n →
      Added 72 text text' end e (line_text (line (index + at) Tape n 0)) → sound b ≡ true →
      Went ws last stray index b₀ text' at e true b
  going_refused n e h q d o =
      record {
        within = g.within;
        few = λ z. absurd (let k : ◌≡◌ {A = ℕ} 0 1 = cc in omega arith);
        goes = λ z. absurd (let k : ◌≡◌ {A = ℕ} 0 1 = cc in omega arith);
        waits = λ z l. absurd (let k = many_left last (length (drop at ws)) h z in omega (arith, length-drop at ws));
        fits = omega (arith, g.within, g.short, d.few);
        sound = o;
        run = λ more then f.
            rw d.front
            (goes_refused (run_rest index b₀ (ws ++ more) then) (take end text) (index + at) b last (drop at ws) more then n h f.none q (g.run more then f));
      }

  pub going_ends : (e : ℕ) → enough (length (drop at ws)) last ≡ false →
      Added 72 text text' end e (stray_text (last && stray) (index + at)) → sound b ≡ true →
      Went ws last stray index b₀ text' at e last b
  going_ends e h d o =
      record {
        within = g.within;
        few = λ z. let k = few_left last (length (drop at ws)) h z in omega (arith, length-drop at ws, g.within);
        goes = λ z. z;
        waits = λ z l. z;
        fits = omega (arith, g.within, g.short, d.few);
        sound = o;
        run = λ more then f.
            rw d.front
            (goes_out (run_rest index b₀ (ws ++ more) then) (take end text) (index + at) b last stray (drop at ws) more then h f (g.run more then f));
      }

-- the same words, and the same books
pub went_as : (last : Bool) (index : ℕ) (text : List ℕ) (used end : ℕ) (over : Bool) {ws ws' : List ℕ} {stray stray' : Bool} {b c b' c' : Book} →
    ws ≡ ws' → stray ≡ stray' → b ≡ c → b' ≡ c' → Went ws last stray index b text used end over b' → Went ws' last stray' index c text used end over c'
went_as last index text used end over d e f g w = rw (d, e, f, g) at w
