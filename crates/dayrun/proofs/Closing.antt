-- The lines behind a run end what is printed.
use mathlib.Core.Path.{◌≡◌, refl, sym, ap, ◌∙◌}
use mathlib.Core.Bool.{true}
use mathlib.Core.List.{List, [], ◌++◌, append-nil}
use Prim.Native.Nat.{ℕ}
use native.Mathlib.Omega.{arith}
use lib.ListN.{length, take, drop, length-append}
use Rattle.rules.specs.Text.{lines_text, ran_of, closing_text, printed_of}
use Rattle.playing.specs.declared.Sent.{Sent}
use Rattle.playing.specs.declared.End.{End}
use Rattle.playing.specs.Playing.{Shown, Played}
use Rattle.dayrun.specs.Day.{Closed, Whole}
use Rattle.playing.proofs.Sofar.{stands_in}

-- the lines behind a run's end what is printed
module _ (e : End) (text : List ℕ) (q : Played e) (o : e.over ≡ true) (t : text ≡ closing_text e.book) where
  printed_all : (more : List ℕ) → (q.ended ≡ true → more ≡ []) → printed_of (q.came ++ more) ≡ q.text ++ text
  unfolding printed_of
  printed_all more f =
      ap (λ (l : List ℕ). lines_text (ran_of (q.came ++ more)).lines ++ l) (ap closing_text (q.book o more f) ∙ sym t)
      ∙ ap (λ (l : List ℕ). l ++ text) (q.lines o more f)

  pub closing_shown : Shown e.sent.count text
  closing_shown =
      record {
        came = q.came;
        ended = q.ended;
        printed = record {
          part = λ more f.
              ap (λ (n : ℕ). take (length text) (drop n (printed_of (q.came ++ more)))) (sym q.many)
              ∙ stands_in q.text text [] (printed_of (q.came ++ more)) (printed_all more f ∙ ap (λ (l : List ℕ). q.text ++ l) (sym (append-nil text)));
        };
      }

-- the lines of a run and those behind it are all that is printed
pub whole : (e : End) (r : Sent) → Played e → Closed e r → Whole (record { run = e; closing = r })
whole e r q k =
    let closing = closing_text e.book in
    record {
      played = q;
      closed = k;
      count = λ o w. omega (arith, k.closing o w, q.many, length-append q.text closing);
      printed = λ o more f. sym (printed_all e closing q o refl more f);
    }
