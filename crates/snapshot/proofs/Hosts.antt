-- What saving and opening answer a host, by the questions.
use Rattle.std.specs.Prelude.{Ok, Err}
use mathlib.Core.Path.{◌≡◌, refl, sym, ap, ◌∙◌}
use mathlib.Core.Bool.{true, false, cond}
use mathlib.Core.List.{List, ◌++◌}
use Prim.Native.Nat.{ℕ, ◌≤◌, ◌<◌}
use native.Mathlib.Omega.{arith}
use borrow.Author.Tests.{le-leb, lt-leb}
use lib.ListN.{length, take, drop}
use lib.Seq.{take_at}
use Rattle.rules.specs.declared.Book.{Book}
use Rattle.rules.specs.declared.State.{State}
use Rattle.rules.specs.Book.{with_state, fresh}
use Rattle.laws.proofs.Basics.{cond_true, cond_false}
use Rattle.laws.proofs.Answers.{stops, no_no}
use Rattle.host.specs.declared.DayState.{DayState}
use Rattle.host.specs.States.{state_in, numbers_of, lengths_right, sound_at}
use Rattle.host.proofs.Holding.{back_state}
use Rattle.snapshots.specs.Snapshot.{snapshot_words, saved, Opened, opened}
use Rattle.snapshots.proofs.Theorems.{opened_length}
use Rattle.saving.specs.Laying.{Saves}
use Rattle.opening.specs.Judging.{open_number, open_book, Opens}
use Rattle.snapshot.specs.Host.{save_asks, SaveIs, day_opened, OpenIs}

-- Saving

module _ (phase : ℕ) (b : Book) (out : List ℕ) where
  pub short : length out < snapshot_words → SaveIs phase b out 1 out
  unfolding save_asks
  short h =
      record {
        reason = stops 0 (save_asks phase b out) tt (lt-leb snapshot_words (length out) h);
        words = refl;
        again = λ z. absurd (omega (arith, z));
      }

  module _ (h : snapshot_words ≤ length out) where
    pub not_sound : sound_at phase b ≡ false → SaveIs phase b out 5 out
    unfolding save_asks
    not_sound e =
        record {
          reason = stops 1 (save_asks phase b out) (le-leb snapshot_words (length out) h, tt) e;
          words = refl;
          again = λ z. absurd (omega (arith, z));
        }

    pub done : sound_at phase b ≡ true → (s : State) → s ≡ b.state → (ws : List ℕ) → Saves (with_state b s) ws → (after : List ℕ) →
        after ≡ ws ++ drop snapshot_words out → SaveIs phase b out 0 after
    unfolding save_asks
    done e s f ws k after a =
        let g : with_state b s ≡ b = ap (with_state b) f in
        let o : opened ws ≡ Ok b = k.again ∙ ap Ok g in
        record {
          reason = no_no (save_asks phase b out) (le-leb snapshot_words (length out) h, (e, tt));
          words = a ∙ ap (λ l. l ++ drop snapshot_words out) (k.words ∙ ap saved g);
          again = λ z. ap (λ l. opened (take snapshot_words l)) a
              ∙ ap opened (take_at ws (drop snapshot_words out) snapshot_words (opened_length ws b o)) ∙ o;
        }

-- Opening

-- what is lent has no state of its own
lent_same : (d : Opened) (lent : Book) (s : State) → open_book d (with_state lent s) ≡ open_book d lent
lent_same (Err n) lent s = refl
lent_same (Ok b) lent s = refl

module _ (ws : List ℕ) (lent : Book) where
  -- columns of other lengths stay as they came
  pub wrong : (s : State) (t : DayState) → s ≡ fresh.state → t ≡ numbers_of s → lengths_right lent ≡ false →
      OpenIs ws (record { reason = 1; state = t }) lent (with_state lent (state_in t))
  unfolding day_opened
  wrong s t f k h =
      let e : cond (lengths_right lent) (opened ws) (Err 1) ≡ Err 1 = cond_false (lengths_right lent) (opened ws) (Err 1) h in
      record {
        reason = sym (ap open_number e);
        state = k ∙ ap numbers_of f ∙ sym (ap (λ d. numbers_of (open_book d lent).state) e);
        columns = ap (with_state lent) (ap state_in k ∙ back_state s ∙ f) ∙ sym (ap (λ d. open_book d lent) e);
      }

  pub right : (n : ℕ) (after : Book) (t : DayState) → t ≡ numbers_of after.state → lengths_right lent ≡ true →
      Opens ws n (with_state lent after.state) after → OpenIs ws (record { reason = n; state = t }) lent (with_state after (state_in t))
  unfolding day_opened
  right n after t q h o =
      let e : cond (lengths_right lent) (opened ws) (Err 1) ≡ opened ws = cond_true (lengths_right lent) (opened ws) (Err 1) h in
      let k : after ≡ open_book (cond (lengths_right lent) (opened ws) (Err 1)) lent =
      o.book ∙ lent_same (opened ws) lent after.state ∙ sym (ap (λ d. open_book d lent) e) in
      record {
        reason = o.refusal ∙ sym (ap open_number e);
        state = q ∙ ap (λ x. numbers_of x.state) k;
        columns = ap (with_state after) (ap state_in q ∙ back_state after.state) ∙ k;
      }
