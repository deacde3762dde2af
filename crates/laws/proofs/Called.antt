-- Every call, whatever its arguments: an accepted one keeps a sound book sound and its columns' sizes,
-- and a refused one changes nothing.
use mathlib.Core.Path.{◌≡◌, refl, ◌∙◌}
use mathlib.Core.Bool.{true, ◌&&◌}
use mathlib.Core.List.{List}
use Prim.Native.Nat.{ℕ, ◌<◌}
use native.Mathlib.Omega.{arith}
use lib.Dec.{leb, ltb, eqb}
use lib.ListN.{length, length-set, length-replicate}
use lib.IntN.{pos}
use borrow.Author.Tests.{leb-true, ltb-true, eqb-false, not-true}
use Rattle.rules.specs.declared.Book.{Book}
use Rattle.rules.specs.declared.Phase.TheVariants.{Settling}
use Rattle.rules.specs.Measures.{quote_count, most_lots, most_days, most_rate, between}
use Rattle.rules.specs.Handover.{covered}
use Rattle.rules.specs.Book.{delivered_total, order_of, ledger_of, lift_conditions, lifts_sound, cells_even, sound, conditions, with_nets, with_state, with_phase, fresh}
use Rattle.rules.specs.Questions.{quotes_right, no_net, no_entry}
use Rattle.rules.specs.Calls.{Call, Trade, Close, Deliver, Ask, Commit, Cutoff, Resolve, PairOff, Roll, Mark, Turn, Answer, traded_nets, asks, effect, called}
use Rattle.laws.proofs.Basics.{and_left, and_right}
use Rattle.laws.proofs.Sound.{SoundBook, lots_parts, sound_parts, parts_sound}
use Rattle.laws.proofs.Answers.{AllYes, by_answer}
use Rattle.laws.proofs.Charges.{charged_length, quotes_most}
use Rattle.laws.proofs.Kept.{trade_kept, close_kept, deliver_kept, commit_kept, cutoff_kept, resolve_kept, pair_off_kept, roll_kept, mark_kept, turn_kept}

-- as a book's fields are
pub record Sizes (b : Book) : Type 0 where
  pub nets : length b.nets ≡ 1024
  pub delivered : length b.delivered ≡ 1024
  pub lifts : length b.lifts ≡ 288
  pub charges : length b.charges ≡ 64

pub record Standing (b : Book) : Type 0 where
  pub sizes : Sizes b
  pub parts : SoundBook b

abbrev resized : (b b' : Book) → Type 0
resized b b' =
    (length b'.nets ≡ length b.nets) × (length b'.delivered ≡ length b.delivered) × (length b'.lifts ≡ length b.lifts)
    × (length b'.charges ≡ length b.charges)

-- a book whose sizes are another's
as_before : (b b' : Book) → Standing b → resized b b' → SoundBook b' → Standing b'
as_before b b' s r g =
    record {
      sizes = record {
        nets = r.0 ∙ s.sizes.nets;
        delivered = r.1 ∙ s.sizes.delivered;
        lifts = r.2 ∙ s.sizes.lifts;
        charges = r.3 ∙ s.sizes.charges;
      };
      parts = g;
    }

-- what a call does keeps a sound book's parts, where no question is answered 'no'
keeps : (b : Book) (c : Call) (out : List ℕ) → AllYes (asks b c out) → Standing b → Standing (effect b c).book
keeps b (Trade i f c x) out y s =
    as_before b (with_nets b (traded_nets b.nets i f c x)) s (simp length-set, refl, refl, refl)
    (trade_kept b s.sizes.nets s.parts i f c x (omega (arith, leb-true i 15 y.1.1.0))
    (omega (arith, leb-true f 63 (and_left (leb f 63) (leb c 63) y.1.1.1.0)))
    (omega (arith, leb-true c 63 (and_right (leb f 63) (leb c 63) y.1.1.1.0)))
    (eqb-false f c (not-true (eqb f c) y.1.1.1.1.0)) y.1.0
    (lots_parts b.state.marks i x y.1.1.1.1.1.1.0) y.1.1.1.1.1.1.1.0)
keeps b Close out y s = as_before b (with_state b (with_phase b.state Settling)) s (refl, refl, refl, refl) (close_kept b s.parts)
keeps b (Deliver i a x) out y s =
    as_before b (effect b (Deliver i a x)).book s (refl, simp length-set, simp length-set, refl)
    (deliver_kept b s.sizes.delivered s.sizes.lifts s.parts i a x (omega (arith, leb-true i 15 y.1.1.1.0))
    (omega (arith, leb-true a 63 y.1.1.1.1.0))
    (leb-true 1 x (and_left (leb 1 x) (leb x most_lots) y.1.1.1.1.1.0)) y.1.1.0
    (lots_parts b.state.marks i x y.1.1.1.1.1.1.0) (leb-true _ _ y.1.1.1.1.1.1.1.0))
keeps b (Ask i k) out y s = s
keeps b (Commit t) out y s =
    let us = order_of b t.issue in
    let h = covered us (delivered_total b.delivered t.issue) in
    let there = y.1.1.1.1.0 in
    as_before b (effect b (Commit t)).book s (refl, refl, simp length-set, refl)
    (commit_kept b s.sizes.lifts s.parts t (omega (arith, leb-true t.issue 15 y.1.1.1.0)) y.1.1.0
    (leb-true h t.unit (and_left (leb h t.unit) (ltb t.unit (length us)) there))
    (ltb-true t.unit (length us) (and_right (leb h t.unit) (ltb t.unit (length us)) there))
    (ltb-true _ _ y.1.1.1.1.1.1.0))
keeps b Cutoff out y s =
    as_before b (effect b Cutoff).book s (refl, refl, refl, refl)
    (cutoff_kept b s.sizes.nets s.sizes.delivered s.parts (leb-true _ _ y.1.1.1.0))
keeps b (Resolve i a x) out y s =
    as_before b (effect b (Resolve i a x)).book s (refl, refl, refl, refl) (resolve_kept b s.parts i a x (lots_parts b.state.marks i x y.1.1.1.1.1.0))
keeps b (PairOff i a) out y s =
    as_before b (effect b (PairOff i a)).book s (refl, refl, refl, refl)
    (pair_off_kept b s.parts i a (omega (arith, leb-true i 15 y.1.0)))
keeps b (Roll days rate quotes) out y s =
    let c₁ = between 1 most_days days in
    let c₂ = leb rate most_rate in
    let c₃ = eqb (length quotes) quote_count in
    let c₄ = quotes_right quotes in
    let h₁ = and_left (c₁ && c₂ && c₃) c₄ y.1.1.0 in
    let h₂ = and_left (c₁ && c₂) c₃ h₁ in
    record {
      sizes = record {
        nets = length-replicate 1024 (pos 0);
        delivered = length-replicate {A = ℕ} 1024 0;
        lifts = length-replicate {A = ℕ} 288 0;
        charges = charged_length days rate quotes (ledger_of b) b.charges ∙ s.sizes.charges;
      };
      parts = roll_kept b s.sizes.charges s.parts days rate quotes
          (leb-true days most_days (and_right (leb 1 days) (leb days most_days) (and_left c₁ c₂ h₂)))
          (leb-true rate most_rate (and_right c₁ c₂ h₂)) (quotes_most quotes (and_right (c₁ && c₂ && c₃) c₄ y.1.1.0));
    }
keeps b (Mark i m) out y s =
    let c₁ = no_net b.nets i in
    let c₂ = no_entry (ledger_of b) i in
    as_before b (effect b (Mark i m)).book s (refl, refl, refl, refl)
    (mark_kept b s.sizes.nets s.sizes.delivered s.parts i m (omega (arith, leb-true i 15 y.1.0))
    (and_left c₁ c₂ y.1.1.0) (and_right c₁ c₂ y.1.1.0))
keeps b (Turn d) out y s = as_before b (effect b (Turn d)).book s (refl, refl, refl, refl) (turn_kept b s.parts d y.1.0)

pub stands : (b : Book) (c : Call) (out : List ℕ) → Standing b → Standing (called b c out).book
stands b c out s = by_answer (λ r. Standing r.book) b c out (λ y. keeps b c out y s) (λ r. s)

-- a call keeps a sound book sound
pub called_sound : (b : Book) (c : Call) (out : List ℕ) → Sizes b → sound b ≡ true → sound (called b c out).book ≡ true
called_sound b c out z h =
    parts_sound (called b c out).book (stands b c out (record { sizes = z; parts = sound_parts b h })).parts

pub fresh_sound : sound fresh ≡ true
unfolding sound conditions lifts_sound lift_conditions cells_even
fresh_sound = refl

-- A refused call

pub record Unchanged (b : Book) (out : List ℕ) (r : Answer) : Type 0 where
  pub count : r.count ≡ 0
  pub cancelled : r.cancelled ≡ 0
  pub book : r.book ≡ b
  pub words : r.out ≡ out

-- a refused call changes nothing: its count is 0, the book is as it was, and so are the words beside the call
pub refused_nothing : (b : Book) (c : Call) (out : List ℕ) → 0 < (called b c out).refusal → Unchanged b out (called b c out)
refused_nothing b c out =
    by_answer (λ r. 0 < r.refusal → Unchanged b out r) b c out (λ y h. absurd (omega arith))
    (λ r h. record { count = refl; cancelled = refl; book = refl; words = refl })
