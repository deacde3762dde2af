-- A roll's quotes are read out of its words, and what stands in the output changes no number, count or book.
use mathlib.Core.Path.{◌≡◌, refl, sym, ap, subst, ◌∙◌}
use mathlib.Core.Bool.{true}
use mathlib.Core.List.{List}
use Prim.Native.Nat.{ℕ, ◌≤◌}
use lib.ListN.{length}
use lib.Seq.{sets}
use Rattle.rules.specs.declared.Book.{Book}
use Rattle.rules.specs.declared.Instruction.{Instruction}
use Rattle.rules.specs.declared.Instruction.TheVariants as instruction
use Rattle.rules.specs.Measures.{output_words}
use Rattle.rules.specs.Calls.{called}
use Rattle.rules.specs.Tape.{quotes_of}
use Rattle.rules.specs.Run.{call_of, any_output, answer_of}
use Rattle.tally.proofs.Reached.{Reached, called_reached}
use Rattle.rereading.proofs.Rolls.{roll_quotes}
use Rattle.rereading.proofs.Run.{answer_lent}
use Rattle.answers.specs.Turns.{Given, TurnIs}
use Rattle.instructions.specs.Answering.{Begins, rolls_of, Quoted, AnsweredIn}

-- a roll's quotes are read out of its words, and no other instruction has any
pub quoted : (ws lent quotes : List ℕ) (x : Instruction) → Begins ws x → length lent ≡ 32 → (rolls_of x ≡ true → quotes ≡ sets lent 0 (quotes_of ws)) →
    Quoted ws x quotes
quoted ws lent quotes (instruction.Roll d r) g h p =
    ap (call_of (instruction.Roll d r)) (p refl ∙ roll_quotes ws lent d r g.count g.read h)
quoted ws lent quotes (instruction.Mark i m) g h p = refl
quoted ws lent quotes (instruction.Turn d) g h p = refl
quoted ws lent quotes (instruction.Trade i f t x) g h p = refl
quoted ws lent quotes (instruction.Deliver i a x) g h p = refl
quoted ws lent quotes (instruction.Resolve i a x) g h p = refl
quoted ws lent quotes (instruction.PairOff i a) g h p = refl
quoted ws lent quotes instruction.Close g h p = refl
quoted ws lent quotes instruction.Cutoff g h p = refl

-- number, count and book are those of the run, which keeps the book sound and its columns' lengths
module _ (b b' : Book) (t : Given) (ws : List ℕ) (x : Instruction) (h : Reached b) where
  run_reached : b' ≡ (answer_of b x ws).book → Reached b'
  unfolding answer_of
  run_reached e = subst Reached (sym e) (called_reached b (call_of x (quotes_of ws)) any_output h)

  pub run_answer : (quotes out lent : List ℕ) → Quoted ws x quotes → output_words ≤ length out →
      TurnIs (called b (call_of x quotes) out) t b' lent → AnsweredIn ws x b t b'
  run_answer quotes out lent p room i =
      let a = answer_lent b out room x ws in
      let j = rw p at i in
      let k = run_reached (j.book ∙ a.book) in
      record {
        says = record { refusal = j.refusal ∙ a.refusal; count = j.count ∙ a.count; book = j.book ∙ a.book };
        lengths = k.lengths;
        sound = k.sound;
      }
