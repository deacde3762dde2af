-- What an accepted cutoff settles: the house holds nothing, and each due and each owed is accounted for.
use mathlib.Core.Path.{◌≡◌, refl}
use mathlib.Core.Bool.{true, cond}
use mathlib.Core.List.{List, ◌++◌}
use Prim.Native.Nat.{ℕ, ◌+◌, ◌<◌}
use native.Mathlib.Omega.{arith}
use lib.IntN.{ℤ, pos, ◌-ℤ◌}
use Rattle.rules.specs.declared.Book.{Book}
use Rattle.rules.specs.declared.Phase.TheVariants.{Cut}
use Rattle.rules.specs.Measures.{due_of, owed_of}
use Rattle.rules.specs.Units.{sum_lots, of_account}
use Rattle.rules.specs.Ledger.{is_from, is_to}
use Rattle.rules.specs.Book.{is_settling, net_at, order_of, ledger_of, with_state, with_phase, with_ledger}
use Rattle.rules.specs.Calls.{writes, Cutoff, called, new_entries, cutoff_records}
use Rattle.rules.specs.Tally.{Tallied, Tally, answered, after, records_of, in_issue, fails_to, fails_by}
use Rattle.laws.proofs.Basics.{total_append}
use Rattle.laws.proofs.Sound.{SoundBook, sound_parts}
use Rattle.laws.proofs.Ledger.{ledger_written}
use Rattle.laws.proofs.Records.{records_read}
use Rattle.laws.proofs.Issue.{owed_out}
use Rattle.laws.proofs.Answers.{by_answer}
use Rattle.tally.proofs.Signs.{less}
use Rattle.tally.proofs.Invariant.{Inv, did}
use Rattle.tally.proofs.Shown.{shown}
use Rattle.tally.proofs.Cutting.{new_from, all_fit, due_handed, cut_inv}

-- an account's net of the day, by the tally: bought less sold
abbrev pub net_today : Tally → ℕ → ℕ → ℤ
net_today t i a = pos (t.today.bought i a) -ℤ pos (t.today.sold i a)

-- a state before a cutoff and one after it
pub record Settled (s t : Tallied) : Type 0 where
  -- all that was delivered is handed on
  pub nothing_held : (i : ℕ) → i < 16 → in_issue t.tally.today.given i ≡ sum_lots (t.tally.rows i)
  -- an account's due is what it was handed, and what is newly failed to it
  pub due : (i a : ℕ) → i < 16 → a < 64 →
      t.tally.today.handed i a + fails_to t.book i a ≡ due_of (net_today t.tally i a) + fails_to s.book i a
  -- what an account owes is what it gave, and what it newly fails
  pub owed : (i a : ℕ) → i < 16 → a < 64 →
      t.tally.today.given i a + fails_by t.book i a ≡ owed_of (net_today t.tally i a) + fails_by s.book i a

module _ (s : Tallied) (v : Inv s) (g : SoundBook s.book) (p : is_settling s.book.state.phase ≡ true) where
  abbrev b : Book
  b = s.book

  net_is : (i a : ℕ) → i < 16 → a < 64 → net_today s.tally i a ≡ net_at b.nets i a
  net_is i a hi ha = less (net_at b.nets i a) (s.tally.today.sold i a) (s.tally.today.bought i a) (v.nets i a hi ha)

  settles :
      Settled s
      (did Cutoff
      (writes (with_ledger (with_state b (with_phase b.state Cut)) (ledger_of b ++ new_entries b.state.day (order_of b) b.nets b.delivered))
      (cutoff_records b.state.day (order_of b) b.nets b.delivered)) s)
  settles =
      let rs = cutoff_records b.state.day (order_of b) b.nets b.delivered in
      let new = new_entries b.state.day (order_of b) b.nets b.delivered in
      record {
        nothing_held = λ i h. ((shown _ (cut_inv s v g p)).stock i h).handed_on refl;
        due = λ i a hi ha.
            rw (ledger_written b (ledger_of b ++ new), net_is i a hi ha)
            (omega (
              arith,
              v.handed i a,
              total_append (of_account a) (s.tally.rows i) (records_of 10 i rs),
              total_append (λ e. cond (is_to i a e) e.lots 0) (ledger_of b) new,
              due_handed s v g p i a hi ha,
            ));
        owed = λ i a hi ha.
            rw (ledger_written b (ledger_of b ++ new), net_is i a hi ha)
            (omega (
              arith,
              v.given i a hi ha,
              total_append (λ e. cond (is_from i a e) e.lots 0) (ledger_of b) new,
              new_from b i a hi,
              owed_out b g v.size_nets v.size_delivered i hi a ha,
            ));
      }

pub cutoff_settles : (s : Tallied) → Inv s → (out : List ℕ) → (called s.book Cutoff out).refusal ≡ 0 → Settled s (after s Cutoff out)
cutoff_settles s v out =
    let b = s.book in
    let rs = cutoff_records b.state.day (order_of b) b.nets b.delivered in
    by_answer (λ r. r.refusal ≡ 0 → Settled s (answered Cutoff r s)) b Cutoff out
    (λ y h.
    let g = sound_parts b y.1.0 in
    let p = y.1.1.0 in
    rw (records_read rs out (all_fit s v g p)) (settles s v g p))
    (λ r h. absurd (omega arith))
