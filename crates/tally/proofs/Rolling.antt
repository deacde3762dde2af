-- Roll keeps the invariant: each charge is taken from one account and given to another, so that charges
-- go on summing to 0; today's numbers are 0 in book and tally.
use mathlib.Core.Path.{◌≡◌, refl, sym, ◌∙◌, ap}
use mathlib.Core.Bool.{true, false, false≢true}
use mathlib.Core.List.{List}
use Prim.Native.Nat.{ℕ, ◌+◌}
use lib.ListN.{length-replicate}
use lib.IntN.{pos}
use Rattle.rules.specs.declared.Phase.{Phase}
use Rattle.rules.specs.declared.Phase.TheVariants.{Taking, Settling, Cut}
use Rattle.rules.specs.Book.{is_settling, is_cut, ledger_of}
use Rattle.rules.specs.Calls.{Roll, called}
use Rattle.rules.specs.Tally.{Tallied}
use Rattle.laws.proofs.Cells.{row_zeros}
use Rattle.laws.proofs.LiftColumn.{no_lifts}
use Rattle.laws.proofs.Sound.{sound_parts}
use Rattle.laws.proofs.Charges.{charged_length, charged_balance}
use Rattle.laws.proofs.Answers.{by_answer}
use Rattle.tally.proofs.Invariant.{Inv, Keeps}
use Rattle.tally.proofs.Taking.{no_net_lem, none_delivered}

cut_not_settling : (p : Phase) → is_cut p ≡ true → is_settling p ≡ false
cut_not_settling Taking h = refl
cut_not_settling Settling h = absurd (false≢true h)
cut_not_settling Cut h = refl

pub keeps_roll : (s : Tallied) → Inv s → (days rate : ℕ) (quotes out : List ℕ) → Keeps (Roll days rate quotes) s (called s.book (Roll days rate quotes) out)
keeps_roll s v days rate quotes out =
    let b = s.book in
    by_answer (Keeps (Roll days rate quotes) s) b (Roll days rate quotes) out
    (λ y. record {
      size_nets = length-replicate 1024 (pos 0);
      size_delivered = length-replicate {A = ℕ} 1024 0;
      size_lifts = length-replicate {A = ℕ} 288 0;
      size_charges = charged_length days rate quotes (ledger_of b) b.charges ∙ v.size_charges;
      nets = λ i a h k. rw (no_net_lem i a h k) refl;
      given = none_delivered;
      handed = λ i a. refl;
      phase = v.phase ∙ cut_not_settling b.state.phase y.1.0;
      rows = λ i h. (refl, row_zeros i 1024);
      lifts = λ i h. sym (no_lifts i 288);
      day = ap (λ n. n + 1) v.day;
      turn = v.turn;
      balance = v.balance;
      charges = charged_balance days rate quotes (ledger_of b) b.charges v.size_charges
          (sound_parts b y.0).ledger.each v.charges;
    })
    (λ r. v)
