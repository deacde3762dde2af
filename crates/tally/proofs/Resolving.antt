-- Resolve keeps the invariant: what is met from an account falls from what it owes in the ledger, and
-- the 11s hand as much to those it was owed to.
use mathlib.Core.Path.{refl}
use mathlib.Core.Bool.{cond}
use mathlib.Core.List.{List}
use Prim.Native.Nat.{ℕ, ◌≤◌}
use native.Mathlib.Omega.{arith}
use lib.Dec.{lit<}
use borrow.Author.Tests.{leb-true}
use Rattle.rules.specs.declared.Entry.{Entry}
use Rattle.rules.specs.Ledger.{is_from, is_to, lots_of, meet, met}
use Rattle.rules.specs.Book.{ledger_of, with_ledger}
use Rattle.rules.specs.Records.{record_of}
use Rattle.rules.specs.Calls.{writes, Resolve, resolve_records, called}
use Rattle.rules.specs.Tally.{Tallied}
use Rattle.laws.proofs.Basics.{each_map}
use Rattle.laws.proofs.Fails.{each_of_map}
use Rattle.laws.proofs.Sound.{SoundEntry, sound_parts}
use Rattle.laws.proofs.Ledger.{ledger_written}
use Rattle.laws.proofs.Meeting.{lots_add, meet_met, met_from_lem, sound_met}
use Rattle.laws.proofs.Records.{Fits, entry_fits, records_read, elevens_to}
use Rattle.laws.proofs.Answers.{by_answer}
use Rattle.tally.proofs.Invariant.{Inv, Keeps, did}

module _ (s : Tallied) (v : Inv s) (i a x : ℕ) (o : x ≤ lots_of (is_from i a) (ledger_of s.book)) where
  abbrev es : List Entry
  es = ledger_of s.book

  resolved_inv : Inv (did (Resolve i a x) (writes (with_ledger s.book (meet (is_from i a) x es)) (resolve_records es i a x)) s)
  resolved_inv = record {
    size_nets = v.size_nets;
    size_delivered = v.size_delivered;
    size_lifts = v.size_lifts;
    size_charges = v.size_charges;
    nets = v.nets;
    given = v.given;
    handed = v.handed;
    phase = v.phase;
    rows = v.rows;
    lifts = v.lifts;
    day = v.day;
    turn = v.turn;
    balance = λ j c hj hc.
        rw (ledger_written s.book (meet (is_from i a) x es))
        (omega (
          arith,
          v.balance j c hj hc,
          met_from_lem i a x j c es o,
          elevens_to j c (met (is_from i a) x es),
          meet_met (λ e. cond (is_from j c e) e.lots 0) (lots_add (is_from j c) (λ e n. refl)) (is_from i a) x es,
          meet_met (λ e. cond (is_to j c e) e.lots 0) (lots_add (is_to j c) (λ e n. refl)) (is_from i a) x es,
        ));
    charges = v.charges;
  }

pub keeps_resolve : (s : Tallied) → Inv s → (i a x : ℕ) (out : List ℕ) → Keeps (Resolve i a x) s (called s.book (Resolve i a x) out)
keeps_resolve s v i a x out =
    let b = s.book in
    let rs = resolve_records (ledger_of b) i a x in
    by_answer (Keeps (Resolve i a x) s) b (Resolve i a x) out
    (λ y.
    let g = sound_parts b y.1.0 in
    let ms = met (is_from i a) x (ledger_of b) in
    let o = leb-true _ _ y.1.1.1.1.1.1.0 in
    rw (records_read rs out
    (each_of_map Fits (record_of 11) ms
    (each_map SoundEntry (λ e. Fits (record_of 11 e)) (entry_fits 11 (lit< tt)) ms (sound_met (is_from i a) x (ledger_of b) g.ledger.each))))
    (resolved_inv s v i a x o))
    (λ r. v)
