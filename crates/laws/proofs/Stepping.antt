-- A step of pair-off, and so all of them, keeps entries sound, days never falling and the ledger no
-- longer than it was: where an entry P to Q is appended, one of the two that fell is gone.
use mathlib.Core.Path.{◌≡◌, refl}
use mathlib.Core.Bool.{true, false}
use mathlib.Core.List.{List}
use Prim.Native.Nat.{ℕ, zero, suc, ◌≤◌, ◌<◌}
use native.Mathlib.Omega.{arith}
use native.Mathlib.Nat.{le_trans}
use lib.Dec.{leb, eqb, lit<}
use lib.ListN.{length, length-append}
use borrow.Author.Tests.{leb-true, leb-false, eqb-false}
use Rattle.rules.specs.declared.Entry.{Entry}
use Rattle.rules.specs.Measures.{most_lots}
use Rattle.rules.specs.Ledger.{is_from, is_to, count_of, first_of, lower, smaller_lots, appended, stepped, has_both, paired, pairing}
use Rattle.rules.specs.Book.{days_sound}
use Rattle.laws.proofs.Basics.{by_test, either, Every, each_append, each_map}
use Rattle.laws.proofs.Sound.{SoundEntry}
use Rattle.laws.proofs.Meeting.{days_append}
use Rattle.laws.proofs.Lowering.{first_lots, first_live, first_bound, first_stays, length_lower, length_gone, sound_lower, days_lower, from_not_to}
use Rattle.laws.proofs.Pairing.{in_and_out, both_yes}

pub record StillSound (today : ℕ) (es es' : List Entry) : Type 0 where
  pub each : Every SoundEntry es'
  pub days : days_sound 0 today es' ≡ true
  pub few : length es' ≤ length es

module _ (today i a : ℕ) (hi : i < 16) (es : List Entry) (ss : Every SoundEntry es) (both : has_both i a es ≡ true) where
  abbrev m : ℕ
  m = smaller_lots i a es

  abbrev P : ℕ
  P = first_of (λ e. e.from) (is_to i a) es

  abbrev Q : ℕ
  Q = first_of (λ e. e.to) (is_from i a) es

  abbrev es₁ : List Entry
  es₁ = lower (is_from i a) m es

  -- the smaller lots are an entry's
  pub step_lots : (1 ≤ m) × (m ≤ most_lots)
  step_lots =
      let h = both_yes (count_of (is_to i a) es) (count_of (is_from i a) es) both in
      let ls = each_map SoundEntry (λ e. 1 ≤ e.lots) (λ e s. s.some) es ss in
      let ms = each_map SoundEntry (λ e. e.lots < 20000001) (λ e s. omega (arith, s.most)) es ss in
      let x = first_live (is_to i a) es ls h.0 in
      let y = first_live (is_from i a) es ls h.1 in
      let z = first_bound (λ e. e.lots) 20000001 (is_from i a) es (lit< tt) ms in
      (omega arith, omega arith)

  pub appended_sound : Every SoundEntry (appended today i P Q m)
  appended_sound =
      by_test (eqb P Q)
      (λ e. simp e tt)
      (λ e. simp e (
        record {
          issue = hi;
          from = first_bound (λ e. e.from) 64 (is_to i a) es (lit< tt) (each_map SoundEntry (λ e. e.from < 64) (λ e s. s.from) es ss);
          to = first_bound (λ e. e.to) 64 (is_from i a) es (lit< tt) (each_map SoundEntry (λ e. e.to < 64) (λ e s. s.to) es ss);
          apart = eqb-false P Q e;
          some = step_lots.0;
          most = step_lots.1;
        },
        tt,
      ))

  pub stepped_each : Every SoundEntry (stepped today i a es)
  stepped_each =
      each_append SoundEntry (lower (is_to i a) m es₁) (appended today i P Q m)
      (sound_lower (is_to i a) m es₁ (sound_lower (is_from i a) m es ss)) appended_sound

  pub stepped_few : length (stepped today i a es) ≤ length es
  stepped_few =
      let x = first_lots (is_to i a) es in
      let y = first_lots (is_from i a) es in
      let s = step_lots in
      let apart = each_map SoundEntry (λ e. is_from i a e ≡ true → is_to i a e ≡ false) (λ e s. from_not_to i a e s.apart) es ss in
      let st = first_stays (λ e. e.lots) (is_to i a) (is_from i a) (λ e n. refl) m es apart in
      let l = length-append (lower (is_to i a) m es₁) (appended today i P Q m) in
      let l₁ = length_lower (is_from i a) m es in
      let l₂ = length_lower (is_to i a) m es₁ in
      let l₃ : length (appended today i P Q m) ≤ 1 = either (λ r. length r ≤ 1) (eqb P Q) (omega arith) (omega arith) in
      by_test (leb x y)
      (λ q. let k = length_gone (is_to i a) m es₁ (omega (arith, st)) (omega (arith, st, leb-true x y q)) in omega (arith, l, l₁, l₃, k))
      (λ q. let k = length_gone (is_from i a) m es (omega arith) (omega (arith, leb-false x y q)) in omega (arith, l, l₂, l₃, k))

  pub stepped_days : days_sound 0 today es ≡ true → days_sound 0 today (stepped today i a es) ≡ true
  stepped_days ds =
      days_append 0 today (lower (is_to i a) m es₁) (appended today i P Q m)
      (days_lower 0 today (is_to i a) m es₁ (days_lower 0 today (is_from i a) m es ds))
      (either (Every (λ e. e.day ≡ today)) (eqb P Q) tt (refl, tt))

paired_sound : (n today i a : ℕ) (es : List Entry) → i < 16 → Every SoundEntry es → days_sound 0 today es ≡ true →
    StillSound today es (paired n today i a es).ledger
paired_sound zero today i a es hi ss ds = record { each = ss; days = ds; few = omega arith }
paired_sound (suc n) today i a es hi ss ds =
    by_test (has_both i a es)
    (λ e.
    let r = paired_sound n today i a (stepped today i a es) hi (stepped_each today i a hi es ss e) (stepped_days today i a hi es ss e ds) in
    rw e (record { each = r.each; days = r.days; few = le_trans r.few (stepped_few today i a hi es ss e) }))
    (λ e. rw e (record { each = ss; days = ds; few = omega arith }))

-- pair-off keeps a ledger sound, and adds no entry in all
pub pairing_sound : (today i a : ℕ) (es : List Entry) → i < 16 → Every SoundEntry es → days_sound 0 today es ≡ true →
    StillSound today es (pairing today i a es).ledger
unfolding pairing
pairing_sound today i a es hi ss ds = paired_sound (in_and_out i a es) today i a es hi ss ds
