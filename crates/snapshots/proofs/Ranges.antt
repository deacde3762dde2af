-- What a sound book's numbers are below, so that each fits its word.
use mathlib.Core.Path.{◌≡◌, sym, ap, ◌∙◌}
use mathlib.Core.Bool.{true}
use mathlib.Core.List.{List, [], ◌∷◌}
use Prim.Native.Nat.{ℕ, ◌+◌, ◌-◌, ◌*◌, ◌≤◌, ◌<◌}
use native.Mathlib.Omega.{arith}
use lib.Dec.{leb, ltb}
use lib.ListN.{length, get_or, drop}
use lib.Seq.{get_or-drop}
use lib.IntN.{ℤ, pos, negsuc, nat_abs}
use borrow.Author.Tests.{leb-true, lt-ltb, ltb-true, ltb-false}
use Rattle.rules.specs.declared.Book.{Book}
use Rattle.rules.specs.declared.Entry.{Entry}
use Rattle.rules.specs.Measures.{most_lots, most_charge, owed_of}
use Rattle.rules.specs.Book.{all, is_zero, entries, days_sound, sound}
use Rattle.laws.proofs.Basics.{Every, by_test, and_left, and_right, all_of, each_at, each_map}
use Rattle.laws.proofs.Sound.{SoundLedger, sound_parts, each_all, zero_at_lem, within_at, net_bounded}
use Rattle.laws.proofs.Ledger.{no_entry, length_entries, entry_at_lem, sound_at_lem}
use Rattle.checksums.specs.Sums.{word_size, below}
use Rattle.snapshots.specs.Words.{fits32, fits64, InRange}
use Rattle.snapshots.specs.Snapshot.{Typed}

-- Signed numbers by their size

small_fits : (n : ℤ) → nat_abs n ≤ most_lots → fits32 n ≡ true
small_fits (pos n) h = lt-ltb n _ (omega (arith, h))
small_fits (negsuc n) h = lt-ltb n _ (omega (arith, h))

charge_fits : (d : ℕ) (c : ℤ) → d < 65536 → nat_abs c ≤ most_charge * d → fits64 c ≡ true
charge_fits d (pos n) k h = lt-ltb n _ (omega (arith, k, h))
charge_fits d (negsuc n) k h = lt-ltb n _ (omega (arith, k, h))

owed_size : (n : ℤ) → nat_abs n ≤ most_lots → owed_of n ≤ most_lots
owed_size (pos n) h = omega arith
owed_size (negsuc n) h = omega (arith, h)

-- A ledger

days_most : (least today : ℕ) (es : List Entry) → days_sound least today es ≡ true → least ≤ today
days_most least today [] h = leb-true least today h
days_most least today (e ∷ es) h =
    let a = leb-true least e.day (and_left (leb least e.day) (days_sound e.day today es) h) in
    let b = days_most e.day today es (and_right (leb least e.day) (days_sound e.day today es) h) in
    omega (arith, a, b)

days_each : (least today : ℕ) (es : List Entry) → days_sound least today es ≡ true → Every (λ e. e.day ≤ today) es
days_each least today [] h = tt
days_each least today (e ∷ es) h =
    let r = and_right (leb least e.day) (days_sound e.day today es) h in
    (days_most e.day today es r, days_each e.day today es r)

-- a column is 0 from the number of entries on
unused_at : (xs : List ℕ) (n k : ℕ) → n ≤ k → all is_zero (drop n xs) ≡ true → get_or xs k 0 ≡ 0
unused_at xs n k h a =
    let e : n + (k - n) ≡ k = omega arith in
    ap (λ j. get_or xs j 0) (sym e) ∙ sym (get_or-drop n xs (k - n) 0) ∙ zero_at_lem (drop n xs) (k - n) a

module _ (today n : ℕ) (is fs ts xs ds : List ℕ) (s : SoundLedger today n is fs ts xs ds) where
  day_at : (k : ℕ) → k < n → get_or ds k 0 ≤ today
  day_at k h =
      rw (entry_at_lem n is fs ts xs ds k h) at
      (each_at (λ e. e.day ≤ today) (entries n is fs ts xs ds) no_entry k (days_each 0 today (entries n is fs ts xs ds) s.days)
      (omega (arith, length_entries n is fs ts xs ds)))

  pub ledger_fields : today < 65536 → InRange is fs ts ds
  ledger_fields t k =
      by_test (ltb k n)
      (λ y.
      let h = ltb-true k n y in
      let e = sound_at_lem today n is fs ts xs ds s k h in
      record { issue = e.issue; from = e.from; to = e.to; day = omega (arith, t, day_at k h) })
      (λ y.
      let h = ltb-false k n y in
      record {
        issue = omega (arith, unused_at is n k h s.unused_issues);
        from = omega (arith, unused_at fs n k h s.unused_froms);
        to = omega (arith, unused_at ts n k h s.unused_tos);
        day = omega (arith, unused_at ds n k h s.unused_days);
      })

  pub ledger_lots : (k : ℕ) → get_or xs k 0 ≤ most_lots
  ledger_lots k =
      by_test (ltb k n)
      (λ y. (sound_at_lem today n is fs ts xs ds s k (ltb-true k n y)).most)
      (λ y. omega (arith, unused_at xs n k (ltb-false k n y) s.unused_lots))

-- A book

words_below : (xs : List ℕ) → ((k : ℕ) → get_or xs k 0 ≤ most_lots) → all (below word_size) xs ≡ true
words_below xs h = all_of (below word_size) xs 0 (λ k l. lt-ltb (get_or xs k 0) word_size (omega (arith, h k)))

pub record Ranged (b : Book) : Type 0 where
  pub nets : all fits32 b.nets ≡ true
  pub delivered : all (below word_size) b.delivered ≡ true
  pub charges : all fits64 b.charges ≡ true
  pub entered : InRange b.issues b.froms b.tos b.days
  pub lots : all (below word_size) b.lots ≡ true
  pub count : b.state.entries < word_size

pub ranges : (b : Book) → Typed b → sound b ≡ true → Ranged b
ranges b t h =
    let s = sound_parts b h in
    let n : length b.nets ≡ length b.delivered = t.lengths.cells.nets ∙ sym t.lengths.cells.delivered in
    record {
      nets = each_all fits32 b.nets (each_map (λ n. nat_abs n ≤ most_lots) (λ n. fits32 n ≡ true) small_fits b.nets s.size);
      delivered =
          words_below b.delivered
          (λ k. omega (arith, within_at b.nets b.delivered k n s.owed, owed_size (get_or b.nets k (pos 0)) (net_bounded b s k)));
      charges =
          each_all fits64 b.charges
          (each_map (λ c. nat_abs c ≤ most_charge * b.state.day) (λ c. fits64 c ≡ true) (λ c q. charge_fits b.state.day c t.day q) b.charges s.bounded);
      entered = ledger_fields _ _ _ _ _ _ _ s.ledger t.day;
      lots = words_below b.lots (ledger_lots _ _ _ _ _ _ _ s.ledger);
      count = omega (arith, s.ledger.count);
    }
