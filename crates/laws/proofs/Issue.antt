-- An issue of a sound book: at the cutoff what is handed on and failed is exactly each receiver's due,
-- and what was delivered and is failed exactly what each deliverer owes; each fail is a sound entry, and
-- each record fits its words.
use mathlib.Core.Path.{◌≡◌, sym, ◌∙◌}
use mathlib.Core.Bool.{Bool, true}
use mathlib.Core.List.{List, [], ◌∷◌, map}
use Prim.Native.Nat.{ℕ, ◌+◌, ◌≤◌, ◌<◌}
use native.Mathlib.Omega.{arith}
use lib.Dec.{lit<}
use lib.ListN.{length}
use lib.IntN.{ℤ}
use Rattle.rules.specs.declared.Book.{Book}
use Rattle.rules.specs.Measures.{unit_lots, most_lots, total, due_of, owed_of}
use Rattle.rules.specs.Units.{AccountLots, sum_lots, of_account}
use Rattle.rules.specs.Handover.{covered, handed, waiting, first_unit}
use Rattle.rules.specs.Fails.{Fail}
use Rattle.rules.specs.Book.{row, cell, net_at, delivered_at, dues_of, delivered_total, order_in, order_of, within_owed, dealt_today}
use Rattle.rules.specs.Records.{handover, record_of}
use Rattle.rules.specs.Calls.{issue_partials, issue_fails, fail_entry, issue_entries, issue_records}
use Rattle.laws.proofs.Basics.{Every, each_append, each_map, each_zip, each_drop}
use Rattle.laws.proofs.Units.{UnitSized}
use Rattle.laws.proofs.Handover.{each_partials}
use Rattle.laws.proofs.Fails.{Bounded, lots_to, lots_from, each_of_map}
use Rattle.laws.proofs.Cutoff.{SoundRow, Deliverer, Receiver, delivered_due, fails_from, fails_to_lem, not_both}
use Rattle.laws.proofs.Cells.{length_row, get_or_row, length_dues, due_at, owed_at, within_row}
use Rattle.laws.proofs.Sound.{SoundEntry, SoundBook, parts_balanced, within_at}
use Rattle.laws.proofs.SoundRows.{order_in_lem, sound_row, total_due, stock_small, issue_bounded}
use Rattle.laws.proofs.Records.{Fits, entry_fits}

-- a unit's handover fits its words
unit_fits : (i n : ℕ) → i < 16 → n ≡ 64 → (u : AccountLots) → UnitSized u → u.account < n → Fits (handover i u)
unit_fits i n hi e u s a =
    record { kind = lit< tt; issue = hi; from = lit< tt; to = omega arith; lots = omega (arith, s.1) }

pub units_fit : (new : Bool) (nets : List ℤ) (lifts : List ℕ) (i : ℕ) → i < 16 → length nets ≡ 1024 → Every (λ u. Fits (handover i u)) (order_in new nets lifts i)
units_fit new nets lifts i hi n =
    let k = order_in_lem new nets lifts i in
    each_zip UnitSized (λ u. u.account < length (dues_of nets i)) (λ u. Fits (handover i u))
    (unit_fits i (length (dues_of nets i)) hi (length_dues nets i n hi)) (order_in new nets lifts i) k.sized k.accounts

-- delivered lots within what is owed sum to at most the units
pub within_units : (b : Book) → SoundBook b → (i : ℕ) → i < 16 → length b.nets ≡ 1024 →
    (ds : List ℕ) → length ds ≡ 1024 → within_owed b.nets ds ≡ true → delivered_total ds i ≤ sum_lots (order_of b i)
within_units b g i hi n ds m w =
    let r : SoundRow (row i b.nets) (row i ds) =
    record {
      lengths = length_row b.nets i n hi ∙ sym (length_row ds i m hi);
      balance = parts_balanced (row i b.nets) (g.rows i hi);
      owed = within_row i b.nets ds w;
    } in
    omega (arith, delivered_due (row i b.nets) (row i ds) r, (order_in_lem (dealt_today b) b.nets b.lifts i).whole)

module _ (b : Book) (g : SoundBook b) (n : length b.nets ≡ 1024) (m : length b.delivered ≡ 1024) (i : ℕ) (hi : i < 16) where
  abbrev us : List AccountLots
  us = order_of b i

  abbrev d : ℕ
  d = delivered_total b.delivered i

  abbrev fs : List Fail
  fs = issue_fails (order_of b) b.nets b.delivered i

  pub delivered_units : d ≤ sum_lots us
  delivered_units = omega (arith, total_due b g n m i hi, (order_in_lem (dealt_today b) b.nets b.lifts i).whole)

  -- delivered and failed by an account are what it owes
  pub owed_out : (a : ℕ) → a < 64 → delivered_at b.delivered i a + total (lots_from a) fs ≡ owed_of (net_at b.nets i a)
  unfolding issue_fails
  owed_out a ha =
      omega (
        arith,
        fails_from (row i b.nets) (row i b.delivered) us (order_in_lem (dealt_today b) b.nets b.lifts i) (sound_row b g n m i hi) unit_lots a,
        owed_at b.nets i a ha,
        get_or_row b.delivered i a 0 ha,
        within_at b.nets b.delivered (cell i a) (n ∙ sym m) g.owed,
      )

  -- handed and failed to an account are its due
  pub due_in : (a : ℕ) → a < 64 →
      total (of_account a) (handed us d) + total (of_account a) (issue_partials (order_of b) b.delivered i) + total (lots_to a) fs
      ≡ due_of (net_at b.nets i a)
  unfolding issue_fails issue_partials
  due_in a ha =
      fails_to_lem (row i b.nets) (row i b.delivered) us (order_in_lem (dealt_today b) b.nets b.lifts i) (sound_row b g n m i hi) unit_lots a
      ∙ due_at b.nets i a ha

  -- each fail is a sound entry
  pub entries_sound_lem : (today : ℕ) → Every SoundEntry (issue_entries today (order_of b) b.nets b.delivered i)
  entries_sound_lem today =
      let ns = row i b.nets in
      let l = length_row b.nets i n hi in
      each_of_map SoundEntry (fail_entry today i) fs
      (each_map (Bounded (Deliverer ns) (Receiver ns) most_lots) (λ f. SoundEntry (fail_entry today i f))
      (λ f r. record {
        issue = hi;
        from = omega (arith, r.from.0);
        to = omega (arith, r.to.0);
        apart = λ e. not_both ns f.to (rw e at r.from) r.to;
        some = r.some;
        most = r.lots;
      })
      fs (issue_bounded b g n m i hi))

  first_account : (ws : List AccountLots) → Every (λ u. Fits (handover i u)) ws → (first_unit ws).account < 64
  first_account [] q = lit< tt
  first_account (w ∷ ws) q = q.0.to

  partials_fit : Every (λ u. Fits (handover i u)) (issue_partials (order_of b) b.delivered i)
  unfolding issue_partials
  partials_fit =
      let q = stock_small b g n m i hi in
      each_partials (λ u. Fits (handover i u)) us d
      (λ h. record {
        kind = lit< tt;
        issue = hi;
        from = lit< tt;
        to = first_account (waiting us d) (each_drop (λ u. Fits (handover i u)) (covered us d) us (units_fit (dealt_today b) b.nets b.lifts i hi n));
        lots = omega arith;
      })

  -- the issue's records fit their words
  pub records_fit : (today : ℕ) → Every Fits (issue_records today (order_of b) b.nets b.delivered i)
  records_fit today =
      let es = issue_entries today (order_of b) b.nets b.delivered i in
      each_append Fits (map (handover i) (issue_partials (order_of b) b.delivered i)) (map (record_of 12) es)
      (each_of_map Fits (handover i) (issue_partials (order_of b) b.delivered i) partials_fit)
      (each_of_map Fits (record_of 12) es
      (each_map SoundEntry (λ e. Fits (record_of 12 e)) (entry_fits 12 (lit< tt)) es (entries_sound_lem today)))
