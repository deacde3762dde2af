-- A scan with a flag: the flag and the test of what is left are together the test of the whole.
use mathlib.Core.Path.{◌≡◌, refl, ap, sym, ◌∙◌}
use mathlib.Core.Bool.{Bool, true, false, cond, ◌&&◌}
use Prim.Native.Nat.{◌*◌, ◌≤◌}
use lib.Dec.{leb}
use lib.ListN.{drop}
use borrow.Author.Tests.{leb-true}
use Rattle.rules.specs.Measures.{issue_count, most_lots, most_entries, most_charge}
use Rattle.rules.specs.declared.Book.{Book}
use Rattle.rules.specs.Book.{is_taking, tabulate, all, row, ledger_of, is_zero, balanced, within_size, within_owed, entry_sound, days_sound, lifts_sound, order_of, cells_even, entry_even, conditions, sound, dealt_today}
use Rattle.laws.proofs.Basics.{and_left, and_right}
use Rattle.laws.proofs.Carried.{lifts_either}
use Rattle.laws.proofs.Scans.{and_true, and_assoc}
use Rattle.balancing.specs.Scan.{nets_sound, delivered_sound, entries_sound, unused_zero, ledger_sound, charges_sound}
use Rattle.placing.specs.LiftScan.{all_lifts}
use Rattle.balancing.specs.EvenScan.{all_cells}

-- All parts

last_joined : (o p q : Bool) → (o && p) && q ≡ o && (p && (q && true))
last_joined o p q = and_assoc o p q ∙ ap (λ t. o && (p && t)) (sym (and_true q))

joined : (a b c d e f g h i j k l m n o p q : Bool) →
    ((((a && (b && c)) && d) && (e && ((f && g) && (h && i && j && k && l)))) && (m && n)) && ((o && p) && q)
    ≡ a && (b && (c && (d && (e && (f && (g && (h && (i && (j && (k && (l && (m && (n && (o && (p && (q && true))))))))))))))))
joined false b c d e f g h i j k l m n o p q = refl
joined true false c d e f g h i j k l m n o p q = refl
joined true true false d e f g h i j k l m n o p q = refl
joined true true true false e f g h i j k l m n o p q = refl
joined true true true true false f g h i j k l m n o p q = refl
joined true true true true true false g h i j k l m n o p q = refl
joined true true true true true true false h i j k l m n o p q = refl
joined true true true true true true true false i j k l m n o p q = refl
joined true true true true true true true true false j k l m n o p q = refl
joined true true true true true true true true true false k l m n o p q = refl
joined true true true true true true true true true true false l m n o p q = refl
joined true true true true true true true true true true true false m n o p q = refl
joined true true true true true true true true true true true true m n o p q = and_assoc m n ((o && p) && q) ∙ ap (λ t. m && (n && t)) (last_joined o p q)

-- the tests but those of lifts and marks
abbrev pub others : Book → Bool
others b =
    ((nets_sound b.nets b.delivered && delivered_sound b.state.phase b.delivered)
    && ledger_sound b.state.day b.state.entries b.issues b.froms b.tos b.lots b.days)
    && charges_sound b.state.day b.charges

-- those of lifts and marks
abbrev pub last : Book → Bool
last b =
    (all_lifts b.state.phase b.nets b.delivered b.lifts && all_cells b.state.marks b.nets b.delivered) && all (entry_even b.state.marks) (ledger_of b)

-- places are right in the order of the day exactly if they are in the old one
either_order : (b : Book) → all_lifts b.state.phase b.nets b.delivered b.lifts ≡ all (lifts_sound b.state.phase (order_of b) b.delivered b.lifts) (tabulate (λ i. i) 0 issue_count)
unfolding all_lifts
either_order b = sym (lifts_either (dealt_today b) b.state.phase b.nets b.delivered b.lifts (tabulate (λ i. i) 0 issue_count))

sound_joined : (b : Book) → others b && last b ≡ sound b
unfolding nets_sound delivered_sound ledger_sound entries_sound unused_zero charges_sound all_cells sound conditions
sound_joined b =
    rw (either_order b)
    (joined (all (within_size most_lots) b.nets) (all (λ i. balanced (row i b.nets)) (tabulate (λ i. i) 0 issue_count))
    (within_owed b.nets b.delivered) (cond (is_taking b.state.phase) (all is_zero b.delivered) true)
    (leb b.state.entries most_entries) (all entry_sound (ledger_of b)) (days_sound 0 b.state.day (ledger_of b))
    (all is_zero (drop b.state.entries b.issues)) (all is_zero (drop b.state.entries b.froms))
    (all is_zero (drop b.state.entries b.tos)) (all is_zero (drop b.state.entries b.lots))
    (all is_zero (drop b.state.entries b.days)) (balanced b.charges) (all (within_size (most_charge * b.state.day)) b.charges)
    (all (lifts_sound b.state.phase (order_of b) b.delivered b.lifts) (tabulate (λ i. i) 0 issue_count))
    (all (cells_even b.state.marks b.nets b.delivered) (tabulate (λ i. i) 0 issue_count)) (all (entry_even b.state.marks) (ledger_of b)))

module _ (b : Book) where
  pub others_as : (n d l c : Bool) → n ≡ nets_sound b.nets b.delivered → d ≡ delivered_sound b.state.phase b.delivered →
      l ≡ ledger_sound b.state.day b.state.entries b.issues b.froms b.tos b.lots b.days → c ≡ charges_sound b.state.day b.charges →
      ((n && d) && l) && c ≡ others b
  others_as n d l c en ed el ec = rw (en, ed, el, ec)

  pub others_no : others b ≡ false → false ≡ sound b
  others_no e = ap (λ t. t && last b) (sym e) ∙ sound_joined b

  pub others_yes : others b ≡ true → (l c r : Bool) → l ≡ all_lifts b.state.phase b.nets b.delivered b.lifts →
      c ≡ all_cells b.state.marks b.nets b.delivered → r ≡ all (entry_even b.state.marks) (ledger_of b) → (l && c) && r ≡ sound b
  others_yes e l c r el ec er = rw (el, ec, er) (ap (λ t. t && last b) (sym e) ∙ sound_joined b)

  pub nets_yes : others b ≡ true → nets_sound b.nets b.delivered ≡ true
  nets_yes e = and_left _ _ (and_left _ _ (and_left _ _ e))

  pub count_yes : others b ≡ true → b.state.entries ≤ most_entries
  unfolding ledger_sound
  count_yes e =
      let n = nets_sound b.nets b.delivered && delivered_sound b.state.phase b.delivered in
      let l = ledger_sound b.state.day b.state.entries b.issues b.froms b.tos b.lots b.days in
      leb-true b.state.entries most_entries (and_left (leb b.state.entries most_entries) _ (and_right n l (and_left (n && l) _ e)))
