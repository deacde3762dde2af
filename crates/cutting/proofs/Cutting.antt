-- The cutoff of one issue: the stock's record and then the fails are what the definition says of the issue.
use mathlib.Core.Path.{◌≡◌, refl, ap, sym}
use mathlib.Core.Bool.{Bool, true}
use mathlib.Core.List.{List, [], map, append-nil}
use Prim.Native.Nat.{ℕ, ◌+◌, ◌*◌, ◌≤◌, min}
use native.Mathlib.Omega.{arith}
use lib.ListN.{length, length-append, length-map}
use lib.IntN.{ℤ}
use Rattle.rules.specs.Records.{handover, record_of}
use Rattle.rules.specs.Book.{row, order_in}
use Rattle.rules.specs.Calls.{fail_entry, issue_partials, issue_entries, issue_records}
use Rattle.laws.proofs.Basics.{length_put}
use Rattle.words.proofs.Output.{records_length}
use Rattle.words.proofs.Stores.{part_length}
use Rattle.cutting.specs.declared.Ready.{Ready}
use Rattle.cutting.specs.Write.{Lent, fail_records, Wrote}
use Rattle.cutting.specs.Issue.{counts_of, all_delivered, entries_on, CanLay, WasLaid, CanHand, WasHanded, IsReady, CanCut, WasCut}
use Rattle.cutting.proofs.Issues.{no_fails, no_partials}
use Rattle.cutting.proofs.Writing.{with_out, behind, back, wrote_count, wrote_both}

-- an issue of which all is delivered is cut as it stands: it has no entries and no records
pub nothing_cut : (new : Bool) (nets : List ℤ) (delivered lifts : List ℕ) (day i n : ℕ) (a : Lent) → CanCut new nets delivered lifts day i n a →
    all_delivered (row i nets) (row i delivered) ≡ true → WasCut new nets delivered lifts day i n a (counts_of n 0) a
nothing_cut new nets delivered lifts day i n a can e =
    let f = no_fails new nets delivered lifts i can.issue can.sound e in
    let g = no_partials new nets delivered lifts i can.issue can.sound e in
    record { wrote = rw (f, g) (record { held = can.write.held; ledger = sym (append-nil _); out = refl }); records = rw (f, g) }

-- behind the stock's v records: the fails can be laid, and then the issue is cut
pub record Behind (new : Bool) (nets : List ℤ) (delivered lifts : List ℕ) (day i n : ℕ) (a : Lent) (runs missing : List ℕ) (r : Ready) (v : ℕ) (o : List ℕ) : Type 0 where
  pub few : v ≤ 1
  pub room : 2 * v ≤ length o
  pub can : CanLay day i runs missing r n (behind v (with_out a o))
  pub done : (m : ℕ) (c : Lent) → WasLaid day i runs missing r n (behind v (with_out a o)) m c →
      WasCut new nets delivered lifts day i n a (counts_of (n + m) (v + m)) (back v (with_out a o) c)

module _ (new : Bool) (nets : List ℤ) (delivered lifts : List ℕ) (day i n : ℕ) (a : Lent) (can : CanCut new nets delivered lifts day i n a)
    (runs missing : List ℕ) (r : Ready) (y : IsReady new nets delivered lifts i runs missing r) where
  -- the cursor's entries are the issue's
  entries_ready : entries_on day i runs r.n missing r.cursor ≡ issue_entries day (order_in new nets lifts) nets delivered i
  unfolding entries_on
  entries_ready = ap (map (fail_entry day i)) y.fails

  -- how many records the issue has
  partials_number : length (map (handover i) (issue_partials (order_in new nets lifts) delivered i)) ≡ min 1 r.stock
  partials_number =
      omega (
        arith,
        length-map (issue_partials (order_in new nets lifts) delivered i) (handover i),
        ap length y.partials,
        length_put r.cursor.to r.stock [],
      )

  records_number : length (issue_records day (order_in new nets lifts) nets delivered i) ≡ min 1 r.stock + length (issue_entries day (order_in new nets lifts) nets delivered i)
  records_number =
      omega (
        arith,
        length-append (map (handover i) (issue_partials (order_in new nets lifts) delivered i)) (fail_records (issue_entries day (order_in new nets lifts) nets delivered i)),
        length-map (issue_entries day (order_in new nets lifts) nets delivered i) (record_of 12),
        partials_number,
      )

  pub can_hand : CanHand i r.cursor.to r.stock a.out
  can_hand =
      record {
        issue = can.issue;
        to = y.range.to;
        lots = omega (arith, y.stock);
        room = omega (arith, can.write.room, records_number);
      }

  module _ (v : ℕ) (o : List ℕ) (h : WasHanded i r.cursor.to r.stock v a.out o) where
    number : v ≡ min 1 r.stock
    number = omega (arith, h.records, length_put r.cursor.to r.stock [])

    handed : Wrote [] (map (handover i) (issue_partials (order_in new nets lifts) delivered i)) n a n (with_out a o)
    handed =
        record { held = can.write.held; ledger = sym (append-nil _); out = rw y.partials at h.out }

    can_lay : CanLay day i runs missing r n (behind v (with_out a o))
    can_lay =
        record {
          issue = can.issue;
          advance = y.advance;
          range = y.range;
          write = rw entries_ready
              (record {
                held = can.write.held;
                most = can.write.most;
                room = omega (
                  arith,
                  part_length o (2 * v),
                  ap length handed.out,
                  records_length (map (handover i) (issue_partials (order_in new nets lifts) delivered i)) a.out (omega (arith, can.write.room, records_number, partials_number)),
                  can.write.room,
                  records_number,
                  number,
                  length-map (issue_entries day (order_in new nets lifts) nets delivered i) (record_of 12),
                );
              });
        }

    was_cut : (m : ℕ) (c : Lent) → WasLaid day i runs missing r n (behind v (with_out a o)) m c →
        WasCut new nets delivered lifts day i n a (counts_of (n + m) (v + m)) (back v (with_out a o) c)
    was_cut m c p =
        let es = issue_entries day (order_in new nets lifts) nets delivered i in
        let q : Wrote es (fail_records es) n (behind v (with_out a o)) (n + m) c = rw entries_ready at p in
        record {
          wrote =
              wrote_both [] es (map (handover i) (issue_partials (order_in new nets lifts) delivered i)) (fail_records es) n n (n + m) v a (with_out a o) c
              (omega (arith, can.write.room, records_number, partials_number, length-map es (record_of 12)))
              (omega (arith, number, partials_number)) handed q;
          records = omega (arith, number, records_number, wrote_count es (fail_records es) n (n + m) (behind v (with_out a o)) c q);
        }

    pub stock_handed : Behind new nets delivered lifts day i n a runs missing r v o
    stock_handed =
        record {
          few = omega (arith, number);
          room = omega (
            arith,
            number,
            ap length handed.out,
            records_length (map (handover i) (issue_partials (order_in new nets lifts) delivered i)) a.out (omega (arith, can.write.room, records_number, partials_number)),
            can.write.room,
            records_number,
          );
          can = can_lay;
          done = was_cut;
        }
