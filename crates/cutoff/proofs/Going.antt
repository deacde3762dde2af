-- Issue by issue: the entries and records of the issues from i on are those of issue i and then those from i + 1 on.
use mathlib.Core.Path.{◌≡◌, refl, ap, sym, subst, ◌∙◌}
use mathlib.Core.Bool.{Bool, true, false}
use mathlib.Core.List.{List, [], ◌++◌}
use Prim.Native.Nat.{ℕ, zero, suc, ◌+◌, ◌-◌, ◌*◌, ◌≤◌, ◌<◌}
use native.Mathlib.Numerals.{add-one}
use native.Mathlib.Omega.{arith}
use lib.ListN.{length, length-append, length-map}
use lib.IntN.{ℤ}
use Rattle.rules.specs.declared.Phase.{Phase}
use Rattle.rules.specs.declared.Entry.{Entry}
use Rattle.rules.specs.Measures.{output_words}
use Rattle.rules.specs.Book.{tabulate, is_settling, order_in}
use Rattle.rules.specs.Records.{Rec}
use Rattle.rules.specs.Calls.{joined, fail_entry, issue_fails, issue_entries, issue_records, new_entries, cutoff_records}
use Rattle.laws.proofs.Cells.{length_row}
use Rattle.laws.proofs.Room.{cutoff_room}
use Rattle.laws.proofs.SoundRows.{order_in_lem}
use Rattle.runs.proofs.Cells.{sound_row}
use Rattle.ledger.specs.Columns.{Columns}
use Rattle.cutting.specs.declared.Counts.{Counts}
use Rattle.cutting.specs.Write.{Lent, CanWrite, Wrote}
use Rattle.cutting.specs.Issue.{counts_of, CanCut, WasCut}
use Rattle.cutoff.specs.All.{Fits, Asked, CanCutAll, WasCutAll}
use Rattle.book.specs.Cells.{SoundCells}
use Rattle.cutting.proofs.Issues.{few}
use Rattle.cutting.proofs.Writing.{ledger_length, behind, back, Laying, laying_starts, laying_can, laying_more, laying_ends}

-- entries and records of m issues from issue i on
unfoldable pub entries_from : Bool → ℕ → List ℤ → List ℕ → List ℕ → ℕ → ℕ → List Entry
entries_from new day nets delivered lifts i m = joined (tabulate (issue_entries day (order_in new nets lifts) nets delivered) i m)

unfoldable pub records_from : Bool → ℕ → List ℤ → List ℕ → List ℕ → ℕ → ℕ → List Rec
records_from new day nets delivered lifts i m = joined (tabulate (issue_records day (order_in new nets lifts) nets delivered) i m)

module _ (new : Bool) (day : ℕ) (nets : List ℤ) (delivered lifts : List ℕ) where
  -- all issues are the definition's
  pub entries_all : entries_from new day nets delivered lifts 0 16 ≡ new_entries day (order_in new nets lifts) nets delivered
  unfolding entries_from
  entries_all = refl

  pub records_all : records_from new day nets delivered lifts 0 16 ≡ cutoff_records day (order_in new nets lifts) nets delivered
  unfolding records_from
  records_all = refl

  module _ (i : ℕ) where
    pub entries_on_lem : i < 16 →
        entries_from new day nets delivered lifts i (16 - i) ≡ issue_entries day (order_in new nets lifts) nets delivered i ++ entries_from new day nets delivered lifts (i + 1) (16 - (i + 1))
    unfolding entries_from
    entries_on_lem h = let e : 16 - i ≡ suc (16 - (i + 1)) = omega arith in rw (e, add-one i)

    pub records_on : i < 16 →
        records_from new day nets delivered lifts i (16 - i) ≡ issue_records day (order_in new nets lifts) nets delivered i ++ records_from new day nets delivered lifts (i + 1) (16 - (i + 1))
    unfolding records_from
    records_on h = let e : 16 - i ≡ suc (16 - (i + 1)) = omega arith in rw (e, add-one i)

    pub entries_none : 16 ≤ i → entries_from new day nets delivered lifts i (16 - i) ≡ []
    unfolding entries_from
    entries_none h = let e : 16 - i ≡ 0 = omega arith in rw e

    pub records_none : 16 ≤ i → records_from new day nets delivered lifts i (16 - i) ≡ []
    unfolding records_from
    records_none h = let e : 16 - i ≡ 0 = omega arith in rw e

    -- counting
    pub count_on : i < 16 →
        length (entries_from new day nets delivered lifts i (16 - i))
        ≡ length (issue_fails (order_in new nets lifts) nets delivered i) + length (entries_from new day nets delivered lifts (i + 1) (16 - (i + 1)))
    count_on h =
        omega (
          arith,
          ap length (entries_on_lem h),
          length-append (issue_entries day (order_in new nets lifts) nets delivered i) (entries_from new day nets delivered lifts (i + 1) (16 - (i + 1))),
          length-map (issue_fails (order_in new nets lifts) nets delivered i) (fail_entry day i),
        )

-- m issues have at most 126 entries each
pub few_on : (new : Bool) (day : ℕ) (nets : List ℤ) (delivered lifts : List ℕ) → SoundCells nets delivered lifts → (i m : ℕ) → i + m ≤ 16 →
    length (entries_from new day nets delivered lifts i m) ≤ 126 * m
unfolding entries_from
few_on new day nets delivered lifts s i zero h = omega arith
few_on new day nets delivered lifts s i (suc m) h =
    omega (
      arith,
      length-append (issue_entries day (order_in new nets lifts) nets delivered i)
          (joined (tabulate (issue_entries day (order_in new nets lifts) nets delivered) (suc i) m)),
      length-map (issue_fails (order_in new nets lifts) nets delivered i) (fail_entry day i),
      few new nets delivered lifts i (omega arith) s,
      few_on new day nets delivered lifts s (suc i) m (omega arith),
    )

-- the questions' answers
module _ (new : Bool) (phase : Phase) (old : ℕ) (nets : List ℤ) (delivered lifts : List ℕ) where
  pub no_phase : is_settling phase ≡ false → Asked new phase old nets delivered lifts 3
  no_phase e today = rw e

  pub no_room : is_settling phase ≡ true → Fits new old nets delivered lifts false → Asked new phase old nets delivered lifts 10
  no_room e f today = rw (e, ← f today)

  pub all_yes : is_settling phase ≡ true → Fits new old nets delivered lifts true → Asked new phase old nets delivered lifts 0
  all_yes e f today = rw (e, ← f today)

module _ (new : Bool) (nets : List ℤ) (delivered lifts : List ℕ) (day n : ℕ) (a : Lent) (c : CanCutAll new nets delivered lifts day n a) where
  room : 2 * length (cutoff_records day (order_in new nets lifts) nets delivered) ≤ output_words
  room =
      cutoff_room new day nets delivered lifts (order_in_lem new nets lifts) (λ i h. length_row nets i c.sound.cells h) (λ i h. sound_row nets delivered lifts c.sound i h)

  -- there is room for all entries and records
  can_write : CanWrite (entries_from new day nets delivered lifts 0 16) (records_from new day nets delivered lifts 0 16) n a
  can_write =
      rw (entries_all new day nets delivered lifts, records_all new day nets delivered lifts)
      (record { held = c.held; most = c.most; room = omega (arith, room, c.room) })

  was_cut_all : (w n' : ℕ) (b : Lent) → w ≡ length (records_from new day nets delivered lifts 0 16) →
      Wrote (entries_from new day nets delivered lifts 0 16) (records_from new day nets delivered lifts 0 16) n a n' b →
      WasCutAll new nets delivered lifts day n a (counts_of n' w) b
  was_cut_all w n' b e p =
      let q : Wrote (new_entries day (order_in new nets lifts) nets delivered) (cutoff_records day (order_in new nets lifts) nets delivered) n a n' b =
      rw (entries_all new day nets delivered lifts, records_all new day nets delivered lifts) at p in
      record {
        entries = sym (ledger_length n' b) ∙ ap length q.ledger;
        columns = subst (λ es. Columns es b.issues b.froms b.tos b.lots b.days) q.ledger q.held.columns;
        records = e ∙ ap length (records_all new day nets delivered lifts);
        out = q.out;
      }

-- the cutoff of all issues is that of the issues from i on, behind m entries and w records
abbrev pub LayingAll : Bool → List ℤ → List ℕ → List ℕ → ℕ → ℕ → Lent → ℕ → ℕ → ℕ → Lent → Type 0
LayingAll new nets delivered lifts day n a i m w b =
    Laying (entries_from new day nets delivered lifts 0 16) (entries_from new day nets delivered lifts i (16 - i))
    (records_from new day nets delivered lifts 0 16) (records_from new day nets delivered lifts i (16 - i)) n a m w b

-- issue i can be cut there, and then the issues behind it are left
pub record Turn (new : Bool) (nets : List ℤ) (delivered lifts : List ℕ) (day n : ℕ) (a : Lent) (i m w : ℕ) (b : Lent) : Type 0 where
  pub room : 2 * w ≤ length b.out
  pub few : w + length (issue_records day (order_in new nets lifts) nets delivered i) ≤ 2048
  pub can : CanCut new nets delivered lifts day i m (behind w b)
  pub more : (r : Counts) (c : Lent) → WasCut new nets delivered lifts day i m (behind w b) r c →
      LayingAll new nets delivered lifts day n a (i + 1) r.entries (w + r.records) (back w b c)

module _ (new : Bool) (nets : List ℤ) (delivered lifts : List ℕ) (day n : ℕ) (a : Lent) (c : CanCutAll new nets delivered lifts day n a) where
  pub starts : LayingAll new nets delivered lifts day n a 0 n 0 a
  starts = laying_starts _ _ _ _ (can_write new nets delivered lifts day n a c)

  module _ (i m w : ℕ) (b : Lent) (l : LayingAll new nets delivered lifts day n a i m w b) where
    pub turn : i < 16 → Turn new nets delivered lifts day n a i m w b
    turn h =
        let es = issue_entries day (order_in new nets lifts) nets delivered i in
        let rs = issue_records day (order_in new nets lifts) nets delivered i in
        let rest = entries_from new day nets delivered lifts (i + 1) (16 - (i + 1)) in
        let left = records_from new day nets delivered lifts (i + 1) (16 - (i + 1)) in
        let all = entries_from new day nets delivered lifts 0 16 in
        let recs = records_from new day nets delivered lifts 0 16 in
        let can = can_write new nets delivered lifts day n a c in
        let k : Laying all (es ++ rest) recs (rs ++ left) n a m w b =
        rw (entries_on_lem new day nets delivered lifts i h, records_on new day nets delivered lifts i h) at l in
        record {
          room = omega (arith, k.records, k.same, can.room);
          few = omega (
            arith,
            k.records,
            length-append rs left,
            ap length (records_all new day nets delivered lifts),
            room new nets delivered lifts day n a c,
          );
          can = record { sound = c.sound; issue = h; write = laying_can all es rest recs rs left n m w a b k can };
          more = λ r d v. rw v.records (laying_more all es rest recs rs left n m w a b k r.entries d can v.wrote);
        }

    pub ends : 16 ≤ i → WasCutAll new nets delivered lifts day n a (counts_of m w) b
    ends h =
        let e = entries_none new day nets delivered lifts i h in
        let f = records_none new day nets delivered lifts i h in
        was_cut_all new nets delivered lifts day n a c w m b (omega (arith, l.records, ap length f)) (laying_ends _ _ _ _ _ _ _ _ _ e f l)
