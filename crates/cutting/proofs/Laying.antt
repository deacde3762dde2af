-- A turn of the fails: the overlap handed out is the first entry of those that are left.
use mathlib.Core.Path.{◌≡◌, ap}
use mathlib.Core.List.{List, [], ◌∷◌}
use Prim.Native.Nat.{ℕ, suc, ◌+◌, ◌*◌, ◌≤◌}
use native.Mathlib.Nat.{add_assoc}
use native.Mathlib.Omega.{arith}
use Rattle.std.specs.Prelude.{Some}
use lib.ListN.{length, take}
use Rattle.rules.specs.declared.Entry.{Entry}
use Rattle.rules.specs.Ledger.{entry}
use Rattle.units.specs.declared.Cursor.{Cursor}
use Rattle.units.specs.declared.Overlap.{Overlap}
use Rattle.units.specs.Cursor.{OverlapInRange, Advanced}
use Rattle.cutting.specs.declared.Ready.{Ready}
use Rattle.cutting.specs.Write.{Lent, fail_records, Wrote}
use Rattle.cutting.specs.Issue.{entries_on, CanEnter, CanLay}
use Rattle.cutting.proofs.Writing.{Laying, behind, back, laying_count, laying_can, laying_more}
use Rattle.cutting.proofs.Fails.{entries_more}

-- the entries from a cursor on
abbrev from : ℕ → ℕ → List ℕ → List ℕ → Ready → Cursor → List Entry
from day i runs missing p c = entries_on day i runs p.n missing c

-- with the entries from `cur` on to write, behind `done` entries and records
abbrev pub LayingFrom : ℕ → ℕ → ℕ → List ℕ → List ℕ → Ready → Lent → Cursor → ℕ → Lent → Type 0
LayingFrom day i n runs missing p a cur done b =
    let all = from day i runs missing p p.cursor in
    let rest = from day i runs missing p cur in
    Laying all rest (fail_records all) (fail_records rest) n a (n + done) done b

-- an overlap of x lots, and the cursor behind it
pub record Turn (day i n : ℕ) (runs missing : List ℕ) (p : Ready) (a : Lent) (cur : Cursor) (done : ℕ) (b : Lent) (next : Cursor) (o : Overlap) : Type 0 where
  pub range : OverlapInRange o next
  pub less : length (from day i runs missing p cur) ≡ suc (length (from day i runs missing p next))
  pub entries : n + done + 1 ≤ 2048
  pub room : 2 * done + 2 ≤ length b.out
  pub can : CanEnter (entry i o.from o.to o.lots day) (n + done) (behind done b)
  pub more : (e : Entry) (c : Lent) → e ≡ entry i o.from o.to o.lots day →
      Wrote (e ∷ []) (fail_records (e ∷ [])) (n + done) (behind done b) (n + done + 1) c →
      LayingFrom day i n runs missing p a next (done + 1) (back done b c)

pub turn : (day i n : ℕ) (runs missing : List ℕ) (p : Ready) (a : Lent) (cur : Cursor) (done : ℕ) (b : Lent) (next : Cursor) (o : Overlap) →
    CanLay day i runs missing p n a → LayingFrom day i n runs missing p a cur done b → Advanced (take p.n runs) missing cur (Some (o, next)) →
    Turn day i n runs missing p a cur done b next o
turn day i n runs missing p a cur done b next o can l v =
    let all = from day i runs missing p p.cursor in
    let one = entry i o.from o.to o.lots day ∷ [] in
    let rest = from day i runs missing p next in
    let q = entries_more day i runs p.n missing cur o next v in
    let g = v.range in
    let k : Laying all (entry i o.from o.to o.lots day ∷ rest) (fail_records all) (fail_records (entry i o.from o.to o.lots day ∷ rest)) n a (n + done) done b = rw q at l in
    let count = laying_count all one rest (fail_records all) (fail_records one) (fail_records rest) n (n + done) done a b k in
    record {
      range = g;
      less = ap length q;
      entries = omega (arith, count, can.write.most);
      room = omega (arith, k.records, k.same, can.write.room);
      can = record {
        issue = can.issue;
        from = g.from;
        to = g.to;
        lots = g.lots;
        write = laying_can all one rest (fail_records all) (fail_records one) (fail_records rest) n (n + done) done a b k can.write;
      };
      more = λ d c h w.
          rw (add_assoc n done 1) at
          (laying_more all one rest (fail_records all) (fail_records one) (fail_records rest) n (n + done) done a b k (n + done + 1) c can.write
          (rw h at w));
    }
