-- A run hands over at least as much to a larger total, and the inventories stay small.
use Rattle.std.proofs.Common.{◌+◌, ◌-◌, ◌*◌, ◌/◌, ◌%◌, ◌<◌, length, get_or, sym, ◌∙◌, arith, length-set}
use Rattle.joining.proofs.Joining.{handed_grows, handed_rest, join_step, added_small}
use Rattle.joining.proofs.join.Goals as goal

pub overflow_sub-g : goal.overflow_sub-g
overflow_sub-g c =
    let l = c.loop-key in
    omega (
      arith,
      c.handed_lots.ensures,
      c.handed_lots-in-loop-key.ensures,
      handed_grows c.args.size (get_or c.args.runs.now l.key-index 0 / 64) l.b l.e c.requires.some l.invariant.less,
    )

pub overflow_add-inventories : goal.overflow_add-inventories
overflow_add-inventories c =
    let a = c.args in
    let l = c.loop-key in
    let key = get_or a.runs.now l.key-index 0 in
    omega (
      arith,
      c.handed_lots.ensures,
      handed_rest a.size (key / 64) l.e,
      l.invariant.small (a.i * 16 + get_or a.settles.now (key % 64) 0),
    )

pub loop-key-preserved : goal.loop-key-preserved
loop-key-preserved c =
    let a = c.args in
    let l = c.loop-key in
    let key = get_or a.runs.now l.key-index 0 in
    let k = a.i * 16 + get_or a.settles.now (key % 64) 0 in
    let more = c.handed_lots in
    let had = c.handed_lots-in-loop-key in
    let b = c.saturating_sub-b in
    let e = c.saturating_sub-e in
    let h : k < length l.inventories = omega (arith, c.requires.settled (key % 64), c.requires.issue, l.invariant.whole) in
    record {
      less = omega (arith, b.ensures, e.ensures, l.invariant.less);
      whole = simp length-set l.invariant.whole;
      small = added_small l.inventories k (more.result - had.result) l.e e.result h l.invariant.small
          (omega (arith, more.ensures, e.ensures, handed_rest a.size (key / 64) l.e));
      joins = rw (b.ensures, e.ensures, more.ensures, had.ensures)
          (sym (join_step a.settles.now a.size a.i a.runs.now l.key-index l.b l.e l.inventories c.loop-key-test.true) ∙ l.invariant.joins);
    }
