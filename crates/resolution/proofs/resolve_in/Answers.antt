use Rattle.std.proofs.Common.{rules}
use native.Mathlib.Omega.{arith}
use Rattle.seeking.proofs.Passing.{passed_start}
use Rattle.removing.proofs.Sweeping.{none_goes}
use Rattle.resolution.proofs.Meeting.{meets_starts, meets_can, meets_more, meets_skip, meets_spent, meets_last, front_starts, front_more, meets_removable}
use Rattle.resolution.proofs.resolve_in.Goals as goal
use Rattle.resolution.proofs.resolve_in.Goals.{then-left-eq0, else-left-eq0+in_default-seek}

pub returns-in_default-clause-done : goal.returns-in_default-clause-done
returns-in_default-clause-done c =
    let s = meets_starts _ _ _ _ _ _ _ _ _ _ c.requires in
    meets_last (rw (c.shared-now.ensures.issues, c.shared-now.ensures.froms) at c.in_default.ensures) s
    (none_goes (meets_removable s (front_starts s 0 (omega arith))) (passed_start _ 0 0 (omega arith)))

pub loop-left-init : goal.loop-left-init
loop-left-init c =
    let s = meets_starts _ _ _ _ _ _ _ _ _ _ c.requires in
    let f = rw (c.shared-now.ensures.issues, c.shared-now.ensures.froms) at c.in-Some.ensures in
    (f.inside, meets_skip f.passed s, front_starts s _ f.passed.most, search rules)

pub meet_at-t-requires : goal.meet_at-t-requires
meet_at-t-requires c =
    let v = c.loop-left.invariant in
    let r = c.shared.ensures in
    meets_can v.1 v.0 (rw (r.issues, r.froms, r.tos, r.lots, r.days) at c.entry_at-e.ensures)

pub loop-left-preserved : goal.loop-left-preserved
loop-left-preserved c =
    let v = c.loop-left.invariant in
    let r = c.shared.ensures in
    let w = c.meet_at-t.ensures in
    let m = meets_more v.1 v.0 (rw (r.issues, r.froms, r.tos, r.lots, r.days) at c.entry_at-e.ensures) w in
    let f = rw (c.shared-now-in-loop-left.ensures.issues, c.shared-now-in-loop-left.ensures.froms) at c.in-Some-seek.ensures in (
      f.inside,
      meets_skip f.passed m,
      front_more v.2 w f.passed.start,
      record { issues = v.3.issues; froms = v.3.froms; tos = v.3.tos; lots = v.3.lots; days = v.3.days },
    )

pub remove_zeros-stay-requires : goal.remove_zeros-stay-requires
remove_zeros-stay-requires c =
    let v = c.loop-left.invariant in
    let r = c.shared.ensures in
    let w = c.meet_at-t.ensures in
    meets_removable (meets_more v.1 v.0 (rw (r.issues, r.froms, r.tos, r.lots, r.days) at c.entry_at-e.ensures) w)
    (front_more v.2 w (omega arith))

pub returns-clause-done : goal.returns-clause-done
returns-clause-done c =
    let v = c.loop-left.invariant in
    let r = c.shared.ensures in
    let m = meets_more v.1 v.0 (rw (r.issues, r.froms, r.tos, r.lots, r.days) at c.entry_at-e.ensures) c.meet_at-t.ensures in
    elim c.if-left-eq0.branch [
      | then-left-eq0 w ↦ meets_spent m w.if-left-eq0.true c.remove_zeros-stay.ensures.done
      | else-left-eq0+in_default-seek w ↦
          meets_last
          (rw (w.shared-now-in-loop-left.ensures.issues, w.shared-now-in-loop-left.ensures.froms) at w.in_default-seek.ensures)
          m
          c.remove_zeros-stay.ensures.done
    ]
