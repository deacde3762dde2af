use Prim.Native.Nat.{◌-◌}
use mathlib.Core.Path.{ap}
use native.Mathlib.Omega.{arith}
use lib.ListN.{set}
use Rattle.rules.specs.Ledger.{is_from}
use Rattle.laws.proofs.Sound.{entry_parts}
use Rattle.laws.proofs.Meeting.{met_by_le}
use Rattle.meeting.proofs.Recording.{was_met_lem}
use Rattle.meeting.proofs.meet_at.Goals as goal

pub hand-records-requires : goal.hand-records-requires
hand-records-requires c =
    let a = c.args in
    let g = entry_parts a.e c.requires.sound in (
      c.requires.room,
      g.issue,
      g.from,
      g.to,
      omega (arith, g.most, met_by_le (is_from a.i a.a) a.x a.e, c.met_by-m.ensures),
    )

-- what meets the entry is at most its lots and at most x
pub returns : goal.returns
returns c =
    let a = c.args in
    was_met_lem a.i a.a a.x a.k a.n c.met_by-m.result _ a.e a.lots.now _ _ _ c.met_by-m.ensures c.hand-records.ensures
    (ap (λ y. set a.lots.now a.k (y - c.met_by-m.result)) c.requires.here)
