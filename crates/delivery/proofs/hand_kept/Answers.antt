-- The units are handed over before they are taken off what is kept.
use Rattle.std.proofs.Common.{◌+◌, ◌-◌, arith}
use lib.ListN.{take, drop}
use Rattle.laws.proofs.Handover.{covered_le}
use Rattle.runs.specs.Runs.{units_of_words}
use Rattle.waiting.proofs.Waits.{waits_in}
use Rattle.delivery.proofs.Keeping.{next_served}
use Rattle.delivery.proofs.hand_kept.Goals as goal

pub hand-requires : goal.hand-requires
hand-requires c =
    let k = c.args.k.now in
    let h = c.handover-count.ensures.covers in
    record {
      issue = c.requires.issue;
      there = omega (arith, h, covered_le (units_of_words (take (k.number - k.first) (drop k.first k.runs))) (k.stock + c.args.x));
      room = omega (arith, h, c.requires.room);
    }

pub returns : goal.returns
returns c us d keeps =
    let a = c.args in (
      (c.more.ensures us d keeps).0,
      next_served us _ d a.x a.k.now.stock c.handover-count.result.count (waits_in us d a.k.now keeps) keeps.left c.handover-count.ensures.covers
          a.i a.out.now c.hand.new.out c.hand.ensures,
    )
