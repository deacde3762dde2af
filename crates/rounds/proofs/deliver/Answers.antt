-- The issue's total is taken before the account's lots rise.
use Rattle.std.proofs.Common.{◌≡◌, ◌+◌, ◌-◌, ◌*◌, ◌<◌, length, get_or, ap, ◌∙◌, arith, length-set}
use Rattle.rules.specs.Measures.{sum}
use Rattle.rules.specs.Book.{delivered_total}
use Rattle.runs.proofs.Cells.{row_part}
use Rattle.joining.proofs.Joining.{lowered_small, cell_total}
use Rattle.rounds.proofs.deliver.Goals as goal

pub overflow_add-delivered : goal.overflow_add-delivered
overflow_add-delivered c = omega (arith, cell_total c.args.delivered.now c.args.i c.args.a c.requires.account, c.requires.fits)

pub join-requires : goal.join-requires
join-requires c =
    let s = c.requires in
    let a = c.args in
    let v = a.inventories.now in
    let k = a.i * 16 + get_or a.settles.now a.a 0 in
    let t : c.total-d.result ≡ delivered_total a.delivered.now a.i = c.total-d.ensures ∙ ap sum (row_part a.delivered.now a.i) in
    let h : k < length v = omega (arith, s.settled a.a, s.issue, s.stocks) in
    record {
      some = s.some;
      accounts = s.accounts;
      settled = s.settled;
      issue = s.issue;
      whole = length-set v k (get_or v k 0 - a.x) ∙ s.stocks;
      fits = omega (arith, t, s.fits);
      small = lowered_small v k a.x (c.total-d.result + a.x) h s.small (omega (arith, t, s.fits));
    }
