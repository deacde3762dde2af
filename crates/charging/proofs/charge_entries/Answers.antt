-- An entry is charged as the definition charges it, and moves no charge by more than twice the most.
use Rattle.std.proofs.Common.{◌≡◌, length, get_or, ap, ◌∙◌, arith}
use Rattle.charging.specs.Charging.{paid}
use Rattle.charging.proofs.Charging.{within_paid, length_paid, charge_more, charge_end}
use Rattle.charging.proofs.charge_entries.Goals as goal

pub loop-k-preserved : goal.loop-k-preserved
loop-k-preserved c =
    let a = c.args in
    let l = c.loop-k in
    let y = c.charge_of-y in
    let f = get_or a.ledger.froms.now l.k 0 in
    let t = get_or a.ledger.tos.now l.k 0 in
    let p : c.pay.new.charges ≡ paid f t y.result l.charges = c.pay.ensures in
    record {
      accounts = ap length p ∙ length_paid f t y.result l.charges ∙ l.invariant.accounts;
      within = λ j. let b = within_paid _ f t y.result l.charges l.invariant.within j in rw p (omega (arith, y.ensures.most));
      rest =
          rw p
          (charge_more a.days a.rate a.quotes.now a.entries a.ledger.issues.now a.ledger.froms.now a.ledger.tos.now a.ledger.lots.now a.ledger.days.now l.k _ l.charges y.result
          c.loop-k-test.true y.ensures.exact l.invariant.rest);
    }

pub returns : goal.returns
returns c =
    let a = c.args in
    let l = c.loop-k in
    charge_end a.days a.rate a.quotes.now a.entries a.ledger.issues.now a.ledger.froms.now a.ledger.tos.now a.ledger.lots.now a.ledger.days.now l.k _ l.charges
    (omega arith) l.invariant.rest
