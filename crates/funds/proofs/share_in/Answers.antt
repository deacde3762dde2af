-- Found here, looked for further on, or in no place.
use Rattle.std.proofs.Common.{rules, arith, eq-eqb, ne_eqb}
use Rattle.apportioning.proofs.Turns.{share_found, share_on, share_none}
use Rattle.funds.proofs.share_in.Goals as goal

pub returns-then-participant-k : goal.returns-then-participant-k
returns-then-participant-k c =
    let l = c.loop-i in
    share_found c.args.order.now c.args.given.now l.i c.args.k _ (search rules) (search rules)
    (eq-eqb _ _ c.if-participant-k.true) l.invariant

pub loop-i-preserved : goal.loop-i-preserved
loop-i-preserved c =
    let l = c.loop-i in
    share_on c.args.order.now c.args.given.now l.i c.args.k _ (search rules) (search rules)
    (ne_eqb _ _ c.if-participant-k.false) l.invariant

pub returns : goal.returns
returns c =
    let l = c.loop-i in
    share_none c.args.order.now c.args.given.now l.i c.args.k _ (omega arith) l.invariant
