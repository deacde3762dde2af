-- The full units are ranked by due, the small ones behind them: together the definition's runs.
use Rattle.std.proofs.Common.{length, ap, arith, length-append, length-drop, length-take, ◌∙◌}
use Rattle.std.proofs.lemmas.List.{length-map}
use Rattle.ranking.specs.Orders.{small_at}
use Rattle.ranking.proofs.Sized.{rest_small, ordered}
use Rattle.ranking.proofs.order.Goals as goal

pub rank-m-requires : goal.rank-m-requires
rank-m-requires c =
    let a = c.args in
    let r = c.rank-n in (
      record {
        accounts = ap length c.rests.ensures ∙ length-map a.dues.now (small_at a.size) ∙ c.requires.ranks.accounts;
        held = simp (length-take, length-drop, length-append) (omega (arith, length-take r.result r.new.keys, length-drop r.result r.new.keys));
        small = rest_small a.size a.dues.now c.rests.new.out c.rests.ensures c.requires.ranks.small;
      },
      omega arith,
    )

pub returns : goal.returns
returns c =
    let a = c.args in
    let r = c.rank-n in
    let s = c.rank-m in (
      omega arith,
      ordered a.size a.dues.now c.rests.new.out r.new.keys c.fulls.new.keys s.new.keys r.result s.result _ (omega arith) (omega (arith))
          r.ensures.order c.fulls.ensures c.rests.ensures s.ensures.order,
    )
