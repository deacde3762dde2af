-- The full units are ranked by due, the small ones behind them: together the definition's runs, and the order of the four cases.
use Rattle.std.proofs.Common.{ap, arith, ◌++◌, drop, length, length-append, length-drop, length-take, ◌∙◌}
use Rattle.std.proofs.lemmas.List.{length-map}
use Rattle.runs.specs.Runs.{small_lots}
use Rattle.runs.proofs.Loops.{rest_small, ordered, ordered_only}
use Rattle.ordering.proofs.Words.{full_front}
use Rattle.ordering.proofs.order.Goals as goal

pub rank-m-requires : goal.rank-m-requires
rank-m-requires c =
    let a = c.args in
    let r = c.rank-n in
    let rs = c.rests.new.out in (
      record {
        accounts = ap length c.rests.ensures ∙ length-map a.dues.now small_lots ∙ c.requires.accounts;
        held = simp (length-take, length-drop, length-append) (omega (arith, length-take r.result r.new.keys, length-drop r.result r.new.keys));
        small = rest_small a.dues.now rs c.rests.ensures;
      },
      omega arith,
    )

pub returns : goal.returns
returns c =
    let a = c.args in
    let r = c.rank-n in
    let rs = c.rests in
    let s = c.rank-m in
    let held = c.fulls.new.keys ++ drop r.result r.new.keys in
    let f = full_front r.new.keys c.fulls.new.keys r.result (omega arith) c.fulls.ensures in
    let o = ordered a.dues.now rs.new.out r.new.keys held s.new.keys r.result s.result _ (omega arith) (omega arith) r.ensures.order f rs.ensures s.ensures.order in
    (omega arith, o, ordered_only a.dues.now _ _ o)
