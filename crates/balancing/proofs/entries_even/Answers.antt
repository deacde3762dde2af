-- Where no issue is marked every entry passes; else issues beside lots are the entries.
use Rattle.std.proofs.Common.{sym, ◌∙◌}
use Rattle.balancing.proofs.EvenLaws.{lots_unmarked, pairs_lots}
use Rattle.balancing.proofs.entries_even.Goals as goal

pub returns-then-none_marked : goal.returns-then-none_marked
returns-then-none_marked c =
    lots_unmarked c.args.s.marks c.args.s.entries c.args.issues.now c.args.lots.now (sym c.none_marked.ensures ∙ c.if-none_marked.true)

pub returns : goal.returns
returns c =
    c.lots_even.ensures ∙ pairs_lots c.args.s.marks c.args.s.entries c.args.issues.now c.args.lots.now c.requires.0 c.requires.1
