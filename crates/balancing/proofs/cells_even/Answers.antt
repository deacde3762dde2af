-- Without a mark there is nothing to test; else an issue more.
use Rattle.std.proofs.Common.{sym, ◌∙◌, arith}
use Rattle.rules.specs.Book.{cells_even}
use Rattle.laws.proofs.Scans.{issues_more}
use Rattle.balancing.proofs.EvenLaws.{cells_none, cells_start}
use Rattle.balancing.proofs.cells_even.Goals as goal

pub returns-then-none_marked : goal.returns-then-none_marked
returns-then-none_marked c =
    cells_none c.args.s.marks c.args.nets.now c.args.delivered.now (sym c.none_marked.ensures ∙ c.if-none_marked.true)

pub loop-i-init : goal.loop-i-init
loop-i-init c = cells_start _ _ _

pub loop-i-preserved : goal.loop-i-preserved
loop-i-preserved c =
    issues_more (cells_even c.args.s.marks c.args.nets.now c.args.delivered.now) c.loop-i.i c.loop-i.good _ _ (omega arith) c.issue_even-good.ensures c.loop-i.invariant
