-- What the two scans found is the question of the book.
use Rattle.std.proofs.Common.{◌≡◌, ◌+◌, ◌-◌, ◌*◌, sym, ◌∙◌, arith}
use Rattle.rules.specs.Book.{entries}
use Rattle.settings.proofs.Asking.{no20, none}
use Rattle.settings.proofs.Scans.{unused}
use Rattle.settings.proofs.mark_asks.Goals as goal

pub returns-then-not-flat-clear : goal.returns-then-not-flat-clear
returns-then-not-flat-clear c fs ts xs ds =
    let a = c.args in
    let k : a.i * 64 + 64 - a.i * 64 ≡ 64 = omega arith in
    no20 a.nets.now (entries a.s.entries a.issues.now fs ts xs ds) a.i c.if-i-gt-LAST_ISSUE.false
    (sym (unused a.nets.now a.s.entries a.issues.now fs ts xs ds a.i _ _ (omega arith) (rw k at c.no_net-flat.ensures) c.no_entry-clear.ensures)
    ∙ c.if-not-flat-clear.true)

pub returns : goal.returns
returns c fs ts xs ds =
    let a = c.args in
    let k : a.i * 64 + 64 - a.i * 64 ≡ 64 = omega arith in
    none a.nets.now (entries a.s.entries a.issues.now fs ts xs ds) a.i c.if-i-gt-LAST_ISSUE.false
    (sym (unused a.nets.now a.s.entries a.issues.now fs ts xs ds a.i _ _ (omega arith) (rw k at c.no_net-flat.ensures) c.no_entry-clear.ensures)
    ∙ c.if-not-flat-clear.false)
