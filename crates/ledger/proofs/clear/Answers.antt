use Rattle.ledger.proofs.Clearing.{cleared}
use Rattle.ledger.proofs.clear.Goals as goal

pub returns-clause-done : goal.returns-clause-done
returns-clause-done c =
    let a = c.args in
    let u = c.requires.1 in
    record {
      issues = cleared a.w a.entries a.ledger.now.issues.now c.fill.new.self c.requires.0 u.most u.whole.issues u.zeros.issues (c.fill.ensures.after (λ y e. e));
      froms = cleared a.w a.entries a.ledger.now.froms.now c.fill-2.new.self c.requires.0 u.most u.whole.froms u.zeros.froms (c.fill-2.ensures.after (λ y e. e));
      tos = cleared a.w a.entries a.ledger.now.tos.now c.fill-3.new.self c.requires.0 u.most u.whole.tos u.zeros.tos (c.fill-3.ensures.after (λ y e. e));
      lotss = cleared a.w a.entries a.ledger.now.lots.now c.fill-4.new.self c.requires.0 u.most u.whole.lotss u.zeros.lotss (c.fill-4.ensures.after (λ y e. e));
      dayss = cleared a.w a.entries a.ledger.now.days.now c.fill-5.new.self c.requires.0 u.most u.whole.dayss u.zeros.dayss (c.fill-5.ensures.after (λ y e. e));
    }
