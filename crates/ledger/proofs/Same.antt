-- The same columns through two calls.
use mathlib.Core.Path.{◌∙◌}
use Rattle.ledger.specs.declared.Ledger.{Ledger}
use Rattle.ledger.specs.Columns.{Same}

pub same_then : {a b c : Ledger} → Same a b → Same b c → Same a c
same_then h k =
    record {
      issues = k.issues ∙ h.issues;
      froms = k.froms ∙ h.froms;
      tos = k.tos ∙ h.tos;
      lots = k.lots ∙ h.lots;
      days = k.days ∙ h.days;
    }
