-- The same columns through two calls.
use mathlib.Core.Path.{◌∙◌}
use Rattle.columns.specs.declared.LentColumns.{LentColumns}
use Rattle.columns.specs.Books.{SameColumns}

pub same_then : {a b c : LentColumns} → SameColumns a b → SameColumns b c → SameColumns a c
same_then h k =
    record {
      nets = k.nets ∙ h.nets;
      delivered = k.delivered ∙ h.delivered;
      lifts = k.lifts ∙ h.lifts;
      charges = k.charges ∙ h.charges;
      issues = k.issues ∙ h.issues;
      froms = k.froms ∙ h.froms;
      tos = k.tos ∙ h.tos;
      lots = k.lots ∙ h.lots;
      days = k.days ∙ h.days;
    }
