-- The entries of columns that are only read.
use Rattle.std.specs.Prelude.{List, ℕ}
use Rattle.rules.specs.declared.Entry.{Entry}
use Rattle.rules.specs.Book.{entries}
use Rattle.columns.specs.declared.SharedColumns.{SharedColumns}

-- the first n entries
abbrev pub shared_entries : ℕ → SharedColumns → List Entry
shared_entries n c = entries n c.issues.now c.froms.now c.tos.now c.lots.now c.days.now
