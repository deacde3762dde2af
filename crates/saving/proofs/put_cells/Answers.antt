-- Column after column.
use Rattle.std.proofs.Common.{ap, ◌∙◌, map}
use lib.Seq.{sets}
use Rattle.std.proofs.lemmas.List.{map-id}
use Rattle.snapshots.specs.Words.{signed_word, long_words}
use Rattle.saving.specs.Laying.{cell_columns}
use Rattle.saving.proofs.Laid.{cell_widths, cell_widths_lem}
use Rattle.saving.proofs.Loops.{stored_joined}
use Rattle.saving.proofs.put_cells.Goals as goal

pub returns : goal.returns
returns c =
    let a = c.args in
    let ns = map signed_word a.columns.nets.now in
    let cs = long_words a.columns.charges.now in
    record {
      stored =
          c.put_charges.ensures
          ∙ ap (λ l. sets l 2359 cs) c.put32-2.ensures.stored
          ∙ ap (λ l. sets (sets l 2071 a.columns.lifts.now) 2359 cs) c.put32.ensures.stored
          ∙ ap (λ l. sets (sets (sets l 1047 a.columns.delivered.now) 2071 a.columns.lifts.now) 2359 cs) c.put-2.ensures
          ∙ ap (λ l. sets (sets (sets (sets l 23 ns) 1047 a.columns.delivered.now) 2071 a.columns.lifts.now) 2359 cs) (c.put.ensures ∙ ap (sets _ 7) (map-id a.s.marks))
          ∙ ap (λ l. sets (sets (sets (sets (sets l 7 a.s.marks) 23 ns) 1047 a.columns.delivered.now) 2071 a.columns.lifts.now) 2359 cs) c.put_state.ensures
          ∙ stored_joined cell_widths (cell_columns a.s a.columns) a.out.now 3
          (cell_widths_lem _ _ _ c.requires);
      words = c.put32-2.ensures.words;
    }
