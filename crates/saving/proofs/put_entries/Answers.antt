-- An entry's word more, and none left.
use Rattle.std.proofs.Common.{◌∙◌, sym, arith}
use lib.Seq.{sets}
use Rattle.snapshots.specs.Words.{entry_words}
use Rattle.snapshots.proofs.Words.{entries_length, entries_at}
use Rattle.saving.proofs.Loops.{put_more, put_end}
use Rattle.saving.proofs.put_entries.Goals as goal

pub loop-i-preserved : goal.loop-i-preserved
loop-i-preserved c =
    put_more (entry_words c.args.columns.issues.now c.args.columns.froms.now c.args.columns.tos.now c.args.columns.days.now)
    (sets c.args.out.now c.args.at (entry_words c.args.columns.issues.now c.args.columns.froms.now c.args.columns.tos.now c.args.columns.days.now))
    c.loop-i.out c.args.at c.loop-i.i _
    (omega (arith, entries_length c.args.columns.issues.now c.args.columns.froms.now c.args.columns.tos.now c.args.columns.days.now))
    (c.entry_word.ensures ∙ sym (entries_at c.args.columns.issues.now c.args.columns.froms.now c.args.columns.tos.now c.args.columns.days.now c.loop-i.i (omega arith)))
    c.loop-i.invariant

pub returns : goal.returns
returns c =
    put_end (entry_words c.args.columns.issues.now c.args.columns.froms.now c.args.columns.tos.now c.args.columns.days.now) _ c.loop-i.out c.args.at c.loop-i.i
    (omega (arith, entries_length c.args.columns.issues.now c.args.columns.froms.now c.args.columns.tos.now c.args.columns.days.now)) c.loop-i.invariant
