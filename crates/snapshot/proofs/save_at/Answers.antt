-- The output's length, then question 2, and then the words.
use Rattle.std.proofs.Common.{refl}
use lib.Seq.{length-take-le}
use Rattle.columns.specs.Books.{shared_book}
use Rattle.host.specs.States.{state_in}
use Rattle.host.proofs.Holding.{sound_book, sound_lengths}
use Rattle.snapshots.specs.Snapshot.{snapshot_words}
use Rattle.snapshot.proofs.Hosts.{short, not_sound, done}
use Rattle.snapshot.proofs.save_at.Goals as goal

pub returns-then-out-lt-WORDS : goal.returns-then-out-lt-WORDS
returns-then-out-lt-WORDS c =
    short c.args.state.phase (shared_book (state_in c.args.state) c.args.columns) c.args.out.now c.if-out-lt-WORDS.true

pub returns-in_default : goal.returns-in_default
returns-in_default c =
    not_sound c.args.state.phase (shared_book (state_in c.args.state) c.args.columns) c.args.out.now c.if-out-lt-WORDS.false
    c.in_default.ensures.1

pub save-requires : goal.save-requires
save-requires c =
    let b = shared_book (state_in c.args.state) c.args.columns in
    rw c.in-Ok.ensures.0
    (record {
      lengths = sound_lengths c.args.state.phase b c.in-Ok.ensures.1;
      sound = sound_book c.args.state.phase b c.in-Ok.ensures.1;
      room = length-take-le snapshot_words c.args.out.now c.if-out-lt-WORDS.false;
    })

pub returns : goal.returns
returns c =
    done c.args.state.phase (shared_book (state_in c.args.state) c.args.columns) c.args.out.now c.if-out-lt-WORDS.false
    c.in-Ok.ensures.1 c.in-Ok.s c.in-Ok.ensures.0 _ c.save.ensures _ refl
