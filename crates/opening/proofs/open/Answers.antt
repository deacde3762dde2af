-- Judged first; refused, the columns stay, and else they are taken.
use Rattle.std.proofs.Common.{refl}
use Rattle.columns.specs.Books.{lent_book}
use Rattle.opening.proofs.Reading.{long_enough, comes}
use Rattle.opening.proofs.open.Goals as goal

pub take_columns-requires : goal.take_columns-requires
take_columns-requires c =
    (long_enough c.args.words.now 0 c.in_ok-state.state c.in_ok-state.ensures refl, c.requires)

pub returns : goal.returns
returns c =
    record {
      opens =
          comes c.args.words.now 0 c.in_ok-state.state c.in_ok-state.ensures refl (lent_book c.in_ok-state.state c.args.columns.now)
          _ _ _ _ _ _ _ _ _ c.take_columns.ensures.taken.cells c.take_columns.ensures.taken.ledger;
      same = c.take_columns.ensures.same;
    }
