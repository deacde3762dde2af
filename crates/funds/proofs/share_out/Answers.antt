-- Of the lent places as many as there are participants.
use Rattle.std.proofs.Common.{length, sym}
use Rattle.contributions.specs.Funds.{cleared}
use Rattle.apportioning.proofs.Lists.{take_cleared, first_places}
use Rattle.funds.proofs.share_out.Goals as goal

pub slice_bounds-give-end : goal.slice_bounds-give-end
slice_bounds-give-end c = first_places (length c.args.averages.now) 64 c.requires.0.few

pub slice_bounds-give-end-2 : goal.slice_bounds-give-end-2
slice_bounds-give-end-2 c = first_places (length c.args.averages.now) 64 c.requires.0.few

pub give-requires : goal.give-requires
give-requires c =
    let n = length c.args.averages.now in
    record {
      columns = c.requires.0.columns;
      covered = c.requires.1;
      places = sym (first_places n 64 c.requires.0.few);
      none = take_cleared n 64 c.requires.0.few;
      room = c.requires.0.few;
    }

pub returns : goal.returns
unfolding cleared
returns c = c.give.ensures
