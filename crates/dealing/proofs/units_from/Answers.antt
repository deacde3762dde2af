-- The ranked issue's runs, dealt and lifted, by the contract of `window`.
use lib.ListN.{length}
use Rattle.dealing.proofs.Dealer.{can_deal_out, dealt_out}
use Rattle.dealing.proofs.units_from.Goals as goal

pub window-requires : goal.window-requires
window-requires c =
    can_deal_out c.args.keys.now c.args.p c.args.lifts.now c.args.i c.args.k c.args.out.now c.requires

pub returns : goal.returns
returns c =
    let w = c.window in
    dealt_out c.args.keys.now c.args.p c.args.lifts.now c.args.i c.args.k (length c.args.out.now)
    w.new.out w.ensures
