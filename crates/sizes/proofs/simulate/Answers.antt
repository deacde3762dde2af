-- From the opening to the end, and the lots still owed there.
use Rattle.sizes.proofs.Opening.{can_end, simulated_is}
use Rattle.sizes.proofs.simulate.Goals as goal

pub to_the_end-t-requires : goal.to_the_end-t-requires
to_the_end-t-requires c =
    let a = c.args in
    can_end a.nets.now a.settles.now a.inventories.now a.size a.owed.now c.requires _ _ _ c.rank_all.ensures c.copy_from_slice.ensures.after

pub returns : goal.returns
returns c =
    let a = c.args in
    simulated_is a.nets.now a.settles.now a.inventories.now a.size a.owed.now c.requires _ _ _ _ _ _
    c.copy_from_slice.ensures.after c.to_the_end-t.ensures c.still_owed.ensures
