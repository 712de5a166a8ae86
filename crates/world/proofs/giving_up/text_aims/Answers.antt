use Rattle.patcher.proofs.CallLists.{sites_low, pairs_low}
use Rattle.world.proofs.giving_up.text_aims.Goals as goal

pub add_aims-requires : goal.add_aims-requires
add_aims-requires c = rw c.sites.ensures (sites_low c.args.image.now c.kept.ensures)

pub add_aims-requires-2 : goal.add_aims-requires-2
add_aims-requires-2 c = rw c.pairs.ensures (pairs_low c.args.image.now c.kept.ensures)
