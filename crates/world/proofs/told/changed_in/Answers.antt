use Rattle.patcher.proofs.CallLists.{sites_low, pairs_low}
use Rattle.world.proofs.told.changed_in.Goals as goal

pub changed_calls-sites-requires : goal.changed_calls-sites-requires
changed_calls-sites-requires c = rw c.sites.ensures (sites_low c.args.image.now c.kept.ensures)

pub changed_calls-pairs-requires : goal.changed_calls-pairs-requires
changed_calls-pairs-requires c = rw c.pairs.ensures (pairs_low c.args.image.now c.kept.ensures)
