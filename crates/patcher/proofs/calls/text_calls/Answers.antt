use Rattle.patcher.proofs.CallLists.{sites_low, pairs_low}
use Rattle.patcher.proofs.calls.text_calls.Goals as goal

pub push_of_text-requires : goal.push_of_text-requires
push_of_text-requires c = rw c.sites.ensures (sites_low c.args.aims.now.image.now c.kept.ensures)

pub push_of_text-requires-2 : goal.push_of_text-requires-2
push_of_text-requires-2 c = rw c.pairs.ensures (pairs_low c.args.aims.now.image.now c.kept.ensures)
