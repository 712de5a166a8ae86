use Rattle.patcher.proofs.CallLists.{sites_low, pairs_low}
use Rattle.seen.proofs.sent.push_all_sent.Goals as goal

pub push_calls-requires : goal.push_calls-requires
push_calls-requires c = rw c.sites.ensures (sites_low c.image-image.result.now c.kept.ensures)

pub push_calls-requires-2 : goal.push_calls-requires-2
push_calls-requires-2 c = rw c.pairs.ensures (pairs_low c.image-image.result.now c.kept.ensures)
