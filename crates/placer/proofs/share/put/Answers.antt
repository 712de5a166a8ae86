use Rattle.branch_ring.specs.Tallies.{count_at}
use Rattle.placer.proofs.Gathered.{put_one}
use Rattle.placer.proofs.share.put.Goals as goal

pub returns : goal.returns
returns c = λ from to. put_one (count_at c.args.found.now from to) c.args.row.0 c.args.row.1 c.args.row.2 from to _ (c.in_ok-insert.ensures.updates.0 (from, to))
