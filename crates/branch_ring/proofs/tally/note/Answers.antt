use Rattle.branch_ring.specs.Tallies.{count_at}
use Rattle.branch_ring.proofs.Tallied.{one_more}
use Rattle.branch_ring.proofs.tally.note.Goals as goal

pub returns : goal.returns
returns c = λ from to. one_more (count_at c.args.tally.now) c.args.pair.0 c.args.pair.1 from to _ (rw (← c.known-count.ensures) (c.in_ok-insert.ensures.updates.0 (from, to)))
