use Rattle.branch_ring.specs.Profiles.{all_pairs}
use Rattle.branch_ring.proofs.Listing.{listed_profile}
use Rattle.branch_ring.proofs.tally.tally.Goals as goal

pub returns : goal.returns
returns c = listed_profile (all_pairs c.args.rings.now) c.in_ok-counts.counts c.in_ok-all.all.items c.in_ok-all.ensures.ordered c.in_ok-counts.ensures c.in_ok-all.ensures.entries
