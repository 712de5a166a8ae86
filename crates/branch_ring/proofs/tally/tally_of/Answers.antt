use Rattle.std.proofs.Common.{arith, take}
use Rattle.std.proofs.lemmas.List.Concat.{length-flat_map}
use Rattle.std.proofs.lemmas.List.Folds.{length-flat_map-take}
use Rattle.std.proofs.lemmas.List.Sums.{count_by-le-length}
use Rattle.branch_ring.specs.Rings.{Notes}
use Rattle.branch_ring.specs.Profiles.{all_pairs, is_pair, times}
use Rattle.branch_ring.proofs.Tallied.{at_most}
use Rattle.branch_ring.proofs.tally.tally_of.Goals as goal

pub note_all-requires : goal.note_all-requires
note_all-requires c = λ from to.
    let before = all_pairs (take c.loop-ring.ring-index c.args.rings.now) in
    let count = at_most (times before from to) in
    let most = count_by-le-length (is_pair from to) before in
    let size = length-flat_map (λ (r : Notes). r.pairs) c.args.rings.now in
    let part = length-flat_map-take (λ (r : Notes). r.pairs) c.args.rings.now c.loop-ring.ring-index c.ring-item.result c.loop-ring-test.true in
    rw (c.loop-ring.invariant from to) (let whole = rw (← c.ring-item.is) at part in omega (arith, count, most, size, whole, c.requires))
