use Rattle.std.proofs.Common.{arith}
use Rattle.std.proofs.lemmas.List.Concat.{length-flat_map}
use Rattle.branch_ring.specs.Rings.{Notes}
use Rattle.branch_ring.specs.Profiles.{all_pairs}
use Rattle.branch_ring.proofs.Counting.{profile_kept}
use Rattle.branch_ring.proofs.profile.profile_of.Goals as goal

pub invariant_of-result : goal.invariant_of-result
invariant_of-result c =
    let size = length-flat_map (λ (r : Notes). r.pairs) c.args.rings.now in
    rw (c.from_vec.ensures) (profile_kept (all_pairs c.args.rings.now) _ (omega (arith, size, c.requires)) c.in_ok-counts.ensures)
