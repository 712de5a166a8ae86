use Rattle.std.proofs.Common.{◌^◌, ◌<◌, List, sym, subst}
use Rattle.branch_ring.specs.Rings.{Notes}
use Rattle.branch_ring.specs.Profiles.{pair_count}
use Rattle.world.proofs.RingsFit.{counted_small}
use Rattle.world.proofs.rings.Rings.profile.Goals as goal

pub profile_of-requires : goal.profile_of-requires
profile_of-requires c =
    subst (λ (rs : List Notes). pair_count rs < 2 ^ 62) (sym c.deref.ensures.value) (counted_small c.self.inside.list.items c.self.invariant.0 c.self.invariant.1)
