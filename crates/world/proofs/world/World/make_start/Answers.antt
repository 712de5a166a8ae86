use Rattle.std.proofs.Common.{ap, ◌∙◌}
use Rattle.std.specs.Vec.{vec_capacity}
use Rattle.region.specs.Space.{Space}
use Rattle.world.proofs.Found.{no_places, no_room}
use Rattle.world.proofs.Starting.{start_parts}
use Rattle.world.proofs.world.World.make_start.Goals as goal

pub invariant_of-result : goal.invariant_of-result
invariant_of-result c = (
  ap (λ (s : Space). s.all) c.in_ok-region.ensures ∙ c.region.ensures,
  start_parts c.args.image c.in_ok-text.text c.new-2.result.items c.new-4.result.items c.region.result c.in_ok-region.region.free c.kept.ensures c.in_ok-text.ensures
      c.new-2.ensures.items c.new-4.ensures.items c.region.ensures (ap (λ (s : Space). s.free) c.in_ok-region.ensures),
  no_places c.new-2.result.items c.new-3.result.items c.new-2.ensures.items c.new-3.ensures.items,
  no_room c.new-2.result.items (vec_capacity c.new-3.result) c.new-2.ensures.items,
)
