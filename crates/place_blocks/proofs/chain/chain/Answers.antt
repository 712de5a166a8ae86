use Rattle.std.proofs.Common.{◌<◌, ◌∙◌, List, map, length, sym, subst}
use Rattle.branch_ring.specs.Profiles.{counted}
use Rattle.std.specs.Prelude.{◌↔◌}
use Rattle.place_blocks.specs.declared.edge.WeighedEdge.{WeighedEdge}
use Rattle.place_blocks.specs.Edges.{Edge, weight}
use Rattle.place_blocks.specs.Passes.{edge_of}
use Rattle.place_blocks.specs.Rising.{IsAmong}
use Rattle.place_blocks.proofs.Counts.{times_at_first}
use Rattle.place_blocks.proofs.Ordered.{edges_inside}
use Rattle.place_blocks.proofs.chain.chain.Goals as goal

pub joined-requires : goal.joined-requires
joined-requires c = record {
  below = edges_inside c.list-list.result.now (map counted c.counts-rows.result.now) c.deref.result.now
      (subst (λ (l : List WeighedEdge). (e : Edge) → IsAmong (map edge_of l) e ↔ (0 < weight c.list-list.result.now (map counted c.counts-rows.result.now) e)) (sym c.deref.ensures.value) c.in_ok-edges.ensures.all);
}

pub lay-requires-clause-each : goal.lay-requires-clause-each
lay-requires-clause-each c = λ b. c.in_ok-slots.ensures.times b ∙ times_at_first b (length c.list-list.result.now)
