use Rattle.std.proofs.Common.{map}
use Rattle.branch_ring.specs.Profiles.{counted}
use Rattle.place_blocks.specs.Edges.{weight}
use Rattle.place_blocks.proofs.Edged.{all_edges, edges_rise}
use Rattle.place_blocks.proofs.weigh.edges_of.Goals as goal

pub returns-clause-rises : goal.returns-clause-rises
returns-clause-rises c =
    edges_rise (weight c.args.blocks.now (map counted c.args.rows.now)) c.in_ok-weights.weights c.in_ok-edges.ensures.ordered c.in_ok-weights.ensures c.in_ok-edges.edges.items c.sort.new.edges.items
    c.in_ok-edges.ensures.entries c.sort.ensures.same c.sort.ensures.sorted

pub returns-clause-all : goal.returns-clause-all
returns-clause-all c =
    all_edges (weight c.args.blocks.now (map counted c.args.rows.now)) c.in_ok-weights.weights c.in_ok-edges.ensures.ordered c.in_ok-weights.ensures c.in_ok-edges.edges.items c.sort.new.edges.items
    c.in_ok-edges.ensures.entries c.sort.ensures.same
