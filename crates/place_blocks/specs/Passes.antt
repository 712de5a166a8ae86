-- The chains of a list of edges.
use Rattle.std.specs.Prelude.{ℕ, List, [], ◌∷◌, if◌then◌else◌}
use Rattle.place_blocks.specs.declared.edge.WeighedEdge.{WeighedEdge}
use Rattle.place_blocks.specs.Edges.{Edge}
use Rattle.place_blocks.specs.Chains.{can_join, join}

-- one pass over edges: each is taken that can be when it is its turn
abbrev pub pass : List Edge → List (List ℕ) → List (List ℕ)
pass [] chains = chains
pass (e ∷ edges) chains = pass edges (if can_join chains e then join e chains else chains)

abbrev pub edge_of : WeighedEdge → Edge
edge_of e = (e.from, e.to)
