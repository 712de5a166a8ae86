-- Weights while pairs are counted.
use Rattle.std.specs.Prelude.{◌≡◌, ◌<◌, ◌≤◌, ◌⊎◌, ℕ, ◌+◌, Bool, ◌==◌, ◌&&◌, List, unwrap_or, if◌then◌else◌}
use Rattle.std.specs.Ordering.{nat_cmp, ordering_then}
use Rattle.std.specs.BTreeMap.{BTreeMap, get}
use Rattle.std.specs.declared.cmp.Ordering.{Ordering}
use Rattle.blocks.specs.declared.run.Block.{Block}
use Rattle.branch_ring.specs.declared.counted.Counted.{Counted}
use Rattle.place_blocks.specs.declared.edge.WeighedEdge.{WeighedEdge}
use Rattle.place_blocks.specs.Edges.{Edge, leaves, enters, falls_along}

abbrev pub edge_cmp : Edge → Edge → Ordering
edge_cmp e f = ordering_then (nat_cmp e.0 f.0) (nat_cmp e.1 f.1)

abbrev pub is_edge : Edge → Edge → Bool
is_edge e f = (e.0 == f.0) && (e.1 == f.1)

-- the weight of an edge so far
abbrev pub weight_at : BTreeMap Edge ℕ → Edge → ℕ
weight_at weights e = unwrap_or (get edge_cmp weights e) 0

-- an edge as the map has it
abbrev pub entry_of : WeighedEdge → Edge × ℕ
entry_of e = ((e.from, e.to), e.weight)

-- what one pair adds to the weight of an edge
abbrev pub gain : List Block → Counted → Edge → ℕ
gain blocks p e =
    (if leaves blocks e.0 p && enters blocks e.1 p then p.count else 0) + (if falls_along blocks e && enters blocks e.0 p then p.count else 0)

-- e may stand before f
abbrev pub MayPrecede : WeighedEdge → WeighedEdge → Type 0
MayPrecede e f = (f.weight < e.weight) ⊎ ((e.weight ≡ f.weight) × ((e.from < f.from) ⊎ ((e.from ≡ f.from) × (e.to ≤ f.to))))
