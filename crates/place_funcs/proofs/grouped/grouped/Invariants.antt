use Rattle.std.proofs.Common.{◌≡◌, ℕ, List, map}
use Rattle.std.specs.BTreeMap.{btree_map_len}
use Rattle.place_funcs.specs.Edges.{edge}
use Rattle.place_funcs.specs.Links.{link_at, IsQueued}
use Rattle.place_funcs.specs.Grouping.{named}
use Rattle.place_funcs.proofs.UnderWay.{IsUnderWay}
use Rattle.place_funcs.proofs.grouped.grouped.Given as goal

abbrev pub invariant-loop-nearest : goal.invariant-loop-nearest
invariant-loop-nearest l = (gs : List (List ℕ)) × (l.groups.entries ≡ map named gs) × IsUnderWay (edge l.funcs l.profile) l.chosen gs (link_at l.table.links) × IsQueued l.table

abbrev pub decreases-loop-nearest : goal.decreases-loop-nearest
decreases-loop-nearest l = btree_map_len l.groups
