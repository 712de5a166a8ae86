use Rattle.std.proofs.Common.{◌≡◌, ◌++◌, take, string_bytes, flat_map}
use Rattle.branch_ring.specs.Profiles.{counted}
use Rattle.seen.specs.Profiles.{edge_line}
use Rattle.seen.proofs.profile.push_rows.Given as goal

abbrev pub invariant-loop-from : goal.invariant-loop-from
invariant-loop-from l = string_bytes l.text ≡ string_bytes l.initial.text ++ flat_map (λ row. edge_line l.places.list (counted row)) (take l.from-index l.rows)
