-- The last transfers of each hart, by its number. Source: this project.
use Rattle.std.specs.Prelude.{ℕ, List, [], Option, Some, None, replicate, slice_index_or, slice_set}
use Rattle.branch_ring.specs.Rings.{Notes, noted}
use Rattle.guest_sys.specs.Limits.{hart_limit}

-- the ring of hart h; there is one for each hart that a run may make
abbrev pub no_ring : Notes
no_ring = record { room = 0; pairs = [] }

abbrev pub ring_in : List Notes → ℕ → Notes
ring_in rings h = slice_index_or rings h no_ring

-- before the first step
abbrev pub empty_rings : (ring : ℕ) → List Notes
empty_rings ring = replicate hart_limit (record { room = ring; pairs = [] })

-- hart h makes a transfer, or none
abbrev pub with_transfer : ℕ → Option (ℕ × ℕ) → List Notes → List Notes
with_transfer h None rings = rings
with_transfer h (Some pair) rings = slice_set rings h (noted (ring_in rings h) pair)
