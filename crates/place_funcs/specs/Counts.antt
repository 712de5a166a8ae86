-- Pairs of a profile, each counted once.
use Rattle.std.specs.Prelude.{ℕ, Bool, ◌==◌, ◌&&◌, if◌then◌else◌}
use Rattle.std.specs.BTreeSet.{BTreeSet, contains}
use Rattle.branch_ring.specs.declared.counted.Counted.{Counted}
use Rattle.place_funcs.specs.Links.{names_cmp}

-- whether a pair was seen
abbrev pub has_pair : BTreeSet (ℕ × ℕ) → Counted → Bool
has_pair seen c = contains names_cmp seen (c.from, c.to)

-- the count of a pair, if it was seen
abbrev pub counted_in : BTreeSet (ℕ × ℕ) → Counted → ℕ
counted_in seen c = if has_pair seen c then c.count else 0

-- whether d has the addresses of c
abbrev pub is_same : Counted → Counted → Bool
is_same c d = (d.from == c.from) && (d.to == c.to)
