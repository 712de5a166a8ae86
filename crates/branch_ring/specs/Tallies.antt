-- Pairs counted in a map.
use Rattle.std.specs.Prelude.{ℕ, ◌+◌, ◌==◌, Option, Some, unwrap_or, if◌then◌else◌}
use Rattle.std.specs.Ordering.{nat_cmp, ordering_then}
use Rattle.std.specs.BTreeMap.{BTreeMap, get}
use Rattle.std.specs.declared.cmp.Ordering.{Ordering}

-- by where they come from, and then by where they go
abbrev pub pair_cmp : ℕ × ℕ → ℕ × ℕ → Ordering
pair_cmp x y = ordering_then (nat_cmp x.0 y.0) (nat_cmp x.1 y.1)

-- the count of a pair, if it has one
abbrev pub count_at : BTreeMap (ℕ × ℕ) ℕ → ℕ → ℕ → Option ℕ
count_at m from to = get pair_cmp m (from, to)

-- a count, n more
abbrev pub with_more : Option ℕ → ℕ → Option ℕ
with_more o n = if n == 0 then o else Some (unwrap_or o 0 + n)

-- a row as the map has it
abbrev pub entry_of : ℕ × ℕ × ℕ → (ℕ × ℕ) × ℕ
entry_of row = ((row.0, row.1), row.2)
