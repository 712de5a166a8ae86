-- Groups in a map by their names, while they are merged.
use Rattle.std.specs.Prelude.{◌≡◌, ℕ, ◌-◌, ◌^◌, ◌<◌, AllPairs, List, map, unwrap_or, [], ◌∷◌}
use Rattle.std.specs.List.{flat_map}
use Rattle.std.specs.List.Sorted.{IsPermutation}
use Rattle.std.specs.Ordering.{nat_cmp}
use Rattle.std.specs.BTreeMap.{insert_entry, is_at}
use Rattle.std.specs.Map.{lookup, remove_entry}
use Rattle.place_funcs.specs.declared.table.Nearest.{Nearest}
use Rattle.place_funcs.specs.Links.{names_cmp}
use Rattle.place_funcs.specs.Groups.{name, joined, alone, EndsAfter}

-- a group as it stands in the map
abbrev pub named : List ℕ → ℕ × List ℕ
named c = (name c, c)

-- the group that the map has for a name
abbrev pub group_at : List (ℕ × List ℕ) → ℕ → List ℕ
group_at es x = unwrap_or (lookup (is_at (nat_cmp x)) es) []

-- the map after the two groups of a link are merged
abbrev pub merged : Nearest → List (ℕ × List ℕ) → List (ℕ × List ℕ)
merged n es = insert_entry nat_cmp (remove_entry (is_at (nat_cmp n.second)) es) n.first (joined n.link.f n.link.g (group_at es n.first) (group_at es n.second))

-- the map has the groups to which merges lead, as long as some two have a weight over 0 between them
pub record IsGrouped (edge : ℕ → ℕ → ℕ) (funcs : List ℕ) (es : List (ℕ × List ℕ)) : Type 0 where
  pub merges : ℕ
  pub last : List (List ℕ)
  pub ends : EndsAfter edge merges (map alone funcs) last
  pub is : es ≡ map named last
  pub rise : AllPairs (λ c d. name c < name d) last
  pub same : IsPermutation funcs (flat_map (λ c. c) last)

-- a group that is reached by how seldom a profile goes from it, and then by its name
abbrev pub in_rank : (List ℕ → ℕ) → List ((ℕ × ℕ) × List ℕ) → ℕ × List ℕ → List ((ℕ × ℕ) × List ℕ)
in_rank count rs e = insert_entry names_cmp rs (2 ^ 64 - 1 - count e.1, e.0) e.1

-- the same for each of some groups
abbrev pub ranks : (List ℕ → ℕ) → List ((ℕ × ℕ) × List ℕ) → List (ℕ × List ℕ) → List ((ℕ × ℕ) × List ℕ)
ranks count rs [] = rs
ranks count rs (e ∷ es) = ranks count (in_rank count rs e) es

abbrev pub group_of : (ℕ × ℕ) × List ℕ → List ℕ
group_of r = r.1
