-- The lines of a profile: how often each block was entered, and each transfer. This project's own.
use Rattle.std.specs.Prelude.{ℕ, ◌==◌, List, [], ◌++◌, codes, flat_map, sum_by, if◌then◌else◌}
use Rattle.std.specs.Fmt.{decimal}
use Rattle.branch_ring.specs.declared.counted.Counted.{Counted}
use Rattle.branch_ring.specs.Profiles.{count_of as count}
use Rattle.place_blocks.specs.Edges.{count_of}
use Rattle.looking.specs.Pieces.{name_text}
use Rattle.looking.specs.Functions.{name_of}
use Rattle.seen.specs.declared.spot.Spot.{Spot}
use Rattle.seen.specs.Spots.{block_text, place_text}

-- how many transfers went to an address
unfoldable pub entered : List Counted → ℕ → ℕ
entered profile a = count_of profile (λ c. c.to == a)

abbrev pub ran_text : (names : List (List ℕ)) → Spot → (count : ℕ) → List ℕ
ran_text names s count =
    if count == 0 then [] else codes "ran " ++ block_text s ++ codes " " ++ name_text (name_of names s.func) ++ codes " " ++ decimal count ++ codes "\n"

-- the line of a block that transfers entered
abbrev pub ran_line : List Counted → (names : List (List ℕ)) → Spot → List ℕ
ran_line profile names s = ran_text names s (entered profile s.from)

abbrev pub edge_text : List Spot → (from to count : ℕ) → List ℕ
edge_text spots from to count = codes "edge " ++ place_text spots from ++ codes " " ++ place_text spots to ++ codes " " ++ decimal count ++ codes "\n"

abbrev pub edge_line : List Spot → Counted → List ℕ
edge_line spots c = edge_text spots c.from c.to c.count

abbrev pub profile_head : (transfers : ℕ) → List ℕ
profile_head transfers = codes "profile " ++ decimal transfers ++ codes " transfers\n"

unfoldable pub profile_text : List Spot → (names : List (List ℕ)) → List Counted → List ℕ
profile_text spots names profile = profile_head (sum_by count profile) ++ flat_map (ran_line profile names) spots ++ flat_map (edge_line spots) profile
