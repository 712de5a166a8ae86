-- What is shown of an executable as a whole: the entry, the text, the region for moved code and whether calls reach it, and
-- all functions. This project's own; what a linker is told is in docs/executables.md.
use Rattle.std.specs.Prelude.{◌≡◌, ℕ, ◌-◌, ◌↔◌, Bool, true, false, nat_le, List, [], ◌∷◌, ◌++◌, codes, length, flat_map, Option, Some, None}
use Rattle.std.specs.List.{fold}
use Rattle.std.specs.Prelude.{max, map}
use Rattle.std.specs.Fmt.{decimal}
use Rattle.oc_base.specs.declared.range.Range.{Range}
use Rattle.image.specs.declared.ranges.TextRange.{TextRange}
use Rattle.image.specs.Texts.{text_end}
use Rattle.image.specs.Picture.{Picture}
use Rattle.looking.specs.Pieces.{address, range_text}
use Rattle.looking.specs.Functions.{func_lines}
use Rattle.near_region.specs.Regions.{IsNear, IsBest}

abbrev pub entry_line : (entry : ℕ) → List ℕ
entry_line entry = codes "entry " ++ address entry ++ codes "\n"

abbrev pub text_line : TextRange → List ℕ
text_line t = codes "text " ++ range_text t.from (text_end t) ++ codes "\n"

-- text that lies in less than a MiB less two pages, so that a region fits beside it
abbrev pub is_short : List TextRange → Bool
is_short [] = true
is_short (t ∷ ts) = nat_le (fold max 0 (map text_end (t ∷ ts)) - t.from) 1040384

abbrev pub region_line : Range → (near : Bool) → List ℕ
region_line r true = codes "region " ++ range_text r.from r.to ++ codes ": in reach of all text\n"
region_line r false = codes "region " ++ range_text r.from r.to ++ codes ": out of reach of some text\n"

-- the option that names a region
abbrev pub option_line : Range → List ℕ
option_line r = codes "free and in reach: --region " ++ address r.from ++ codes ":" ++ decimal (r.to - r.from) ++ codes "\n"

-- what can be done where no region is free and in reach
abbrev pub link_line : (short : Bool) → List ℕ
link_line true = codes "nothing is free and in reach: link with -Wl,-Ttext-segment=0x100000 (lld: -Wl,--image-base=0x100000)\n"
link_line false = codes "nothing is free and in reach: a JAL reaches 1 MiB, and text and a region are longer; link less text\n"

-- where the region isn't near, one that is, or what can be done
abbrev pub advice : List TextRange → (near : Bool) → Option Range → List ℕ
advice texts true best = []
advice texts false (Some r) = option_line r
advice texts false None = link_line (is_short texts)

abbrev pub overview : Picture → (names : List (List ℕ)) → (near : Bool) → Option Range → List ℕ
overview p names near best =
    entry_line p.entry ++ flat_map text_line p.texts ++ region_line p.region near ++ advice p.texts near best
    ++ codes "functions " ++ decimal (length p.funcs) ++ codes "\n" ++ func_lines p names 0 p.funcs

-- the text is what is shown of an image, whose functions have these names
pub record IsOverview (p : Picture) (names : List (List ℕ)) (text : List ℕ) : Type 0 where
  pub near : Bool
  pub tells : (near ≡ true) ↔ IsNear p.texts p.region
  pub best : Option Range
  pub is_best : IsBest p.texts p.parts best
  pub is : text ≡ overview p names near best
