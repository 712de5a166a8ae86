-- What contracts see of the region.
use Rattle.std.specs.Prelude.{ℕ, List}
use Rattle.oc_base.specs.declared.range.Range.{Range}
use Rattle.region.specs.Free.{Rises}

-- spare: for how many calls there is room
pub record Space : Type 0 where
  pub all : Range
  pub free : List Range
  pub spare : ℕ

-- the free ranges lie in the region
abbrev pub IsSpace : Space → Type 0
IsSpace s = Rises s.all.from s.all.to s.free
