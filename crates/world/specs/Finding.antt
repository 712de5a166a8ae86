-- How the layout that holds an address is found. For the crate's own use.
use Rattle.layout.specs.Apart.{AreApart}
use Rattle.layout.specs.Bases.{ArePlaces}
use Rattle.world.specs.declared.points.Lives.{Lives}

-- the layouts lie apart, and their places are known
pub record AreFound (lives : Lives) : Type 0 where
  pub apart : AreApart lives.layouts.items
  pub places : ArePlaces lives.layouts.items lives.places.items
