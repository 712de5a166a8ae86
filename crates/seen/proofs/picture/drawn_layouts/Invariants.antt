use Rattle.std.proofs.Common.{◌≡◌, ◌++◌, drop, map}
use Rattle.world.specs.Worlds.{code_of}
use Rattle.seen.specs.Pictures.{drawn_layout}
use Rattle.seen.proofs.picture.drawn_layouts.Given as goal

abbrev pub invariant-loop-layout : goal.invariant-loop-layout
invariant-loop-layout l =
    l.all ++ map (drawn_layout l.places.list (code_of l.world)) (drop l.layout-index l.layouts) ≡ map (drawn_layout l.places.list (code_of l.world)) l.layouts
