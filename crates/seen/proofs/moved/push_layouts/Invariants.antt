use Rattle.std.proofs.Common.{◌≡◌, ◌++◌, take, string_bytes, flat_map}
use Rattle.world.specs.Worlds.{code_of}
use Rattle.seen.specs.Moved.{layout_text}
use Rattle.seen.proofs.moved.push_layouts.Given as goal

abbrev pub invariant-loop-layout : goal.invariant-loop-layout
invariant-loop-layout l = string_bytes l.text ≡ string_bytes l.initial.text ++ flat_map (layout_text l.places.list (code_of l.world) l.names) (take l.layout-index l.layouts)
