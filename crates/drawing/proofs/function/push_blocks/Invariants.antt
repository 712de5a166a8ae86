use Rattle.std.proofs.Common.{◌≡◌, ◌++◌, take, string_bytes, flat_map}
use Rattle.drawing.specs.Picture.{block_text}
use Rattle.drawing.proofs.function.push_blocks.Given as goal

abbrev pub invariant-loop-b : goal.invariant-loop-b
invariant-loop-b l = string_bytes l.text ≡ string_bytes l.initial.text ++ flat_map (block_text l.s) (take l.b-index l.blocks)
