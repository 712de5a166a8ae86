use Rattle.std.proofs.Common.{◌≡◌, ◌≤◌, ◌++◌, map, drop}
use Rattle.relocs.specs.Built.{gaps, part_of}
use Rattle.relocs.proofs.parts.push_gaps.Given as goal

abbrev pub invariant-loop-t : goal.invariant-loop-t
invariant-loop-t l = (l.out.items ++ map (part_of l.g) (gaps l.at l.to (drop l.t-index l.texts)) ≡ l.initial.out.items ++ map (part_of l.g) (gaps l.g.at l.to l.texts)) × (l.g.at ≤ l.at)
