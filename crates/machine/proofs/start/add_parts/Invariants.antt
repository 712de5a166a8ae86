use Rattle.std.proofs.Common.{◌≡◌, ℕ, false, drop}
use Rattle.finite.specs.Maps.{contains}
use Rattle.machine.specs.Start.{with_parts}
use Rattle.machine.proofs.start.add_parts.Given as goal

-- the parts that are left make the same, and there is no link
abbrev pub invariant-loop-part : goal.invariant-loop-part
invariant-loop-part l = (with_parts (drop l.part-index l.parts) l.memory.contents ≡ with_parts l.parts l.fn.memory.contents) × ((w : ℕ) → contains l.memory.contents.links w ≡ false)
