use Rattle.std.proofs.Common.{ap, ◌∙◌}
use Rattle.finite.specs.Maps.{contains}
use Rattle.finite.proofs.MapLaws.{contains-nowhere}
use Rattle.guest_mem.specs.Store.{Store}
use Rattle.machine.proofs.start.memory_of.Goals as goal

pub add_parts-requires-clause-plain : goal.add_parts-requires-clause-plain
add_parts-requires-clause-plain c = λ w. ap (λ (s : Store). contains s.contents.links w) c.in_ok-memory.ensures ∙ contains-nowhere w
