use Rattle.std.proofs.Common.{◌≡◌, drop}
use Rattle.sim_laws.specs.Changes.{with_links, with_memory}
use Rattle.world.proofs.slots.send.Given as goal

-- what is left makes of it what all was to make
abbrev pub invariant-loop-at : goal.invariant-loop-at
invariant-loop-at l = record {
  links : l.machine.memory.links ≡ l.fn.machine.memory.links;
  left : with_memory (with_links (drop l.at-index l.sent) l.machine.memory) l.machine ≡ with_memory (with_links l.sent l.fn.machine.memory) l.fn.machine;
}
