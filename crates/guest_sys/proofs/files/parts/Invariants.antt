use Rattle.std.proofs.Common.{◌≡◌}
use Rattle.guest_mem.specs.Access.{seen}
use Rattle.guest_sys.specs.Calls.{parts}
use Rattle.guest_sys.proofs.files.parts.Given as goal

abbrev pub invariant-loop-k : goal.invariant-loop-k
invariant-loop-k g l = l.parts.items ≡ parts (seen (g.O.Origins.origin l.origins) (g.M.GuestStore.contents l.mem)) l.at l.k
