use Rattle.std.proofs.Common.{◌≡◌, ◌++◌, take}
use Rattle.std.specs.List.{flat_map}
use Rattle.guest_gen.specs.Generated.{slot_bytes}
use Rattle.guest_gen.proofs.generate.push_slots.Given as goal

abbrev pub invariant-loop-f : goal.invariant-loop-f
invariant-loop-f l = l.bytes.items ≡ l.fn.bytes.items ++ flat_map slot_bytes (take l.f-index l.funcs)
