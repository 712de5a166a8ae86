use Rattle.std.proofs.Common.{◌≡◌, ◌++◌, List, drop}
use Rattle.std.specs.Prelude.{None, if◌then◌else◌}
use Rattle.std.specs.List.{filter_map}
use Rattle.std.specs.Option.{option_copied}
use Rattle.image.specs.declared.ranges.TextRange.{TextRange}
use Rattle.world.specs.Worlds.{code_in}
use Rattle.world.specs.Replacing.{is_own, sent_to}
use Rattle.world.proofs.slots.slots_sent.Given as goal

-- those of the slots that are left are all that are not there yet
abbrev pub invariant-loop-s : goal.invariant-loop-s
invariant-loop-s l =
    (text : List TextRange)
    → l.all.items ++ filter_map (λ s. if is_own l.image (code_in l.image text l.lives.layouts.items) l.machine.memory s then sent_to l.image (option_copied l.aims.new) s else None) (drop l.s-index l.s-items)
    ≡ filter_map (λ s. if is_own l.image (code_in l.image text l.lives.layouts.items) l.machine.memory s then sent_to l.image (option_copied l.aims.new) s else None) l.s-items
