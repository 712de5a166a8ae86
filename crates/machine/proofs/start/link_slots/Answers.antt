use Rattle.std.proofs.Common.{◌<◌, List, All, sym, subst}
use Rattle.image.specs.declared.ranges.Aim.{Aim}
use Rattle.machine.proofs.Slots.{slots_low}
use Rattle.machine.proofs.start.link_slots.Goals as goal

pub link_all-requires : goal.link_all-requires
link_all-requires c = subst (λ (slots : List Aim). All (λ (s : Aim). s.at < 0x1000_0000) slots) (sym c.slots.ensures) (slots_low c.args.image.now c.kept.ensures)
