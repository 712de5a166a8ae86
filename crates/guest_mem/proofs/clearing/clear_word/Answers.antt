use Rattle.std.proofs.Common.{◌-◌}
use Rattle.guest_mem.proofs.PutLaws.{bare_zeroed}
use Rattle.guest_mem.proofs.clearing.clear_word.Goals as goal

pub returns-else-has_room-clause-contents : goal.returns-else-has_room-clause-contents
returns-else-has_room-clause-contents g c =
    bare_zeroed (g.S.WordStore.contents c.args.store.now) c.args.w c.args.range.from (c.args.range.to - c.args.range.from) (c.has_room.ensures.bare c.if-has_room.false)
