use Rattle.machine.proofs.Loading.{part_writable, part_added, part_added_plain}
use Rattle.machine.proofs.start.add_part.Goals as goal

pub write_bytes-requires : goal.write_bytes-requires
write_bytes-requires c = part_writable c.args.part.now c.args.memory.now.contents _ _ c.requires.fit c.in_ok-map.ensures.ok c.as_slice.ensures

pub returns-clause-is : goal.returns-clause-is
returns-clause-is c = part_added c.args.part.now c.args.memory.now.contents _ _ _ _ c.in_ok-map.ensures.ok c.as_slice.ensures c.in_ok-write_bytes.ensures c.in_ok-set_rights.ensures.ok

pub returns-clause-plain : goal.returns-clause-plain
returns-clause-plain c =
    part_added_plain c.args.part.now c.args.memory.now.contents _
    (part_added c.args.part.now c.args.memory.now.contents _ _ _ _ c.in_ok-map.ensures.ok c.as_slice.ensures c.in_ok-write_bytes.ensures c.in_ok-set_rights.ensures.ok)
    c.requires.plain
