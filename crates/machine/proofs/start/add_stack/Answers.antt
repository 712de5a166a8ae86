use Rattle.machine.proofs.Loading.{name_writable}
use Rattle.machine.proofs.start.add_stack.Goals as goal

pub write_bytes-requires : goal.write_bytes-requires
write_bytes-requires c = name_writable c.args.memory.now.contents _ c.in_ok-map.ensures.ok
