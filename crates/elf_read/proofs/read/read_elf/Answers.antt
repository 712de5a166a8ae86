use Rattle.elf_read.proofs.Wholes.{whole}
use Rattle.elf_read.proofs.read.read_elf.Goals as goal

pub of-requires : goal.of-requires
of-requires c = rw c.in_ok-elf.ensures (whole c.args.bytes.now c.in_ok-tables.tables.headers.items c.in_ok-tables.tables.sections.items c.in_ok-tables.ensures.headers c.in_ok-tables.ensures.segments_good c.in_ok-tables.ensures.room)
