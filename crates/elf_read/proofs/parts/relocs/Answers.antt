use Rattle.elf_read.proofs.Loops.{tables_inside}
use Rattle.elf_read.proofs.parts.relocs.Goals as goal

pub of-requires : goal.of-requires
of-requires c = rw (c.in_ok-tables.ensures, c.in_ok-bytes.ensures) (tables_inside _ c.args.sections.now c.args.place c.requires)
