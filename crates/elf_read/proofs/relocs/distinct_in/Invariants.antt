use Rattle.std.proofs.Common.{take}
use Rattle.std.specs.List.{flat_map}
use Rattle.elf_read.specs.Relocs.{entries_from, relocs_of, AreSame, AreAmong}
use Rattle.elf_read.proofs.relocs.distinct_in.Given as goal

abbrev pub invariant-loop-s : goal.invariant-loop-s
invariant-loop-s l =
    let found = flat_map (relocs_of l.bytes l.symbols) (take l.s-index l.sections) in
    AreSame l.all.items found × AreAmong (entries_from l.bytes l.symbols l.last.0 l.last.1) found
