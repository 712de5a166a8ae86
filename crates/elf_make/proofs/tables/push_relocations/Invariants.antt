use Rattle.std.proofs.Common.{◌≡◌, ◌++◌, take}
use Rattle.std.specs.List.{All, filter, flat_map}
use Rattle.elf_make.specs.Rows.{relocation}
use Rattle.elf_make.specs.File.{is_of}
use Rattle.elf_make.specs.Ranges.{IsFixupInRange}
use Rattle.elf_make.proofs.tables.push_relocations.Given as goal

abbrev pub invariant-loop-f : goal.invariant-loop-f
invariant-loop-f l = record {
  bytes : l.out.items ≡ l.initial.out.items ++ flat_map relocation (filter (is_of l.slots) (take l.f-index l.fixups));
  range : All IsFixupInRange (take l.f-index l.fixups);
}
