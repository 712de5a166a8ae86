use Rattle.std.proofs.Common.{◌≡◌, ◌++◌, map, take}
use Rattle.std.specs.List.{flat_map}
use Rattle.elf_make.specs.Bytes.{ended}
use Rattle.elf_make.specs.File.{name_of}
use Rattle.elf_make.proofs.tables.push_names.Given as goal

abbrev pub invariant-loop-n : goal.invariant-loop-n
invariant-loop-n l = l.out.items ≡ l.initial.out.items ++ flat_map ended (map name_of (take l.n-index l.items))
