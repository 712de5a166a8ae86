use Rattle.std.proofs.Common.{◌≡◌, ◌++◌, take}
use Rattle.std.specs.List.{flat_map}
use Rattle.elf_make.specs.Bytes.{number}
use Rattle.elf_make.proofs.tables.push_text.Given as goal

abbrev pub invariant-loop-w : goal.invariant-loop-w
invariant-loop-w l = l.out.items ≡ l.initial.out.items ++ flat_map (number 4) (take l.w-index l.words)
