-- What a fault of a program's file means, and what to do, in words. Source: docs/executables.md.
use Rattle.std.specs.Prelude.{ℕ, List, ◌++◌, codes}
use Rattle.std.specs.Fmt.{decimal}
use Rattle.elf_read.specs.declared.fault.ElfFault.{ElfFault}
use Rattle.elf_read.specs.declared.fault.ElfFault.TheVariants as elf
use Rattle.relocs.specs.declared.fault.ImageFault.{ImageFault}
use Rattle.relocs.specs.declared.fault.ImageFault.TheVariants as image
use Rattle.report.specs.declared.answer.ProgramFault.{ProgramFault}
use Rattle.report.specs.declared.answer.ProgramFault.TheVariants.{Elf, Image}
use Rattle.looking.specs.Pieces.{address}

abbrev pub elf_meaning : ElfFault → List ℕ
elf_meaning elf.NotElf = codes "no ELF file: name the program that the linker made"
elf_meaning elf.NotRiscv64Exec = codes "no RISC-V executable at fixed addresses: link for riscv64 with -static"
elf_meaning elf.Compressed = codes "compressed instructions: build with -march=rv64ima, the C library too"
elf_meaning elf.FloatAbi = codes "a floating-point ABI: build with -mabi=lp64, the C library too"
elf_meaning (elf.Truncated offset) = codes "the file ends before what stands at its byte " ++ decimal offset ++ codes ": copy or link it again"
elf_meaning (elf.BadSegment index) = codes "segment " ++ decimal index ++ codes " doesn't fit: the file is damaged, link it again"
elf_meaning elf.TooLarge = codes "a segment lies outside 0x1000..0x8000000, or there are more than 16 MiB of text: link it lower with -Wl,-Ttext-segment=0x10000 (lld: -Wl,--image-base=0x10000), or link less"
elf_meaning elf.NoText = codes "no section of text: keep the section headers"
elf_meaning elf.NoSymbols = codes "no symbol table: don't strip the file; strip -g leaves it"
elf_meaning elf.NoMemory = codes "out of memory"

abbrev pub image_meaning : ImageFault → List ℕ
image_meaning (image.TextMisaligned at) = codes "the text section at " ++ address at ++ codes " isn't whole words: keep bytes out of it"
image_meaning (image.TextOutside at) = codes "the text section at " ++ address at ++ codes " is in no segment of the file, or meets another one: link it again"
image_meaning (image.EntryOutside at) = codes "the entry " ++ address at ++ codes " is no word of text: name a function by -Wl,-e,_start"
image_meaning (image.RegionOverlap at) = codes "the region for moved code isn't free at " ++ address at ++ codes ": name another by --region BASE:SIZE"
image_meaning (image.RegionAimed at) = codes "the jump at " ++ address at ++ codes " goes into the region for moved code: name another by --region BASE:SIZE"
image_meaning image.NoMemory = codes "out of memory"

abbrev pub meaning : ProgramFault → List ℕ
meaning (Elf fault) = elf_meaning fault
meaning (Image fault) = image_meaning fault
