-- The exit status and the last line of each end of a call.
use Rattle.std.specs.Prelude.{ℕ, false, List, [], ◌++◌, codes}
use Rattle.std.specs.Fmt.{decimal, digits}
use Rattle.report.specs.declared.answer.Ended.{Ended}
use Rattle.report.specs.declared.answer.Ended.TheVariants.{Ran, Usage, ReadFault, TooLong, Program, Script, WriteFault, NoMemory}
use Rattle.report.specs.declared.answer.ProgramFault.TheVariants as program
use Rattle.elf_read.specs.declared.fault.ElfFault.{ElfFault}
use Rattle.elf_read.specs.declared.fault.ElfFault.TheVariants as elf
use Rattle.relocs.specs.declared.fault.ImageFault.{ImageFault}
use Rattle.relocs.specs.declared.fault.ImageFault.TheVariants as image
use Rattle.sched_log.specs.declared.fault.ScriptFault.{ScriptFault}
use Rattle.sched_log.specs.declared.fault.ScriptFault.TheVariants as script
use Rattle.machine.specs.declared.outcome.Outcome.TheVariants.{Exit, Trap, LinkUse, Landing, OutputFull, HartsFull, Stalled, Unfinished, Limit}

abbrev pub status_of : Ended → ℕ
status_of (Ran (Exit code)) = code
status_of (Ran OutputFull) = 112
status_of (Ran HartsFull) = 113
status_of (Ran (Landing pc)) = 114
status_of (Ran Unfinished) = 115
status_of (Ran Stalled) = 116
status_of (Ran (Limit most)) = 117
status_of (Ran (Trap cause pc value)) = 118
status_of (Ran (LinkUse rule pc)) = 119
status_of Usage = 120
status_of (ReadFault name) = 121
status_of WriteFault = 122
status_of (Program fault) = 123
status_of (Script fault) = 124
status_of NoMemory = 125
status_of (TooLong name) = 126

-- the number of a fault of the file, and the offset or index that goes with it
abbrev pub elf_numbers : ElfFault → ℕ × ℕ
elf_numbers elf.NotElf = (1, 0)
elf_numbers elf.NotRiscv64Exec = (2, 0)
elf_numbers elf.Compressed = (3, 0)
elf_numbers elf.FloatAbi = (4, 0)
elf_numbers (elf.Truncated offset) = (5, offset)
elf_numbers (elf.BadSegment index) = (6, index)
elf_numbers elf.TooLarge = (7, 0)
elf_numbers elf.NoText = (8, 0)
elf_numbers elf.NoSymbols = (9, 0)
elf_numbers elf.NoMemory = (0, 0)

-- the number of a fault of the image, and its address
abbrev pub image_numbers : ImageFault → ℕ × ℕ
image_numbers (image.TextMisaligned at) = (1, at)
image_numbers (image.TextOutside at) = (2, at)
image_numbers (image.EntryOutside at) = (3, at)
image_numbers (image.RegionOverlap at) = (4, at)
image_numbers (image.RegionAimed at) = (5, at)
image_numbers image.NoMemory = (0, 0)

-- the number of a line with a fault, and the fault's kind
abbrev pub script_numbers : ScriptFault → ℕ × ℕ
script_numbers (script.Line line kind) = (line, kind)
script_numbers script.NoMemory = (0, 0)

abbrev pub elf_line : ℕ × ℕ → List ℕ
elf_line e = codes "ocolos: program elf " ++ decimal e.0 ++ codes " " ++ decimal e.1 ++ codes "\n"

abbrev pub image_line : ℕ × ℕ → List ℕ
image_line e = codes "ocolos: program image " ++ decimal e.0 ++ codes " 0x" ++ digits 16 false e.1 ++ codes "\n"

abbrev pub script_line : ℕ × ℕ → List ℕ
script_line e = codes "ocolos: script line " ++ decimal e.0 ++ codes " fault " ++ decimal e.1 ++ codes "\n"

-- addresses in lower-case hexadecimal, other numbers decimal
abbrev pub line_of : Ended → List ℕ
line_of (Ran (Exit code)) = codes "ocolos: exit " ++ decimal code ++ codes "\n"
line_of (Ran OutputFull) = codes "ocolos: output full\n"
line_of (Ran HartsFull) = codes "ocolos: harts full\n"
line_of (Ran Stalled) = codes "ocolos: stalled\n"
line_of (Ran Unfinished) = codes "ocolos: unfinished\n"
line_of (Ran (Limit most)) = codes "ocolos: limit " ++ decimal most ++ codes "\n"
line_of (Ran (Trap cause pc value)) = codes "ocolos: trap " ++ decimal cause ++ codes " at 0x" ++ digits 16 false pc ++ codes " value 0x" ++ digits 16 false value ++ codes "\n"
line_of (Ran (LinkUse rule pc)) = codes "ocolos: link use " ++ decimal rule ++ codes " at 0x" ++ digits 16 false pc ++ codes "\n"
line_of (Ran (Landing pc)) = codes "ocolos: landing at 0x" ++ digits 16 false pc ++ codes "\n"
line_of (Program (program.Elf fault)) = elf_line (elf_numbers fault)
line_of (Program (program.Image fault)) = image_line (image_numbers fault)
line_of (Script fault) = script_line (script_numbers fault)
line_of Usage = codes "ocolos: usage\n"
line_of (ReadFault name) = codes "ocolos: cannot read " ++ name ++ codes "\n"
line_of (TooLong name) = codes "ocolos: too long " ++ name ++ codes "\n"
line_of WriteFault = []
line_of NoMemory = codes "ocolos: out of memory\n"
