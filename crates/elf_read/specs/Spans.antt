-- Loaded segments as ranges of addresses.
use Rattle.std.specs.Prelude.{◌≡◌, ℕ, ◌+◌, ◌-◌, ◌^◌, Bool, ◌&&◌, ◌||◌, nat_lt, List}
use Rattle.std.specs.List.{list_any}
use Rattle.elf_read.specs.declared.tables.ProgramHeader.{ProgramHeader}
use Rattle.elf_read.specs.Faults.{is_loaded}

-- more bytes in the file than in memory, or an end past the last address
abbrev pub is_unfit : ProgramHeader → Bool
is_unfit h = nat_lt h.memory_size h.file_size || nat_lt (2 ^ 64) (h.address + h.memory_size)

-- the last address of a segment, and its first
abbrev pub span_of : ProgramHeader → ℕ × ℕ
span_of h = (h.address + (h.memory_size - 1), h.address)

-- these are the spans of the loaded segments, in any order
abbrev pub AreSpansOf : List ProgramHeader → List (ℕ × ℕ) → Type 0
AreSpansOf headers spans = (test : ℕ × ℕ → Bool) → list_any test spans ≡ list_any (λ h. is_loaded h && test (span_of h)) headers
