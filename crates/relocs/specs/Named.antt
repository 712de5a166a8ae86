-- The places that relocations name. The numbers of the relocations are those of the RISC-V ELF psABI.
use Rattle.std.specs.Prelude.{ℕ, ◌+◌, ◌-◌, ◌%◌, ◌^◌, min, unsigned_abs, Bool, false, ◌==◌, ◌&&◌, ◌||◌, nat_eq, nat_le, List, [], ◌∷◌, Option, None, if◌then◌else◌}
use Rattle.std.specs.List.{list_any, slice_get, starts_with}
use Rattle.std.specs.Option.{option_map_or}
use Rattle.elf_read.specs.declared.tables.Reloc.{Reloc}
use Rattle.elf_read.specs.declared.elf.Symbol.{Symbol}
use Rattle.image.specs.declared.ranges.Aim.{Aim}
use Rattle.image.specs.declared.ranges.Part.{Part}
use Rattle.image.specs.Aims.{stored_at}
use Rattle.relocs.specs.Functions.{symbol_end}

-- some relocation that passes stands at an address
abbrev pub is_named : (Reloc → Bool) → List Reloc → ℕ → Bool
is_named takes relocs a = list_any (λ r. takes r && r.at == a) relocs

-- what an address aims at, where a relocation that passes stands there
unfoldable pub aim_at : (Reloc → Bool) → (ℕ → Option ℕ) → List Reloc → ℕ → Option ℕ
aim_at takes aim relocs a = if is_named takes relocs a then aim a else None

abbrev pub aim_entry : Aim → ℕ × ℕ
aim_entry s = (s.at, s.func)

-- R_RISCV_JAL
abbrev pub is_call : Reloc → Bool
is_call r = r.kind == 17

-- R_RISCV_CALL or R_RISCV_CALL_PLT
abbrev pub is_far : Reloc → Bool
is_far r = r.kind == 18 || r.kind == 19

-- _ZTV
abbrev pub virtual_table : List ℕ
virtual_table = 0x5F ∷ 0x5A ∷ 0x54 ∷ 0x56 ∷ []

-- a virtual table: an object whose name begins with _ZTV
abbrev pub is_table : Symbol → Bool
is_table s = s.info % 16 == 1 && starts_with nat_eq s.name virtual_table

abbrev pub in_table : ℕ → Symbol → Bool
in_table a s = is_table s && (nat_le s.value a && nat_le (a + 8) (symbol_end s))

-- its range of addresses of 64 bits
abbrev pub table_range : Symbol → ℕ × ℕ
table_range s = (s.value, min (symbol_end s) (2 ^ 64 - 1))

-- the 8 bytes from an address on lie in a virtual table
unfoldable pub is_tabled : List Symbol → ℕ → Bool
is_tabled symbols a = list_any (in_table a) symbols

-- a function's symbol whose value is what the 8 bytes from an address on store
abbrev pub is_kept : List Part → ℕ → Symbol → Bool
is_kept parts a s = s.info % 16 == 2 && option_map_or (λ v. v == s.value) (stored_at parts a) false

-- R_RISCV_64 with no addend, in a virtual table, of the function that is stored there
unfoldable pub is_stored : List Symbol → List Part → Reloc → Bool
is_stored symbols parts r = r.kind == 2 && (unsigned_abs r.addend == 0 && (option_map_or (is_kept parts r.at) (slice_get symbols r.symbol) false && is_tabled symbols r.at))
