-- Where each part of a program's file stands.
use Rattle.std.proofs.Common.{◌≡◌, ℕ, ◌+◌, ◌≤◌, Bool, true, false, List, [], ◌∷◌, length, sym, subst, arith}
use Rattle.std.specs.Prelude.{if◌then◌else◌}
use Rattle.std.specs.List.{flat_map}
use Rattle.std.proofs.lemmas.List.{append-nil}
use Rattle.elf_read.specs.declared.tables.ProgramHeader.{ProgramHeader}
use Rattle.rv_asm.specs.Emission.{round_up}
use Rattle.rv_asm.specs.declared.program.Program.{Program}
use Rattle.elf_make.specs.Rows.{file_header, program_header, section_header}
use Rattle.elf_make.specs.File.{text_bytes, text_size, has_data, data_offset, segments, segment, data_address, symbol_table, names, text_relocations, data_relocations, section_names, symbols_at, names_at, text_relocations_at, data_relocations_at, section_names_at, sections_at, sections, header_of, loaded_parts, table_parts, parts, elf_of}
use Rattle.elf_make.proofs.Lengths.{length-file_header, text_length, headers_size}
use Rattle.elf_make.proofs.Holding.{Holds, InOrder, HoldsEach, held_each, held_laid}

up : (n : ℕ) → n ≤ round_up 8 n
up n = omega arith

up_page : (n : ℕ) → n ≤ round_up 4096 n
up_page n = omega arith

two_at_most : (b : Bool) (x y : ProgramHeader) → length (x ∷ (if b then y ∷ [] else [])) ≤ 2
two_at_most true x y = omega arith
two_at_most false x y = omega arith

abbrev pub text_header : Program → ProgramHeader
text_header p = segment 5 0x1000 0x10000 (text_size p)

abbrev pub data_header : Program → ProgramHeader
data_header p = segment 6 (data_offset p) (data_address p) (length p.bytes)

pub few_segments : (p : Program) → length (segments p) ≤ 2
unfolding segments
few_segments p = two_at_most (has_data p) (text_header p) (data_header p)

pub text_len : (p : Program) → length (text_bytes p) ≡ text_size p
unfolding text_bytes
text_len p = text_length p

after_text : (b : Bool) (n : ℕ) → n ≤ (if b then round_up 4096 n else n)
after_text true n = up_page n
after_text false n = omega arith

in_order : (p : Program) → InOrder 64 (parts p)
unfolding loaded_parts table_parts symbols_at names_at text_relocations_at data_relocations_at section_names_at sections_at
in_order p =
    let few = few_segments p in
    let size = headers_size (segments p) in
    let text = text_len p in (
      omega arith,
      (
        omega arith,
        (
          subst (λ n. 0x1000 + n ≤ data_offset p) (sym text) (after_text (has_data p) (0x1000 + text_size p)),
          (up _, (up _, (up _, (up _, (up _, (up _, record {})))))),
        ),
      ),
    )

-- each part of the file stands at its place, and the section headers end it
pub record Stands (p : Program) (file : List ℕ) : Type 0 where
  pub header : Holds file 0 (file_header (header_of p))
  pub program_headers : Holds file 64 (flat_map program_header (segments p))
  pub text : Holds file 0x1000 (text_bytes p)
  pub data_ : Holds file (data_offset p) p.bytes
  pub symbols : Holds file (symbols_at p) (symbol_table p)
  pub strings : Holds file (names_at p) (names p)
  pub text_relocs : Holds file (text_relocations_at p) (text_relocations p)
  pub data_relocs : Holds file (data_relocations_at p) (data_relocations p)
  pub titles : Holds file (section_names_at p) (section_names p)
  pub section_headers : Holds file (sections_at p) (flat_map section_header (sections p))

alone : (xs : List ℕ) → Holds xs 0 xs
alone xs = record { rest = []; is = sym (append-nil xs); within = omega arith }

pub stands : (p : Program) → Stands p (elf_of p)
unfolding elf_of loaded_parts table_parts
stands p =
    let head = file_header (header_of p) in
    let each : HoldsEach (elf_of p) (parts p) = held_each head 64 (parts p) (length-file_header (header_of p)) (in_order p) in
    record {
      header = held_laid head 0 head (parts p) (alone head);
      program_headers = each.0;
      text = each.1.0;
      data_ = each.1.1.0;
      symbols = each.1.1.1.0;
      strings = each.1.1.1.1.0;
      text_relocs = each.1.1.1.1.1.0;
      data_relocs = each.1.1.1.1.1.1.0;
      titles = each.1.1.1.1.1.1.1.0;
      section_headers = each.1.1.1.1.1.1.1.1.0;
    }
