-- A program's file has no fault but that there may be no text.
use Rattle.std.proofs.Common.{◌≡◌, ℕ, ◌+◌, ◌*◌, ◌^◌, ◌<◌, ◌≤◌, Bool, true, false, not, List, [], ◌∷◌, length, Some, None, refl, ap, ◌∙◌, arith}
use Rattle.std.specs.Prelude.{if◌then◌else◌, nat_lt, nat_le, ◌==◌, ◌&&◌, ◌||◌, is_some, position}
use Rattle.std.specs.List.{list_any, find}
use Rattle.std.specs.Option.{option_map}
use Rattle.std.proofs.lemmas.Bool.Decides.{nat_tests}
use Rattle.elf_read.specs.declared.header.Header.{Header}
use Rattle.elf_read.specs.declared.fault.ElfFault.TheVariants.{NoText, NoSymbols}
use Rattle.elf_read.specs.declared.tables.ProgramHeader.{ProgramHeader}
use Rattle.elf_read.specs.declared.tables.SectionHeader.{SectionHeader}
use Rattle.elf_read.specs.Fields.{u8_at}
use Rattle.elf_read.specs.Header as read_
use Rattle.elf_read.specs.Header.{is_elf, is_riscv64_exec}
use Rattle.finite.specs.First.{first_of, when}
use Rattle.elf_read.specs.Faults.{is_outside, is_loaded, is_text, is_symbols, is_bad, overlap, leaves_space, segment_start, section_start, is_segment_outside, is_section_outside, first_outside_segment, first_outside_section, first_bad_segment, is_too_large, program_headers, section_headers, header_faults, table_faults, fault_of}
use Rattle.rv_asm.specs.declared.program.Program.{Program}
use Rattle.elf_make.specs.declared.rows.FileHeader.{FileHeader}
use Rattle.elf_make.specs.Rows.{section_header}
use Rattle.elf_make.specs.File.{text_size, has_data, data_address, data_offset, segment, segments, sections, sections_at, header_of, elf_of}
use Rattle.elf_make.proofs.Lengths.{headers_size, length-section_header, length-flat}
use Rattle.elf_make.proofs.Reading.{Each, header_read, begins}
use Rattle.elf_make.proofs.Standing.{stands, text_header, data_header, text_len}
use Rattle.elf_make.proofs.Found.{rows_of, spots, found_text, has_text, text_sum, symbols_place}
use Rattle.elf_make.proofs.ReadTables.{Fits, each_maybe, head_read, segments_read, rows_read}

-- the tests, one after another
by_tests : (file : List ℕ) (h : Header) (hs : List ProgramHeader) (ss : List SectionHeader) → read_.header_of file ≡ h → program_headers file ≡ hs → section_headers file ≡ ss → is_elf file ≡ true → nat_lt (length file) 64 ≡ false → is_riscv64_exec h ≡ true → h.flags ≡ 0 → is_outside (length file) h.program_headers (56 * h.program_header_count) ≡ false → is_outside (length file) h.section_headers (64 * h.section_header_count) ≡ false → first_outside_segment (length file) hs ≡ None → first_outside_section (length file) ss ≡ None → first_bad_segment hs ≡ None → is_too_large hs ss ≡ false → fault_of file ≡ first_of (when (not (list_any is_text ss)) NoText ∷ when (not (is_some (position is_symbols ss))) NoSymbols ∷ [])
unfolding fault_of header_faults table_faults
by_tests file h hs ss eh ehs ess elf long exec flags a b c d e f = rw (eh, ehs, ess, elf, long, exec, flags, a, b, c, d, e, f) refl

-- ---- tests on numbers

not_less : (m n : ℕ) → n ≤ m → nat_lt m n ≡ false
not_less m n h = grind (arith, nat_tests)

less : (m n : ℕ) → m < n → nat_lt m n ≡ true
less m n h = grind (arith, nat_tests)

at_least : (m n : ℕ) → m ≤ n → nat_le m n ≡ true
at_least m n h = grind (arith, nat_tests)

and_false : (a b : Bool) → b ≡ false → (a && b) ≡ false
and_false true b h = h
and_false false b h = refl

or_true : (a : Bool) → (a || true) ≡ true
or_true true = refl
or_true false = refl

inside : (len start size : ℕ) → start + size ≤ len → is_outside len start size ≡ false
inside len start size h = and_false (nat_lt 0 size) (nat_lt len (start + size)) (not_less len (start + size) h)

-- ---- tests on lists

none_found : {X : Type 0} (q : X → Bool) (xs : List X) → Each (λ x. q x ≡ false) xs → find q xs ≡ None
none_found q [] each = refl
none_found q (x ∷ xs) each = rw each.0 (none_found q xs each.1)

two : {X : Type 0} (P : X → Type 0) (b : Bool) (x y : X) → P x → P y → Each P (x ∷ (if b then y ∷ [] else []))
two P true x y px py = (px, (py, record {}))
two P false x y px py = (px, record {})

any_of_two : {X : Type 0} (q : X → Bool) (b : Bool) (x y : X) → q x ≡ false → q y ≡ false → list_any q (x ∷ (if b then y ∷ [] else [])) ≡ false
any_of_two q true x y ex ey = rw (ex, ey) refl
any_of_two q false x y ex ey = rw ex refl

-- ---- the header

elf_file : (p : Program) → is_elf (elf_of p) ≡ true
elf_file p =
    let st = stands p in
    let starts = begins (elf_of p) (header_of p) st.header in
    let within = st.text.within in
    let long : nat_le 16 (length (elf_of p)) ≡ true = at_least 16 (length (elf_of p)) (omega arith) in
    let a : u8_at (elf_of p) 0 ≡ 0x7F = ap (λ f. u8_at f 0) starts.1 in
    let b : u8_at (elf_of p) 1 ≡ 0x45 = ap (λ f. u8_at f 1) starts.1 in
    let c : u8_at (elf_of p) 2 ≡ 0x4C = ap (λ f. u8_at f 2) starts.1 in
    let d : u8_at (elf_of p) 3 ≡ 0x46 = ap (λ f. u8_at f 3) starts.1 in
    rw (long, a, b, c, d) refl

exec : (h : FileHeader) → is_riscv64_exec (header_read h) ≡ true
exec h = rw (or_true (h.program_header_count == 0), or_true (h.section_header_count == 0)) refl

-- ---- segments

not_bad : (flags offset address size : ℕ) → address + size ≤ 2 ^ 64 → is_bad [] (segment flags offset address size) ≡ false
not_bad flags offset address size h = and_false (is_loaded (segment flags offset address size)) _ (rw (not_less size size (omega arith), not_less (2 ^ 64) (address + size) h) refl)

not_bad_after : (t : ProgramHeader) (flags offset address size : ℕ) → address + size ≤ 2 ^ 64 → t.address + t.memory_size ≤ address → is_bad (t ∷ []) (segment flags offset address size) ≡ false
not_bad_after t flags offset address size h apart =
    let d = segment flags offset address size in
    let no : overlap t d ≡ false = and_false (nat_lt t.address (address + size)) (nat_lt address (t.address + t.memory_size)) (not_less address (t.address + t.memory_size) apart) in
    let none : (is_loaded t && overlap t d) ≡ false = and_false (is_loaded t) (overlap t d) no in
    and_false (is_loaded d) _ (rw (not_less size size (omega arith), not_less (2 ^ 64) (address + size) h, none) refl)

none_bad : (b : Bool) (t d : ProgramHeader) → is_bad [] t ≡ false → is_bad (t ∷ []) d ≡ false → first_bad_segment (t ∷ (if b then d ∷ [] else [])) ≡ None
unfolding first_bad_segment
none_bad true t d x y = rw (x, y) refl
none_bad false t d x y = rw x refl

no_bad_segment : (p : Program) → first_bad_segment (segments p) ≡ None
unfolding segments
no_bad_segment p =
    let t = p.text_limit in
    let d = p.data_limit in
    none_bad (has_data p) (text_header p) (data_header p)
    (not_bad 5 0x1000 0x10000 (text_size p) (omega arith))
    (not_bad_after (text_header p) 6 (data_offset p) (data_address p) (length p.bytes) (omega arith) (omega arith))

segments_inside : (p : Program) → first_outside_segment (length (elf_of p)) (segments p) ≡ None
unfolding segments first_outside_segment
segments_inside p =
    let st = stands p in
    let len = length (elf_of p) in
    let t = text_len p in
    let in_text = st.text.within in
    let in_data = st.data_.within in
    ap (option_map segment_start) (none_found (is_segment_outside len) (segments p) (two (λ h. is_segment_outside len h ≡ false) (has_data p) (text_header p) (data_header p)
    (and_false (is_loaded (text_header p)) _ (inside len 0x1000 (text_size p) (omega arith)))
    (and_false (is_loaded (data_header p)) _ (inside len (data_offset p) (length p.bytes) (omega arith)))))

in_space : (flags offset address size : ℕ) → 0x1000 ≤ address → address + size ≤ 0x08000000 → leaves_space (segment flags offset address size) ≡ false
in_space flags offset address size low high = and_false (is_loaded (segment flags offset address size)) _ (rw (not_less address 0x1000 low, not_less 0x08000000 (address + size) high) refl)

no_space_left : (p : Program) → list_any leaves_space (segments p) ≡ false
unfolding segments
no_space_left p =
    let t = p.text_limit in
    let d = p.data_limit in
    any_of_two leaves_space (has_data p) (text_header p) (data_header p)
    (in_space 5 0x1000 0x10000 (text_size p) (omega arith) (omega arith))
    (in_space 6 (data_offset p) (data_address p) (length p.bytes) (omega arith) (omega arith))

-- ---- sections

sections_inside : (p : Program) → first_outside_section (length (elf_of p)) (rows_of (has_data p) (spots p)) ≡ None
unfolding first_outside_section
sections_inside p =
    let st = stands p in
    let len = length (elf_of p) in
    let s = spots p in
    ap (option_map section_start) (none_found (is_section_outside len) (rows_of (has_data p) s) (
      refl,
      (
        refl,
        each_maybe (λ r. is_section_outside len r ≡ false) (has_data p) _ _ refl (
          inside len s.symbols s.symbols_size st.symbols.within,
          (
            inside len s.strings s.strings_size st.strings.within,
            (
              inside len s.text_relocs s.text_relocs_size st.text_relocs.within,
              (
                inside len s.data_relocs s.data_relocs_size st.data_relocs.within,
                (inside len s.titles s.titles_size st.titles.within, record {}),
              ),
            ),
          ),
        ),
      ),
    ))

fits_space : (p : Program) → is_too_large (segments p) (rows_of (has_data p) (spots p)) ≡ false
unfolding is_too_large
fits_space p =
    let t = p.text_limit in
    let sum = text_sum (nat_lt 0 (text_size p)) (spots p) in
    rw (no_space_left p, found_text (has_data p) (spots p)) (not_less 16777216 _ (omega arith))

-- ---- the whole

fault_left : (p : Program) → Fits p → fault_of (elf_of p) ≡ first_of (when (not (nat_lt 0 (text_size p))) NoText ∷ None ∷ [])
fault_left p fits =
    let st = stands p in
    let b = has_data p in
    let s = spots p in
    let headers = st.program_headers.within in
    let header_size = headers_size (segments p) in
    let ends = st.section_headers.within in
    let section_size = length-flat section_header 64 length-section_header (sections p) in
    let len = length (elf_of p) in
    by_tests (elf_of p) (header_read (header_of p)) (segments p) (rows_of b s) (head_read p fits) (segments_read p fits) (rows_read p fits)
    (elf_file p) (not_less len 64 (omega arith)) (exec (header_of p)) refl
    (inside len 64 (56 * length (segments p)) (omega arith))
    (inside len (sections_at p) (64 * length (sections p)) (omega arith))
    (segments_inside p) (sections_inside p) (no_bad_segment p) (fits_space p)
    ∙ rw (has_text b s, symbols_place b s) refl

pub no_fault : (p : Program) → Fits p → 0 < length p.text → fault_of (elf_of p) ≡ None
no_fault p fits some = fault_left p fits ∙ ap (λ b. first_of (when (not b) NoText ∷ None ∷ [])) (less 0 (text_size p) (omega arith))

pub no_text : (p : Program) → Fits p → p.text ≡ [] → fault_of (elf_of p) ≡ Some NoText
no_text p fits none =
    let size : length p.text ≡ 0 = ap length none in
    fault_left p fits ∙ ap (λ b. first_of (when (not b) NoText ∷ None ∷ [])) (not_less 0 (text_size p) (omega arith))
