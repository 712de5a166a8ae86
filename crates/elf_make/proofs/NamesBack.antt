-- Symbols and their names, read back.
use Rattle.std.proofs.Common.{◌≡◌, ℕ, suc, ◌+◌, ◌*◌, ◌/◌, ◌^◌, ◌<◌, true, false, List, [], ◌∷◌, ◌++◌, length, map, take, refl, sym, ap, ◌∙◌, arith, length-append, append_assoc}
use Rattle.std.specs.Prelude.{◌==◌, nat_lt}
use Rattle.std.specs.List.{flat_map, sum_by, before_first, position_or_len}
use Rattle.std.proofs.lemmas.Bool.{and_parts}
use Rattle.std.proofs.lemmas.Bool.Decides.{nat_tests}
use Rattle.std.proofs.lemmas.Grind.{flat_map-append}
use Rattle.std.proofs.lemmas.List.{append-nil, map-append, map-id}
use Rattle.std.proofs.lemmas.List.Sums.{sum_by-cons}
use Rattle.elf_read.specs.declared.tables.SymbolEntry.{SymbolEntry}
use Rattle.elf_read.specs.Names.{name_at, symbol}
use Rattle.elf_read.specs.Tables as read
use Rattle.rv_asm.specs.Kept.{IsSound, symbol_size, has_no_zero}
use Rattle.rv_asm.specs.declared.program.Program.{Program}
use Rattle.rv_asm.specs.declared.symbol.Named.{Named}
use Rattle.elf_make.specs.Bytes.{ended, string_table}
use Rattle.elf_make.specs.Rows.{symbol_entry}
use Rattle.elf_make.specs.File.{no_symbol, symbols_of, symbol_entries, symbol_table, name_of, names, symbols_at, elf_of}
use Rattle.elf_make.specs.Parts.{null_symbol, symbol_of}
use Rattle.elf_make.specs.Ranges.{IsInRange}
use Rattle.elf_make.proofs.Lengths.{length-flat, length-symbol_entry}
use Rattle.elf_make.proofs.Holding.{Holds, held_first, held_next}
use Rattle.elf_make.proofs.Reading.{FitsSymbol, Each, each_of, read_symbol, read_table}
use Rattle.elf_make.proofs.Standing.{stands}
use Rattle.elf_make.proofs.ReadTables.{Fits}

-- ---- names

not_zero : (b : ℕ) → nat_lt 0 b ≡ true → (b == 0) ≡ false
not_zero b h = grind (arith, nat_tests)

take_one_more : (b : ℕ) (xs : List ℕ) (n : ℕ) → take (1 + n) (b ∷ xs) ≡ b ∷ take n xs
take_one_more b xs n = let e : 1 + n ≡ suc n = omega arith in ap (λ m. take m (b ∷ xs)) e

pub before_zero : (name rest : List ℕ) → has_no_zero name ≡ true → before_first (λ b. b == 0) (name ++ 0 ∷ rest) ≡ name
before_zero [] rest h = refl
before_zero (b ∷ name) rest h =
    let parts = and_parts (nat_lt 0 b) (has_no_zero name) h in
    let one : (b == 0) ≡ false = not_zero b parts.0 in
    rw one (take_one_more b (name ++ 0 ∷ rest) (position_or_len (λ b. b == 0) (name ++ 0 ∷ rest)) ∙ ap (λ xs. b ∷ xs) (before_zero name rest parts.1))

name_read : (texts : List ℕ) (at : ℕ) (name : List ℕ) → has_no_zero name ≡ true → Holds texts at (ended name) → name_at texts at ≡ name
unfolding name_at
name_read texts at name h held = ap (before_first (λ b. b == 0)) (held.is ∙ append_assoc name (0 ∷ []) held.rest) ∙ before_zero name held.rest h

symbols_read : (texts : List ℕ) (info section name : ℕ) (xs : List Named) → Each IsSound xs → Holds texts name (flat_map ended (map name_of xs)) → map (symbol texts) (symbols_of info section name xs) ≡ map (symbol_of info section) xs
unfolding symbol
symbols_read texts info section name [] sound held = refl
symbols_read texts info section name (x ∷ xs) sound held =
    let one : name_at texts name ≡ x.name = name_read texts name x.name sound.0.1 (held_first texts name (ended x.name) (flat_map ended (map name_of xs)) held) in
    let place : name + symbol_size x ≡ name + length (ended x.name) = let e = length-append x.name (0 ∷ []) in omega arith in
    let rest = symbols_read texts info section (name + symbol_size x) xs sound.1 (held_next texts name (ended x.name) (flat_map ended (map name_of xs)) (name + symbol_size x) place held) in
    rw (one, rest) refl

length-names : (xs : List Named) → length (flat_map ended (map name_of xs)) ≡ sum_by symbol_size xs
length-names [] = refl
length-names (x ∷ xs) =
    let rest = length-names xs in
    let sum = sum_by-cons symbol_size x xs in
    omega (arith, length-append (ended x.name) (flat_map ended (map name_of xs)), length-append x.name (0 ∷ []))

names_held : (p : Program) → Holds (names p) 1 (flat_map ended (map name_of p.funcs) ++ flat_map ended (map name_of p.objects))
unfolding names string_table
names_held p =
    let joined = flat_map-append ended (map name_of p.funcs) (map name_of p.objects) in
    record {
      rest = [];
      is = joined ∙ sym (append-nil _);
      within = (let e = ap length joined in omega arith);
    }

no_name : (p : Program) → name_at (names p) 0 ≡ []
unfolding names string_table name_at
no_name p = refl

null_read : (texts : List ℕ) → name_at texts 0 ≡ [] → symbol texts no_symbol ≡ null_symbol
unfolding symbol
null_read texts e = rw e refl

pub names_back : (p : Program) → Fits p → map (symbol (names p)) (symbol_entries p) ≡ null_symbol ∷ (map (symbol_of 2 1) p.funcs ++ map (symbol_of 1 2) p.objects)
unfolding symbol_entries
names_back p fits =
    let texts = names p in
    let first = flat_map ended (map name_of p.funcs) in
    let second = flat_map ended (map name_of p.objects) in
    let held = names_held p in
    let next = 1 + sum_by symbol_size p.funcs in
    let place : next ≡ 1 + length first = let e = length-names p.funcs in omega arith in
    let funcs = symbols_read texts 2 1 1 p.funcs (each_of IsSound p.funcs p.sound_funcs) (held_first texts 1 first second held) in
    let objects = symbols_read texts 1 2 next p.objects (each_of IsSound p.objects p.sound_objects) (held_next texts 1 first second next place held) in
    let null = null_read texts (no_name p) in
    let joined = map-append (symbol texts) (symbols_of 2 1 1 p.funcs) (symbols_of 1 2 next p.objects) in
    rw (null, joined, funcs, objects) refl

-- ---- the table

fits_symbols : (info section name : ℕ) (xs : List Named) → info < 256 → section < 65536 → name + sum_by symbol_size xs < 2 ^ 32 → Each IsInRange xs → Each FitsSymbol (symbols_of info section name xs)
fits_symbols info section name [] i s room range = record {}
fits_symbols info section name (x ∷ xs) i s room range =
    let sum = sum_by-cons symbol_size x xs in
    let from = range.0.0 in
    let to = range.0.1 in
    (record { name = omega arith; info = omega arith; section = omega arith; value = omega arith; size = omega arith }, fits_symbols info section (name + symbol_size x) xs i s (omega arith) range.1)

pub each_append : {X : Type 0} (P : X → Type 0) (xs ys : List X) → Each P xs → Each P ys → Each P (xs ++ ys)
each_append P [] ys a b = b
each_append P (x ∷ xs) ys a b = (a.0, each_append P xs ys a.1 b)

fits_entries : (p : Program) → Fits p → Each FitsSymbol (symbol_entries p)
unfolding symbol_entries
fits_entries p fits =
    let short = p.short_names in
    let next = 1 + sum_by symbol_size p.funcs in (
      record { name = omega arith; info = omega arith; section = omega arith; value = omega arith; size = omega arith },
      each_append FitsSymbol (symbols_of 2 1 1 p.funcs) (symbols_of 1 2 next p.objects)
          (fits_symbols 2 1 1 p.funcs (omega arith) (omega arith) (omega arith) (each_of IsInRange p.funcs fits.ranges.funcs))
          (fits_symbols 1 2 next p.objects (omega arith) (omega arith) (omega arith) (each_of IsInRange p.objects fits.ranges.objects)),
    )

pub times_24 : (k n : ℕ) → n ≡ 24 * k → n / 24 ≡ k
times_24 k n h = omega arith

pub symbols_back : (p : Program) → Fits p → read.table 24 read.symbol_entry (elf_of p) (symbols_at p) (length (symbol_table p) / 24) ≡ symbol_entries p
unfolding symbol_table
symbols_back p fits =
    let count = times_24 (length (symbol_entries p)) (length (flat_map symbol_entry (symbol_entries p))) (length-flat symbol_entry 24 length-symbol_entry (symbol_entries p)) in
    ap (read.table 24 read.symbol_entry (elf_of p) (symbols_at p)) count
    ∙ read_table 24 read.symbol_entry symbol_entry (λ (e : SymbolEntry). e) FitsSymbol (elf_of p) (read_symbol (elf_of p)) length-symbol_entry (symbols_at p) (symbol_entries p) (fits_entries p fits) (stands p).symbols
    ∙ map-id (symbol_entries p)
