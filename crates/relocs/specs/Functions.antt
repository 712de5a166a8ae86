-- Functions: the set of ranges that symbols name.
use Rattle.std.specs.Prelude.{ℕ, ◌+◌, ◌%◌, Bool, not, ◌==◌, ◌&&◌, nat_lt, nat_le, max, List, map, filter, Option, Some, None}
use Rattle.std.specs.List.{list_any, reduce}
use Rattle.elf_read.specs.declared.elf.Symbol.{Symbol}
use Rattle.image.specs.declared.ranges.TextRange.{TextRange}
use Rattle.image.specs.declared.ranges.Func.{Func}
use Rattle.image.specs.Texts.{text_end}

-- the text range holds all bytes of a range
abbrev pub holds : ℕ → ℕ → TextRange → Bool
holds from to t = nat_le t.from from && nat_le to (text_end t)

abbrev pub symbol_end : Symbol → ℕ
symbol_end s = s.value + s.size

-- a symbol of type 2 in a section, of whole words
abbrev pub is_code : Symbol → Bool
is_code s = s.info % 16 == 2 && (not (s.section == 0) && (s.value % 4 == 0 && (s.size % 4 == 0 && nat_lt 0 s.size)))

-- a symbol that names a function: it lies wholly in one text range
unfoldable pub is_function : List TextRange → Symbol → Bool
is_function texts s = is_code s && list_any (holds s.value (symbol_end s)) texts

-- the end of the function that starts at an address: the greatest end of the symbols that name one there
unfoldable pub end_at : List TextRange → List Symbol → ℕ → Option ℕ
end_at texts symbols from = reduce max (map symbol_end (filter (λ s. is_function texts s && s.value == from) symbols))

abbrev pub func_entry : Func → ℕ × ℕ
func_entry f = (f.from, f.to)

-- the greater of two ends
abbrev pub greater : Option ℕ → ℕ → Option ℕ
greater None end = Some end
greater (Some known) end = Some (max known end)
