-- Text sections as ranges of addresses.
use Rattle.std.specs.Prelude.{◌≡◌, ℕ, ◌+◌, ◌-◌, Bool, List}
use Rattle.std.specs.List.{list_any}
use Rattle.elf_read.specs.declared.elf.Section.{Section}

-- the last address of a section, and its first
abbrev pub span_of : Section → ℕ × ℕ
span_of s = (s.at + (s.size - 1), s.at)

-- these are the spans of the sections, in any order
abbrev pub AreSpansOf : List Section → List (ℕ × ℕ) → Type 0
AreSpansOf sections spans = (test : ℕ × ℕ → Bool) → list_any test spans ≡ list_any (λ s. test (span_of s)) sections
