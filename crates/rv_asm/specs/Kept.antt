-- What a program keeps.
use Rattle.std.specs.Prelude.{◌≡◌, ℕ, ◌+◌, ◌≤◌, nat_lt, Bool, true, List, length, Option, IfSome}
use Rattle.std.specs.List.{list_all}
use Rattle.rv_asm.specs.declared.symbol.Named.{Named}
use Rattle.rv_asm.specs.declared.state.Open.{Open}

abbrev pub has_no_zero : List ℕ → Bool
has_no_zero name = list_all (λ b. nat_lt 0 b) name

-- its range doesn't end before it begins, and its name has no zero byte
abbrev pub IsSound : Named → Type 0
IsSound n = (n.from ≤ n.to) × (has_no_zero n.name ≡ true)

-- the bytes of its name in a table of strings, where a zero byte ends each
abbrev pub symbol_size : Named → ℕ
symbol_size n = length n.name + 1

-- what is open begins at or before this place
abbrev pub IsBefore : Option Open → ℕ → Type 0
IsBefore o here = IfSome o (λ x. x.from ≤ here)
