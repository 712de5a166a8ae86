-- The limits of a run. Source: this project.
use Rattle.std.specs.Prelude.{ℕ}

-- where the addresses end at which mappings are made, and the stack begins
abbrev pub map_end : ℕ
map_end = 0x0f80_0000

-- the most bytes of an output
abbrev pub output_limit : ℕ
output_limit = 16_777_216

-- the most harts that a run makes
abbrev pub hart_limit : ℕ
hart_limit = 64
