-- What an address of moved code is in the original program. Source: this project.
use Rattle.std.specs.Prelude.{ℕ, Bool, true, false, not, ◌==◌, ◌&&◌, Option, Some, None}
use Rattle.rv_isa.specs.declared.instr.Instr.{Instr}
use Rattle.rv_isa.specs.declared.instr.Instr.TheVariants.{Auipc}
use Rattle.layout.specs.declared.point.Point.{Point}
use Rattle.layout.specs.declared.point.Point.TheVariants.{Start, Hop, Mid}
use Rattle.layout.specs.Points.{Code, read}

-- the original address that a point stands for; an address without a point is its own
abbrev pub origin_of : ℕ → Option Point → ℕ
origin_of a None = a
origin_of a (Some (Start x)) = x
origin_of a (Some (Hop x)) = x
origin_of a (Some (Mid x)) = x

unfoldable pub origin : Code → ℕ → ℕ
origin c a = origin_of a (c.point a)

-- the original word at x is an AUIPC that writes a register, and doesn't stand at its own place
abbrev pub is_moved_address : (a x : ℕ) → Option Instr → Bool
is_moved_address a x (Some (Auipc rd imm)) = not (rd == 0) && not (a == x)
is_moved_address a x _ = false

abbrev pub is_layout_point : Code → ℕ → Option Point → Bool
is_layout_point c a None = false
is_layout_point c a (Some (Start x)) = is_moved_address a x (read c.text x)
is_layout_point c a (Some (Hop x)) = true
is_layout_point c a (Some (Mid x)) = false

-- a step at a is a step of the layout alone: at a Hop, or at the first word of an AUIPC that was moved
unfoldable pub is_layout_step : Code → ℕ → Bool
is_layout_step c a = is_layout_point c a (c.point a)
