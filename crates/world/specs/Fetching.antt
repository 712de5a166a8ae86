-- What a step fetches, and where a step of layouts alone leads. Source: this project.
use Rattle.std.specs.Prelude.{ℕ, Bool, true, false, not, ◌==◌, Option, Some, None, if◌then◌else◌}
use Rattle.rv_isa.specs.Decoded.{decoded}
use Rattle.rv_isa.specs.declared.instr.Instr.{Instr}
use Rattle.rv_isa.specs.declared.instr.Instr.TheVariants.{Auipc, Jal}
use Rattle.image.specs.Targets.{target, made_by}
use Rattle.link_tags.specs.Values.{plain}
use Rattle.hart.specs.declared.hart.Hart.{Hart}
use Rattle.hart.specs.Harts.{with_reg, after}
use Rattle.layout.specs.declared.point.Point.{Point}
use Rattle.layout.specs.declared.point.Point.TheVariants.{Start, Hop, Mid}
use Rattle.layout.specs.Points.{Code, Here}
use Rattle.sim_laws.specs.Origins.{is_layout_step}
use Rattle.world.specs.declared.code.Fetched.{Fetched}
use Rattle.world.specs.declared.code.Fetched.TheVariants as fetched
use Rattle.world.specs.declared.code.Led.{Led}

-- ---- what is fetched
abbrev pub both : Here → ℕ × Point
both h = (h.word, h.point)

abbrev pub word_as : Option ℕ → Fetched
word_as None = fetched.Nothing
word_as (Some w) = fetched.Word w

-- a step of layouts alone, or else the word at an address
unfoldable pub fetched_at : Code → ℕ → Fetched
fetched_at c a = if is_layout_step c a then fetched.Layout else word_as (c.word a)

-- an AUIPC that writes a register
abbrev pub is_address : Option Instr → Bool
is_address (Some (Auipc rd imm)) = not (rd == 0)
is_address _ = false

-- a word of a layout, by what it stands for
abbrev pub fetched_as : ℕ → Point → Fetched
fetched_as w (Start x) = if is_address (decoded w) then fetched.Layout else fetched.Word w
fetched_as w (Hop x) = fetched.Layout
fetched_as w (Mid x) = fetched.Word w

abbrev pub fetched_of : Option (ℕ × Point) → Fetched
fetched_of None = fetched.Nothing
fetched_of (Some q) = fetched_as q.0 q.1

abbrev pub word_of : Fetched → Option ℕ
word_of fetched.Nothing = None
word_of (fetched.Word w) = Some w
word_of fetched.Layout = None

abbrev pub is_layout_fetch : Fetched → Bool
is_layout_fetch fetched.Layout = true
is_layout_fetch _ = false

-- ---- where a step of layouts alone leads from pc, by what its word reads as
abbrev pub led_by : Option Instr → ℕ → Led
led_by (Some (Auipc rd imm)) pc = record { rd = rd; value = plain (made_by pc imm); pc = after pc }
led_by (Some (Jal rd off)) pc = record { rd = 0; value = plain 0; pc = target pc off }
led_by _ pc = record { rd = 0; value = plain 0; pc = pc }

-- a hart that is led there
abbrev pub led : Led → Hart → Hart
led l h = record h { regs = with_reg h.regs l.rd l.value; pc = l.pc }
